use Rattle.std.proofs.Common.{◌≡◌, map, decimal}
use Rattle.std.specs.List.{range_with_len}
use Rattle.fdr_listing.proofs.numbers.whole_texts.Given as goal

abbrev pub invariant-loop-n : goal.invariant-loop-n
invariant-loop-n l = l.texts.items ≡ map decimal (range_with_len 0 l.n)
