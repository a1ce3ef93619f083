use Rattle.std.proofs.Common.{◌≡◌, map}
use Rattle.std.specs.List.{range_with_len}
use Rattle.fdr_listing.specs.Numbers.{ready_fractions}
use Rattle.fdr_listing.proofs.numbers.all_fractions.Given as goal

abbrev pub invariant-loop-digits : goal.invariant-loop-digits
invariant-loop-digits l = l.all.items ≡ map ready_fractions (range_with_len 0 l.digits)
