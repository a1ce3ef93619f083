use Rattle.std.proofs.Common.{◌≡◌, ◌≤◌, map}
use Rattle.std.specs.List.{range_with_len}
use Rattle.fdr_listing.specs.Numbers.{fraction_end}
use Rattle.fdr_listing.proofs.numbers.fraction_ends.Given as goal

abbrev pub invariant-loop-n : goal.invariant-loop-n
invariant-loop-n l = record {
  so_far : l.ends.items ≡ map (fraction_end l.digits) (range_with_len 0 l.n);
  within : l.n ≤ l.unit;
}
