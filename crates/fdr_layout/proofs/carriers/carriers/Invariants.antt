use Rattle.std.proofs.Common.{◌≡◌, ◌≤◌, ◌-◌, ◌*◌, map}
use Rattle.std.specs.List.{range_with_len}
use Rattle.fdr_check.specs.Occurrences.{shift_of}
use Rattle.fdr_layout.specs.Samples.{carrier_of}
use Rattle.fdr_layout.proofs.carriers.carriers.Given as goal

abbrev pub invariant-loop-part : goal.invariant-loop-part
invariant-loop-part l = record {
  so_far : l.carriers.items ≡ map (carrier_of l.words l.places l.param) (range_with_len 1 (l.part - 1));
  shift : l.shift ≡ shift_of l.places l.param l.part;
  few : l.shift ≤ 12 * (l.part - 1);
}
