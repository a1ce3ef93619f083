use Rattle.std.proofs.Common.{◌≡◌, ◌<◌, ◌≤◌, ◌^◌, ◌-◌, drop}
use Rattle.fdr_table.specs.Fields.{subframes_of}
use Rattle.fdr_table.proofs.FieldFacts.{left_subframes}
use Rattle.fdr_table.proofs.field.subframes.Given as goal

abbrev pub invariant-loop-digit : goal.invariant-loop-digit
invariant-loop-digit l = record {
  left : subframes_of l.field ≡ left_subframes l.last l.set (drop l.digit-index l.field);
  count : l.digit-index ≤ l.set;
  low : 48 ≤ l.last;
  high : l.last ≤ 52;
  bits : l.set < 2 ^ (l.last - 48);
}
