use Rattle.std.proofs.Common.{◌≡◌, length, map, take}
use Rattle.fdr_layout.specs.SlotParts.{plain_parts}
use Rattle.fdr_recon.specs.Plans.{field_plan, FitsWord}
use Rattle.std.specs.List.{All}
use Rattle.fdr_recon.proofs.plans.plan_of.Given as goal

abbrev pub invariant-loop-part : goal.invariant-loop-part
invariant-loop-part l = record {
  long : length l.fields ≡ 4;
  count : l.count ≡ l.part-index;
  fields : take l.count l.fields ≡ map (field_plan l.words l.cycle) (plain_parts (take l.part-index l.part-items));
  fit : All FitsWord (take l.count l.fields);
}
