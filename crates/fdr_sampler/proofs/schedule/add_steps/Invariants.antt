use Rattle.std.proofs.Common.{◌≡◌, ◌++◌, map, take}
use Rattle.fdr_sampler.specs.Kept.{slot_parts}
use Rattle.fdr_sampler.specs.Schedule.{step_of}
use Rattle.fdr_sampler.proofs.schedule.add_steps.Given as goal

abbrev pub invariant-loop-part : goal.invariant-loop-part
invariant-loop-part l =
    l.steps.items ≡ l.initial.steps.items ++ map (step_of l.owners l.firsts l.slot) (take l.part-index (slot_parts l.layout l.slot))
