use Rattle.std.proofs.Common.{◌≡◌, ◌+◌, ◌<◌, ℕ, length, map}
use Rattle.std.specs.List.{All, flat_map, range_with_len}
use Rattle.fdr_layout.specs.SlotParts.{SlotPart}
use Rattle.fdr_layout.proofs.Flats.{ends}
use Rattle.fdr_sampler.specs.Kept.{slot_parts}
use Rattle.fdr_sampler.specs.Schedule.{slot_steps}
use Rattle.fdr_sampler.proofs.schedule.Schedule.of.Given as goal

abbrev pub invariant-loop-slot : goal.invariant-loop-slot
invariant-loop-slot l = record {
  steps : l.steps.items ≡ flat_map (slot_steps l.fn.layout) (range_with_len 0 l.slot);
  starts : l.starts.items ≡ map (ends (slot_steps l.fn.layout)) (range_with_len 0 (l.slot + 1));
  numbers : (k : ℕ) → k < l.slot → All (λ (a : SlotPart). a.sample < length l.fn.layout.samples) (slot_parts l.fn.layout k);
}
