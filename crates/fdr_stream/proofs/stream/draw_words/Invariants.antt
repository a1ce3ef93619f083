use Rattle.std.proofs.Common.{◌≤◌, ◌+◌, ◌-◌, ◌<◌, ℕ}
use Rattle.fdr_sampler.specs.SlotTimes.{time_of_slot}
use Rattle.fdr_stream.specs.Kept.{with_empty_slots, HasEmptySlots}
use Rattle.fdr_stream.specs.Past.{StreamPast, IsDrawing}
use Rattle.fdr_stream.proofs.stream.draw_words.Given as goal

abbrev pub invariant-loop-time : goal.invariant-loop-time
invariant-loop-time l = record {
  draws : (past : StreamPast) (n : ℕ) → n ≤ l.empty_slots → IsDrawing (with_empty_slots l.initial.drawing n) past l.time
      → IsDrawing (with_empty_slots l.drawing l.empty) past l.time;
  empty : HasEmptySlots l.drawing l.empty;
  due : time_of_slot (l.drawing.sampler.slots_drawn + l.empty) < l.time;
  on : l.initial.drawing.sampler.slots_drawn + l.empty_slots ≤ l.drawing.sampler.slots_drawn + l.empty;
}

abbrev pub decreases-loop-time : goal.decreases-loop-time
decreases-loop-time l = l.time - time_of_slot l.drawing.sampler.slots_drawn
