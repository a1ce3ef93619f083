use Rattle.std.proofs.Common.{ℕ, ◌<◌, take}
use Rattle.fdr_sampler.specs.Kept.{raw_number_at, slot_parts, HaveValues, IsDrawnWord}
use Rattle.fdr_sampler.proofs.pieces.data_word.Given as goal

abbrev pub invariant-loop-step : goal.invariant-loop-step
invariant-loop-step l = record {
  small : l.word < 4096;
  word : (value : ℕ → ℕ) → HaveValues value l.schedule l.slot (raw_number_at l.moment.words l.moment.slot l.held.sources l.held.words) l.initial.raws →
      IsDrawnWord value (take l.step-index (slot_parts l.schedule l.slot)) l.initial.raws l.raws l.word;
}
