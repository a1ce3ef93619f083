use Rattle.std.proofs.Common.{◌≡◌, ◌-◌, ◌≤◌}
use Rattle.fdr_sampler.specs.Past.{SamplerPast, RepresentsSampler}
use Rattle.fdr_cases_streams.proofs.words.drawn_words.Given as goal

abbrev pub invariant-loop-slot : goal.invariant-loop-slot
invariant-loop-slot g l = ((past : SamplerPast) × RepresentsSampler l.sampler past × (past.slots_drawn ≡ l.slot)) × (l.slot ≤ l.count)

abbrev pub decreases-loop-slot : goal.decreases-loop-slot
decreases-loop-slot g l = l.count - l.slot
