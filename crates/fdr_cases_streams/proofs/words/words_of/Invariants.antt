use Rattle.std.proofs.Common.{◌≡◌, ℕ, ◌-◌, ◌*◌, ◌<◌, [], vec_len}
use Rattle.fdr_table.specs.Rows.{TableRows}
use Rattle.fdr_sampler.specs.Past.{SamplerPast, RepresentsSampler}
use Rattle.fdr_cases_streams.proofs.words.words_of.Given as goal

abbrev pub invariant-loop-words : goal.invariant-loop-words
invariant-loop-words g l =
    (t : TableRows) × RepresentsSampler l.sampler (record { table = t; records = []; slots_drawn = vec_len l.words })
    × ((k : ℕ) → k < vec_len l.words → k * 1000000 < l.r.time * t.frame.words)

abbrev pub decreases-loop-words : goal.decreases-loop-words
decreases-loop-words g l = l.count - vec_len l.words

abbrev pub invariant-loop-rt : goal.invariant-loop-rt
invariant-loop-rt g l = (past : SamplerPast) × RepresentsSampler l.sampler past × (past.slots_drawn ≡ vec_len l.words)

abbrev pub decreases-loop-rt : goal.decreases-loop-rt
decreases-loop-rt g l = l.count - vec_len l.words
