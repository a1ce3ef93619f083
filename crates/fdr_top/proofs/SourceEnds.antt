-- The answers of a recording, and what they aren't.
use Rattle.std.proofs.Common.{◌≡◌, ◌⊎◌, inl, inr, ℕ, List, refl}
use Rattle.fdr_io.specs.declared.Input.TheVariants as input
use Rattle.fdr_trace.specs.declared.TraceStop.TheVariants as stop
use Rattle.fdr_recorder.specs.declared.error.SessionFault.{SessionFault}
use Rattle.fdr_recorder.specs.declared.error.SessionFault.TheVariants as session
use Rattle.fdr_recorder.specs.declared.source.SourceEnd.{SourceEnd}
use Rattle.fdr_recorder.specs.declared.source.SourceEnd.TheVariants as source
use Rattle.fdr_words.specs.Forms.{record_line}
use Rattle.fdr_top.specs.Answers.{IsOwn}
use Rattle.fdr_top.specs.Ends.{session_refusal, source_answer}
use Rattle.fdr_top.specs.Stages.{WritesNothing}
use Rattle.fdr_top.specs.declared.outcome.Outcome.TheVariants as outcome

-- ---- all that a source gave is recorded

pub source_not_memory : (end : SourceEnd) → source_answer end ≡ outcome.NoMemory → ⊥
source_not_memory source.Ended e = cc
source_not_memory (source.Stopped (stop.Refused index why)) e = cc
source_not_memory (source.Stopped stop.Failed) e = cc

pub source_not_disk : (end : SourceEnd) → source_answer end ≡ outcome.DiskFault → ⊥
source_not_disk source.Ended e = cc
source_not_disk (source.Stopped (stop.Refused index why)) e = cc
source_not_disk (source.Stopped stop.Failed) e = cc

pub source_failed : (end : SourceEnd) → source_answer end ≡ outcome.ReadFault input.Line → end ≡ source.Stopped stop.Failed
source_failed source.Ended e = absurd (cc)
source_failed (source.Stopped (stop.Refused index why)) e = absurd (cc)
source_failed (source.Stopped stop.Failed) e = refl

pub source_begun : (end : SourceEnd) → WritesNothing (source_answer end) → ⊥
source_begun source.Ended none = none
source_begun (source.Stopped (stop.Refused index why)) none = none
source_begun (source.Stopped stop.Failed) none = none

pub source_own : (path image : List ℕ) (end : SourceEnd) → IsOwn (record_line path image) (source_answer end)
source_own path image source.Ended = tt
source_own path image (source.Stopped (stop.Refused index why)) = tt
source_own path image (source.Stopped stop.Failed) = tt

-- ---- a session is refused or cut short

pub refusal_not_input : (f : SessionFault) → session_refusal f ≡ outcome.ReadFault input.Line → ⊥
refusal_not_input (session.Image why) e = cc
refusal_not_input (session.WordsDiffer image table) e = cc
refusal_not_input session.OldVersion e = cc
refusal_not_input session.DiskFault e = cc
refusal_not_input session.SeqEnd e = cc
refusal_not_input session.NoMemory e = cc

pub refusal_own_record : (path image : List ℕ) (f : SessionFault)
    → (session_refusal f ≡ outcome.NoMemory) ⊎ IsOwn (record_line path image) (session_refusal f)
refusal_own_record path image (session.Image why) = inr tt
refusal_own_record path image (session.WordsDiffer i table) = inr tt
refusal_own_record path image session.OldVersion = inr tt
refusal_own_record path image session.DiskFault = inr tt
refusal_own_record path image session.SeqEnd = inr tt
refusal_own_record path image session.NoMemory = inl refl
