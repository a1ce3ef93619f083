-- What the end of a recording says of its answer.
use Rattle.std.proofs.Common.{◌≡◌, ◌≢◌, ◌⊎◌, ⊎_elim, inl, inr, ℕ, List, Ok, Err, ap, sym, refl, subst}
use Rattle.fdr_bus.specs.declared.BusRecord.{BusRecord}
use Rattle.fdr_bus.specs.declared.TraceFault.{TraceFault}
use Rattle.fdr_bus.specs.declared.TraceFault.TheVariants as trace
use Rattle.fdr_bus.specs.Records.{IsDecided}
use Rattle.fdr_deck.specs.State.{State, Tells}
use Rattle.fdr_deck.specs.Pull.{KeepsInput}
use Rattle.fdr_slot.specs.declared.image.ImageFault.{ImageFault}
use Rattle.fdr_table.specs.Rows.{TableRows}
use Rattle.fdr_trace.specs.declared.TraceStop.TheVariants as stop
use Rattle.fdr_words.specs.Forms.{drill_image}
use Rattle.fdr_recorder.specs.Ends.{HasRecordedSource, IsRefusedAtStart, RecordingEnd}
use Rattle.fdr_recorder.specs.NewBlocks.{RecordsBlocks}
use Rattle.fdr_recorder.specs.Refusing.{RefusesOldVersion, RefusesSession}
use Rattle.fdr_recorder.specs.Supply.{EndsLine}
use Rattle.fdr_recorder.proofs.Recordings.{RecordsBlocks-weaken}
use Rattle.fdr_recorder.specs.declared.error.SessionFault.{SessionFault}
use Rattle.fdr_recorder.specs.declared.error.SessionFault.TheVariants as session
use Rattle.fdr_recorder.specs.declared.source.SourceEnd.{SourceEnd}
use Rattle.fdr_recorder.specs.declared.source.SourceEnd.TheVariants as source
use Rattle.fdr_top.specs.Answers.{IsOwn, KeepsInputAndFaults}
use Rattle.fdr_top.specs.Ends.{recording_answer, session_refusal, source_answer}
use Rattle.fdr_top.specs.Record.{RecordsStream}
use Rattle.fdr_top.specs.Refusals.{RefusesImage, RefusesOldImage}
use Rattle.fdr_top.specs.Stages.{EndsReading, EndsRecording, IsPastTable, WritesNothing}
use Rattle.fdr_top.specs.Traces.{EndsTrace}
use Rattle.fdr_top.specs.declared.outcome.Outcome.{Outcome}
use Rattle.fdr_top.specs.declared.outcome.Outcome.TheVariants as outcome

-- ---- the input is left alone

pub keeps_line : (a b : State) → KeepsInput a b × (b.input_faults ≡ a.input_faults) → KeepsInputAndFaults a b
keeps_line a b kept = record { input = kept.0.input; taken = kept.0.taken; pulled_before = kept.0.pulled_before; faults = kept.1 }

-- ---- the answer where a session is refused or cut short

pub is_disk_fault : (f : SessionFault) → session_refusal f ≡ outcome.DiskFault → f ≡ session.DiskFault
is_disk_fault (session.Image why) e = absurd (cc)
is_disk_fault (session.WordsDiffer image table) e = absurd (cc)
is_disk_fault session.OldVersion e = absurd (cc)
is_disk_fault session.DiskFault e = refl
is_disk_fault session.SeqEnd e = absurd (cc)
is_disk_fault session.NoMemory e = absurd (cc)

pub is_no_memory : (f : SessionFault) → session_refusal f ≡ outcome.NoMemory → f ≡ session.NoMemory
is_no_memory (session.Image why) e = absurd (cc)
is_no_memory (session.WordsDiffer image table) e = absurd (cc)
is_no_memory session.OldVersion e = absurd (cc)
is_no_memory session.DiskFault e = absurd (cc)
is_no_memory session.SeqEnd e = absurd (cc)
is_no_memory session.NoMemory e = refl

refusal_seq_end : (f : SessionFault) → session_refusal f ≡ outcome.SeqEnd → f ≡ session.SeqEnd
refusal_seq_end (session.Image why) e = absurd (cc)
refusal_seq_end (session.WordsDiffer image table) e = absurd (cc)
refusal_seq_end session.OldVersion e = absurd (cc)
refusal_seq_end session.DiskFault e = absurd (cc)
refusal_seq_end session.SeqEnd e = refl
refusal_seq_end session.NoMemory e = absurd (cc)

pub refused_at_start : (f : SessionFault) → WritesNothing (session_refusal f) → IsRefusedAtStart f
refused_at_start (session.Image why) nothing = tt
refused_at_start (session.WordsDiffer image table) nothing = tt
refused_at_start session.OldVersion nothing = tt
refused_at_start session.DiskFault nothing = nothing
refused_at_start session.SeqEnd nothing = nothing
refused_at_start session.NoMemory nothing = tt

pub refusal_not_write : (f : SessionFault) → session_refusal f ≡ outcome.WriteFault → ⊥
refusal_not_write (session.Image why) e = cc
refusal_not_write (session.WordsDiffer image table) e = cc
refusal_not_write session.OldVersion e = cc
refusal_not_write session.DiskFault e = cc
refusal_not_write session.SeqEnd e = cc
refusal_not_write session.NoMemory e = cc

pub refusal_own_drill : (path image : List ℕ) (seed frames : ℕ) (f : SessionFault)
    → (session_refusal f ≡ outcome.NoMemory) ⊎ IsOwn (drill_image path image seed frames) (session_refusal f)
refusal_own_drill path image seed frames (session.Image why) = inr tt
refusal_own_drill path image seed frames (session.WordsDiffer i table) = inr tt
refusal_own_drill path image seed frames session.OldVersion = inr tt
refusal_own_drill path image seed frames session.DiskFault = inr tt
refusal_own_drill path image seed frames session.SeqEnd = inr tt
refusal_own_drill path image seed frames session.NoMemory = inl refl

pub refusal_records_none : (f : SessionFault) → EndsRecording (session_refusal f) → ⊥
refusal_records_none (session.Image w) all = all
refusal_records_none (session.WordsDiffer i w) all = all
refusal_records_none session.OldVersion all = all
refusal_records_none session.DiskFault all = all
refusal_records_none session.SeqEnd all = all
refusal_records_none session.NoMemory all = all

refusal_not_all : (f : SessionFault) → EndsReading (session_refusal f) → ⊥
refusal_not_all (session.Image w) all = all
refusal_not_all (session.WordsDiffer i w) all = all
refusal_not_all session.OldVersion all = all
refusal_not_all session.DiskFault all = all
refusal_not_all session.SeqEnd all = all
refusal_not_all session.NoMemory all = all

refusal_not_trace : (f : SessionFault) (index : ℕ) (why : TraceFault) → session_refusal f ≡ outcome.TraceRefused index why → ⊥
refusal_not_trace (session.Image w) index why e = cc
refusal_not_trace (session.WordsDiffer i w) index why e = cc
refusal_not_trace session.OldVersion index why e = cc
refusal_not_trace session.DiskFault index why e = cc
refusal_not_trace session.SeqEnd index why e = cc
refusal_not_trace session.NoMemory index why e = cc

-- ---- what was recorded, by the answer

all_recorded : (end : RecordingEnd) → EndsRecording (recording_answer end) → HasRecordedSource end
all_recorded (Ok end) all = tt
all_recorded (Err f) all = refusal_records_none f all

source_not_end : (end : SourceEnd) → source_answer end ≡ outcome.SeqEnd → ⊥
source_not_end source.Ended e = cc
source_not_end (source.Stopped (stop.Refused index why)) e = cc
source_not_end (source.Stopped stop.Failed) e = cc

used_up : (end : RecordingEnd) → recording_answer end ≡ outcome.SeqEnd → end ≡ Err session.SeqEnd
used_up (Ok end) e = absurd (source_not_end end e)
used_up (Err f) e = ap Err (refusal_seq_end f e)

pub stream_by_answer : (t : TableRows) (tells : Tells) (records : List BusRecord) (old new : State) (end : RecordingEnd)
    → RecordsBlocks t tells records old new (HasRecordedSource end) (end ≡ Err session.SeqEnd)
    → RecordsStream t tells records old new (recording_answer end)
stream_by_answer t tells records old new end is =
    RecordsBlocks-weaken t tells records old new _ _ _ _ (all_recorded end) (used_up end) is

-- ---- which refusal is answered

same_image : (a b : ImageFault) → outcome.ImageRefused a ≡ outcome.ImageRefused b → ◌≡◌ {A = RecordingEnd} (Err (session.Image a)) (Err (session.Image b))
same_image a b e = cc

same_words : (i w j v : ℕ) → outcome.WordsDiffer i w ≡ outcome.WordsDiffer j v
    → ◌≡◌ {A = RecordingEnd} (Err (session.WordsDiffer i w)) (Err (session.WordsDiffer j v))
same_words i w j v e = cc

answer_image : (end : RecordingEnd) (why : ImageFault) → recording_answer end ≡ outcome.ImageRefused why → end ≡ Err (session.Image why)
answer_image (Ok source.Ended) why e = absurd (cc)
answer_image (Ok (source.Stopped (stop.Refused index w))) why e = absurd (cc)
answer_image (Ok (source.Stopped stop.Failed)) why e = absurd (cc)
answer_image (Err (session.Image w)) why e = same_image w why e
answer_image (Err (session.WordsDiffer i w)) why e = absurd (cc)
answer_image (Err session.OldVersion) why e = absurd (cc)
answer_image (Err session.DiskFault) why e = absurd (cc)
answer_image (Err session.SeqEnd) why e = absurd (cc)
answer_image (Err session.NoMemory) why e = absurd (cc)

answer_words : (end : RecordingEnd) (image table : ℕ) → recording_answer end ≡ outcome.WordsDiffer image table → end ≡ Err (session.WordsDiffer image table)
answer_words (Ok source.Ended) image table e = absurd (cc)
answer_words (Ok (source.Stopped (stop.Refused index w))) image table e = absurd (cc)
answer_words (Ok (source.Stopped stop.Failed)) image table e = absurd (cc)
answer_words (Err (session.Image w)) image table e = absurd (cc)
answer_words (Err (session.WordsDiffer i w)) image table e = same_words i w image table e
answer_words (Err session.OldVersion) image table e = absurd (cc)
answer_words (Err session.DiskFault) image table e = absurd (cc)
answer_words (Err session.SeqEnd) image table e = absurd (cc)
answer_words (Err session.NoMemory) image table e = absurd (cc)

pub image_by_answer : (t : TableRows) (tells : Tells) (old new : State) (end : RecordingEnd) → RefusesSession t tells old new end
    → RefusesImage t tells old new (recording_answer end)
image_by_answer t tells old new end is =
    let begun : IsPastTable (recording_answer end) → end ≢ Err session.NoMemory = λ past e. rw e at past in
    record {
      header = record {
        refused = λ why e. is.refused why (answer_image end why e);
        small = λ why e. is.small why (answer_image end why e);
        small_always = λ past short. ⊎_elim (λ e. inl (ap recording_answer e)) (λ e. inr (ap recording_answer e)) (is.small_always (begun past) short);
        refused_always = λ why past bytes first. ⊎_elim (λ e. inl (ap recording_answer e)) (λ e. inr (ap recording_answer e))
            (is.refused_always why (begun past) bytes first);
      };
      words = λ image table e. is.words image table (answer_words end image table e);
      words_always = λ image past bytes other differ. ⊎_elim (λ e. inl (ap recording_answer e)) (λ e. inr (ap recording_answer e))
          (is.words_always image (begun past) bytes other differ);
    }

answer_old : (end : RecordingEnd) → recording_answer end ≡ outcome.OldVersion → end ≡ Err session.OldVersion
answer_old (Ok source.Ended) e = absurd (cc)
answer_old (Ok (source.Stopped (stop.Refused index w))) e = absurd (cc)
answer_old (Ok (source.Stopped stop.Failed)) e = absurd (cc)
answer_old (Err (session.Image w)) e = absurd (cc)
answer_old (Err (session.WordsDiffer i w)) e = absurd (cc)
answer_old (Err session.OldVersion) e = refl
answer_old (Err session.DiskFault) e = absurd (cc)
answer_old (Err session.SeqEnd) e = absurd (cc)
answer_old (Err session.NoMemory) e = absurd (cc)

pub old_by_answer : (t : TableRows) (tells : Tells) (old : State) (end : RecordingEnd) → RefusesOldVersion t tells old end
    → RefusesOldImage t tells old (recording_answer end)
old_by_answer t tells old end is = record {
  version = λ e told. is.refused (answer_old end e) told;
  version_always = λ past told for first. ⊎_elim (λ e. inl (ap recording_answer e)) (λ e. inr (ap recording_answer e))
      (is.refused_always (λ e. rw e at past) told for first);
}

-- ---- how the trace ended

-- the answer isn't of the trace
pub fault_ends : (tells : Tells) (d0 d' : State) (bytes : List ℕ) (answer : Outcome) → (EndsReading answer → ⊥)
    → ((index : ℕ) (why : TraceFault) → answer ≡ outcome.TraceRefused index why → ⊥)
    → (IsDecided bytes → d'.input_faults ≡ d0.input_faults) → EndsTrace tells d0 d' bytes answer
fault_ends tells d0 d' bytes answer not refused decided = record {
  ended = λ e. absurd (not (subst EndsReading (sym e) tt));
  refused = λ i w e. absurd (refused i w e);
  truncated = λ i e. absurd (refused i trace.Truncated e);
  undecided = λ e. absurd (not (subst EndsReading (sym e) tt));
  no_fault = λ all. absurd (not all);
  decided = decided;
}

same_stop : (i j : ℕ) (w v : TraceFault) → outcome.TraceRefused i w ≡ outcome.TraceRefused j v
    → ◌≡◌ {A = RecordingEnd} (Ok (source.Stopped (stop.Refused i w))) (Ok (source.Stopped (stop.Refused j v)))
same_stop i j w v e = cc

pub trace_by_answer : (tells : Tells) (old new : State) (pulled : List ℕ) (end : RecordingEnd) → EndsLine tells old new pulled end
    → EndsTrace tells old new pulled (recording_answer end)
trace_by_answer tells old new pulled (Ok source.Ended) is = record {
  ended = λ e. is.ended refl;
  refused = λ i w e. absurd (cc);
  truncated = λ i e. absurd (cc);
  undecided = λ e. absurd (cc);
  no_fault = λ all not. is.no_fault tt (λ e. absurd (cc));
  decided = is.decided;
}
trace_by_answer tells old new pulled (Ok (source.Stopped (stop.Refused index why))) is = record {
  ended = λ e. absurd (cc);
  refused = λ i w e. is.refused i w (same_stop index i why w e);
  truncated = λ i e. is.truncated i (same_stop index i why trace.Truncated e);
  undecided = λ e. absurd (cc);
  no_fault = λ all not. is.no_fault tt (λ e. absurd (cc));
  decided = is.decided;
}
trace_by_answer tells old new pulled (Ok (source.Stopped stop.Failed)) is = record {
  ended = λ e. absurd (cc);
  refused = λ i w e. absurd (cc);
  truncated = λ i e. absurd (cc);
  undecided = λ e. is.undecided refl;
  no_fault = λ all not. absurd (not refl);
  decided = is.decided;
}
trace_by_answer tells old new pulled (Err f) is =
    fault_ends tells old new pulled (session_refusal f) (refusal_not_all f) (refusal_not_trace f) is.decided
