-- How the trace on the input of a twin ended, by the answer to its recording.
use Rattle.std.proofs.Common.{◌≡◌, ℕ, ◌+◌, ◌-◌, ◌*◌, ◌≤◌, ◌⊎◌, inl, inr, ⊎_elim, true, false, List, []}
use Rattle.std.proofs.Common.{◌++◌, length, take, Option, Some, None, Result, Ok, Err, ap, sym, refl, ◌∙◌, subst}
use Rattle.std.proofs.Common.{eqb-true, length-append, arith}
use Rattle.std.specs.Prelude.{IsTrue, ◌==◌, nat_lt}
use Rattle.std.proofs.lemmas.Bool.{cases_Bool}
use Rattle.std.proofs.lemmas.Bool.Decides.{nat_tests}
use Rattle.std.proofs.lemmas.List.{append-nil}
use Rattle.fdr_io.specs.declared.Input.TheVariants as input
use Rattle.fdr_bus.specs.declared.BusRecord.{BusRecord}
use Rattle.fdr_bus.specs.declared.TraceFault.{TraceFault}
use Rattle.fdr_bus.specs.declared.TraceFault.TheVariants as trace
use Rattle.fdr_bus.specs.Records.{IsDecided, fault_after, good_prefix, has_end, most_records, trace_fault}
use Rattle.fdr_bus.proofs.TraceLemmas.{good_prefix-decided, trace_fault-ended}
use Rattle.fdr_bus.proofs.WholeRecords.{record_bytes-append}
use Rattle.fdr_deck.specs.State.{Tells}
use Rattle.fdr_deck.specs.Pull.{IsLastPull}
use Rattle.fdr_trace.specs.Pulls.{PullsUntilDecided}
use Rattle.fdr_trace.specs.declared.TraceStop.TheVariants as stop
use Rattle.fdr_twin.specs.declared.side.Side.TheVariants.{First}
use Rattle.fdr_twin.specs.Pair.{Pair, seen}
use Rattle.fdr_recorder.specs.Ends.{RecordingEnd}
use Rattle.fdr_recorder.specs.Supply.{EndsLine}
use Rattle.fdr_recorder.specs.declared.source.SourceEnd.{SourceEnd}
use Rattle.fdr_recorder.specs.declared.source.SourceEnd.TheVariants as source
use Rattle.fdr_pair.specs.Numbers.{KeepsLine}
use Rattle.fdr_pair.specs.PairAnswers.{recording_answer_of}
use Rattle.fdr_pair.specs.PairRun.{EndsPairLine}
use Rattle.fdr_pair.specs.PairStages.{EndsPairTrace, LeavesPairLine}
use Rattle.fdr_pair.specs.PairWork.{LeavesLine}
use Rattle.fdr_pair.specs.Traces.{recording_end}
use Rattle.fdr_pair.specs.declared.fault.PairFault.{PairFault}
use Rattle.fdr_pair.specs.declared.fault.PairFault.TheVariants as fault
use Rattle.fdr_pair.specs.declared.outcome.PairOutcome.{PairOutcome}
use Rattle.fdr_pair.specs.declared.outcome.PairOutcome.TheVariants as outcome

-- ---- the refusal of a trace, by what was pulled of it

cause_of : Option (ℕ × TraceFault) → TraceFault
cause_of None = trace.Many
cause_of (Some refusal) = refusal.1

-- bytes whose refusal isn't that they stop decide the trace
pub refused_decides : (bytes : List ℕ) (index : ℕ) (why : TraceFault) → trace_fault bytes ≡ Some (index, why) → (why ≡ trace.Truncated) ⊎ IsDecided bytes
unfolding trace_fault fault_after cause_of
refused_decides bytes index why refused =
    let good = good_prefix bytes in
    let n = length good in ⊎_elim
    (λ (ended : has_end good ≡ true). inr (inl ended))
    (λ (unended : has_end good ≡ false). ⊎_elim
    (λ (most : (n == most_records) ≡ true). inr (inr (inl (eqb-true n most_records most))))
    (λ (fewer : (n == most_records) ≡ false). ⊎_elim
    (λ (short : nat_lt (length bytes) (16 * n + 16) ≡ true).
    let first = rw (unended, fewer, short) at refused in inl (sym (ap cause_of first)))
    (λ (long : nat_lt (length bytes) (16 * n + 16) ≡ false).
    let more : 16 * n + 16 ≤ length bytes = grind (arith, nat_tests) in inr (inr (inr more)))
    (cases_Bool (nat_lt (length bytes) (16 * n + 16))))
    (cases_Bool (n == most_records)))
    (cases_Bool (has_end good))

-- where the records are decided, so is the fault after them
fault_after-decided : (good : List BusRecord) (bytes more : List ℕ)
    → (has_end good ≡ true) ⊎ ((length good ≡ most_records) ⊎ (16 * length good + 16 ≤ length bytes))
    → fault_after good (bytes ++ more) ≡ fault_after good bytes
unfolding fault_after
fault_after-decided good bytes more decided =
    let n = length good in ⊎_elim
    (λ (ended : has_end good ≡ true). rw ended refl)
    (λ (unended : has_end good ≡ false). ⊎_elim
    (λ (most : (n == most_records) ≡ true). rw (unended, most) refl)
    (λ (fewer : (n == most_records) ≡ false). ⊎_elim
    (λ (ended : has_end good ≡ true). absurd (cc))
    (λ (later : (n ≡ most_records) ⊎ (16 * n + 16 ≤ length bytes)). ⊎_elim
    (λ (most : n ≡ most_records). absurd (grind (arith, nat_tests)))
    (λ (long : 16 * n + 16 ≤ length bytes).
    let here : nat_lt (length bytes) (16 * n + 16) ≡ false = grind (arith, nat_tests) in
    let longer : 16 * n + 16 ≤ length (bytes ++ more) = omega (arith, long, length-append bytes more) in
    let there : nat_lt (length (bytes ++ more)) (16 * n + 16) ≡ false = grind (arith, nat_tests) in
    rw (unended, fewer, here, there, record_bytes-append bytes more n long) refl)
    later)
    decided)
    (cases_Bool (n == most_records)))
    (cases_Bool (has_end good))

pub trace_fault-decided : (bytes more : List ℕ) → IsDecided bytes → trace_fault (bytes ++ more) ≡ trace_fault bytes
unfolding trace_fault
trace_fault-decided bytes more decided =
    ap (λ good. fault_after good (bytes ++ more)) (good_prefix-decided bytes more decided) ∙ fault_after-decided (good_prefix bytes) bytes more decided

-- an input with an end record isn't refused
pub ended_unrefused : (line : List ℕ) (index : ℕ) (why : TraceFault) → has_end (good_prefix line) ≡ true → trace_fault line ≡ Some (index, why) → ⊥
ended_unrefused line index why ended first =
    let c : ◌≡◌ {A = Option (ℕ × TraceFault)} None (Some (index, why)) = sym (trace_fault-ended line ended) ∙ first in cc

-- ---- what was pulled since the entry

-- before the recording nothing was pulled
pub pulls_since : (tells : Tells) (old start new : Pair) (pulled : List ℕ) → KeepsLine old start
    → PullsUntilDecided tells (seen First start) (seen First new) [] pulled → PullsUntilDecided tells (seen First old) (seen First new) [] pulled
pulls_since tells old start new pulled line pulls = record {
  takes = record {
    taken = pulls.takes.taken ∙ ap (λ (n : ℕ). n + length pulled) line.taken;
    input = λ told. sym line.input ∙ pulls.takes.input told;
  };
  none = λ nothing. pulls.none nothing ∙ line.pulled_before;
  last = λ some. subst (λ (n : ℕ). IsLastPull n new.pulled_before new.taken) line.taken (pulls.last some);
  undecided = λ some. subst (λ (n : ℕ). IsDecided ([] ++ take (new.pulled_before - n) pulled) → ⊥) line.taken (pulls.undecided some);
  faults = omega (arith, pulls.faults, line.input_faults);
}

-- nothing was pulled
pub pulls_none : (tells : Tells) (old new : Pair) → LeavesLine old new → PullsUntilDecided tells (seen First old) (seen First new) [] []
pulls_none tells old new line = record {
  takes = record { taken = omega (arith, line.taken); input = λ told. sym line.input };
  none = λ nothing. line.pulled_before;
  last = λ some. absurd (omega (arith, some));
  undecided = λ some. absurd (omega (arith, some));
  faults = omega (arith, line.input_faults);
}

-- ---- the answer

-- the refusal of a trace that an answer names
refusal_in : PairOutcome → Option (ℕ × TraceFault)
refusal_in (outcome.TraceRefused index why) = Some (index, why)
refusal_in answer = None

same_refusal : (index i : ℕ) (why w : TraceFault) → outcome.TraceRefused index why ≡ outcome.TraceRefused i w
    → ◌≡◌ {A = Option (ℕ × TraceFault)} (Some (index, why)) (Some (i, w))
unfolding refusal_in
same_refusal index i why w e = ap refusal_in e

same_cause : (index i : ℕ) (why w : TraceFault) → outcome.TraceRefused index why ≡ outcome.TraceRefused i w → why ≡ w
same_cause index i why w e = cc

stopped_as : Option (ℕ × TraceFault) → RecordingEnd
stopped_as None = Ok source.Ended
stopped_as (Some refusal) = Ok (source.Stopped (stop.Refused refusal.0 refusal.1))

same_stop : (index i : ℕ) (why w : TraceFault) → outcome.TraceRefused index why ≡ outcome.TraceRefused i w
    → ◌≡◌ {A = RecordingEnd} (Ok (source.Stopped (stop.Refused index why))) (Ok (source.Stopped (stop.Refused i w)))
unfolding stopped_as
same_stop index i why w e = ap stopped_as (same_refusal index i why w e)

answer_as : Option (ℕ × TraceFault) → PairOutcome
answer_as None = outcome.Done
answer_as (Some refusal) = outcome.TraceRefused refusal.0 refusal.1

same_answer : (index i : ℕ) (why w : TraceFault) → ◌≡◌ {A = Option (ℕ × TraceFault)} (Some (index, why)) (Some (i, w))
    → outcome.TraceRefused index why ≡ outcome.TraceRefused i w
unfolding answer_as
same_answer index i why w e = ap answer_as e

-- an answer that isn't of the trace
pub no_trace_end : (tells : Tells) (old new : Pair) (pulled : List ℕ) (answer : PairOutcome) → (EndsPairTrace answer → ⊥)
    → (IsDecided pulled → new.input_faults ≡ old.input_faults) → EndsPairLine tells old new pulled answer
no_trace_end tells old new pulled answer not decided = record {
  ended = λ e. absurd (not (subst EndsPairTrace (sym e) tt));
  refused = λ index why e. absurd (not (subst EndsPairTrace (sym e) tt));
  truncated = λ index e. absurd (not (subst EndsPairTrace (sym e) tt));
  undecided = λ e. absurd (not (subst EndsPairTrace (sym e) tt));
  no_fault = λ all. absurd (not all);
  decided = decided;
  whole = λ e. absurd (not (subst EndsPairTrace (sym e) tt));
  always = λ index why all. absurd (not all);
}

-- The recording of a trace ended, before which nothing was pulled.
module _ (tells : Tells) (old start new : Pair) (pulled : List ℕ) (line : KeepsLine old start)
    (pulls : PullsUntilDecided tells (seen First old) (seen First new) [] pulled) where
  told_end : has_end (good_prefix pulled) ≡ true → IsTrue tells.input → good_prefix pulled ≡ good_prefix old.input
  told_end ended told = sym (ap good_prefix (pulls.takes.input told) ∙ good_prefix-decided pulled new.input (inl ended))

  -- the refusal of what was pulled is that of the whole input
  told_refusal : (index : ℕ) (why : TraceFault) → trace_fault pulled ≡ Some (index, why) → (why ≡ trace.Truncated → new.input ≡ [])
      → IsTrue tells.input → trace_fault old.input ≡ Some (index, why)
  told_refusal index why first end told =
      ap trace_fault (pulls.takes.input told) ∙ ⊎_elim
      (λ (short : why ≡ trace.Truncated). ap trace_fault (ap (λ (x : List ℕ). pulled ++ x) (end short) ∙ append-nil pulled) ∙ first)
      (λ (decided : IsDecided pulled). trace_fault-decided pulled new.input decided ∙ first)
      (refused_decides pulled index why first)

  pub ends_by_answer : (end : Result SourceEnd PairFault) → EndsLine tells (seen First start) (seen First new) pulled (recording_end end)
      → EndsPairLine tells old new pulled (recording_answer_of end)
  ends_by_answer (Ok source.Ended) is = record {
    ended = λ e. is.ended refl;
    refused = λ i w e. absurd (cc);
    truncated = λ i e. absurd (cc);
    undecided = λ e. absurd (cc);
    no_fault = λ all not. is.no_fault tt (λ e. absurd (cc)) ∙ line.input_faults;
    decided = λ known. is.decided known ∙ line.input_faults;
    whole = λ e told. told_end (is.ended refl) told;
    always = λ i w all told first.
        absurd (ended_unrefused old.input i w (ap has_end (sym (told_end (is.ended refl) told)) ∙ is.ended refl) first);
  }
  ends_by_answer (Ok (source.Stopped (stop.Refused index why))) is = record {
    ended = λ e. absurd (cc);
    refused = λ i w e. is.refused i w (same_stop index i why w e);
    truncated = λ i e. is.truncated i (same_stop index i why trace.Truncated e);
    undecided = λ e. absurd (cc);
    no_fault = λ all not. is.no_fault tt (λ e. absurd (cc)) ∙ line.input_faults;
    decided = λ known. is.decided known ∙ line.input_faults;
    whole = λ e. absurd (cc);
    always = λ i w all told first.
        let short : why ≡ trace.Truncated → new.input ≡ [] =
        λ cut. is.truncated index (same_stop index index why trace.Truncated (ap (outcome.TraceRefused index) cut)) told in
        inl (same_answer index i why w (sym (told_refusal index why (is.refused index why refl) short told) ∙ first));
  }
  ends_by_answer (Ok (source.Stopped stop.Failed)) is = record {
    ended = λ e. absurd (cc);
    refused = λ i w e. absurd (cc);
    truncated = λ i e. absurd (cc);
    undecided = λ e. is.undecided refl;
    no_fault = λ all not. absurd (not refl);
    decided = λ known. is.decided known ∙ line.input_faults;
    whole = λ e. absurd (cc);
    always = λ i w all told first. inr refl;
  }
  ends_by_answer (Err fault.DiskFault) is =
      no_trace_end tells old new pulled outcome.DiskFault (λ all. all) (λ known. is.decided known ∙ line.input_faults)
  ends_by_answer (Err fault.SeqEnd) is =
      no_trace_end tells old new pulled outcome.SeqEnd (λ all. all) (λ known. is.decided known ∙ line.input_faults)

-- a trace with an end record isn't refused
pub ended_not_refused : (tells : Tells) (old new : Pair) (pulled : List ℕ) (index : ℕ) (why : TraceFault)
    → PullsUntilDecided tells (seen First old) (seen First new) [] pulled → EndsPairLine tells old new pulled (outcome.TraceRefused index why)
    → IsTrue tells.input → has_end (good_prefix old.input) ≡ true → ⊥
ended_not_refused tells old new pulled index why pulls ends told ended =
    ended_unrefused old.input index why ended (told_refusal tells old old new pulled (record {
      input = refl;
      taken = refl;
      pulled_before = refl;
      input_faults = refl;
    }) pulls index why (ends.refused index why refl) (λ short. ends.truncated index (ap (outcome.TraceRefused index) short) told) told)

-- ---- a start that was refused

pub refused_no_end : (why : PairOutcome) → LeavesPairLine why ⊎ (why ≡ outcome.DiskFault) → EndsPairTrace why → ⊥
refused_no_end outcome.Done line all = ⊎_elim (λ (left : LeavesPairLine outcome.Done). left) (λ (e : outcome.Done ≡ outcome.DiskFault). absurd (cc)) line
refused_no_end (outcome.TraceRefused index f) line all =
    ⊎_elim (λ (left : LeavesPairLine (outcome.TraceRefused index f)). left) (λ (e : outcome.TraceRefused index f ≡ outcome.DiskFault). absurd (cc)) line
refused_no_end (outcome.ReadFault input.Line) line all =
    ⊎_elim (λ (left : LeavesPairLine (outcome.ReadFault input.Line)). left) (λ (e : outcome.ReadFault input.Line ≡ outcome.DiskFault). absurd (cc)) line
refused_no_end answer line all = absurd all

-- where nothing was pulled, nothing is said of the trace
pub ends_unpulled : (tells : Tells) (old new : Pair) (why : PairOutcome) → LeavesLine old new → LeavesPairLine why ⊎ (why ≡ outcome.DiskFault)
    → EndsPairLine tells old new [] why
ends_unpulled tells old new why unpulled line =
    no_trace_end tells old new [] why (refused_no_end why line) (λ known. unpulled.input_faults)
