-- The answers to a trace on an input that is told.
use Rattle.std.proofs.Common.{◌≡◌, ◌≢◌, ℕ, ◌+◌, ◌*◌, ◌≤◌, ◌⊎◌, inl, inr, ⊎_elim, true, false, List, []}
use Rattle.std.proofs.Common.{◌++◌, length, take, Option, Some, None, ap, sym, refl, ◌∙◌}
use Rattle.std.proofs.Common.{eqb-true, length-append, arith}
use Rattle.std.specs.Prelude.{IsTrue, ◌==◌, nat_lt}
use Rattle.std.proofs.lemmas.Bool.{cases_Bool}
use Rattle.std.proofs.lemmas.Bool.Decides.{nat_tests}
use Rattle.std.proofs.lemmas.List.{append-nil}
use Rattle.fdr_io.specs.Told.{followed_by}
use Rattle.fdr_io.specs.declared.Input.TheVariants as input
use Rattle.fdr_bus.specs.declared.BusRecord.{BusRecord}
use Rattle.fdr_bus.specs.declared.TraceFault.{TraceFault}
use Rattle.fdr_bus.specs.declared.TraceFault.TheVariants as trace
use Rattle.fdr_bus.specs.Records.{IsDecided, fault_after, good_prefix, has_end, most_records, trace_fault}
use Rattle.fdr_bus.proofs.TraceLemmas.{good_prefix-decided, trace_fault-ended}
use Rattle.fdr_bus.proofs.WholeRecords.{record_bytes-append}
use Rattle.fdr_deck.specs.State.{State, Tells}
use Rattle.fdr_trace.specs.Pulls.{PullsUntilDecided}
use Rattle.fdr_words.specs.Forms.{stream_line}
use Rattle.fdr_table.specs.Rows.{TableRows}
use Rattle.fdr_sampler.specs.Stream.{stream_of}
use Rattle.fdr_top.specs.declared.outcome.Outcome.{Outcome}
use Rattle.fdr_top.specs.declared.outcome.Outcome.TheVariants as outcome
use Rattle.fdr_top.specs.Answers.{IsOwn}
use Rattle.fdr_top.specs.Stages.{EndsReading}
use Rattle.fdr_top.specs.Stream.{Streams, WritesStreamPart}
use Rattle.fdr_top.specs.Streaming.{IsStreamedTo}
use Rattle.fdr_stream.specs.Kept.{StreamKept}
use Rattle.fdr_io.specs.Faults.{Rose}

unfoldable pub answer_to : Option (ℕ × TraceFault) → Outcome
answer_to None = outcome.Done
answer_to (Some refusal) = outcome.TraceRefused refusal.0 refusal.1

cause_of : Option (ℕ × TraceFault) → TraceFault
cause_of None = trace.Many
cause_of (Some refusal) = refusal.1

-- bytes whose refusal isn't that they stop decide the trace
pub refused_decides : (bytes : List ℕ) (index : ℕ) (why : TraceFault) → trace_fault bytes ≡ Some (index, why) → (why ≡ trace.Truncated) ⊎ IsDecided bytes
unfolding trace_fault fault_after cause_of
refused_decides bytes index why refused =
    let good = good_prefix bytes in
    let n = length good in ⊎_elim
    (λ (ended : has_end good ≡ true). inr (inl ended))
    (λ (unended : has_end good ≡ false). ⊎_elim
    (λ (most : (n == most_records) ≡ true). inr (inr (inl (eqb-true n most_records most))))
    (λ (fewer : (n == most_records) ≡ false). ⊎_elim
    (λ (short : nat_lt (length bytes) (16 * n + 16) ≡ true).
    let first = rw (unended, fewer, short) at refused in inl (sym (ap cause_of first)))
    (λ (long : nat_lt (length bytes) (16 * n + 16) ≡ false).
    let more : 16 * n + 16 ≤ length bytes = grind (arith, nat_tests) in inr (inr (inr more)))
    (cases_Bool (nat_lt (length bytes) (16 * n + 16))))
    (cases_Bool (n == most_records)))
    (cases_Bool (has_end good))

-- where the records are decided, so is the fault after them
fault_after-decided : (good : List BusRecord) (bytes more : List ℕ)
    → (has_end good ≡ true) ⊎ ((length good ≡ most_records) ⊎ (16 * length good + 16 ≤ length bytes))
    → fault_after good (bytes ++ more) ≡ fault_after good bytes
unfolding fault_after
fault_after-decided good bytes more decided =
    let n = length good in ⊎_elim
    (λ (ended : has_end good ≡ true). rw ended refl)
    (λ (unended : has_end good ≡ false). ⊎_elim
    (λ (most : (n == most_records) ≡ true). rw (unended, most) refl)
    (λ (fewer : (n == most_records) ≡ false). ⊎_elim
    (λ (ended : has_end good ≡ true). absurd (cc))
    (λ (later : (n ≡ most_records) ⊎ (16 * n + 16 ≤ length bytes)). ⊎_elim
    (λ (most : n ≡ most_records). absurd (grind (arith, nat_tests)))
    (λ (long : 16 * n + 16 ≤ length bytes).
    let here : nat_lt (length bytes) (16 * n + 16) ≡ false = grind (arith, nat_tests) in
    let longer : 16 * n + 16 ≤ length (bytes ++ more) = omega (arith, long, length-append bytes more) in
    let there : nat_lt (length (bytes ++ more)) (16 * n + 16) ≡ false = grind (arith, nat_tests) in
    rw (unended, fewer, here, there, record_bytes-append bytes more n long) refl)
    later)
    decided)
    (cases_Bool (n == most_records)))
    (cases_Bool (has_end good))

pub trace_fault-decided : (bytes more : List ℕ) → IsDecided bytes → trace_fault (bytes ++ more) ≡ trace_fault bytes
unfolding trace_fault
trace_fault-decided bytes more decided =
    ap (λ good. fault_after good (bytes ++ more)) (good_prefix-decided bytes more decided) ∙ fault_after-decided (good_prefix bytes) bytes more decided

-- the refusal of the part that was pulled is that of the whole input
pub refused_line : (tells : Tells) (old new : State) (pulled : List ℕ) (index : ℕ) (why : TraceFault) → PullsUntilDecided tells old new [] pulled
    → trace_fault pulled ≡ Some (index, why) → (why ≡ trace.Truncated → new.input ≡ []) → IsTrue tells.input → trace_fault old.input ≡ Some (index, why)
refused_line tells old new pulled index why pulls first end told =
    ap trace_fault (pulls.takes.input told) ∙ ⊎_elim
    (λ (short : why ≡ trace.Truncated). ap trace_fault (ap (λ (x : List ℕ). pulled ++ x) (end short) ∙ append-nil pulled) ∙ first)
    (λ (decided : IsDecided pulled). trace_fault-decided pulled new.input decided ∙ first)
    (refused_decides pulled index why first)

-- an input with an end record isn't refused
pub ended_unrefused : (line : List ℕ) (index : ℕ) (why : TraceFault) → has_end (good_prefix line) ≡ true → trace_fault line ≡ Some (index, why) → ⊥
ended_unrefused line index why ended first =
    let c : ◌≡◌ {A = Option (ℕ × TraceFault)} None (Some (index, why)) = sym (trace_fault-ended line ended) ∙ first in cc

-- the fault that is answered is that of the whole input
pub told_fault : (t : TableRows) (tells : Tells) (old new : State) (before now : Option (List ℕ)) (answer : Outcome) (index : ℕ) (why : TraceFault)
    → Streams t tells old new before now answer → answer ≡ outcome.TraceRefused index why → IsTrue tells.input →
    trace_fault old.input ≡ Some (index, why)
told_fault t tells old new before now answer index why streams refused told =
    refused_line tells old new streams.pulled index why streams.pulls (streams.ends.refused index why refused)
    (λ short. streams.ends.truncated index (refused ∙ ap (outcome.TraceRefused index) short) told) told

ended_line : (t : TableRows) (tells : Tells) (old new : State) (before now : Option (List ℕ)) (answer : Outcome)
    (streams : Streams t tells old new before now answer) → answer ≡ outcome.Done → IsTrue tells.input →
    good_prefix old.input ≡ good_prefix streams.pulled
ended_line t tells old new before now answer streams done told =
    ap good_prefix (streams.pulls.takes.input told) ∙ good_prefix-decided streams.pulled new.input (inl (streams.ends.ended done))

-- the whole recording was written
pub told_stream : (t : TableRows) (tells : Tells) (old new : State) (before now : Option (List ℕ)) (answer : Outcome)
    → Streams t tells old new before now answer → answer ≡ outcome.Done → IsTrue tells.input →
    now ≡ followed_by before (stream_of t (good_prefix old.input))
told_stream t tells old new before now answer streams done told =
    streams.text (λ e. let c : outcome.Done ≡ outcome.WriteFault = sym done ∙ e in cc)
    ∙ ap (λ (x : List BusRecord). followed_by before (stream_of t x)) (sym (ended_line t tells old new before now answer streams done told))

-- where the input is refused, so it is answered, unless a fault came first
pub fault_answered : (path : List ℕ) (t : TableRows) (tells : Tells) (old new : State) (before now : Option (List ℕ)) (answer : Outcome) (index : ℕ)
    (why : TraceFault) → Streams t tells old new before now answer → IsOwn (stream_line path) answer → IsTrue tells.input
    → trace_fault old.input ≡ Some (index, why) →
    (answer ≡ outcome.TraceRefused index why) ⊎ ((answer ≡ outcome.ReadFault input.Line) ⊎ (answer ≡ outcome.WriteFault))
unfolding answer_to
fault_answered path t tells old new before now outcome.Done index why streams own told first =
    absurd (ended_unrefused old.input index why
    (ap has_end (ended_line t tells old new before now outcome.Done streams refl told) ∙ streams.ends.ended refl) first)
fault_answered path t tells old new before now (outcome.TraceRefused i w) index why streams own told first =
    let here = told_fault t tells old new before now (outcome.TraceRefused i w) i w streams refl told in
    let same : ◌≡◌ {A = Option (ℕ × TraceFault)} (Some (i, w)) (Some (index, why)) = sym here ∙ first in
    inl (ap answer_to same)
fault_answered path t tells old new before now (outcome.ReadFault input.Line) index why streams own told first = inr (inl refl)
fault_answered path t tells old new before now outcome.WriteFault index why streams own told first = inr (inr refl)
fault_answered path t tells old new before now answer index why streams own told first = absurd own

-- a trace with an end record is streamed whole, where no fault came
pub stream_done : (path : List ℕ) (t : TableRows) (tells : Tells) (old new : State) (before now : Option (List ℕ)) (answer : Outcome)
    → Streams t tells old new before now answer → IsOwn (stream_line path) answer → IsTrue tells.input → has_end (good_prefix old.input) ≡ true →
    (answer ≡ outcome.ReadFault input.Line → ⊥) → (answer ≡ outcome.WriteFault → ⊥) → answer ≡ outcome.Done
stream_done path t tells old new before now outcome.Done streams own told ended no_input_fault no_sink_fault = refl
stream_done path t tells old new before now (outcome.TraceRefused i w) streams own told ended no_input_fault no_sink_fault =
    absurd (ended_unrefused old.input i w ended (told_fault t tells old new before now (outcome.TraceRefused i w) i w streams refl told))
stream_done path t tells old new before now (outcome.ReadFault input.Line) streams own told ended no_input_fault no_sink_fault = absurd (no_input_fault refl)
stream_done path t tells old new before now outcome.WriteFault streams own told ended no_input_fault no_sink_fault = absurd (no_sink_fault refl)
stream_done path t tells old new before now answer streams own told ended no_input_fault no_sink_fault = absurd own

-- where no pull failed, the records that were streamed are all good ones of the input
pub streamed_all : (path : List ℕ) (t : TableRows) (tells : Tells) (old new : State) (k : StreamKept) (before now : Option (List ℕ)) (answer : Outcome)
    (streamed : IsStreamedTo t tells old new k before now answer) → IsOwn (stream_line path) answer → IsTrue tells.input
    → (Rose old.input_faults new.input_faults → ⊥) → good_prefix streamed.pulled ≡ good_prefix old.input
streamed_all path t tells old new k before now outcome.Done streamed own told quiet =
    sym (ap good_prefix (streamed.pulls.takes.input told) ∙ good_prefix-decided streamed.pulled new.input (inl (streamed.ended refl)))
streamed_all path t tells old new k before now (outcome.TraceRefused index why) streamed own told quiet = sym (
    ap good_prefix (streamed.pulls.takes.input told) ∙ ⊎_elim
    (λ (short : why ≡ trace.Truncated). ap good_prefix (ap (λ (x : List ℕ). streamed.pulled ++ x)
    (streamed.truncated index (ap (outcome.TraceRefused index) short) told) ∙ append-nil streamed.pulled))
    (λ (decided : IsDecided streamed.pulled). good_prefix-decided streamed.pulled new.input decided)
    (refused_decides streamed.pulled index why (streamed.refused index why refl)))
streamed_all path t tells old new k before now (outcome.ReadFault input.Line) streamed own told quiet = absurd (quiet (streamed.cause refl))
streamed_all path t tells old new k before now outcome.WriteFault streamed own told quiet = absurd (streamed.whole refl)
streamed_all path t tells old new k before now answer streamed own told quiet = absurd own

-- so what was written of their recording is a front part of that of the input
pub streamed_part : (path : List ℕ) (t : TableRows) (tells : Tells) (old new : State) (k : StreamKept) (before middle now : Option (List ℕ)) (answer : Outcome)
    (streamed : IsStreamedTo t tells old new k before middle answer) → IsTrue tells.input → (Rose old.input_faults new.input_faults → ⊥)
    → (m : ℕ) × (now ≡ followed_by before (take m (stream_of t (good_prefix streamed.pulled)))) → WritesStreamPart t old before now
streamed_part path t tells old new k before middle now answer streamed told quiet part = (
  part.0,
  part.1 ∙ ap (λ (x : List BusRecord). followed_by before (take part.0 (stream_of t x)))
      (streamed_all path t tells old new k before middle answer streamed (streamed.own path) told quiet),
)

-- where all was written, the answer of a stream tells how the reading of its trace ended
pub stream_reads : (path : List ℕ) (answer : Outcome) → IsOwn (stream_line path) answer → answer ≢ outcome.WriteFault → EndsReading answer
stream_reads path outcome.Done own other = tt
stream_reads path (outcome.TraceRefused index why) own other = tt
stream_reads path (outcome.ReadFault input.Line) own other = tt
stream_reads path (outcome.ReadFault input.Table) own other = absurd own
stream_reads path outcome.WriteFault own other = absurd (other refl)
stream_reads path answer own other = absurd own
