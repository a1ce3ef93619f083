-- How the recording of a trace on two disks ends.
use Rattle.std.proofs.Common.{◌≡◌, ◌≢◌, ⊎_elim, ℕ, ◌+◌, ◌-◌, ◌/◌, ◌^◌, ◌<◌, ◌≤◌, List, [], ◌∷◌, ◌++◌, length, take, ap, refl, sym, ◌∙◌, subst}
use Rattle.std.proofs.lemmas.Bool.{cases_lt}
use Rattle.std.proofs.Common.{length-append, arith, true, Option, Some, None, Result, Ok, Err}
use Rattle.std.proofs.lemmas.List.{append-nil, take-append-le}
use Rattle.std.proofs.lemmas.List.FromFn.{length-map-range_with_len}
use Rattle.std.proofs.Math.Nat.{div-eq_of_lt}
use Rattle.std.proofs.Math.Seq.{take-append-add}
use Rattle.fdr_io.specs.Faults.{Rose}
use Rattle.fdr_bus.specs.declared.BusRecord.{BusRecord}
use Rattle.fdr_bus.specs.declared.TraceFault.{TraceFault}
use Rattle.fdr_bus.specs.declared.TraceFault.TheVariants as trace
use Rattle.fdr_bus.specs.Records.{IsDecided, good_prefix, has_end, is_end}
use Rattle.fdr_bus.proofs.TraceLemmas.{good_prefix_none, has_end-push}
use Rattle.fdr_deck.specs.State.{State, Tells}
use Rattle.fdr_slot.specs.Limits.{IsInLimits}
use Rattle.fdr_recover.specs.Blocks.{Block}
use Rattle.fdr_sampler.specs.Stream.{packed, stream_words}
use Rattle.fdr_sampler.proofs.Packing.{length-packed}
use Rattle.fdr_sampler.proofs.Streaming.{stream_words-none}
use Rattle.fdr_stream.specs.Blocks.{blocks_of, cut_block}
use Rattle.fdr_trace.specs.Kept.{TraceKept}
use Rattle.fdr_trace.specs.Reading.{IsNextRecord, IsTraceStopped, RepresentsTrace}
use Rattle.fdr_trace.specs.declared.TraceStop.{TraceStop}
use Rattle.fdr_trace.specs.declared.TraceStop.TheVariants as stop
use Rattle.fdr_twin.specs.declared.side.Side.TheVariants.{First, Second}
use Rattle.fdr_twin.specs.Pair.{Pair, seen}
use Rattle.fdr_twin.specs.Same.{IsSameState}
use Rattle.fdr_twin.specs.Sound.{IsSoundPair}
use Rattle.fdr_twin.specs.Serving.{EachPairMoment}
use Rattle.fdr_recorder.specs.Ends.{HasRecordedSource, RecordingEnd}
use Rattle.fdr_recorder.specs.Past.{MayFeedRecording, RecordingPast, blocks_due_at, blocks_from, due_count, recorded_bytes, recorded_of, rest_of}
use Rattle.fdr_recorder.specs.Supplied.{past_fed}
use Rattle.fdr_recorder.specs.Supply.{EndsLine, line_trace}
use Rattle.fdr_recorder.specs.declared.source.SourceEnd.{SourceEnd}
use Rattle.fdr_recorder.specs.declared.source.SourceEnd.TheVariants as source
use Rattle.fdr_recorder.proofs.Joined.{recorded_of-fed}
use Rattle.fdr_recorder.proofs.NewBlocks.{new_blocks-begin}
use Rattle.fdr_recorder.proofs.Supplies.{supplied_records-rises}
use Rattle.fdr_pair.specs.Living.{SideKept, SideMoment}
use Rattle.fdr_pair.specs.PairPast.{RepresentsPair}
use Rattle.fdr_pair.specs.PairRecording.{BothFailed, PairHasEnded, PairRecordsAll, PairRecordsFirst}
use Rattle.fdr_pair.specs.Traces.{HasFedPair, HasFedTrace, PairRecordsTrace, recording_end, trace_blocks}
use Rattle.fdr_pair.specs.declared.fault.PairFault.{PairFault}
use Rattle.fdr_pair.specs.declared.fault.PairFault.TheVariants as fault
use Rattle.fdr_pair.specs.declared.rings.PairRings.{PairRings}
use Rattle.fdr_pair.specs.declared.session.PairSession.{PairSession}
use Rattle.fdr_pair.proofs.BothSides.{BothFailed-then, PairRecordsAll-then}
use Rattle.fdr_pair.proofs.Idling.{IsIdleUntilPull}
use Rattle.fdr_pair.proofs.Onward.{moment_more}
use Rattle.fdr_pair.proofs.Tracing.{first_after, in_time_after, pulls_after, second_after, time_after, counts_after, first_kept_after, second_kept_after}
use Rattle.fdr_pair.proofs.Tracing.{idle_after, near_after}
use Rattle.fdr_pair.proofs.KeptSides.{kept_more}

-- ---- how the trace ended

ends_end : (tells : Tells) (start q : Pair) (bytes : List ℕ) (records : List BusRecord) (r : BusRecord)
    → good_prefix bytes ≡ records ++ r ∷ [] → is_end r ≡ true → q.input_faults ≡ start.input_faults
    → EndsLine tells (seen First start) (seen First q) bytes (Ok source.Ended)
ends_end tells start q bytes records r good ends quiet = record {
  ended = λ e. ap has_end good ∙ has_end-push records r ends;
  refused = λ index why e. absurd (cc);
  truncated = λ index e. absurd (cc);
  undecided = λ e. absurd (cc);
  no_fault = λ all not. quiet;
  decided = λ known. quiet;
}

-- the refusal of a trace that an end names
refusal_of : RecordingEnd → Option (ℕ × TraceFault)
refusal_of (Ok source.Ended) = None
refusal_of (Ok (source.Stopped (stop.Refused index why))) = Some (index, why)
refusal_of (Ok (source.Stopped stop.Failed)) = None
refusal_of (Err f) = None

same_refusal : (index i : ℕ) (why w : TraceFault)
    → ◌≡◌ {A = RecordingEnd} (Ok (source.Stopped (stop.Refused index why))) (Ok (source.Stopped (stop.Refused i w)))
    → ◌≡◌ {A = Option (ℕ × TraceFault)} (Some (index, why)) (Some (i, w))
unfolding refusal_of
same_refusal index i why w e = ap refusal_of e

same_cause : (index i : ℕ) (why w : TraceFault)
    → ◌≡◌ {A = RecordingEnd} (Ok (source.Stopped (stop.Refused index why))) (Ok (source.Stopped (stop.Refused i w))) → why ≡ w
same_cause index i why w e = cc

-- no further record came
ends_stop : (tells : Tells) (a b : State) (start p q : Pair) (bytes : List ℕ) (records : List BusRecord) (why : TraceStop)
    → IsSameState a (seen p.turned p) → IsSameState b (seen q.turned q) → IsTraceStopped tells a b bytes records why
    → p.input_faults ≡ start.input_faults → (why ≢ stop.Failed → b.input_faults ≡ a.input_faults)
    → EndsLine tells (seen First start) (seen First q) bytes (Ok (source.Stopped why))
ends_stop tells a b start p q bytes records (stop.Refused index why) here there stopped before quiet = record {
  ended = λ e. absurd (cc);
  refused = λ i w e. stopped.first ∙ same_refusal index i why w e;
  truncated = λ i e told. there.input ∙ stopped.end (same_cause index i why trace.Truncated e) told;
  undecided = λ e. absurd (cc);
  no_fault = λ all not. there.input_faults ∙ quiet (λ e. absurd (cc)) ∙ sym here.input_faults ∙ before;
  decided = λ known. there.input_faults ∙ quiet (λ e. absurd (cc)) ∙ sym here.input_faults ∙ before;
}
ends_stop tells a b start p q bytes records stop.Failed here there stopped before quiet = record {
  ended = λ e. absurd (cc);
  refused = λ i w e. absurd (cc);
  truncated = λ i e. absurd (cc);
  undecided = λ e. stopped.undecided;
  no_fault = λ all not. absurd (not refl);
  decided = λ known. absurd (stopped.undecided known);
}

-- the recording was cut short
ends_cut : (tells : Tells) (start q : Pair) (bytes : List ℕ) (f : PairFault) → (IsDecided bytes → q.input_faults ≡ start.input_faults)
    → EndsLine tells (seen First start) (seen First q) bytes (recording_end (Err f))
ends_cut tells start q bytes fault.DiskFault decided = record {
  ended = λ e. absurd (cc);
  refused = λ i w e. absurd (cc);
  truncated = λ i e. absurd (cc);
  undecided = λ e. absurd (cc);
  no_fault = λ all. absurd all;
  decided = decided;
}
ends_cut tells start q bytes fault.SeqEnd decided = record {
  ended = λ e. absurd (cc);
  refused = λ i w e. absurd (cc);
  truncated = λ i e. absurd (cc);
  undecided = λ e. absurd (cc);
  no_fault = λ all. absurd all;
  decided = decided;
}

-- calls that pull nothing leave how the trace ended
ends_kept : (tells : Tells) (start p q : Pair) (bytes : List ℕ) (end : SourceEnd) → EndsLine tells (seen First start) (seen First p) bytes (Ok end)
    → q.input ≡ p.input → q.input_faults ≡ p.input_faults → EndsLine tells (seen First start) (seen First q) bytes (Ok end)
ends_kept tells start p q bytes end ends line faults = record {
  ended = ends.ended;
  refused = ends.refused;
  truncated = λ index e told. line ∙ ends.truncated index e told;
  undecided = ends.undecided;
  no_fault = λ all not. faults ∙ ends.no_fault all not;
  decided = λ known. faults ∙ ends.decided known;
}

-- ---- all records were fed

stop_good : (tells : Tells) (a b : State) (bytes : List ℕ) (records : List BusRecord) (why : TraceStop)
    → IsTraceStopped tells a b bytes records why → good_prefix bytes ≡ records
stop_good tells a b bytes records (stop.Refused index why) stopped = stopped.good
stop_good tells a b bytes records stop.Failed stopped = stopped.good

-- an input that failed was counted
stop_failed : (tells : Tells) (a b : State) (start p q : Pair) (bytes : List ℕ) (records : List BusRecord) (why : TraceStop)
    → IsSameState a (seen p.turned p) → IsSameState b (seen q.turned q) → IsTraceStopped tells a b bytes records why
    → p.input_faults ≡ start.input_faults → source.Stopped why ≡ source.Stopped stop.Failed → Rose start.input_faults q.input_faults
stop_failed tells a b start p q bytes records (stop.Refused index why) here there stopped before is = absurd (cc)
stop_failed tells a b start p q bytes records stop.Failed here there stopped before is =
    subst (λ n. Rose n q.input_faults) (sym here.input_faults ∙ before) (subst (λ n. Rose a.input_faults n) (sym there.input_faults) stopped.cause)

fed_all : (tells : Tells) (past : RecordingPast) (rings : PairRings) (s : PairSession) (start q : Pair) (bytes : List ℕ) (records : List BusRecord)
    (end : SourceEnd) → RepresentsPair s (past_fed past records) → HasFedPair tells (past_fed past records) rings s bytes start q
    → good_prefix bytes ≡ records → EndsLine tells (seen First start) (seen First q) bytes (Ok end)
    → (end ≡ source.Stopped stop.Failed → Rose start.input_faults q.input_faults) → HasFedTrace tells past rings s start q end
fed_all tells past rings s start q bytes records end stands has good ends cause = record {
  pulled = bytes;
  stands = subst (λ (l : List BusRecord). RepresentsPair s (past_fed past l)) (sym good) stands;
  has = subst (λ (l : List BusRecord). HasFedPair tells (past_fed past l) rings s bytes start q) (sym good) has;
  ends = ends;
  cause = cause;
}

pub fed_to_stop : (tells : Tells) (past : RecordingPast) (rings : PairRings) (s : PairSession) (a b : State) (start p q : Pair) (bytes : List ℕ)
    (records : List BusRecord) (why : TraceStop) → IsSameState a (seen p.turned p) → IsSameState b (seen q.turned q)
    → RepresentsPair s (past_fed past records) → HasFedPair tells (past_fed past records) rings s bytes start q
    → IsTraceStopped tells a b bytes records why → p.input_faults ≡ start.input_faults → (why ≢ stop.Failed → b.input_faults ≡ a.input_faults)
    → HasFedTrace tells past rings s start q (source.Stopped why)
fed_to_stop tells past rings s a b start p q bytes records why here there stands has stopped before quiet =
    fed_all tells past rings s start q bytes records (source.Stopped why) stands has (stop_good tells a b bytes records why stopped)
    (ends_stop tells a b start p q bytes records why here there stopped before quiet)
    (stop_failed tells a b start p q bytes records why here there stopped before)

pub fed_to_end : (tells : Tells) (past : RecordingPast) (rings : PairRings) (s : PairSession) (start q : Pair) (bytes : List ℕ)
    (records : List BusRecord) (r : BusRecord) → RepresentsPair s (past_fed past (records ++ r ∷ []))
    → HasFedPair tells (past_fed past (records ++ r ∷ [])) rings s bytes start q → good_prefix bytes ≡ records ++ r ∷ [] → is_end r ≡ true
    → q.input_faults ≡ start.input_faults → HasFedTrace tells past rings s start q source.Ended
fed_to_end tells past rings s start q bytes records r stands has good ends quiet =
    fed_all tells past rings s start q bytes (records ++ r ∷ []) source.Ended stands has good (ends_end tells start q bytes records r good ends quiet)
    (λ e. absurd (cc))

-- a session may be fed the next record
pub may_feed_next : (past : RecordingPast) (k k' : TraceKept) (before bytes : List ℕ) (records : List BusRecord) (r : BusRecord)
    → RepresentsTrace k before records → IsNextRecord k' bytes records r → MayFeedRecording (past_fed past records) r
may_feed_next past k k' before bytes records r reads next =
    record { order = next.order; in_time = next.in_time; unended = ap has_end reads.good ∙ reads.unended.unended }

-- ---- what was recorded

-- no bytes, no records
no_bytes : (bytes : List ℕ) → length bytes ≤ 0 → good_prefix bytes ≡ []
no_bytes [] none = good_prefix_none
no_bytes (b ∷ bytes) none = absurd (omega (arith, none))

-- where there are no records, no block is left
none_left : (past : RecordingPast) → IsInLimits past.header → past.records ≡ [] → rest_of past ≡ []
none_left past limits none =
    let words : stream_words past.table past.records ≡ [] = ap (stream_words past.table) none ∙ stream_words-none past.table in
    let bytes : length (recorded_bytes past) ≡ 0 = omega (arith, ap (λ (l : List ℕ). length (packed l)) words, length-packed []) in
    let p = past.header.payload in
    let parts : (length (recorded_bytes past) + p - 1) / p ≡ 0 = div-eq_of_lt (omega (arith, bytes, limits.least_payload)) in
    let count = length-map-range_with_len (cut_block p (recorded_bytes past)) 0 ((length (recorded_bytes past) + p - 1) / p) in
    let rest : length (blocks_of p (recorded_bytes past)) - due_count past ≡ 0 = omega (arith, count, parts) in
    ap (λ n. blocks_from past (due_count past) n) rest

-- a record was read of some bytes
pub gave_bytes : (bytes : List ℕ) (records later : List BusRecord) (r : BusRecord) → good_prefix bytes ≡ (records ++ r ∷ []) ++ later → 0 < length bytes
gave_bytes [] records later r good =
    let long = ap length (sym good_prefix_none ∙ good) in
    absurd (omega (arith, long, length-append (records ++ r ∷ []) later, length-append records (r ∷ [])))
gave_bytes (b ∷ bytes) records later r good = omega arith

cut_short : (f : PairFault) → HasRecordedSource (recording_end (Err f)) → ⊥
cut_short fault.DiskFault whole = whole
cut_short fault.SeqEnd whole = whole

pub same_fault : {A : Type 0} (f f' : PairFault) → ◌≡◌ {A = Result A PairFault} (Err f) (Err f') → f ≡ f'
same_fault f f' e = cc

same_end : (a b : SourceEnd) → ◌≡◌ {A = Result SourceEnd PairFault} (Ok a) (Ok b) → a ≡ b
same_end a b e = cc

-- the first blocks of three stretches, as many as reach into the second
take_two : (xs ys zs : List Block) (n m : ℕ) → n ≡ length xs + m → m ≤ length ys → take n ((xs ++ ys) ++ zs) ≡ xs ++ take m ys
take_two xs ys zs n m is within =
    take-append-le n (xs ++ ys) zs (omega (arith, is, within, length-append xs ys))
    ∙ ap (λ k. take k (xs ++ ys)) is ∙ take-append-add xs ys m

-- the numbers ended after those blocks
ended_after : (tells : Tells) (rings mid : PairRings) (all xs ys zs : List Block) (start p q : Pair) → all ≡ (xs ++ ys) ++ zs
    → PairRecordsAll tells rings mid xs start p → PairHasEnded tells mid ys p q → PairHasEnded tells rings all start q
ended_after tells rings mid all xs ys zs start p q parts has end =
    let n : 2 ^ 48 - rings.next ≡ length xs + (2 ^ 48 - mid.next) = omega (arith, has.next, mid.bound) in
    let cut : 2 ^ 48 - mid.next ≤ length ys = omega (arith, end.beyond) in
    let long = ap length parts in
    record {
      left = end.left;
      beyond = omega (arith, end.beyond, has.next, long, length-append (xs ++ ys) zs, length-append xs ys);
      recorded = subst (λ (l : List Block). PairRecordsAll tells rings end.left l start q)
          (sym (ap (λ (l : List Block). take (2 ^ 48 - rings.next) l) parts ∙ take_two xs ys zs (2 ^ 48 - rings.next) (2 ^ 48 - mid.next) n cut))
          (PairRecordsAll-then tells rings mid xs start p q has end.left (take (2 ^ 48 - mid.next) ys) end.recorded);
    }

-- A recording was cut short: the first blocks of the trace are those of the records so far, and then these.
module _ (tells : Tells) (past : RecordingPast) (rings : PairRings) (s : PairSession) (bytes : List ℕ) (records : List BusRecord) (start p q : Pair)
    (sound : IsSoundPair tells p) (begins : rings.next ≡ past.first) (has : HasFedPair tells (past_fed past records) rings s bytes start p)
    (blocks later : List Block) (wrote : PairRecordsFirst tells s.rings blocks p q)
    (parts : trace_blocks past bytes ≡ (recorded_of (past_fed past records) ++ blocks) ++ later)
    (idle : EachPairMoment tells start q (IsIdleUntilPull start)) where
  pub cut_trace : (f : PairFault) → (IsDecided bytes → p.input_faults ≡ start.input_faults) → (f ≡ fault.SeqEnd → PairHasEnded tells s.rings blocks p q)
      → (f ≡ fault.DiskFault → BothFailed tells s.rings p q) → PairRecordsTrace tells past rings start q (Err f)
  cut_trace f quiet ended failed =
      let before = past_fed past records in
      let so_far = recorded_of (past_fed past records) ++ blocks in
      record {
        pulled = bytes;
        pulls = pulls_after tells before rings s bytes start p sound begins has q blocks wrote;
        time = time_after tells before rings s bytes start p sound begins has q blocks wrote;
        counts = counts_after tells before rings s bytes start p sound begins has q blocks wrote;
        first = λ stops m since few. subst (λ (l : List Block). SideMoment First rings.first l start m) (sym parts)
            (moment_more First rings.first so_far later start m
            (first_after tells before rings s bytes start p sound begins has q blocks wrote stops m since few));
        second = λ stops m since few. subst (λ (l : List Block). SideMoment Second rings.second l start m) (sym parts)
            (moment_more Second rings.second so_far later start m
            (second_after tells before rings s bytes start p sound begins has q blocks wrote stops m since few));
        first_kept = λ stops m since. subst (λ (l : List Block). SideKept First rings.first l start m) (sym parts)
            (kept_more First rings.first so_far later start m
            (first_kept_after tells before rings s bytes start p sound begins has q blocks wrote stops m since));
        second_kept = λ stops m since. subst (λ (l : List Block). SideKept Second rings.second l start m) (sym parts)
            (kept_more Second rings.second so_far later start m
            (second_kept_after tells before rings s bytes start p sound begins has q blocks wrote stops m since));
        in_time = in_time_after tells before rings s bytes start p sound begins has q blocks wrote;
        near = near_after tells before rings s bytes start p sound begins has q blocks wrote;
        idle = idle;
        recorded = λ whole. absurd (cut_short f whole);
        within = λ whole. absurd (cut_short f whole);
        seq_end = λ e. ended_after tells rings s.rings (trace_blocks past bytes) (recorded_of (past_fed past records)) blocks later start p q parts
            has.recorded (ended (same_fault f fault.SeqEnd e));
        both_failed = λ e. BothFailed-then tells rings s.rings (recorded_of (past_fed past records)) start p q has.recorded
            (failed (same_fault f fault.DiskFault e));
        ends = ends_cut tells start q bytes f (λ known. wrote.numbers.line.input_faults ∙ quiet known);
        cause = λ e. absurd (cc);
      }

-- the blocks of a trace, by those that are due at its first records
pub parts_fed : (past : RecordingPast) (bytes : List ℕ) (records later : List BusRecord) (r : BusRecord) → IsInLimits past.header
    → MayFeedRecording (past_fed past records) r → good_prefix bytes ≡ (records ++ r ∷ []) ++ later
    → (rest : List Block) × (trace_blocks past bytes ≡ (recorded_of (past_fed past records) ++ blocks_due_at (past_fed past records) r) ++ rest)
parts_fed past bytes records later r limits may good =
    let at = new_blocks-begin past (good_prefix bytes) (records ++ r ∷ []) later (supplied_records-rises line_trace bytes) good limits in
    (at.0, at.1 ∙ ap (λ (l : List Block). l ++ at.0) (recorded_of-fed (past_fed past records) r limits may))

-- The session was fed all records, and then closed.
module _ (tells : Tells) (past : RecordingPast) (rings : PairRings) (s : PairSession) (start p q : Pair) (end : SourceEnd)
    (sound : IsSoundPair tells p) (begins : rings.next ≡ past.first) (whole : HasFedTrace tells past rings s start p end)
    (parts : trace_blocks past whole.pulled ≡ recorded_of (past_fed past (good_prefix whole.pulled)) ++ rest_of (past_fed past (good_prefix whole.pulled)))
    (wrote : PairRecordsFirst tells s.rings (rest_of (past_fed past (good_prefix whole.pulled))) p q)
    (untouched : rest_of (past_fed past (good_prefix whole.pulled)) ≡ [] → EachPairMoment tells start q (IsIdleUntilPull start)) where
  idle_whole : EachPairMoment tells start q (IsIdleUntilPull start)
  idle_whole = ⊎_elim
      (λ some. idle_after tells (past_fed past (good_prefix whole.pulled)) rings s whole.pulled start p sound begins whole.has q
      (rest_of (past_fed past (good_prefix whole.pulled))) wrote some)
      (λ none. untouched (none_left (past_fed past (good_prefix whole.pulled)) (subst IsInLimits whole.stands.header s.rings.limits)
      (no_bytes whole.pulled none)))
      (cases_lt 0 (length whole.pulled))

  pub closed_trace : (left : PairRings) → PairRecordsAll tells s.rings left (rest_of (past_fed past (good_prefix whole.pulled))) p q
      → PairRecordsTrace tells past rings start q (Ok end)
  closed_trace left recorded =
      let before = past_fed past (good_prefix whole.pulled) in
      let all : PairRecordsAll tells rings left (trace_blocks past whole.pulled) start q =
      subst (λ (l : List Block). PairRecordsAll tells rings left l start q) (sym parts)
      (PairRecordsAll-then tells rings s.rings (recorded_of before) start p q whole.has.recorded left (rest_of before) recorded) in
      record {
        pulled = whole.pulled;
        pulls = pulls_after tells before rings s whole.pulled start p sound begins whole.has q (rest_of before) wrote;
        time = time_after tells before rings s whole.pulled start p sound begins whole.has q (rest_of before) wrote;
        counts = counts_after tells before rings s whole.pulled start p sound begins whole.has q (rest_of before) wrote;
        first = λ stops m since few. subst (λ (l : List Block). SideMoment First rings.first l start m) (sym parts)
            (first_after tells before rings s whole.pulled start p sound begins whole.has q (rest_of before) wrote stops m since few);
        second = λ stops m since few. subst (λ (l : List Block). SideMoment Second rings.second l start m) (sym parts)
            (second_after tells before rings s whole.pulled start p sound begins whole.has q (rest_of before) wrote stops m since few);
        first_kept = λ stops m since. subst (λ (l : List Block). SideKept First rings.first l start m) (sym parts)
            (first_kept_after tells before rings s whole.pulled start p sound begins whole.has q (rest_of before) wrote stops m since);
        second_kept = λ stops m since. subst (λ (l : List Block). SideKept Second rings.second l start m) (sym parts)
            (second_kept_after tells before rings s whole.pulled start p sound begins whole.has q (rest_of before) wrote stops m since);
        in_time = in_time_after tells before rings s whole.pulled start p sound begins whole.has q (rest_of before) wrote;
        near = near_after tells before rings s whole.pulled start p sound begins whole.has q (rest_of before) wrote;
        idle = idle_whole;
        recorded = λ done. (left, all);
        within = λ done. omega (arith, all.next, left.bound, begins);
        seq_end = λ e. absurd (cc);
        both_failed = λ e. absurd (cc);
        ends = ends_kept tells start p q whole.pulled end whole.ends wrote.numbers.line.input wrote.numbers.line.input_faults;
        cause = λ e. subst (λ n. Rose start.input_faults n) (sym wrote.numbers.line.input_faults) (whole.cause (same_end end (source.Stopped stop.Failed) e));
      }

  pub unclosed_trace : (f : PairFault) → (f ≡ fault.SeqEnd → PairHasEnded tells s.rings (rest_of (past_fed past (good_prefix whole.pulled))) p q)
      → (f ≡ fault.DiskFault → BothFailed tells s.rings p q) → PairRecordsTrace tells past rings start q (Err f)
  unclosed_trace f ended failed =
      let before = past_fed past (good_prefix whole.pulled) in
      cut_trace tells past rings s whole.pulled (good_prefix whole.pulled) start p q sound begins whole.has (rest_of before) [] wrote
      (parts ∙ sym (append-nil (recorded_of before ++ rest_of before))) idle_whole f whole.ends.decided ended failed
