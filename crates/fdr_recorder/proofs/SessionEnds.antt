-- How a recording in a session begins and ends.
use Rattle.std.proofs.Common.{◌≡◌, ◌≢◌, ◌⊎◌, ⊎_elim, inl, inr, Result, Ok, Err, true, ℕ, ◌+◌, ◌-◌, ◌^◌, ◌<◌, ◌≤◌}
use Rattle.std.proofs.Common.{List, [], ◌∷◌, ◌++◌, length, take, ap, sym, refl, ◌∙◌, subst, length-append, arith, rules}
use Rattle.std.proofs.lemmas.Bool.{cases_lt}
use Rattle.std.proofs.lemmas.List.{append-nil, take-append-le}
use Rattle.std.proofs.Math.Seq.{take-append-add}
use Rattle.fdr_io.specs.Faults.{Rose}
use Rattle.fdr_bus.specs.declared.BusRecord.{BusRecord}
use Rattle.fdr_bus.specs.Records.{IsDecided, good_prefix, has_end, is_end}
use Rattle.fdr_deck.specs.State.{State, Tells}
use Rattle.fdr_deck.specs.Calls.{LeavesDisk}
use Rattle.fdr_deck.specs.Pull.{KeepsInput}
use Rattle.fdr_deck.specs.Moments.{EachMoment, Elapses, IsSoundDeck}
use Rattle.fdr_deck.proofs.Composing.{same_fault}
use Rattle.fdr_deck.proofs.Moments.{EachMoment-weaken, KeepsInput-then}
use Rattle.fdr_slot.specs.Limits.{IsInLimits}
use Rattle.fdr_slot.proofs.HeaderLemmas.{in_limits-is}
use Rattle.fdr_slot.specs.declared.image.Header.{Header}
use Rattle.fdr_recover.specs.Blocks.{Block}
use Rattle.fdr_ring.specs.Rings.{IsRing, IsSureRing}
use Rattle.fdr_trace.specs.Pulls.{PullsUntilDecided}
use Rattle.fdr_trace.specs.Reading.{IsTraceStopped}
use Rattle.fdr_trace.specs.declared.TraceStop.{TraceStop}
use Rattle.fdr_trace.specs.declared.TraceStop.TheVariants as stop
use Rattle.fdr_recorder.specs.Past.{RecordingPast, MayFeedRecording, RepresentsRecording, all_blocks, blocks_due_at, recorded_of, rest_of, past_at_start}
use Rattle.fdr_recorder.specs.Recording.{HasEnded, RecordsAllOf, RecordsFirstOf}
use Rattle.fdr_recorder.specs.Starting.{IsStarted}
use Rattle.fdr_table.specs.Rows.{TableRows}
use Rattle.fdr_recorder.specs.declared.error.SessionFault.{SessionFault}
use Rattle.fdr_recorder.specs.declared.error.SessionFault.TheVariants as session
use Rattle.fdr_recorder.specs.declared.session.Session.{Session}
use Rattle.fdr_recorder.proofs.Adding.{IsSureRing-told}
use Rattle.fdr_recorder.proofs.Composing.{RecordsAllOf-then}
use Rattle.fdr_recorder.proofs.Joined.{recorded_of-fed}
use Rattle.fdr_recorder.proofs.Steps.{keeps_more}
use Rattle.fdr_recorder.specs.Ends.{CutsSession, IsRefusedAtStart, RecordingEnd}
use Rattle.fdr_recorder.specs.Supplied.{Continues, HasFed, HasFedAll, IsBegun, SupplyMoment, past_fed}
use Rattle.fdr_recorder.specs.Supply.{RecordSupply, EndsLine, EndsSupply, HasRunOut, PullsNothing, drawn_trace, line_trace, supplied_records}
use Rattle.fdr_recorder.specs.declared.source.SourceEnd.{SourceEnd}
use Rattle.fdr_recorder.specs.declared.source.SourceEnd.TheVariants as source
use Rattle.fdr_recorder.proofs.NewBlocks.{new_blocks-begin, recorded-long}
use Rattle.fdr_recorder.proofs.Sessions.{HasFed-begun, block_moments, block_pulls, block_time}
use Rattle.fdr_recorder.proofs.Supplies.{supplied_records-rises}
use Rattle.fdr_bus.proofs.TraceLemmas.{has_end-push}

-- ---- the input is left alone

pub keeps_input : (a : State) → KeepsInput a a × (a.input_faults ≡ a.input_faults)
keeps_input a = (record { input = refl; taken = refl; pulled_before = refl }, refl)

-- a call that does nothing, and then one that leaves the input
pub keeps_input_then : (a b c d : State) → KeepsInput a b × (b.input_faults ≡ a.input_faults) → c ≡ b → KeepsInput c d → d.input_faults ≡ c.input_faults
    → KeepsInput a d × (d.input_faults ≡ a.input_faults)
keeps_input_then a b c d kept same line faults =
    (KeepsInput-then a c d (subst (KeepsInput a) (sym same) kept.0) line, faults ∙ ap (λ (x : State). x.input_faults) same ∙ kept.1)

-- ---- how it begins

-- nothing was fed
pub begun : (tells : Tells) (Gave : List ℕ → List BusRecord → Type 0) (s : Session) (past : RecordingPast) (d : State) → IsSoundDeck tells d
    → Gave [] [] → IsBegun tells s past d
    → (bytes : List ℕ) × (records : List BusRecord) × Gave bytes records × RepresentsRecording s (past_fed past records)
    × HasFed tells (past_fed past records) bytes d d
begun tells Gave s past d sound gave is =
    let stands : RepresentsRecording s (past_fed past []) = subst (λ (r : List BusRecord). RepresentsRecording s (past_fed past r)) is.none is.stands in (
      [],
      [],
      gave,
      stands,
      HasFed-begun tells (past_fed past []) d sound (omega (arith, stands.next, is.number)) is.ring is.settled is.announced,
    )

-- a session that was just started
pub begun_at : (tells : Tells) (t : TableRows) (s : Session) (d0 d1 : State) → IsStarted tells t s d0 d1
    → IsBegun tells s (past_at_start t s.ring.header s.ring.next s.session) d1
begun_at tells t s d0 d1 is = record {
  none = refl;
  stands = is.stands;
  number = refl;
  ring = is.fact;
  settled = is.settled;
  announced = is.announced;
}

-- the ring after the records so far
pub sure_at : (tells : Tells) (past : RecordingPast) (bytes : List ℕ) (d0 d d' : State) → IsSureRing tells past.header past.first d0
    → HasFed tells past bytes d0 d → LeavesDisk d d' → IsSureRing tells past.header (past.first + length (recorded_of past)) d'
sure_at tells past bytes d0 d d' ring has leaves =
    IsSureRing-told tells past.header (past.first + length (recorded_of past)) d d' leaves (has.recorded.sure ring)

pub next_at : (past : RecordingPast) (s : Session) → RepresentsRecording s past → past.first + length (recorded_of past) ≡ s.ring.next
next_at past s stands = omega (arith, stands.next, recorded-long past)

pub ring_at : (tells : Tells) (past : RecordingPast) (s : Session) (d : State) → RepresentsRecording s past
    → IsSureRing tells past.header (past.first + length (recorded_of past)) d → IsRing tells s.ring.header s.ring.next d
ring_at tells past s d stands sure =
    subst (λ (h : Header). IsRing tells h s.ring.next d) (sym stands.header)
    (subst (λ (n : ℕ). IsRing tells past.header n d) (next_at past s stands) sure.ring)

pub ring_of : (tells : Tells) (past : RecordingPast) (s : Session) (d : State) → RepresentsRecording s past → IsSureRing tells past.header s.ring.next d
    → IsRing tells s.ring.header s.ring.next d
ring_of tells past s d stands sure = subst (λ (h : Header). IsRing tells h s.ring.next d) (sym stands.header) sure.ring

-- the header of a ring is within its limits, and its number below the last
pub limits_of : (past : RecordingPast) (s : Session) → RepresentsRecording s past → IsInLimits past.header
limits_of past s stands = subst IsInLimits stands.header (in_limits-is s.ring.header s.ring.limits)

pub bound_of : (past : RecordingPast) (s : Session) → RepresentsRecording s past → past.first + length (recorded_of past) ≤ 2 ^ 48
bound_of past s stands = omega (arith, next_at past s stands, s.ring.bound)

-- what holds by the numbers of a session's ring holds by those of its past
at_past : (P : Header → ℕ → Type 0) (past : RecordingPast) (s : Session) → RepresentsRecording s past → P s.ring.header s.ring.next
    → P past.header (past.first + length (recorded_of past))
at_past P past s stands is =
    subst (λ (n : ℕ). P past.header n) (sym (next_at past s stands)) (subst (λ (h : Header). P h s.ring.next) stands.header is)

-- what was recorded at a record, by the numbers of the past
module _ (tells : Tells) (past : RecordingPast) (s : Session) (blocks : List Block) (d d' : State) (stands : RepresentsRecording s past) where
  pub RecordsFirstOf-at : RecordsFirstOf tells s.ring.header s.ring.next blocks d d' → RecordsFirstOf tells past.header
      (past.first + length (recorded_of past)) blocks d d'
  RecordsFirstOf-at = at_past (λ (h : Header) (n : ℕ). RecordsFirstOf tells h n blocks d d') past s stands

  pub RecordsAllOf-at : RecordsAllOf tells s.ring.header s.ring.next blocks d d'
      → RecordsAllOf tells past.header (past.first + length (recorded_of past)) blocks d d'
  RecordsAllOf-at = at_past (λ (h : Header) (n : ℕ). RecordsAllOf tells h n blocks d d') past s stands

  pub HasEnded-at : HasEnded tells s.ring.header s.ring.next blocks d d' → HasEnded tells past.header (past.first + length (recorded_of past)) blocks d d'
  HasEnded-at = at_past (λ (h : Header) (n : ℕ). HasEnded tells h n blocks d d') past s stands

-- ---- how the source ended

-- no further record came
EndsLine-stop : (tells : Tells) (d0 d d' : State) (bytes : List ℕ) (records : List BusRecord) (s : TraceStop)
    → IsTraceStopped tells d d' bytes records s → d.input_faults ≡ d0.input_faults → (s ≢ stop.Failed → d'.input_faults ≡ d.input_faults)
    → EndsLine tells d0 d' bytes (Ok (source.Stopped s))
EndsLine-stop tells d0 d d' bytes records (stop.Refused index why) stopped before quiet = record {
  ended = λ e. absurd (cc);
  refused = λ i w e. let number : index ≡ i = cc in let cause : why ≡ w = cc in rw (← number, ← cause) stopped.first;
  truncated = λ i e told. stopped.end (cc) told;
  undecided = λ e. absurd (cc);
  no_fault = λ all not. quiet (λ e. absurd (cc)) ∙ before;
  decided = λ known. quiet (λ e. absurd (cc)) ∙ before;
}
EndsLine-stop tells d0 d d' bytes records stop.Failed stopped before quiet = search (rules, stopped.undecided)

-- the recording was refused or cut short
pub EndsSupply-cut : (from : RecordSupply) (tells : Tells) (d0 d' : State) (bytes : List ℕ) (f : SessionFault) → PullsNothing from bytes
    → (from ≡ line_trace → IsDecided bytes → d'.input_faults ≡ d0.input_faults) → EndsSupply from tells d0 d' bytes (Err f)
EndsSupply-cut line_trace tells d0 d' bytes f none decided = let quiet = decided refl in search (rules, quiet)
EndsSupply-cut (drawn_trace t seed frames) tells d0 d' bytes f none decided = (none, λ reading. absurd reading)

-- the end record was fed
EndsSupply-end : (from : RecordSupply) (tells : Tells) (d0 d' : State) (bytes : List ℕ) (records : List BusRecord) (r : BusRecord)
    → supplied_records from bytes ≡ records ++ r ∷ [] → is_end r ≡ true → PullsNothing from bytes → d'.input_faults ≡ d0.input_faults
    → EndsSupply from tells d0 d' bytes (Ok source.Ended)
EndsSupply-end line_trace tells d0 d' bytes records r good ends none quiet =
    let end = ap has_end good ∙ has_end-push records r ends in search (rules, end, quiet)
EndsSupply-end (drawn_trace t seed frames) tells d0 d' bytes records r good ends none quiet = (none, λ reading. refl)

-- no further record came
EndsSupply-stop : (from : RecordSupply) (tells : Tells) (d0 d d' : State) (bytes : List ℕ) (records : List BusRecord) (why : TraceStop)
    → HasRunOut from tells d d' bytes records why → d.input_faults ≡ d0.input_faults
    → (why ≢ stop.Failed → d'.input_faults ≡ d.input_faults) → EndsSupply from tells d0 d' bytes (Ok (source.Stopped why))
EndsSupply-stop from tells d0 d d' bytes records why out before quiet =
    subst (λ (x : RecordSupply). EndsSupply x tells d0 d' bytes (Ok (source.Stopped why))) (sym out.input)
    (EndsLine-stop tells d0 d d' bytes records why out.stopped before quiet)

stop_good : (tells : Tells) (d d' : State) (bytes : List ℕ) (records : List BusRecord) (s : TraceStop)
    → IsTraceStopped tells d d' bytes records s → good_prefix bytes ≡ records
stop_good tells d d' bytes records (stop.Refused index why) stopped = stopped.good
stop_good tells d d' bytes records stop.Failed stopped = stopped.good

-- an input that failed was counted
stop_failed : (tells : Tells) (d0 d d' : State) (bytes : List ℕ) (records : List BusRecord) (s : TraceStop)
    → source.Stopped s ≡ source.Stopped stop.Failed → IsTraceStopped tells d d' bytes records s → d.input_faults ≡ d0.input_faults
    → Rose d0.input_faults d'.input_faults
stop_failed tells d0 d d' bytes records (stop.Refused index why) is stopped quiet = absurd (cc)
stop_failed tells d0 d d' bytes records stop.Failed is stopped quiet = subst (λ n. Rose n d'.input_faults) quiet stopped.cause

pub line_failed : (from : RecordSupply) (tells : Tells) (d0 d d' : State) (bytes : List ℕ) (records : List BusRecord) (why : TraceStop)
    → source.Stopped why ≡ source.Stopped stop.Failed → HasRunOut from tells d d' bytes records why → d.input_faults ≡ d0.input_faults
    → Rose d0.input_faults d'.input_faults
line_failed from tells d0 d d' bytes records why is out quiet = stop_failed tells d0 d d' bytes records why is out.stopped quiet

-- all records of the supply were fed
fed_all : (from : RecordSupply) (tells : Tells) (past : RecordingPast) (s : Session) (d0 d' : State) (bytes : List ℕ) (records : List BusRecord)
    (end : SourceEnd) → IsSureRing tells past.header past.first d0 → RepresentsRecording s (past_fed past records)
    → HasFed tells (past_fed past records) bytes d0 d' → supplied_records from bytes ≡ records → EndsSupply from tells d0 d' bytes (Ok end)
    → HasFedAll from tells past s d0 d' end
fed_all from tells past s d0 d' bytes records end ring stands has good ends = record {
  pulled = bytes;
  stands = subst (λ (r : List BusRecord). RepresentsRecording s (past_fed past r)) (sym good) stands;
  ring = subst (λ (n : ℕ). IsSureRing tells past.header n d') (next_at (past_fed past records) s stands) (has.recorded.sure ring);
  has = subst (λ (r : List BusRecord). HasFed tells (past_fed past r) bytes d0 d') (sym good) has;
  ends = ends;
}

pub HasFedAll-stop : (from : RecordSupply) (tells : Tells) (past : RecordingPast) (s : Session) (d0 d d' : State) (bytes : List ℕ)
    (records : List BusRecord) (why : TraceStop) → IsSureRing tells past.header past.first d0 → RepresentsRecording s (past_fed past records)
    → HasFed tells (past_fed past records) bytes d0 d' → HasRunOut from tells d d' bytes records why → d.input_faults ≡ d0.input_faults
    → (why ≢ stop.Failed → d'.input_faults ≡ d.input_faults) → HasFedAll from tells past s d0 d' (source.Stopped why)
HasFedAll-stop from tells past s d0 d d' bytes records why ring stands has out before quiet =
    fed_all from tells past s d0 d' bytes records (source.Stopped why) ring stands has
    (ap (λ (x : RecordSupply). supplied_records x bytes) out.input ∙ stop_good tells d d' bytes records why out.stopped)
    (EndsSupply-stop from tells d0 d d' bytes records why out before quiet)

pub HasFedAll-end : (from : RecordSupply) (tells : Tells) (past : RecordingPast) (s : Session) (d0 d' : State) (bytes : List ℕ)
    (records : List BusRecord) (r : BusRecord) → IsSureRing tells past.header past.first d0 → RepresentsRecording s (past_fed past (records ++ r ∷ []))
    → HasFed tells (past_fed past (records ++ r ∷ [])) bytes d0 d' → supplied_records from bytes ≡ records ++ r ∷ []
    → is_end r ≡ true → PullsNothing from bytes → d'.input_faults ≡ d0.input_faults → HasFedAll from tells past s d0 d' source.Ended
HasFedAll-end from tells past s d0 d' bytes records r ring stands has good ends none quiet =
    fed_all from tells past s d0 d' bytes (records ++ r ∷ []) source.Ended ring stands has good
    (EndsSupply-end from tells d0 d' bytes records r good ends none quiet)

-- ---- where a record couldn't be fed

pub only_two : {T : Type 0} (f : SessionFault) → ◌≡◌ {A = Result T SessionFault} (Err f) (Err session.DiskFault)
    ⊎ ◌≡◌ {A = Result T SessionFault} (Err f) (Err session.SeqEnd) → (f ≡ session.DiskFault) ⊎ (f ≡ session.SeqEnd)
only_two f only = ⊎_elim (λ e. inl (same_fault e)) (λ e. inr (same_fault e)) only

-- where the disk didn't fail, the numbers ended
pub ended_only : (f : SessionFault) → (f ≡ session.DiskFault) ⊎ (f ≡ session.SeqEnd) → (f ≡ session.DiskFault → ⊥) → f ≡ session.SeqEnd
ended_only f only other = ⊎_elim (λ e. absurd (other e)) (λ e. e) only

-- the two faults that cut a recording short
pub two_cut : (f : SessionFault) → (f ≡ session.DiskFault) ⊎ (f ≡ session.SeqEnd) → CutsSession f
two_cut f only = ⊎_elim
    (λ (e : f ≡ session.DiskFault). rw e tt)
    (λ (e : f ≡ session.SeqEnd). rw e tt)
    only

-- the first blocks of three stretches, as many as reach into the second
take_two : (xs ys zs : List Block) (n m : ℕ) → n ≡ length xs + m → m ≤ length ys → take n ((xs ++ ys) ++ zs) ≡ xs ++ take m ys
take_two xs ys zs n m is within =
    take-append-le n (xs ++ ys) zs (omega (arith, is, within, length-append xs ys))
    ∙ ap (λ k. take k (xs ++ ys)) is ∙ take-append-add xs ys m

-- blocks were recorded after those of the records so far, and no others, or an error came
module _ (from : RecordSupply) (tells : Tells) (past : RecordingPast) (d0 d d' : State) (bytes : List ℕ) (records : List BusRecord) (blocks rest : List Block)
    (sound0 : IsSoundDeck tells d0) (s : Session) (is : IsBegun tells s past d0) (has : HasFed tells (past_fed past records) bytes d0 d)
    (wrote : RecordsFirstOf tells past.header (past.first + length (recorded_of (past_fed past records))) blocks d d')
    (parts : all_blocks (past_fed past (supplied_records from bytes)) ≡ (recorded_of (past_fed past records) ++ blocks) ++ rest)
  where
    moments : d0.greatest ≤ past.first
        → EachMoment tells d0 d' (SupplyMoment past d0 (all_blocks (past_fed past (supplied_records from bytes))) bytes)
    moments few =
        let before = recorded_of (past_fed past records) ++ blocks in
        subst (λ (l : List Block). EachMoment tells d0 d' (SupplyMoment past d0 l bytes)) (sym parts)
        (EachMoment-weaken tells d0 d' (SupplyMoment past d0 before bytes) (SupplyMoment past d0 (before ++ rest) bytes)
        (λ m at. search (rules, keeps_more, at))
        (block_moments tells (past_fed past records) d0 d d' bytes sound0 is.ring is.settled is.announced has blocks wrote few))

    pulls : PullsUntilDecided tells d0 d' [] bytes
    pulls = block_pulls tells (past_fed past records) d0 d d' bytes sound0 is.ring is.settled is.announced has blocks wrote

    time : Elapses tells d0 d'
    time = block_time tells (past_fed past records) d0 d d' bytes sound0 is.ring is.settled is.announced has blocks wrote

    Continues-cut : (f : SessionFault) → past.first + length (recorded_of (past_fed past records)) ≤ 2 ^ 48
        → (f ≡ session.SeqEnd → HasEnded tells past.header (past.first + length (recorded_of (past_fed past records))) blocks d d')
        → EndsSupply from tells d0 d' bytes (Err f) → Continues from tells past d0 d' (Err f)
    Continues-cut f bound ended ends =
        let a = recorded_of (past_fed past records) in
        record {
          pulled = bytes;
          pulls = pulls;
          time = time;
          moments = moments;
          recorded = λ whole. absurd whole;
          within = λ whole. absurd whole;
          seq_end = λ e.
              let end = ended (same_fault e) in
              let n : 2 ^ 48 - past.first ≡ length a + (2 ^ 48 - (past.first + length a)) = omega (arith, bound) in
              let cut : 2 ^ 48 - (past.first + length a) ≤ length blocks = omega (arith, end.beyond) in
              subst (λ (l : List Block). RecordsAllOf tells past.header past.first l d0 d')
              (sym (ap (λ (l : List Block). take (2 ^ 48 - past.first) l) parts
              ∙ take_two a blocks rest (2 ^ 48 - past.first) (2 ^ 48 - (past.first + length a)) n cut))
              (RecordsAllOf-then tells past.header past.first a (take (2 ^ 48 - (past.first + length a)) blocks) d0 d d' has.recorded end.recorded);
          beyond = λ e.
              let end = ended (same_fault e) in
              omega (arith, end.beyond, ap length parts, length-append (a ++ blocks) rest, length-append a blocks);
          ends = ends;
        }

    Continues-all : (end : SourceEnd) → rest ≡ [] → past.first + length (recorded_of (past_fed past records)) + length blocks ≤ 2 ^ 48
        → RecordsAllOf tells past.header (past.first + length (recorded_of (past_fed past records))) blocks d d'
        → EndsSupply from tells d0 d' bytes (Ok end) → Continues from tells past d0 d' (Ok end)
    Continues-all end none bound recorded ends =
        let a = recorded_of (past_fed past records) in
        let whole : all_blocks (past_fed past (supplied_records from bytes)) ≡ a ++ blocks =
        parts ∙ ap (λ (l : List Block). (a ++ blocks) ++ l) none ∙ append-nil (a ++ blocks) in
        record {
          pulled = bytes;
          pulls = pulls;
          time = time;
          moments = moments;
          recorded = λ all. subst (λ (l : List Block). RecordsAllOf tells past.header past.first l d0 d') (sym whole)
              (RecordsAllOf-then tells past.header past.first a blocks d0 d d' has.recorded recorded);
          within = λ all. omega (arith, bound, ap length whole, length-append a blocks);
          seq_end = λ e. absurd (cc);
          beyond = λ e. absurd (cc);
          ends = ends;
        }

pub Continues-fault : (from : RecordSupply) (tells : Tells) (past : RecordingPast) (d0 d d' : State) (bytes : List ℕ) (records later : List BusRecord)
    (r : BusRecord) (f : SessionFault) → IsSoundDeck tells d0 → (s : Session) → IsBegun tells s past d0 → IsInLimits past.header
    → HasFed tells (past_fed past records) bytes d0 d → MayFeedRecording (past_fed past records) r
    → supplied_records from bytes ≡ (records ++ r ∷ []) ++ later → PullsNothing from bytes
    → RecordsFirstOf tells past.header (past.first + length (recorded_of (past_fed past records))) (blocks_due_at (past_fed past records) r) d d'
    → d.input_faults ≡ d0.input_faults → past.first + length (recorded_of (past_fed past records)) ≤ 2 ^ 48
    → (f ≡ session.SeqEnd
    → HasEnded tells past.header (past.first + length (recorded_of (past_fed past records))) (blocks_due_at (past_fed past records) r) d d')
    → Continues from tells past d0 d' (Err f)
Continues-fault from tells past d0 d d' bytes records later r f sound0 s is limits has may good none wrote quiet bound ended =
    let more = new_blocks-begin past (supplied_records from bytes) (records ++ r ∷ []) later (supplied_records-rises from bytes) good limits in
    let parts : all_blocks (past_fed past (supplied_records from bytes))
    ≡ (recorded_of (past_fed past records) ++ blocks_due_at (past_fed past records) r) ++ more.0 =
    more.1 ∙ ap (λ (l : List Block). l ++ more.0) (recorded_of-fed (past_fed past records) r limits may) in
    Continues-cut from tells past d0 d d' bytes records (blocks_due_at (past_fed past records) r) more.0 sound0 s is has wrote parts f bound ended
    (EndsSupply-cut from tells d0 d' bytes f none (λ line known. wrote.input_faults ∙ quiet))

-- ---- where the session is closed

-- a fault that cuts a recording short comes after its start
pub cut_begun : (f : SessionFault) → CutsSession f → IsRefusedAtStart f → ⊥
cut_begun (session.Image why) cut early = cut
cut_begun (session.WordsDiffer image table) cut early = cut
cut_begun session.OldVersion cut early = cut
cut_begun session.DiskFault cut early = early
cut_begun session.SeqEnd cut early = early
cut_begun session.NoMemory cut early = cut

-- so no fault at the start is how it ended
pub cut_after_start : (f : SessionFault) → CutsSession f → (f' : SessionFault) → ◌≡◌ {A = RecordingEnd} (Err f) (Err f') → IsRefusedAtStart f' → ⊥
cut_after_start f cut f' e early = let same : f' ≡ f = cc in cut_begun f cut (subst IsRefusedAtStart same early)

pub recorded_after_start : (end : SourceEnd) (f : SessionFault) → ◌≡◌ {A = RecordingEnd} (Ok end) (Err f) → IsRefusedAtStart f → ⊥
recorded_after_start end f e early = cc

pub cut_not_memory : (f : SessionFault) → CutsSession f → f ≡ session.NoMemory → ⊥
cut_not_memory f cut e = rw e at cut

-- an image that isn't too small
pub not_short : (n : ℕ) → (n < 64 → ⊥) → 64 ≤ n
not_short n long = ⊎_elim (λ (short : n < 64). absurd (long short)) (λ (fits : 64 ≤ n). fits) (cases_lt n 64)

-- calls that leave the input, before and after, leave how the supply ended
pub EndsSupply-kept : (from : RecordSupply) (tells : Tells) (d0 e0 d d' : State) (bytes : List ℕ) (end : RecordingEnd)
    → EndsSupply from tells d0 d bytes end → d0.input_faults ≡ e0.input_faults → d'.input ≡ d.input → d'.input_faults ≡ d.input_faults
    → EndsSupply from tells e0 d' bytes end
EndsSupply-kept line_trace tells d0 e0 d d' bytes end ends before line faults = record {
  ended = ends.ended;
  refused = ends.refused;
  truncated = λ index e told. line ∙ ends.truncated index e told;
  undecided = ends.undecided;
  no_fault = λ all not. faults ∙ ends.no_fault all not ∙ before;
  decided = λ known. faults ∙ ends.decided known ∙ before;
}
EndsSupply-kept (drawn_trace t seed frames) tells d0 e0 d d' bytes end ends before line faults = ends

-- where the trace on the input is decided, no fault of it was met
decided_quiet : (from : RecordSupply) (tells : Tells) (d0 d d' : State) (bytes : List ℕ) (end : RecordingEnd) → EndsSupply from tells d0 d bytes end
    → d'.input_faults ≡ d.input_faults → from ≡ line_trace → IsDecided bytes → d'.input_faults ≡ d0.input_faults
decided_quiet line_trace tells d0 d d' bytes end ends faults line known = faults ∙ ends.decided known
decided_quiet (drawn_trace t seed frames) tells d0 d d' bytes end ends faults line known = absurd (cc)

nothing_pulled : (from : RecordSupply) (tells : Tells) (d0 d : State) (bytes : List ℕ) (end : RecordingEnd) → EndsSupply from tells d0 d bytes end
    → PullsNothing from bytes
nothing_pulled line_trace tells d0 d bytes end ends = tt
nothing_pulled (drawn_trace t seed frames) tells d0 d bytes end ends = ends.0

-- the records of a supply were fed
abbrev fed : RecordSupply → RecordingPast → List ℕ → RecordingPast
fed from past bytes = past_fed past (supplied_records from bytes)

module _ (from : RecordSupply) (tells : Tells) (past : RecordingPast) (d0 d d' : State) (s0 s : Session) (end : SourceEnd)
    (sound0 : IsSoundDeck tells d0) (is : IsBegun tells s0 past d0) (whole : HasFedAll from tells past s d0 d end)
  where
    -- the last block is written, or an error comes
    module _ (parts : all_blocks (fed from past whole.pulled) ≡ recorded_of (fed from past whole.pulled) ++ rest_of (fed from past whole.pulled))
        (wrote : RecordsFirstOf tells s.ring.header s.ring.next (rest_of (fed from past whole.pulled)) d d')
      where
        pub Continues-closed : (n : ℕ) → n ≡ s.ring.next + length (rest_of (fed from past whole.pulled)) → n ≤ 2 ^ 48
            → RecordsAllOf tells s.ring.header s.ring.next (rest_of (fed from past whole.pulled)) d d' → Continues from tells past d0 d' (Ok end)
        Continues-closed n next bound recorded =
            let p = fed from past whole.pulled in
            Continues-all from tells past d0 d d' whole.pulled (supplied_records from whole.pulled) (rest_of p) [] sound0 s0 is whole.has
            (RecordsFirstOf-at tells p s (rest_of p) d d' whole.stands wrote) (parts ∙ sym (append-nil (recorded_of p ++ rest_of p))) end refl
            (omega (arith, bound, next, next_at p s whole.stands)) (RecordsAllOf-at tells p s (rest_of p) d d' whole.stands recorded)
            (EndsSupply-kept from tells d0 d0 d d' whole.pulled (Ok end) whole.ends refl wrote.input.input wrote.input_faults)

        -- its number is announced
        pub told_closed : (n : ℕ) → n ≡ s.ring.next + length (rest_of (fed from past whole.pulled))
            → RecordsAllOf tells s.ring.header s.ring.next (rest_of (fed from past whole.pulled)) d d' → n ≡ d'.announced
        told_closed n next recorded =
            let number = next_at (fed from past whole.pulled) s whole.stands in
            let here = whole.has.recorded.announced is.announced in
            omega (arith, next, number, here, recorded.announced (omega (arith, here, number)))

        pub Continues-unclosed : (f : SessionFault)
            → (f ≡ session.SeqEnd → HasEnded tells s.ring.header s.ring.next (rest_of (fed from past whole.pulled)) d d')
            → Continues from tells past d0 d' (Err f)
        Continues-unclosed f ended =
            let p = fed from past whole.pulled in
            Continues-cut from tells past d0 d d' whole.pulled (supplied_records from whole.pulled) (rest_of p) [] sound0 s0 is whole.has
            (RecordsFirstOf-at tells p s (rest_of p) d d' whole.stands wrote) (parts ∙ sym (append-nil (recorded_of p ++ rest_of p))) f
            (bound_of p s whole.stands) (λ e. HasEnded-at tells p s (rest_of p) d d' whole.stands (ended e))
            (EndsSupply-cut from tells d0 d' whole.pulled f (nothing_pulled from tells d0 d whole.pulled (Ok end) whole.ends)
            (decided_quiet from tells d0 d d' whole.pulled (Ok end) whole.ends wrote.input_faults))
