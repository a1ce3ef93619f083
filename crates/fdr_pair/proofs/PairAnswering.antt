-- Which answer a recording on two disks gives once it was started.
use Rattle.std.proofs.Common.{◌≡◌, ◌⊎◌, ⊎_elim, inl, inr, true, false, ℕ, ◌-◌, ◌^◌, ◌<◌, ◌≤◌, List, [], Option, Some, None, Result, Ok, Err}
use Rattle.std.proofs.Common.{ap, sym, refl, ◌∙◌, subst, arith, eq-eqb}
use Rattle.std.proofs.lemmas.Bool.{cases_lt, cond-true, cond-false, lt-ltb, le-ltb}
use Rattle.std.proofs.lemmas.Bool.Decides.{nat_tests}
use Rattle.std.specs.Prelude.{nat_lt, nat_eq, if◌then◌else◌}
use Rattle.fdr_io.specs.Faults.{Rose}
use Rattle.fdr_io.specs.declared.Input.TheVariants as input
use Rattle.fdr_deck.specs.State.{Tells}
use Rattle.fdr_slot.specs.declared.image.Header.{Header}
use Rattle.fdr_slot.specs.declared.image.ImageFault.{ImageFault}
use Rattle.fdr_recover.specs.Blocks.{Block}
use Rattle.fdr_recover.specs.ImageHeader.{image_fault_of, header_in}
use Rattle.fdr_ring.specs.declared.ring.Ring.{Ring}
use Rattle.fdr_table.specs.Rows.{TableRows}
use Rattle.fdr_trace.specs.declared.TraceStop.TheVariants as stop
use Rattle.fdr_twin.specs.declared.side.Side.{Side}
use Rattle.fdr_twin.specs.declared.side.Side.TheVariants.{First, Second}
use Rattle.fdr_twin.specs.Pair.{Pair, Disk, disk_on}
use Rattle.fdr_recorder.specs.Past.{past_at_start}
use Rattle.fdr_recorder.specs.Ends.{HasRecordedSource}
use Rattle.fdr_recorder.specs.declared.source.SourceEnd.{SourceEnd}
use Rattle.fdr_recorder.specs.declared.source.SourceEnd.TheVariants as source
use Rattle.fdr_pair.specs.Bringing.{HasNoFault}
use Rattle.fdr_pair.specs.Living.{HasLiving, SideNow}
use Rattle.fdr_pair.specs.Opening.{AreCountsBelowMost, HasLivingSide, checked, frame_refusal, header_after, header_or_fault, header_read, opening}
use Rattle.fdr_pair.specs.Opening.{same_header, opened_unless}
use Rattle.fdr_pair.specs.PairAnswers.{recording_answer_of}
use Rattle.fdr_pair.specs.PairRun.{HasPairCause, LeavesPair, RefusesHeaders, RefusesRuns}
use Rattle.fdr_pair.specs.PairRecording.{PairRecordsAll}
use Rattle.fdr_pair.specs.PairStages.{EndsPairTrace, IsPastPairTable, LeavesPairLine, WritesOnNeither}
use Rattle.fdr_pair.specs.PairStarting.{HasHeaderUnlessFailed, IsCountedByRing, IsPairStarted, ring_on}
use Rattle.fdr_pair.specs.Traces.{PairRecordsTrace, recording_end}
use Rattle.fdr_pair.specs.declared.fault.PairFault.{PairFault}
use Rattle.fdr_pair.specs.declared.fault.PairFault.TheVariants as fault
use Rattle.fdr_pair.specs.declared.open.LivingSides.TheVariants as living
use Rattle.fdr_pair.specs.declared.open.Opened.{Opened}
use Rattle.fdr_pair.specs.declared.open.SideHeader.{SideHeader}
use Rattle.fdr_pair.specs.declared.open.SideHeader.TheVariants as header
use Rattle.fdr_pair.specs.declared.outcome.PairOutcome.{PairOutcome}
use Rattle.fdr_pair.specs.declared.outcome.PairOutcome.TheVariants as outcome
use Rattle.fdr_pair.specs.declared.rings.PairRings.{PairRings}
use Rattle.fdr_pair.specs.declared.start.PairStart.{PairStart}
use Rattle.fdr_pair.specs.Opening.{IsHeaderAnswer}

-- ---- the answers of a recording that was started

pub recording_past : (end : Result SourceEnd PairFault) → IsPastPairTable (recording_answer_of end)
recording_past (Ok source.Ended) = tt
recording_past (Ok (source.Stopped (stop.Refused index why))) = tt
recording_past (Ok (source.Stopped stop.Failed)) = tt
recording_past (Err fault.DiskFault) = tt
recording_past (Err fault.SeqEnd) = tt

recording_writes : (end : Result SourceEnd PairFault) → WritesOnNeither (recording_answer_of end) → ⊥
recording_writes (Ok source.Ended) none = none
recording_writes (Ok (source.Stopped (stop.Refused index why))) none = none
recording_writes (Ok (source.Stopped stop.Failed)) none = none
recording_writes (Err fault.DiskFault) none = none
recording_writes (Err fault.SeqEnd) none = none

recording_pulls : (end : Result SourceEnd PairFault) → LeavesPairLine (recording_answer_of end) → ⊥
recording_pulls (Ok source.Ended) none = none
recording_pulls (Ok (source.Stopped (stop.Refused index why))) none = none
recording_pulls (Ok (source.Stopped stop.Failed)) none = none
recording_pulls (Err fault.DiskFault) none = none
recording_pulls (Err fault.SeqEnd) none = none

disk_failed : (end : Result SourceEnd PairFault) → recording_answer_of end ≡ outcome.DiskFault → end ≡ Err fault.DiskFault
disk_failed (Ok source.Ended) e = absurd (cc)
disk_failed (Ok (source.Stopped (stop.Refused index why))) e = absurd (cc)
disk_failed (Ok (source.Stopped stop.Failed)) e = absurd (cc)
disk_failed (Err fault.DiskFault) e = refl
disk_failed (Err fault.SeqEnd) e = absurd (cc)

line_failed : (end : Result SourceEnd PairFault) → recording_answer_of end ≡ outcome.ReadFault input.Line → end ≡ Ok (source.Stopped stop.Failed)
line_failed (Ok source.Ended) e = absurd (cc)
line_failed (Ok (source.Stopped (stop.Refused index why))) e = absurd (cc)
line_failed (Ok (source.Stopped stop.Failed)) e = refl
line_failed (Err fault.DiskFault) e = absurd (cc)
line_failed (Err fault.SeqEnd) e = absurd (cc)

-- an answer by the headers comes before anything is written
header_writes : (answer : PairOutcome) → IsHeaderAnswer answer → WritesOnNeither answer
header_writes answer (inl refused) = subst WritesOnNeither (sym refused.2) tt
header_writes answer (inr (inl differ)) = subst WritesOnNeither (sym differ) tt
header_writes answer (inr (inr (inl words))) = subst WritesOnNeither (sym words.2) tt
header_writes answer (inr (inr (inr version))) = subst WritesOnNeither (sym version) tt

-- ---- headers that are right

frame_right : (words : ℕ) (h : Header) → h.words ≡ words → h.version ≡ 2 → frame_refusal words h ≡ None
frame_right words h count version =
    let right : nat_eq h.words words ≡ true = eq-eqb h.words words count in
    let current : nat_eq h.version 1 ≡ false = grind (arith, nat_tests) in
    cond-true (nat_eq h.words words) (if nat_eq h.version 1 then Some outcome.OldVersion else None) (Some (outcome.WordsDiffer h.words words)) right
    ∙ cond-false (nat_eq h.version 1) (Some outcome.OldVersion) None current

checked_right : (words : ℕ) (o : Opened) → o.header.words ≡ words → o.header.version ≡ 2 → checked words (Ok o) ≡ Ok o
checked_right words o count version = ap (λ (r : Option PairOutcome). opened_unless r o) (frame_right words o.header count version)

same_header_self : (h : Header) → same_header h h ≡ true
same_header_self h =
    let slots : nat_eq h.slots h.slots ≡ true = eq-eqb h.slots h.slots refl in
    let payload : nat_eq h.payload h.payload ≡ true = eq-eqb h.payload h.payload refl in
    let words : nat_eq h.words h.words ≡ true = eq-eqb h.words h.words refl in
    let version : nat_eq h.version h.version ≡ true = eq-eqb h.version h.version refl in
    rw (slots, payload, words, version) refl

-- an opened pair isn't refused
not_refused : (o : Opened) (r : Result Opened PairOutcome) (why : PairOutcome) → r ≡ Ok o → r ≡ Err why → ⊥
not_refused o r why ok err = let c : ◌≡◌ {A = Result Opened PairOutcome} (Ok o) (Err why) = sym ok ∙ err in cc

-- Each side has failed or has this header, which is right.
module _ (words : ℕ) (h : Header) (count : h.words ≡ words) (version : h.version ≡ 2) where
  right_opened : (a b : SideHeader) (why : PairOutcome) → (a ≡ header.Failed) ⊎ (a ≡ header.Read h) → (b ≡ header.Failed) ⊎ (b ≡ header.Read h)
      → opening words a b ≡ Err why → why ≡ outcome.DiskFault
  right_opened a b why (inl none) (inl neither) is =
      let c : opening words header.Failed header.Failed ≡ Err why =
      subst (λ (x : SideHeader). opening words x header.Failed ≡ Err why) none (subst (λ (x : SideHeader). opening words a x ≡ Err why) neither is) in
      cc
  right_opened a b why (inl none) (inr read) is =
      let c : opening words header.Failed (header.Read h) ≡ Err why =
      subst (λ (x : SideHeader). opening words x (header.Read h) ≡ Err why) none (subst (λ (x : SideHeader). opening words a x ≡ Err why) read is) in
      let o : Opened = record { header = h; living = living.OnlySecond } in
      absurd (not_refused o (checked words (Ok o)) why (checked_right words o count version) c)
  right_opened a b why (inr read) (inl none) is =
      let c : opening words (header.Read h) header.Failed ≡ Err why =
      subst (λ (x : SideHeader). opening words x header.Failed ≡ Err why) read (subst (λ (x : SideHeader). opening words a x ≡ Err why) none is) in
      let o : Opened = record { header = h; living = living.OnlyFirst } in
      absurd (not_refused o (checked words (Ok o)) why (checked_right words o count version) c)
  right_opened a b why (inr one) (inr two) is =
      let c : opening words (header.Read h) (header.Read h) ≡ Err why =
      subst (λ (x : SideHeader). opening words x (header.Read h) ≡ Err why) one (subst (λ (x : SideHeader). opening words a x ≡ Err why) two is) in
      let o : Opened = record { header = h; living = living.Both } in
      let both : opening words (header.Read h) (header.Read h) ≡ Ok o =
      ap (checked words) (cond-true (same_header h h) (Ok o) (Err outcome.HeadersDiffer) (same_header_self h)) ∙ checked_right words o count version in
      absurd (not_refused o (opening words (header.Read h) (header.Read h)) why both c)

  -- and so no answer by the headers comes
  pub no_header_refusal : (a b : SideHeader) (why : PairOutcome) → (a ≡ header.Failed) ⊎ (a ≡ header.Read h) → (b ≡ header.Failed) ⊎ (b ≡ header.Read h)
      → IsHeaderAnswer why → opening words a b ≡ Err why → ⊥
  no_header_refusal a b why first second is refused =
      subst WritesOnNeither (right_opened a b why first second refused) (header_writes why is)

-- a side whose count of faults isn't above its first one shows its header
pub header_unfailed : (h : Header) (old new : Disk) → new.faults ≤ old.faults → image_fault_of old.held ≡ None → h ≡ header_in old.held
    → header_after old new ≡ header.Read h
header_unfailed h old new few none same =
    cond-false (nat_lt old.faults new.faults) header.Failed (header_read old.held) (le-ltb old.faults new.faults few)
    ∙ ap (λ (o : Option ImageFault). header_or_fault o (header_in old.held)) none ∙ ap header.Read (sym same)

-- a side of a recording that was started has failed, or shows the header of the recording
shown_or_failed : (h : Header) (side : Side) (old start new : Pair) → HasHeaderUnlessFailed h side old start
    → (disk_on side start).faults ≤ (disk_on side new).faults → (disk_on side new).faults < 2 ^ 64 - 1
    → (header_after (disk_on side old) (disk_on side new) ≡ header.Failed) ⊎ (header_after (disk_on side old) (disk_on side new) ≡ header.Read h)
shown_or_failed h side old start new right later below = ⊎_elim
    (λ (more : (disk_on side old).faults < (disk_on side new).faults).
    inl (cond-true (nat_lt (disk_on side old).faults (disk_on side new).faults) header.Failed (header_read (disk_on side old).held)
    (lt-ltb (disk_on side old).faults (disk_on side new).faults more)))
    (λ (few : (disk_on side new).faults ≤ (disk_on side old).faults). ⊎_elim
    (λ rose. absurd (omega (arith, rose, later, below, few)))
    (λ is. inr (header_unfailed h (disk_on side old) (disk_on side new) few is.0 is.1))
    right)
    (cases_lt (disk_on side old).faults (disk_on side new).faults)

-- ---- the counts of faults

-- The count of faults of a side is as it was where the side has no ring, and else hasn't fallen.
abbrev pub LaterCount : Option Ring → ℕ → ℕ → Type 0
LaterCount None start new = new ≡ start
LaterCount (Some r) start new = Rose start new ⊎ (start ≤ new)

later_count : (tells : Tells) (side : Side) (o u : Option Ring) (done : List Block) (start new : Pair) → SideNow tells side o u done start new
    → LaterCount o (disk_on side start).faults (disk_on side new).faults
later_count tells side None None done start new now = now
later_count tells side None (Some s) done start new now = absurd now
later_count tells side (Some r) None done start new now = inl now
later_count tells side (Some r) (Some s) done start new now = inr (omega (arith, now.faults))

not_fallen : (o : Option Ring) (start new : ℕ) → LaterCount o start new → new < 2 ^ 64 - 1 → start ≤ new
not_fallen None start new later below = omega (arith, later)
not_fallen (Some r) start new later below = ⊎_elim (λ rose. omega (arith, rose, below)) (λ kept. kept) later

-- a count that is as it was at entry was so at the start
same_at_start : (o : Option Ring) (old start new : ℕ) → IsCountedByRing o old start → LaterCount o start new → new < 2 ^ 64 - 1 → new ≡ old
    → start ≡ old
same_at_start None old start new rose later below same = absurd (omega (arith, rose, later, below, same))
same_at_start (Some r) old start new counted later below same = counted

-- a side that has failed, failed since entry
failed_since : (tells : Tells) (side : Side) (o : Option Ring) (old start new : Pair)
    → IsCountedByRing o (disk_on side old).faults (disk_on side start).faults → SideNow tells side o None [] start new
    → Rose (disk_on side old).faults (disk_on side new).faults
failed_since tells side None old start new rose now = omega (arith, rose, now)
failed_since tells side (Some r) old start new counted now = omega (arith, counted, now)

-- a side that has a ring now has the count of faults that it had at entry
same_since : (tells : Tells) (side : Side) (o : Option Ring) (r : Ring) (done : List Block) (old start new : Pair)
    → IsCountedByRing o (disk_on side old).faults (disk_on side start).faults → SideNow tells side o (Some r) done start new
    → (disk_on side new).faults ≡ (disk_on side old).faults
same_since tells side None r done old start new counted now = absurd now
same_since tells side (Some s) r done old start new counted now = now.faults ∙ counted

-- at least one side has a ring now
living_since : (tells : Tells) (o u first second : Option Ring) (done : List Block) (old start new : Pair) → HasLiving first second
    → IsCountedByRing o old.first.faults start.first.faults → IsCountedByRing u old.second.faults start.second.faults
    → SideNow tells First o first done start new → SideNow tells Second u second done start new → HasLivingSide old new
living_since tells o u (Some r) second done old start new living one two here there = inl (same_since tells First o r done old start new one here)
living_since tells o u None (Some r) done old start new living one two here there = inr (same_since tells Second u r done old start new two there)
living_since tells o u None None done old start new living one two here there = absurd (cc)

-- A recording was started, and the trace was recorded.
module _ (t : TableRows) (tells : Tells) (s : PairStart) (old start new : Pair) (is : IsPairStarted t tells s old start)
    (end : Result SourceEnd PairFault)
    (records : PairRecordsTrace tells (past_at_start t s.session.rings.header s.session.rings.next s.session.session) s.session.rings start new end) where
  later_of : (e : Result SourceEnd PairFault) → end ≡ e → (side : Side)
      → LaterCount (ring_on side s.session.rings) (disk_on side start).faults (disk_on side new).faults
  later_of (Ok f) e First =
      let all = records.recorded (subst (λ (x : Result SourceEnd PairFault). HasRecordedSource (recording_end x)) (sym e) tt) in
      later_count tells First s.session.rings.first all.0.first _ start new all.1.first
  later_of (Ok f) e Second =
      let all = records.recorded (subst (λ (x : Result SourceEnd PairFault). HasRecordedSource (recording_end x)) (sym e) tt) in
      later_count tells Second s.session.rings.second all.0.second _ start new all.1.second
  later_of (Err fault.DiskFault) e First = later_count tells First s.session.rings.first None [] start new (records.both_failed e).first
  later_of (Err fault.DiskFault) e Second = later_count tells Second s.session.rings.second None [] start new (records.both_failed e).second
  later_of (Err fault.SeqEnd) e First =
      let ended = records.seq_end e in later_count tells First s.session.rings.first ended.left.first _ start new ended.recorded.first
  later_of (Err fault.SeqEnd) e Second =
      let ended = records.seq_end e in later_count tells Second s.session.rings.second ended.left.second _ start new ended.recorded.second

  -- the count of each side from the start on
  pub later : (side : Side) → LaterCount (ring_on side s.session.rings) (disk_on side start).faults (disk_on side new).faults
  later = later_of end refl

  -- not both sides have failed
  lives_by : (left : PairRings) (done : List Block) → PairRecordsAll tells s.session.rings left done start new → HasLivingSide old new
  lives_by left done all = living_since tells s.session.rings.first s.session.rings.second left.first left.second done old start new left.living
      (is.counts First) (is.counts Second) all.first all.second

  lives_of : (e : Result SourceEnd PairFault) → end ≡ e → EndsPairTrace (recording_answer_of e) ⊎ (recording_answer_of e ≡ outcome.SeqEnd)
      → HasLivingSide old new
  lives_of (Ok f) e late =
      let all = records.recorded (subst (λ (x : Result SourceEnd PairFault). HasRecordedSource (recording_end x)) (sym e) tt) in lives_by all.0 _ all.1
  lives_of (Err fault.DiskFault) e late = absurd (⊎_elim (λ (ends : EndsPairTrace outcome.DiskFault). ends)
      (λ (is : outcome.DiskFault ≡ outcome.SeqEnd). cc) late)
  lives_of (Err fault.SeqEnd) e late = let ended = records.seq_end e in lives_by ended.left _ ended.recorded

  pub recorded_lives : EndsPairTrace (recording_answer_of end) ⊎ (recording_answer_of end ≡ outcome.SeqEnd) → HasLivingSide old new
  recorded_lives = lives_of end refl

  below_before : AreCountsBelowMost new → AreCountsBelowMost start
  below_before below = record {
    first = omega (arith, not_fallen s.session.rings.first start.first.faults new.first.faults (later First) below.first, below.first);
    second = omega (arith, not_fallen s.session.rings.second start.second.faults new.second.faults (later Second) below.second, below.second);
  }

  no_fault_before : AreCountsBelowMost new → HasNoFault old new → HasNoFault old start
  no_fault_before below none = record {
    first = same_at_start s.session.rings.first old.first.faults start.first.faults new.first.faults (is.counts First) (later First) below.first none.first;
    second = same_at_start s.session.rings.second old.second.faults start.second.faults new.second.faults (is.counts Second) (later Second) below.second
        none.second;
  }

  pub recorded_headers : RefusesHeaders t.frame.words tells old new (recording_answer_of end)
  recorded_headers = record {
    cause = λ by. absurd (recording_writes end (header_writes (recording_answer_of end) by));
    only = λ by told. absurd (recording_writes end (header_writes (recording_answer_of end) by));
    always = λ why by past told below first.
        let right = is.header told in
        absurd (no_header_refusal t.frame.words s.session.rings.header right.count right.version (header_after old.first new.first)
        (header_after old.second new.second) why
        (shown_or_failed s.session.rings.header First old start new right.first
        (not_fallen s.session.rings.first start.first.faults new.first.faults (later First) below.first) below.first)
        (shown_or_failed s.session.rings.header Second old start new right.second
        (not_fallen s.session.rings.second start.second.faults new.second.faults (later Second) below.second) below.second)
        by first);
  }

  pub recorded_runs : RefusesRuns t.frame.words tells old new (recording_answer_of end)
  recorded_runs = record {
    differ = λ seq e. absurd (recording_writes end (subst WritesOnNeither (sym e) tt));
    differ_always = λ seq past told below none differ. absurd ((is.near told (below_before below) (no_fault_before below none)).blocks seq differ.blocks.0);
    far = λ side e. absurd (recording_writes end (subst WritesOnNeither (sym e) tt));
    far_always = λ side past told below none far. absurd ((is.near told (below_before below) (no_fault_before below none)).near far.far);
  }

  pub recorded_leaves : LeavesPair tells old new (recording_answer_of end)
  recorded_leaves = record {
    line = λ left. absurd (recording_pulls end left);
    line_moments = λ left. absurd (recording_pulls end left);
    disks = λ side none. absurd (recording_writes end none);
  }

  pub recorded_causes : HasPairCause t.frame.words tells old new (recording_answer_of end)
  recorded_causes = record {
    first = λ e. failed_since tells First s.session.rings.first old start new (is.counts First) (records.both_failed (disk_failed end e)).first;
    second = λ e. failed_since tells Second s.session.rings.second old start new (is.counts Second) (records.both_failed (disk_failed end e)).second;
    lead = λ side e. absurd (recording_pulls end (subst LeavesPairLine (sym e) tt));
    input = λ e. subst (λ (n : ℕ). Rose n new.input_faults) is.line.input_faults (records.cause (line_failed end e));
  }
