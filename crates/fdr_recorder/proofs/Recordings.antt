-- What a recording of all that a source gives promises, from the start of its session on.
use Rattle.std.proofs.Common.{◌≡◌, ◌≢◌, ◌⊎◌, inl, inr, ⊎_elim, ℕ, ◌+◌, ◌-◌, ◌^◌, ◌<◌, ◌≤◌, max, List, [], ◌++◌, length, take}
use Rattle.std.proofs.Common.{Option, Some, None, Err, ap, sym, refl, ◌∙◌, subst, arith, rules}
use Rattle.std.specs.Prelude.{IsTrue, slice_index, ◌↔◌}
use Rattle.std.proofs.lemmas.Bool.{cases_lt}
use Rattle.std.proofs.lemmas.List.{get_or_past, take-take}
use Rattle.fdr_bus.specs.declared.BusRecord.{BusRecord}
use Rattle.fdr_deck.specs.State.{Moment, State, Tells}
use Rattle.fdr_deck.specs.Pull.{KeepsInput}
use Rattle.fdr_deck.specs.Moments.{EachMoment, IsSoundDeck}
use Rattle.fdr_deck.proofs.Composing.{same_fault}
use Rattle.fdr_deck.proofs.Moments.{EachMoment-then, EachMoment-weaken, Elapses-then, HasSamePulls-before, IsDiskWork-here}
use Rattle.fdr_slot.specs.Headers.{header_of}
use Rattle.fdr_slot.specs.declared.image.Header.{Header}
use Rattle.fdr_slot.specs.declared.image.ImageFault.{ImageFault}
use Rattle.fdr_slot.specs.declared.image.ImageFault.TheVariants as fault
use Rattle.fdr_recover.specs.Blocks.{Block}
use Rattle.fdr_recover.specs.Images.{next_of, recovered_run}
use Rattle.fdr_recover.specs.ImageHeader.{image_fault_of, header_in, IsFor}
use Rattle.fdr_recover.specs.Payloads.{run_in}
use Rattle.fdr_ring.specs.Closing.{image_with_closed_gate}
use Rattle.fdr_slot.specs.Places.{gate_at}
use Rattle.fdr_ring.proofs.Bytes.{shut_closed, shut_turned}
use Rattle.fdr_ring.specs.Runs.{IsTail, last_blocks}
use Rattle.fdr_table.specs.Rows.{TableRows}
use Rattle.fdr_trace.specs.Pulls.{PullsUntilDecided}
use Rattle.fdr_trace.proofs.Pulling.{PullsUntilDecided-kept, PullsUntilDecided-none}
use Rattle.fdr_recorder.specs.Ends.{HasRecordedSource, IsRefusedAtStart, RecordingEnd}
use Rattle.fdr_recorder.specs.Keeping.{RecoversAll, RecoversPrefixAfter}
use Rattle.fdr_recorder.specs.Lag.{IsInTime, IsLagMoment}
use Rattle.fdr_recorder.specs.NewBlocks.{AddsToRun, IsBlockMoment, MayRecord, RecordsBlocks, new_blocks, next_in, owed_number}
use Rattle.fdr_recorder.specs.Past.{all_blocks, past_at_start, session_of}
use Rattle.fdr_recorder.specs.Recording.{RecordsAllOf, IsReady}
use Rattle.fdr_recorder.specs.Refusing.{RefusesOldVersion, RefusesSession}
use Rattle.fdr_recorder.specs.Starting.{IsStarted, IsStarting, Starts}
use Rattle.fdr_recorder.specs.Supplied.{Continues, IsSupplyMoment, RecordsSupply, past_fed}
use Rattle.fdr_recorder.specs.Supply.{RecordSupply, PullsNothing, drawn_trace, line_trace, supplied_records}
use Rattle.fdr_recorder.specs.declared.error.SessionFault.{SessionFault}
use Rattle.fdr_recorder.specs.declared.error.SessionFault.TheVariants as session
use Rattle.fdr_recorder.specs.declared.session.Session.{Session}
use Rattle.fdr_recorder.proofs.ReadRecords.{PullsUntilDecided-next}
use Rattle.fdr_recorder.proofs.SessionEnds.{EndsSupply-cut, EndsSupply-kept}
use Rattle.fdr_recorder.proofs.Starting.{Starts-looked}
use Rattle.fdr_recorder.proofs.Steps.{keeps_behind, keeps_more, keeps_on}

-- ---- moments by the image at entry

-- while the session starts
pub starting_moment : (t : TableRows) (entry : State) (records : List BusRecord) (m : Moment) → IsStarting (header_in entry.held) entry m
    → IsBlockMoment t entry records m
starting_moment t entry records m at =
    let keeps = at.recording.image in
    record {
      keeps = keeps_more (header_in entry.held) entry.held m.image (run_in entry.held) [] (new_blocks t entry.held records) m.announced keeps;
      close = omega (arith, keeps.next, keeps.fits);
    }

-- from the start of the session on
module _ (tells : Tells) (t : TableRows) (s : Session) (d0 d1 : State) (sound1 : IsSoundDeck tells d1)
    (starts : Starts tells (header_in d0.held) d0 d1) (is : IsStarted tells t s d0 d1)
  where
    -- what the disk holds then keeps all blocks at entry
    kept : IsTrue tells.stops → IsReady (next_in d0.held) d0
        → RecoversAll (header_in d0.held) d0.held (run_in d0.held) [] d1.held
    kept stops ready =
        let h = header_in d0.held in
        let m : Moment = record { image = d1.held; announced = d1.announced; taken = d1.taken; pulled_before = d1.pulled_before } in
        let since = sound1.counts_now stops m (sound1.held stops) refl (record { taken = refl; pulled_before = refl }) in
        let first = sound1.falls stops d0.clock d1.clock m starts.time.later (omega arith) since in
        let at = (starts.moments ready stops m first).recording.image in
        let none : at.count ≡ 0 = omega (arith, at.fits) in
        record {
          kept = at.kept;
          run = subst (λ (l : List Block). IsTail (h.slots - 2) (run_in d0.held ++ l) (recovered_run h d1.held))
              (ap (λ n. take n []) none) at.run;
          next = omega (arith, at.next, at.fits);
        }

-- ---- all promises

pub none_pulled : (tells : Tells) (d0 d1 : State) → KeepsInput d0 d1 → d1.input_faults ≡ d0.input_faults → PullsUntilDecided tells d0 d1 [] []
none_pulled tells d0 d1 line faults = PullsUntilDecided-kept tells d0 d0 d1 [] [] (PullsUntilDecided-none tells d0 []) line (omega (arith, faults))

pub chained : (t : TableRows) (tells : Tells) (old new : State) (records : List BusRecord)
    → (MayRecord old → EachMoment tells old new (IsBlockMoment t old records))
    → (whole : List Block) → IsTail ((header_in old.held).slots - 2) whole (run_in old.held) → MayRecord old
    → EachMoment tells old new (λ (m : Moment). RecoversPrefixAfter (header_in old.held) whole (new_blocks t old.held records) m.image)
chained t tells old new records moments whole tail ready = EachMoment-weaken tells old new (IsBlockMoment t old records)
    (λ (m : Moment). RecoversPrefixAfter (header_in old.held) whole (new_blocks t old.held records) m.image)
    (λ m at. keeps_behind (header_in old.held) old.held m.image whole (run_in old.held) (new_blocks t old.held records) m.announced tail at.keeps)
    (moments ready)

-- where no record was fed
pub RecordsBlocks-unbegun : (t : TableRows) (tells : Tells) (records : List BusRecord) (d0 d1 : State) (all used_up : Type 0)
    → Starts tells (header_in d0.held) d0 d1 → (all → ⊥) → (used_up → ⊥) → RecordsBlocks t tells records d0 d1 all used_up
RecordsBlocks-unbegun t tells records d0 d1 all used_up starts not_all not_end =
    let moments : MayRecord d0 → EachMoment tells d0 d1 (IsBlockMoment t d0 records) = λ ready.
    EachMoment-weaken tells d0 d1 (IsStarting (header_in d0.held) d0) (IsBlockMoment t d0 records)
    (λ m at. starting_moment t d0 records m at) (starts.moments ready) in
    let chain = chained t tells d0 d1 records moments in
    search (rules, starts.time, moments, chain, not_all, not_end)

-- less is promised where less is known to be recorded
pub RecordsBlocks-weaken : (t : TableRows) (tells : Tells) (records : List BusRecord) (old new : State) (all all' used_up used_up' : Type 0)
    → (all' → all) → (used_up' → used_up) → RecordsBlocks t tells records old new all used_up → RecordsBlocks t tells records old new all' used_up'
RecordsBlocks-weaken t tells records old new all all' used_up used_up' whole ended is =
    let either : all' ⊎ used_up' → all ⊎ used_up = ⊎_elim (λ e. inl (whole e)) (λ e. inr (ended e)) in
    search (rules, either, whole, ended, is)

none_of : (from : RecordSupply) → PullsNothing from []
none_of line_trace = tt
none_of (drawn_trace t seed frames) = refl

-- what is owed then
pub starting_lag : (t : TableRows) (tells : Tells) (d0 d1 : State) → Starts tells (header_in d0.held) d0 d1 → MayRecord d0
    → EachMoment tells d0 d1 (IsLagMoment (owed_number t (header_in d0.held) (next_in d0.held)) d0 [])
starting_lag t tells d0 d1 starts ready = EachMoment-weaken tells d0 d1 (IsStarting (header_in d0.held) d0)
    (IsLagMoment (owed_number t (header_in d0.held) (next_in d0.held)) d0 [])
    (λ m at. record { pulled = inl at.recording.pulled }) (starts.moments ready)

-- where the deck wasn't used
pub nothing_started : (tells : Tells) (d : State) → IsSoundDeck tells d → Starts tells (header_in d.held) d d
nothing_started tells d sound =
    Starts-looked tells (header_in d.held) d d sound (IsDiskWork-here tells d.may_leave d sound (λ stops image leaves. leaves))

-- ---- which refusal is answered

-- an image has one first fault, or none
no_first : (image : List ℕ) (why : ImageFault) → image_fault_of image ≡ None → image_fault_of image ≡ Some why → ⊥
no_first image why none some = let c : ◌≡◌ {A = Option ImageFault} None (Some why) = sym none ∙ some in cc

abbrev pub refusal_by : SessionFault → RecordingEnd
refusal_by f = Err f

-- why no session was started
pub record IsRefused (t : TableRows) (tells : Tells) (d0 d1 : State) (f : SessionFault) : Type 0 where
  pub not_end : f ≢ session.SeqEnd
  pub image : IsTrue tells.bytes → (why : ImageFault) → f ≡ session.Image why → image_fault_of d0.held ≡ Some why
  pub small : (why : ImageFault) → f ≡ session.Image why → (why ≡ fault.Small) ↔ (d1.extent < 64)
  pub short : refusal_by f ≢ refusal_by session.NoMemory → d1.extent < 64
      → (refusal_by f ≡ refusal_by (session.Image fault.Small)) ⊎ (refusal_by f ≡ refusal_by session.DiskFault)
  pub words : (image table : ℕ) → f ≡ session.WordsDiffer image table
      → (table ≡ t.frame.words) × (image ≢ table) × (IsTrue tells.bytes → IsFor image d0.held)
  pub old : f ≡ session.OldVersion → IsTrue tells.bytes → IsFor t.frame.words d0.held × ((header_in d0.held).version ≡ 1)

-- an image that is to be refused is
refused_always : (t : TableRows) (tells : Tells) (d0 d1 : State) (f : SessionFault) → IsRefused t tells d0 d1 f
    → refusal_by f ≢ refusal_by session.NoMemory → IsTrue tells.bytes
    → ((why : ImageFault) → image_fault_of d0.held ≡ Some why
    → (refusal_by f ≡ refusal_by (session.Image why)) ⊎ (refusal_by f ≡ refusal_by session.DiskFault))
    × ((image : ℕ) → IsFor image d0.held → image ≢ t.frame.words
    → (refusal_by f ≡ refusal_by (session.WordsDiffer image t.frame.words)) ⊎ (refusal_by f ≡ refusal_by session.DiskFault))
    × (IsFor t.frame.words d0.held → (header_in d0.held).version ≡ 1
    → (refusal_by f ≡ refusal_by session.OldVersion) ⊎ (refusal_by f ≡ refusal_by session.DiskFault))
refused_always t tells d0 d1 (session.Image w) is past bytes =
    let here = is.image bytes w refl in (
      λ why first. let same : ◌≡◌ {A = Option ImageFault} (Some w) (Some why) = sym here ∙ first in inl (cc),
      λ image other differ. absurd (no_first d0.held w other.no_fault here),
      λ good first. absurd (no_first d0.held w good.no_fault here),
    )
refused_always t tells d0 d1 (session.WordsDiffer i w) is past bytes =
    let here = is.words i w refl in
    let held = here.2 bytes in (
      λ why first. absurd (no_first d0.held why held.no_fault first),
      λ image other differ. let same : i ≡ image = sym held.words ∙ other.words in let table = here.0 in inl (cc),
      λ good first. absurd (here.1 (sym held.words ∙ good.words ∙ sym here.0)),
    )
refused_always t tells d0 d1 session.OldVersion is past bytes =
    let held = (is.old refl bytes).0 in (
      λ why first. absurd (no_first d0.held why held.no_fault first),
      λ image other differ. absurd (differ (sym other.words ∙ held.words)),
      λ good first. inl refl,
    )
refused_always t tells d0 d1 session.DiskFault is past bytes = (λ why first. inr refl, λ image other differ. inr refl, λ good first. inr refl)
refused_always t tells d0 d1 session.SeqEnd is past bytes = absurd (is.not_end refl)
refused_always t tells d0 d1 session.NoMemory is past bytes = absurd (past refl)

-- so nothing was pulled
pub RecordsSupply-refused : (from : RecordSupply) (t : TableRows) (tells : Tells) (d0 d1 : State) (f : SessionFault)
    → Starts tells (header_in d0.held) d0 d1 → IsRefused t tells d0 d1 f → RecordsSupply from t tells d0 d1 (Err f)
RecordsSupply-refused from t tells d0 d1 f starts is = record {
  pulled = [];
  pulls = none_pulled tells d0 d1 starts.input starts.input_faults;
  blocks = RecordsBlocks-unbegun t tells (supplied_records from []) d0 d1 (HasRecordedSource (Err f)) (◌≡◌ {A = RecordingEnd} (Err f) (Err session.SeqEnd))
      starts (λ all. all) (λ e. is.not_end (same_fault e));
  image = record {
    refused = λ why e bytes. is.image bytes why (same_fault e);
    small = λ why e. is.small why (same_fault e);
    small_always = is.short;
    refused_always = λ why past bytes. (refused_always t tells d0 d1 f is past bytes).0 why;
    words = λ image table e. is.words image table (same_fault e);
    words_always = λ image past bytes. (refused_always t tells d0 d1 f is past bytes).1 image;
  };
  version = record { refused = λ e. is.old (same_fault e); refused_always = λ past bytes. (refused_always t tells d0 d1 f is past bytes).2 };
  in_time = λ ready. starting_lag t tells d0 d1 starts ready;
  ends = EndsSupply-cut from tells d0 d1 [] f (none_of from) (λ line known. starts.input_faults);
}

-- where memory ended before the deck was used
pub RecordsSupply-nothing : (from : RecordSupply) (t : TableRows) (tells : Tells) (d : State) → IsSoundDeck tells d
    → RecordsSupply from t tells d d (Err session.NoMemory)
RecordsSupply-nothing from t tells d sound = RecordsSupply-refused from t tells d d session.NoMemory (nothing_started tells d sound) (record {
  not_end = λ e. cc;
  image = λ bytes why e. absurd (cc);
  small = λ why e. absurd (cc);
  short = λ past. absurd (past refl);
  words = λ image table e. absurd (cc);
  old = λ e. absurd (cc);
})

-- an image that is for the table's frames isn't refused
takes_image : (t : TableRows) (tells : Tells) (old new : State) (end : RecordingEnd)
    → ((f : SessionFault) → end ≡ Err f → IsRefusedAtStart f → ⊥)
    → (new.extent < 64 → ⊥) → (IsTrue tells.bytes → IsFor t.frame.words old.held) → RefusesSession t tells old new end
takes_image t tells old new end begun long good = record {
  refused = λ why e. absurd (begun (session.Image why) e tt);
  small = λ why e. absurd (begun (session.Image why) e tt);
  small_always = λ past short. absurd (long short);
  refused_always = λ why past bytes first. absurd (no_first old.held why (good bytes).no_fault first);
  words = λ image table e. absurd (begun (session.WordsDiffer image table) e tt);
  words_always = λ image past bytes other differ. absurd (differ (sym other.words ∙ (good bytes).words));
}

-- and one of version 2 isn't refused as one of version 1
takes_version : (t : TableRows) (tells : Tells) (old : State) (end : RecordingEnd)
    → ((f : SessionFault) → end ≡ Err f → IsRefusedAtStart f → ⊥)
    → (IsTrue tells.bytes → (header_in old.held).version ≡ 2) → RefusesOldVersion t tells old end
takes_version t tells old end begun current = record {
  refused = λ e. absurd (begun session.OldVersion e tt);
  refused_always = λ past bytes good first. absurd (omega (arith, current bytes, first));
}

-- ---- from the start of a session on

-- a gate that is shut is after the header
shut_front : (h : Header) (n : ℕ) (image : List ℕ) → take 64 (image_with_closed_gate (gate_at h n) image) ≡ take 64 image
shut_front h n image = ⊎_elim
    (λ (within : gate_at h n < length image).
    let at = gate_at h n in
    let front = (shut_turned at image within).torn.front in
    let few : 64 ≤ at = omega arith in
    sym (take-take 64 at (image_with_closed_gate at image) few) ∙ ap (λ (l : List ℕ). take 64 l) front ∙ take-take 64 at image few)
    (λ (past : length image ≤ gate_at h n).
    let none : slice_index image (gate_at h n) ≡ 0 = get_or_past image (gate_at h n) 0 past in
    ap (λ (l : List ℕ). take 64 l) (shut_closed (gate_at h n) image (λ is. absurd (omega (arith, none, is)))))
    (cases_lt (gate_at h n) (length image))

-- where a session was started
module _ (from : RecordSupply) (t : TableRows) (tells : Tells) (s : Session) (d0 d1 d2 : State) (end : RecordingEnd) (sound0 : IsSoundDeck tells d0)
    (sound1 : IsSoundDeck tells d1) (starts : Starts tells (header_in d0.held) d0 d1) (is : IsStarted tells t s d0 d1)
    (on : Continues from tells (past_at_start t s.ring.header s.ring.next s.session) d1 d2 end)
  where
    first_is : IsTrue tells.bytes → s.ring.next ≡ next_in d0.held
    first_is bytes = is.next bytes ∙ ap (λ (h : Header). next_of h d0.held) (is.header bytes)

    session_is : IsTrue tells.bytes → s.session ≡ session_of (run_in d0.held)
    session_is bytes = is.session bytes ∙ ap (λ (h : Header). session_of (recovered_run h d0.held)) (is.header bytes)

    blocks_are : IsTrue tells.bytes
        → all_blocks (past_fed (past_at_start t s.ring.header s.ring.next s.session) (supplied_records from on.pulled)) ≡ new_blocks t d0.held
        (supplied_records from on.pulled)
    blocks_are bytes = rw (is.header bytes, first_is bytes, session_is bytes) refl

    session_moments : MayRecord d0 → IsTrue tells.stops → (m : Moment) → d2.since d1.clock m
        → IsSupplyMoment t (header_in d0.held) (next_in d0.held) d0 (new_blocks t d0.held (supplied_records from on.pulled)) on.pulled m
    session_moments ready stops m since =
        let bytes = sound0.stops_need_bytes stops in
        let few = is.greatest (omega (arith, ready.greatest, first_is bytes)) in
        let at = on.moments few stops m since in
        let blocks = all_blocks (past_fed (past_at_start t s.ring.header s.ring.next s.session) (supplied_records from on.pulled)) in
        let all : RecoversAll s.ring.header d0.held (recovered_run s.ring.header d0.held) [] d1.held =
        subst (λ (h : Header). RecoversAll h d0.held (recovered_run h d0.held) [] d1.held) (sym (is.header bytes))
        (kept tells t s d0 d1 sound1 starts is stops ready) in
        let low = is.least (omega (arith, ready.greatest, first_is bytes)) in
        let pulled = ⊎_elim (λ here. inl (HasSamePulls-before d0 d1 m starts.input here))
        (λ late. inr (subst (λ n. IsInTime (owed_number t s.ring.header s.ring.next) n on.pulled m.announced m.pulled_before m.taken)
        starts.input.taken late)) at.in_time.pulled in
        let here : IsSupplyMoment t s.ring.header s.ring.next d0 blocks on.pulled m = record {
          keeps = keeps_on s.ring.header d0.held d1.held m.image (recovered_run s.ring.header d0.held) [] blocks m.announced all at.keeps;
          close = at.close;
          least = omega (arith, low, at.least);
          in_time = record { pulled = pulled };
        } in
        rw (← blocks_are bytes, ← first_is bytes, ← is.header bytes) here

    moments : MayRecord d0 → EachMoment tells d0 d2 (IsBlockMoment t d0 (supplied_records from on.pulled))
    moments ready = EachMoment-then tells d0 d1 d2 (IsBlockMoment t d0 (supplied_records from on.pulled)) starts.time on.time
        (EachMoment-weaken tells d0 d1 (IsStarting (header_in d0.held) d0) (IsBlockMoment t d0 (supplied_records from on.pulled))
        (λ m at. starting_moment t d0 (supplied_records from on.pulled) m at) (starts.moments ready))
        (λ stops m since. let at = session_moments ready stops m since in record { keeps = at.keeps; close = at.close })

    lags : MayRecord d0 → EachMoment tells d0 d2 (IsLagMoment (owed_number t (header_in d0.held) (next_in d0.held)) d0 on.pulled)
    lags ready = EachMoment-then tells d0 d1 d2 (IsLagMoment (owed_number t (header_in d0.held) (next_in d0.held)) d0 on.pulled) starts.time on.time
        (EachMoment-weaken tells d0 d1 (IsStarting (header_in d0.held) d0)
        (IsLagMoment (owed_number t (header_in d0.held) (next_in d0.held)) d0 on.pulled)
        (λ m at. record { pulled = inl at.recording.pulled }) (starts.moments ready))
        (λ stops m since. (session_moments ready stops m since).in_time)

    -- the header stays: only a gate was closed at the start, and no call after it changes the header
    header_kept : IsTrue tells.bytes → (blocks : List Block) → RecordsAllOf tells s.ring.header s.ring.next blocks d1 d2
        → header_in d2.held ≡ header_in d0.held
    header_kept bytes blocks has = ap header_of ((has.keeps bytes).kept.header
        ∙ ap (λ (l : List ℕ). take 64 l) (is.held bytes) ∙ shut_front s.ring.header (next_of s.ring.header d0.held) d0.held)

    are_recorded : (blocks new : List Block) → IsTrue tells.bytes → blocks ≡ new
        → RecordsAllOf tells s.ring.header s.ring.next blocks d1 d2 → AddsToRun tells new d0 d2
    are_recorded blocks new bytes same has =
        let h = header_in d0.held in
        let ring = (has.fact is.fact.ring).next bytes in
        let count = ap length same in
        record {
          header = header_kept bytes blocks has;
          run = subst (λ (x : Header). recovered_run x d2.held ≡ last_blocks (x.slots - 1) (recovered_run x d0.held ++ new)) (is.header bytes)
              (subst (λ (l : List Block). recovered_run s.ring.header d2.held
              ≡ last_blocks (s.ring.header.slots - 1) (recovered_run s.ring.header d0.held ++ l)) same
              (has.last bytes (recovered_run s.ring.header d0.held) (is.run bytes)));
          next = ap (λ (x : Header). next_of x d2.held) (sym (is.header bytes))
              ∙ omega (arith, ring, count, first_is bytes);
          announced = omega (arith, has.announced is.announced, count, first_is bytes);
          settled = λ stops. has.settled stops (is.settled stops);
        }

    -- what a further recording rests on
    recorded_all : IsTrue tells.bytes → MayRecord d0
        → RecordsAllOf tells s.ring.header s.ring.next
        (all_blocks (past_fed (past_at_start t s.ring.header s.ring.next s.session) (supplied_records from on.pulled))) d1 d2
        → (next_in d2.held ≡ next_in d0.held + length (new_blocks t d0.held (supplied_records from on.pulled)))
        × (d2.greatest ≤ next_in d2.held) × (next_in d2.held ≤ max (next_in d0.held) d2.least + 1)
    recorded_all bytes may has =
        let blocks = all_blocks (past_fed (past_at_start t s.ring.header s.ring.next s.session) (supplied_records from on.pulled)) in
        let first = first_is bytes in
        let count = ap length (blocks_are bytes) in
        let stands = are_recorded _ _ bytes (blocks_are bytes) has in
        let next : next_in d2.held ≡ next_in d0.held + length (new_blocks t d0.held (supplied_records from on.pulled)) =
        ap (λ (h : Header). next_of h d2.held) stands.header ∙ stands.next in
        let top = has.greatest (is.greatest (omega (arith, may.greatest, first))) in
        let low = has.near s.ring.next (record { announced = is.announced; least = omega arith }) in
        (next, omega (arith, top, next, first, count), omega (arith, low.least, next, first, count))

    current : IsTrue tells.bytes → (header_in d0.held).version ≡ 2
    current bytes = ap (λ (h : Header). h.version) (sym (is.header bytes)) ∙ is.version

    pub RecordsSupply-past_at_start : d2.extent ≡ d1.extent → ((f : SessionFault) → end ≡ Err f → IsRefusedAtStart f → ⊥)
        → (IsTrue tells.bytes → IsFor t.frame.words d0.held) → RecordsSupply from t tells d0 d2 end
    RecordsSupply-past_at_start extent begun good = record {
      pulled = on.pulled;
      pulls = PullsUntilDecided-next tells d0 d1 d2 [] on.pulled (none_pulled tells d0 d1 starts.input starts.input_faults) on.pulls;
      blocks = record {
        time = Elapses-then tells d0 d1 d2 starts.time on.time;
        moments = moments;
        chain = chained t tells d0 d2 (supplied_records from on.pulled) moments;
        recorded = λ all bytes. are_recorded _ _ bytes (blocks_are bytes) (on.recorded all);
        within = λ all bytes. omega (arith, on.within all, ap length (blocks_are bytes), first_is bytes);
        ready = λ all stops may.
            let has = on.recorded all in
            record {
              settled = has.settled stops (is.settled stops);
              greatest = (recorded_all (sound0.stops_need_bytes stops) may has).1;
            };
        near = λ all bytes may.
            let after = recorded_all bytes may (on.recorded all) in
            omega (arith, after.0, after.2);
        seq_end = λ e bytes. are_recorded _ _ bytes
            (ap (λ (l : List Block). take (2 ^ 48 - s.ring.next) l) (blocks_are bytes)
            ∙ ap (λ n. take (2 ^ 48 - n) (new_blocks t d0.held (supplied_records from on.pulled))) (first_is bytes)) (on.seq_end e);
        beyond = λ e bytes. omega (arith, on.beyond e, ap length (blocks_are bytes), first_is bytes);
        good = λ either bytes. good bytes;
        current = λ either bytes. current bytes;
      };
      image = takes_image t tells d0 d2 end begun (λ short. omega (arith, short, extent, is.fact.ring.extent)) good;
      version = takes_version t tells d0 end begun current;
      in_time = lags;
      ends = EndsSupply-kept from tells d1 d0 d2 d2 on.pulled end on.ends starts.input_faults refl refl;
    }
