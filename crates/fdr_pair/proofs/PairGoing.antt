-- How a recording on two disks that was started went on, and what both sides hold in the end.
use Rattle.std.proofs.Common.{◌≡◌, ◌⊎◌, inl, inr, ⊎_elim, ℕ, ◌+◌, ◌-◌, List, [], ◌++◌, length, take, refl, sym, ◌∙◌, ap, subst, arith}
use Rattle.std.proofs.Common.{Option, Some, None, Result, Ok, Err}
use Rattle.std.specs.Prelude.{IsTrue}
use Rattle.fdr_io.specs.Faults.{Rose}
use Rattle.fdr_bus.specs.declared.BusRecord.{BusRecord}
use Rattle.fdr_bus.specs.Records.{good_prefix}
use Rattle.fdr_deck.specs.State.{Tells}
use Rattle.fdr_slot.specs.Limits.{sequence_end}
use Rattle.fdr_slot.specs.declared.image.Header.{Header}
use Rattle.fdr_slot.specs.Headers.{header_of}
use Rattle.fdr_recover.specs.Blocks.{Block}
use Rattle.fdr_recover.specs.Images.{recovered_run, next_of}
use Rattle.fdr_recover.specs.ImageHeader.{header_in}
use Rattle.fdr_recover.specs.Payloads.{run_in}
use Rattle.fdr_ring.specs.Gates.{KeepsHeader}
use Rattle.fdr_ring.specs.Runs.{last_blocks}
use Rattle.fdr_ring.specs.declared.ring.Ring.{Ring}
use Rattle.fdr_table.specs.Rows.{TableRows}
use Rattle.fdr_trace.specs.declared.TraceStop.TheVariants as stop
use Rattle.fdr_twin.specs.declared.side.Side.{Side}
use Rattle.fdr_twin.specs.declared.side.Side.TheVariants.{First, Second}
use Rattle.fdr_twin.specs.Pair.{Pair, PairMoment, disk_on, image_on, other_side}
use Rattle.fdr_twin.specs.Sound.{IsSoundPair}
use Rattle.fdr_recorder.specs.Ends.{HasRecordedSource}
use Rattle.fdr_recorder.specs.Lag.{IsInTime}
use Rattle.fdr_recorder.specs.NewBlocks.{new_blocks, next_in, owed_number}
use Rattle.fdr_recorder.specs.Past.{past_at_start, session_of}
use Rattle.fdr_recorder.specs.declared.source.SourceEnd.{SourceEnd}
use Rattle.fdr_recorder.specs.declared.source.SourceEnd.TheVariants as source
use Rattle.fdr_pair.specs.Brought.{brought_run}
use Rattle.fdr_pair.specs.Alike.{AreAlike, lead_on, follower_on, lead_image, follower_image}
use Rattle.fdr_pair.specs.Living.{Follows, HasGoneOn, HasLiving, SideNow}
use Rattle.fdr_pair.specs.PairRecording.{IsSettledSide, PairRecordsAll}
use Rattle.fdr_pair.specs.PairMoments.{HasFailedBeforePull, HasFailedBy, KeepsBroughtRun, KeepsOwnRun, KeepsUpBy}
use Rattle.fdr_pair.specs.PairAnswers.{recording_answer_of}
use Rattle.fdr_pair.specs.PairEnds.{HoldsAfter, LeadHolds, FollowerHoldsBrought, FollowerHoldsOwn, HasFailedSince, HoldWithLead, HoldWithoutLead}
use Rattle.fdr_pair.specs.PairEnds.{HaveEnded, GoesOnWithLead, GoesOnWithoutLead}
use Rattle.fdr_pair.specs.PairRun.{KeepsPair}
use Rattle.fdr_pair.specs.PairStages.{EndsPairTrace}
use Rattle.fdr_pair.specs.PairStarting.{HoldsRun, IsCountedByRing, IsPairStarted, IsStartRefused, StartsOnRun, StartsWithLead, StartsWithoutLead, ring_on}
use Rattle.fdr_pair.specs.Traces.{IsPairLagMoment, PairRecordsTrace, recording_end, trace_blocks}
use Rattle.fdr_pair.specs.declared.fault.PairFault.{PairFault}
use Rattle.fdr_pair.specs.declared.fault.PairFault.TheVariants as fault
use Rattle.fdr_pair.specs.declared.outcome.PairOutcome.{PairOutcome}
use Rattle.fdr_pair.specs.declared.outcome.PairOutcome.TheVariants as outcome
use Rattle.fdr_pair.specs.declared.rings.PairRings.{PairRings}
use Rattle.fdr_pair.specs.declared.start.PairStart.{PairStart}
use Rattle.fdr_pair.proofs.Leading.{one_header}
use Rattle.fdr_pair.proofs.PairKeeping.{blocks_same, failed_by, follows_on, follower_kept, from_image, keeps_first, kept_on, lead_kept, lead_run_kept, over}
use Rattle.fdr_pair.proofs.PairKeeping.{over_pulled, settled_now}
use Rattle.fdr_pair.proofs.Nearness.{near_ring}
use Rattle.fdr_pair.specs.Ahead.{IsCloseOn}
use Rattle.fdr_pair.specs.PairMoments.{HasPulledBytes}
use Rattle.fdr_twin.specs.Serving.{EachPairMoment}
use Rattle.fdr_pair.proofs.PairKeeping.{rose_before, unread_kept}
use Rattle.fdr_pair.proofs.PairHaving.{kept_with_lead, kept_without_lead, right_lead, right_other}

-- ---- sides

-- each side is this one or the other
either : (side one : Side) → (side ≡ one) ⊎ (side ≡ other_side one)
either First First = inl refl
either First Second = inr refl
either Second First = inr refl
either Second Second = inl refl

-- what a side became, of what both did
now_of : (tells : Tells) (rings left : PairRings) (done : List Block) (p q : Pair) → PairRecordsAll tells rings left done p q → (side : Side)
    → SideNow tells side (ring_on side rings) (ring_on side left) done p q
now_of tells rings left done p q all First = all.first
now_of tells rings left done p q all Second = all.second

living_by : (first second : Option Ring) → HasLiving first second → ((r : Ring) × (first ≡ Some r)) ⊎ ((r : Ring) × (second ≡ Some r))
living_by (Some r) second living = inl (r, refl)
living_by None (Some r) living = inr (r, refl)
living_by None None living = absurd (cc)

-- a side that hasn't failed
living_side : (rings : PairRings) → (side : Side) × ((r : Ring) × (ring_on side rings ≡ Some r))
living_side rings = ⊎_elim (λ one. (First, one)) (λ two. (Second, two)) (living_by rings.first rings.second rings.living)

same_count : (tells : Tells) (side : Side) (o : Option Ring) (done : List Block) (p q : Pair) → SideNow tells side None o done p q
    → (disk_on side q).faults ≡ (disk_on side p).faults
same_count tells side None done p q now = now
same_count tells side (Some r) done p q now = absurd now

no_ring_left : (tells : Tells) (side : Side) (o : Option Ring) (r : Ring) (done : List Block) (p q : Pair) → SideNow tells side o (Some r) done p q
    → o ≡ None → ⊥
no_ring_left tells side None r done p q now none = now
no_ring_left tells side (Some x) r done p q now none = cc

-- the header of an image that keeps its header
header_kept : (old new : List ℕ) → KeepsHeader old new → header_in new ≡ header_in old
header_kept old new keeps = ap header_of keeps.header

-- ---- what a side holds in the end

module _ (tells : Tells) (side : Side) (h : Header) (run : List Block) (next : ℕ) (done : List Block) (p0 p5 p6 : Pair) (told : IsTrue tells.bytes)
    (header : header_in (disk_on side p0).held ≡ h) where
  holds_after : (r s : Ring) → r.header ≡ h → (disk_on side p5).faults ≡ (disk_on side p0).faults → HoldsRun h side run next p0 p5
      → HasGoneOn tells side r s done p5 p6 → HoldsAfter tells side h run next done p0 p6
  holds_after r s same counts begins gone =
      let held = (disk_on side p6).held in
      let keeps = gone.keeps told in
      record {
        faults = gone.faults ∙ counts;
        header = header_kept (disk_on side p5).held held keeps.kept ∙ header_kept (disk_on side p0).held (disk_on side p5).held begins.kept ∙ header;
        last = subst (λ (x : Header). recovered_run x held ≡ last_blocks (x.slots - 1) (run ++ done)) same
            (gone.exact told run (subst (λ (x : Header). recovered_run x (disk_on side p5).held ≡ last_blocks (x.slots - 1) run) (sym same) begins.last));
        number =
            let before = ap (λ (x : Header). next_of x (disk_on side p5).held) same in
            let after = ap (λ (x : Header). next_of x held) same in
            omega (arith, keeps.next, begins.number, before, after);
        settled = gone.ring.settled;
      }

  -- unless it failed
  pub holds_unless : (o o' : Option Ring) → Follows h next o → IsCountedByRing o (disk_on side p0).faults (disk_on side p5).faults
      → StartsOnRun o h side run next p0 p5 → SideNow tells side o o' done p5 p6 → HasFailedSince side p0 p6 ⊎ HoldsAfter tells side h run next done p0 p6
  holds_unless None None follows counts rose now = inl (subst (λ (n : ℕ). Rose (disk_on side p0).faults n) (sym now) rose)
  holds_unless None (Some s) follows counts rose now = absurd now
  holds_unless (Some r) None follows counts begins now = inl (subst (λ (n : ℕ). Rose n (disk_on side p6).faults) counts now)
  holds_unless (Some r) (Some s) follows counts begins now = inr (holds_after r s (follows r refl).0 counts begins now)

  -- where it has a ring still
  pub holds_living : (o : Option Ring) (s : Ring) → Follows h next o → IsCountedByRing o (disk_on side p0).faults (disk_on side p5).faults
      → StartsOnRun o h side run next p0 p5 → SideNow tells side o (Some s) done p5 p6
      → HoldsAfter tells side h run next done p0 p6
  holds_living None s follows counts begins now = absurd now
  holds_living (Some r) s follows counts begins now = holds_after r s (follows r refl).0 counts begins now

-- ---- the call

module _ (t : TableRows) (tells : Tells) (s : PairStart) (p0 p5 p6 : Pair) (end : Result SourceEnd PairFault) (sound : IsSoundPair tells p5)
    (started : IsPairStarted t tells s p0 p5)
    (recorded : PairRecordsTrace tells (past_at_start t s.session.rings.header s.session.rings.next s.session.session) s.session.rings p5 p6 end) where
  abbrev rings : PairRings
  rings = s.session.rings

  abbrev blocks : List Block
  blocks = trace_blocks (past_at_start t rings.header rings.next s.session.session) recorded.pulled

  -- ---- a side that failed before the session

  count_by : (e : Result SourceEnd PairFault) → end ≡ e → (side : Side)
      → (o : Option Ring) × ((done : List Block) × SideNow tells side (ring_on side rings) o done p5 p6)
  count_by (Ok e) is side =
      let all = recorded.recorded (subst (λ x. HasRecordedSource (recording_end x)) (sym is) tt) in
      (ring_on side all.0, (blocks, now_of tells rings all.0 blocks p5 p6 all.1 side))
  count_by (Err fault.DiskFault) is First = (None, ([], (recorded.both_failed is).first))
  count_by (Err fault.DiskFault) is Second = (None, ([], (recorded.both_failed is).second))
  count_by (Err fault.SeqEnd) is side =
      let ends = recorded.seq_end is in (
        ring_on side ends.left,
        (
          take (sequence_end - rings.next) blocks,
          now_of tells rings ends.left (take (sequence_end - rings.next) blocks) p5 p6 ends.recorded side,
        ),
      )

  pub failed_before_pull : (side : Side) → ring_on side rings ≡ None → HasFailedBeforePull tells side p0 p6
  failed_before_pull side none = record {
    now =
        let at = count_by end refl side in
        let same = same_count tells side at.0 at.1.0 p5 p6 (subst (λ o. SideNow tells side o at.0 at.1.0 p5 p6) none at.1.1) in
        subst (λ (n : ℕ). Rose (disk_on side p0).faults n) (sym same) (rose_before t tells s p0 p5 p6 end sound started recorded side none);
    moments = over_pulled t tells s p0 p5 p6 end sound started recorded (HasFailedBy side p0)
        (λ stops m since some. failed_by t tells s p0 p5 p6 end sound started recorded side none stops m since);
  }

  -- ---- how far it is ahead of what is announced

  close_by : (side : Side) (o : Option Ring) → ring_on side rings ≡ o → EachPairMoment tells p0 p6
      (λ m. HasPulledBytes p0 m → HasFailedBy side p0 m ⊎ IsCloseOn rings.header rings.next side m)
  close_by side None none = λ stops m since some. inl ((failed_before_pull side none).moments stops m since some)
  close_by side (Some r) is = over_pulled t tells s p0 p5 p6 end sound started recorded
      (λ m. HasFailedBy side p0 m ⊎ IsCloseOn rings.header rings.next side m)
      (λ stops m since some.
      let follows = follows_on t tells s p0 p5 p6 end sound started recorded side r is in
      let settled : IsSettledSide tells side (Some r) p5 = subst (λ o. IsSettledSide tells side o p5) is
      (settled_now t tells s p0 p5 p6 end sound started recorded side) in
      inr (inr ((recorded.near started.begun.announced side).moments rings.next
      (near_ring tells rings.header rings.next side r p5 sound stops settled follows.0 follows.1) stops m since)))

  -- by the header and the next number of an image
  close_from : (image : List ℕ) → rings.header ≡ header_in image → rings.next ≡ next_in image → (side : Side) → EachPairMoment tells p0 p6
      (λ m. HasPulledBytes p0 m → HasFailedBy side p0 m ⊎ IsCloseOn (header_in image) (next_in image) side m)
  close_from image header number side =
      subst (λ (n : ℕ). EachPairMoment tells p0 p6 (λ m. HasPulledBytes p0 m → HasFailedBy side p0 m ⊎ IsCloseOn (header_in image) n side m)) number
      (subst (λ (h : Header). EachPairMoment tells p0 p6 (λ m. HasPulledBytes p0 m → HasFailedBy side p0 m ⊎ IsCloseOn h rings.next side m)) header
      (close_by side (ring_on side rings) refl))

  -- ---- how the recording keeps up

  same_owed : (image : List ℕ) → rings.header ≡ header_in image → rings.next ≡ next_in image
      → owed_number t rings.header rings.next ≡ owed_number t (header_in image) (next_in image)
  same_owed image header number = ap (λ (h : Header). owed_number t h rings.next) header ∙ ap (λ (n : ℕ). owed_number t (header_in image) n) number

  lag_from : (image : List ℕ) (m : PairMoment) → rings.header ≡ header_in image → rings.next ≡ next_in image
      → IsPairLagMoment (owed_number t rings.header rings.next) p5 recorded.pulled m
      → IsPairLagMoment (owed_number t (header_in image) (next_in image)) p0 recorded.pulled m
  lag_from image m header number lag =
      let line = started.line in
      record {
        pulled = ⊎_elim
            (λ same. inl (record { taken = same.taken ∙ line.taken; pulled_before = same.pulled_before ∙ line.pulled_before }))
            (λ late. inr (subst (λ (n : ℕ). IsInTime (owed_number t (header_in image) (next_in image)) n recorded.pulled m.announced m.pulled_before m.taken)
            line.taken (subst (λ (f : List BusRecord → ℕ). IsInTime f p5.taken recorded.pulled m.announced m.pulled_before m.taken)
            (same_owed image header number) late)))
            lag.pulled;
      }

  pub keeps_up : (image : List ℕ) → rings.header ≡ header_in image → rings.next ≡ next_in image → KeepsUpBy image t tells recorded.pulled p0 p6
  keeps_up image header number = over t tells s p0 p5 p6 end sound started recorded
      (IsPairLagMoment (owed_number t (header_in image) (next_in image)) p0 recorded.pulled)
      (λ stops m since.
      let at = started.keeps.unpulled stops m since in
      record { pulled = inl (record { taken = at.taken; pulled_before = at.pulled_before }) })
      (λ stops m since. inr (⊎_elim
      (λ idle. let at = idle.pulled in
      lag_from image m header number (record { pulled = inl (record { taken = at.taken; pulled_before = at.pulled_before }) }))
      (λ some. lag_from image m header number (recorded.in_time stops m since (inr some)))
      (recorded.idle stops m since)))

  -- ---- what is held in the end

  module _ (told : IsTrue tells.bytes) (left : PairRings) (done : List Block) (all : PairRecordsAll tells rings left done p5 p6) where
    told_now : p6.announced ≡ rings.next + length done
    told_now = all.announced started.begun.announced

    side_now : (side : Side) → SideNow tells side (ring_on side rings) (ring_on side left) done p5 p6
    side_now side = now_of tells rings left done p5 p6 all side

    side_holds : (side : Side) (run : List Block) → header_in (disk_on side p0).held ≡ rings.header
        → StartsOnRun (ring_on side rings) rings.header side run rings.next p0 p5
        → HasFailedSince side p0 p6 ⊎ HoldsAfter tells side rings.header run rings.next done p0 p6
    side_holds side run header begins = holds_unless tells side rings.header run rings.next done p0 p5 p6 told header (ring_on side rings)
        (ring_on side left) (follows_on t tells s p0 p5 p6 end sound started recorded side) (started.counts side) begins (side_now side)

    -- of a side that hasn't failed
    side_lives : (side : Side) (run : List Block) (r : Ring) → ring_on side left ≡ Some r → header_in (disk_on side p0).held ≡ rings.header
        → StartsOnRun (ring_on side rings) rings.header side run rings.next p0 p5 → HoldsAfter tells side rings.header run rings.next done p0 p6
    side_lives side run r is header begins = holds_living tells side rings.header run rings.next done p0 p5 p6 told header (ring_on side rings) r
        (follows_on t tells s p0 p5 p6 end sound started recorded side) (started.counts side) begins
        (subst (λ o. SideNow tells side (ring_on side rings) o done p5 p6) is (side_now side))

    had_ring : (side : Side) (r : Ring) → ring_on side left ≡ Some r → ring_on side rings ≡ None → ⊥
    had_ring side r is none = no_ring_left tells side (ring_on side rings) r done p5 p6
        (subst (λ o. SideNow tells side (ring_on side rings) o done p5 p6) is (side_now side)) none

    -- by the header and the next number of an image
    by_image : (side : Side) (run : Header → List Block) (image : List ℕ) → rings.header ≡ header_in image → rings.next ≡ next_in image
        → HoldsAfter tells side rings.header (run rings.header) rings.next done p0 p6
        → HoldsAfter tells side (header_in image) (run (header_in image)) (next_in image) done p0 p6
    by_image side run image header number holds =
        subst (λ (n : ℕ). HoldsAfter tells side (header_in image) (run (header_in image)) n done p0 p6) number
        (subst (λ (h : Header). HoldsAfter tells side h (run h) rings.next done p0 p6) header holds)

    module _ (w : StartsWithLead t.frame.words rings s.session.session p0 p5) where
      lead_holds : HoldsAfter tells (lead_on p0) rings.header (run_in (lead_image p0)) rings.next done p0 p6 → LeadHolds tells done p0 p6
      lead_holds holds = by_image (lead_on p0) (λ h. run_in (lead_image p0)) (lead_image p0) w.header w.next holds

      brought_holds : HoldsAfter tells (follower_on p0) rings.header (brought_run rings.header (lead_image p0) (follower_image p0)) rings.next done p0 p6
          → FollowerHoldsBrought tells done p0 p6
      brought_holds holds = by_image (follower_on p0) (λ h. brought_run h (lead_image p0) (follower_image p0)) (lead_image p0) w.header w.next holds

      follower_header : AreAlike t.frame.words p0 → header_in (follower_image p0) ≡ rings.header
      follower_header alike = one_header t.frame.words p0 alike.header ∙ sym w.header

      one_holds : LeadHolds tells done p0 p6 ⊎ FollowerHoldsBrought tells done p0 p6
      one_holds =
          let living = living_side left in
          let side = living.0 in
          ⊎_elim
          (λ is. inl (lead_holds (side_lives (lead_on p0) (run_in (lead_image p0)) living.1.0
          (subst (λ x. ring_on x left ≡ Some living.1.0) is living.1.1) (sym w.header) w.lead)))
          (λ is.
          let ring = subst (λ x. ring_on x left ≡ Some living.1.0) is living.1.1 in
          ⊎_elim
          (λ both. inr (brought_holds (side_lives (follower_on p0) (brought_run rings.header (lead_image p0) (follower_image p0)) living.1.0 ring
          (follower_header both.0) both.1)))
          (λ failed. absurd (had_ring (follower_on p0) living.1.0 ring failed.0))
          w.follower)
          (either side (lead_on p0))

      -- where the other side had failed before, the lead holds them
      pub lead_alone : ring_on (follower_on p0) rings ≡ None → LeadHolds tells done p0 p6
      lead_alone none =
          let living = living_side left in
          ⊎_elim
          (λ is. lead_holds (side_lives (lead_on p0) (run_in (lead_image p0)) living.1.0
          (subst (λ x. ring_on x left ≡ Some living.1.0) is living.1.1) (sym w.header) w.lead))
          (λ is. absurd (had_ring (follower_on p0) living.1.0 (subst (λ x. ring_on x left ≡ Some living.1.0) is living.1.1) none))
          (either living.0 (lead_on p0))

      pub hold_with_lead : HoldWithLead tells done p0 p6
      hold_with_lead = record {
        lead = ⊎_elim (λ rose. inl rose) (λ holds. inr (lead_holds holds)) (side_holds (lead_on p0) (run_in (lead_image p0)) (sym w.header) w.lead);
        follower = ⊎_elim
            (λ both. ⊎_elim (λ rose. inl rose) (λ holds. inr (brought_holds holds))
            (side_holds (follower_on p0) (brought_run rings.header (lead_image p0) (follower_image p0)) (follower_header both.0) both.1))
            (λ failed. inl (failed_before_pull (follower_on p0) failed.0).now)
            w.follower;
        one = one_holds;
        announced = omega (arith, told_now, w.next);
      }

    module _ (w : StartsWithoutLead t.frame.words rings s.session.session p0 p5) where
      own_holds : HoldsAfter tells (follower_on p0) rings.header (run_in (follower_image p0)) rings.next done p0 p6 → FollowerHoldsOwn tells done p0 p6
      own_holds holds = by_image (follower_on p0) (λ h. run_in (follower_image p0)) (follower_image p0) w.header w.next holds

      pub hold_without_lead : HoldWithoutLead tells done p0 p6
      hold_without_lead = record {
        follower =
            let living = living_side left in
            ⊎_elim
            (λ is. absurd (had_ring (lead_on p0) living.1.0 (subst (λ x. ring_on x left ≡ Some living.1.0) is living.1.1) w.lead.0))
            (λ is. own_holds (side_lives (follower_on p0) (run_in (follower_image p0)) living.1.0
            (subst (λ x. ring_on x left ≡ Some living.1.0) is living.1.1) (sym w.header) w.follower))
            (either living.0 (lead_on p0));
        announced = omega (arith, told_now, w.next);
      }

  -- ---- how the recording ended, by an answer

  module _ (answer : PairOutcome) (whole : EndsPairTrace answer → HasRecordedSource (recording_end end))
      (used_up : answer ≡ outcome.SeqEnd → end ≡ Err fault.SeqEnd) where
    have_ended : (Hold : List Block → Type 0) → ((left : PairRings) (done : List Block) → PairRecordsAll tells rings left done p5 p6 → Hold done)
        → HaveEnded rings.next blocks Hold (EndsPairTrace answer) (answer ≡ outcome.SeqEnd)
    have_ended Hold holds = record {
      recorded = λ is. let all = recorded.recorded (whole is) in holds all.0 blocks all.1;
      within = λ is. recorded.within (whole is);
      seq_end = λ is. let ends = recorded.seq_end (used_up is) in holds ends.left (take (sequence_end - rings.next) blocks) ends.recorded;
      beyond = λ is. (recorded.seq_end (used_up is)).beyond;
    }

    -- by the next number and the new blocks of an image
    ended_by : (Hold : List Block → Type 0) (image : List ℕ) → rings.header ≡ header_in image → rings.next ≡ next_in image
        → s.session.session ≡ session_of (run_in image)
        → HaveEnded rings.next blocks Hold (EndsPairTrace answer) (answer ≡ outcome.SeqEnd)
        → HaveEnded (next_in image) (new_blocks t image (good_prefix recorded.pulled)) Hold (EndsPairTrace answer) (answer ≡ outcome.SeqEnd)
    ended_by Hold image header number after ended =
        subst (λ (l : List Block). HaveEnded (next_in image) l Hold (EndsPairTrace answer) (answer ≡ outcome.SeqEnd))
        (blocks_same t rings.header rings.next s.session.session image recorded.pulled header number after)
        (subst (λ (n : ℕ). HaveEnded n blocks Hold (EndsPairTrace answer) (answer ≡ outcome.SeqEnd)) number ended)

    -- it went on from the lead's run
    pub with_lead : IsTrue tells.bytes → StartsWithLead t.frame.words rings s.session.session p0 p5
        → GoesOnWithLead t tells (good_prefix recorded.pulled) recorded.pulled p0 p6 (EndsPairTrace answer) (answer ≡ outcome.SeqEnd)
    with_lead told w = record {
      follower = ⊎_elim
          (λ both. inl (
            both.0,
            λ may. over_pulled t tells s p0 p5 p6 end sound started recorded (KeepsBroughtRun t (good_prefix recorded.pulled) p0)
                (λ stops m since some. ⊎_elim (λ now. inl now)
                (λ late. inr (from_image t tells s p0 p5 p6 end sound started recorded (follower_on p0)
                (brought_run (header_in (lead_image p0)) (lead_image p0) (follower_image p0)) (lead_image p0) m w.header w.next w.after late))
                (kept_on t tells s p0 p5 p6 end sound started recorded (follower_on p0)
                (brought_run (header_in (lead_image p0)) (lead_image p0) (follower_image p0))
                (subst (λ (h : Header). StartsOnRun (ring_on (follower_on p0) rings) rings.header (follower_on p0)
                (brought_run h (lead_image p0) (follower_image p0)) rings.next p0 p5) w.header both.1)
                stops m since (inr some))),
          ))
          (λ failed. inr (
            failed_before_pull (follower_on p0) failed.0,
            ended_by (λ done. LeadHolds tells done p0 p6) (lead_image p0) w.header w.next w.after
                (have_ended (λ done. LeadHolds tells done p0 p6) (λ left done all. lead_alone told left done all w failed.0)),
          ))
          w.follower;
      read = λ late. right_lead t tells s p0 p5 p6 end sound started recorded told w;
      kept = λ side read may. kept_with_lead t tells s p0 p5 p6 end sound started recorded may w side read;
      close = close_from (lead_image p0) w.header w.next;
      in_time = λ may. keeps_up (lead_image p0) w.header w.next;
      ends = ended_by (λ done. HoldWithLead tells done p0 p6) (lead_image p0) w.header w.next w.after
          (have_ended (λ done. HoldWithLead tells done p0 p6) (λ left done all. hold_with_lead told left done all w));
    }

    -- it went on from the other side's run
    pub without_lead : IsTrue tells.bytes → StartsWithoutLead t.frame.words rings s.session.session p0 p5
        → GoesOnWithoutLead t tells (good_prefix recorded.pulled) recorded.pulled p0 p6 (EndsPairTrace answer) (answer ≡ outcome.SeqEnd)
    without_lead told w = record {
      lead = failed_before_pull (lead_on p0) w.lead.0;
      read = λ late. right_other t tells s p0 p5 p6 end sound started recorded told w;
      follower = λ may. over_pulled t tells s p0 p5 p6 end sound started recorded (KeepsOwnRun (follower_on p0) t (good_prefix recorded.pulled) p0)
          (λ stops m since some. ⊎_elim (λ now. inl now)
          (λ late. inr (from_image t tells s p0 p5 p6 end sound started recorded (follower_on p0) (run_in (follower_image p0)) (follower_image p0) m
          w.header w.next w.after late))
          (kept_on t tells s p0 p5 p6 end sound started recorded (follower_on p0) (run_in (follower_image p0)) w.follower stops m since (inr some)));
      kept = λ side read may. kept_without_lead t tells s p0 p5 p6 end sound started recorded may w side read;
      close = close_from (follower_image p0) w.header w.next (follower_on p0);
      in_time = λ may. keeps_up (follower_image p0) w.header w.next;
      ends = ended_by (λ done. HoldWithoutLead tells done p0 p6) (follower_image p0) w.header w.next w.after
          (have_ended (λ done. HoldWithoutLead tells done p0 p6) (λ left done all. hold_without_lead told left done all w));
    }

    -- what both images keep, and how the recording went on
    pub keeps_pair : KeepsPair t tells recorded.pulled p0 p6 answer
    keeps_pair = record {
      lead = lead_kept t tells s p0 p5 p6 end sound started recorded;
      lead_run = lead_run_kept t tells s p0 p5 p6 end sound started recorded;
      follower = follower_kept t tells s p0 p5 p6 end sound started recorded;
      unread = unread_kept t tells s p0 p5 p6 end sound started recorded;
      goes_on = λ later told. ⊎_elim (λ w. inl (with_lead told w)) (λ w. inr (without_lead told w)) (started.goes_on told);
    }

-- ---- the answer of the recording

whole_by : (end : Result SourceEnd PairFault) → EndsPairTrace (recording_answer_of end) → HasRecordedSource (recording_end end)
whole_by (Ok e) is = tt
whole_by (Err fault.DiskFault) is = is
whole_by (Err fault.SeqEnd) is = is

used_up_by : (end : Result SourceEnd PairFault) → recording_answer_of end ≡ outcome.SeqEnd → end ≡ Err fault.SeqEnd
used_up_by (Ok source.Ended) is = absurd (cc)
used_up_by (Ok (source.Stopped (stop.Refused index why))) is = absurd (cc)
used_up_by (Ok (source.Stopped stop.Failed)) is = absurd (cc)
used_up_by (Err fault.DiskFault) is = absurd (cc)
used_up_by (Err fault.SeqEnd) is = refl

-- what both images keep, by the answer to how the recording ended
pub keeps_as_answered : (t : TableRows) (tells : Tells) (s : PairStart) (p0 p5 p6 : Pair) (end : Result SourceEnd PairFault) → IsSoundPair tells p5
    → IsPairStarted t tells s p0 p5
    → (recorded : PairRecordsTrace tells (past_at_start t s.session.rings.header s.session.rings.next s.session.session) s.session.rings p5 p6 end)
    → KeepsPair t tells recorded.pulled p0 p6 (recording_answer_of end)
keeps_as_answered t tells s p0 p5 p6 end sound started recorded =
    keeps_pair t tells s p0 p5 p6 end sound started recorded (recording_answer_of end) (whole_by end) (used_up_by end)

-- ---- a start that was refused

module _ (t : TableRows) (tells : Tells) (p0 p : Pair) (why : PairOutcome) (refused : IsStartRefused t tells p0 p why) where
  rose_on : why ≡ outcome.DiskFault → (side : Side) → Rose (disk_on side p0).faults (disk_on side p).faults
  rose_on is First = refused.causes.first is
  rose_on is Second = refused.causes.second is

  both_failed : why ≡ outcome.DiskFault → GoesOnWithLead t tells (good_prefix []) [] p0 p (EndsPairTrace why) (why ≡ outcome.SeqEnd)
  both_failed is =
      let open_end : EndsPairTrace why → ⊥ = λ ends. subst (λ x. EndsPairTrace x) is ends in
      let no_end : why ≡ outcome.SeqEnd → ⊥ = λ ends. let no : outcome.DiskFault ≡ outcome.SeqEnd = sym is ∙ ends in cc in
      record {
        follower = inr (
          record {
            now = rose_on is (follower_on p0);
            moments = λ stops m since some. let none = (refused.keeps.unpulled stops m since).taken in absurd (omega (arith, some, none));
          },
          record {
            recorded = λ all. absurd (open_end all);
            within = λ all. absurd (open_end all);
            seq_end = λ ends. absurd (no_end ends);
            beyond = λ ends. absurd (no_end ends);
          },
        );
        read = λ late. absurd (⊎_elim (λ all. open_end all) (λ ends. no_end ends) late);
        kept = λ side read may stops m since some. let none = (refused.keeps.unpulled stops m since).taken in absurd (omega (arith, some, none));
        close = λ side stops m since some. let none = (refused.keeps.unpulled stops m since).taken in absurd (omega (arith, some, none));
        in_time = λ may stops m since.
            let at = refused.keeps.unpulled stops m since in
            record { pulled = inl (record { taken = at.taken; pulled_before = at.pulled_before }) };
        ends = record {
          recorded = λ all. absurd (open_end all);
          within = λ all. absurd (open_end all);
          seq_end = λ ends. absurd (no_end ends);
          beyond = λ ends. absurd (no_end ends);
        };
      }

  -- what both images keep where nothing was pulled
  pub refused_keeps : KeepsPair t tells [] p0 p why
  refused_keeps = record {
    lead = λ read may stops m since. ⊎_elim (λ rose. inl rose)
        (λ keeps. inr (keeps_first (header_in (lead_image p0)) (lead_image p0) (run_in (lead_image p0)) (next_in (lead_image p0))
        (new_blocks t (lead_image p0) (good_prefix [])) m.announced (image_on (lead_on p0) m) keeps))
        (refused.keeps.lead read may stops m since);
    lead_run = λ read may stops m since _. refused.keeps.lead_run read may stops m since;
    follower = λ read may stops m since _. refused.keeps.follower read may stops m since;
    unread = refused.keeps.unread;
    goes_on = λ later told. inl (both_failed (⊎_elim (λ line. absurd (later line)) (λ is. is) refused.line));
  }
