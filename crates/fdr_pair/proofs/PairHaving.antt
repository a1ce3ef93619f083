-- What a side keeps from the first pulled byte on, whether it has failed or not: its run and the first of what it is to get.
use Rattle.std.proofs.Common.{◌≡◌, ◌⊎◌, inl, inr, ⊎_elim, ℕ, ◌+◌, List, [], ◌++◌, length, refl, sym, ◌∙◌, ap, subst, Option, Some, None, Result}
use Rattle.std.specs.Prelude.{IsTrue}
use Rattle.fdr_bus.specs.Records.{good_prefix}
use Rattle.fdr_deck.specs.State.{Tells}
use Rattle.fdr_slot.specs.declared.image.Header.{Header}
use Rattle.fdr_recover.specs.Blocks.{Block}
use Rattle.fdr_recover.specs.Images.{next_of, recovered_run}
use Rattle.fdr_recover.specs.ImageHeader.{image_fault_of, header_in}
use Rattle.fdr_recover.specs.Payloads.{run_in}
use Rattle.fdr_ring.specs.declared.ring.Ring.{Ring}
use Rattle.fdr_table.specs.Rows.{TableRows}
use Rattle.fdr_twin.specs.declared.side.Side.{Side}
use Rattle.fdr_twin.specs.declared.side.Side.TheVariants.{First, Second}
use Rattle.fdr_twin.specs.Pair.{Pair, PairMoment, disk_on, image_on, other_side}
use Rattle.fdr_twin.specs.Sound.{IsSoundPair}
use Rattle.fdr_twin.specs.Serving.{EachPairMoment}
use Rattle.fdr_recorder.specs.NewBlocks.{new_blocks, next_in}
use Rattle.fdr_recorder.specs.Past.{past_at_start}
use Rattle.fdr_recorder.specs.declared.source.SourceEnd.{SourceEnd}
use Rattle.fdr_pair.specs.Brought.{blocks_not_below, brought_run, missing_blocks}
use Rattle.fdr_pair.specs.Alike.{AreAlike, lead_on, follower_on, lead_image, follower_image}
use Rattle.fdr_pair.specs.Living.{HasLiving}
use Rattle.fdr_pair.specs.PairMoments.{HasPulledBytes, KeepsRunWith, MayRecordPair, blocks_to_get}
use Rattle.fdr_pair.specs.SideKeeping.{KeepsRecording}
use Rattle.fdr_pair.specs.Traces.{PairRecordsTrace}
use Rattle.fdr_pair.specs.PairStarting.{IsPairStarted, StartsOnRun, StartsWithLead, StartsWithoutLead, ring_on}
use Rattle.fdr_pair.specs.declared.fault.PairFault.{PairFault}
use Rattle.fdr_pair.specs.declared.rings.PairRings.{PairRings}
use Rattle.fdr_pair.specs.declared.start.PairStart.{PairStart}
use Rattle.fdr_pair.proofs.Keeps.{keeps_moved, keeps_with_more}
use Rattle.fdr_pair.proofs.Leading.{brought_next, one_header}
use Rattle.fdr_pair.proofs.Limits.{brought_nothing, limits_in}
use Rattle.fdr_pair.proofs.PairKeeping.{RunWith, keeps_first, none_kept, over_pulled, recording_from, ring_kept}
use Rattle.fdr_pair.specs.Opening.{IsRightImage}

-- a side has a ring, or it has none
ring_or : (o : Option Ring) → (o ≡ None) ⊎ ((r : Ring) × (o ≡ Some r))
ring_or None = inl refl
ring_or (Some r) = inr (r, refl)

none_living : (o u : Option Ring) → HasLiving o u → o ≡ None → u ≡ None → ⊥
none_living (Some r) u living one other = absurd (cc)
none_living None (Some r) living one other = absurd (cc)
none_living None None living one other = absurd (cc)

-- not both sides are without a ring
no_rings : (rings : PairRings) (side : Side) → ring_on side rings ≡ None → ring_on (other_side side) rings ≡ None → ⊥
no_rings rings First one other = none_living rings.first rings.second rings.living one other
no_rings rings Second one other = none_living rings.first rings.second rings.living other one

-- a side or the other
of_sides : (P : Side → Type 0) (b : Side) → P b → P (other_side b) → (side : Side) → P side
of_sides P First own other First = own
of_sides P First own other Second = other
of_sides P Second own other First = other
of_sides P Second own other Second = own

-- images that are alike have no fault
no_fault_alike : {words : ℕ} {p : Pair} → AreAlike words p → (side : Side) → image_fault_of (disk_on side p).held ≡ None
no_fault_alike alike First = alike.header.first
no_fault_alike alike Second = alike.header.second

module _ (t : TableRows) (tells : Tells) (s : PairStart) (p0 p5 p6 : Pair) (end : Result SourceEnd PairFault) (sound : IsSoundPair tells p5)
    (started : IsPairStarted t tells s p0 p5)
    (recorded : PairRecordsTrace tells (past_at_start t s.session.rings.header s.session.rings.next s.session.session) s.session.rings p5 p6 end) where
  header_right : IsTrue tells.bytes → (side : Side) → s.session.rings.header ≡ header_in (disk_on side p0).held
      → image_fault_of (disk_on side p0).held ≡ None → IsRightImage t.frame.words (disk_on side p0).held
  header_right told side header none = record {
    no_fault = none;
    count = ap (λ (h : Header). h.words) (sym header) ∙ (started.header told).count;
    version = ap (λ (h : Header). h.version) (sym header) ∙ (started.header told).version;
  }

  -- a side with a ring has an image without a fault
  read_by_ring : IsTrue tells.bytes → (side : Side) → ring_on (other_side side) s.session.rings ≡ None → image_fault_of (disk_on side p0).held ≡ None
  read_by_ring told side other = ⊎_elim
      (λ none. absurd (no_rings s.session.rings side none other))
      (λ ring. started.read told side ring.0 ring.1)
      (ring_or (ring_on side s.session.rings))

  pub right_lead : IsTrue tells.bytes → StartsWithLead t.frame.words s.session.rings s.session.session p0 p5
      → IsRightImage t.frame.words (lead_image p0)
  right_lead told w = header_right told (lead_on p0) w.header (⊎_elim
      (λ both. no_fault_alike both.0 (lead_on p0))
      (λ failed. read_by_ring told (lead_on p0) failed.0)
      w.follower)

  pub right_other : IsTrue tells.bytes → StartsWithoutLead t.frame.words s.session.rings s.session.session p0 p5
      → IsRightImage t.frame.words (follower_image p0)
  right_other told w = header_right told (follower_on p0) w.header (⊎_elim
      (λ none. absurd (no_rings s.session.rings (lead_on p0) w.lead.0 none))
      (λ ring. started.read told (follower_on p0) ring.0 ring.1)
      (ring_or (ring_on (follower_on p0) s.session.rings)))

module _ (t : TableRows) (tells : Tells) (s : PairStart) (p0 p5 p6 : Pair) (end : Result SourceEnd PairFault) (sound : IsSoundPair tells p5)
    (started : IsPairStarted t tells s p0 p5)
    (recorded : PairRecordsTrace tells (past_at_start t s.session.rings.header s.session.rings.next s.session.session) s.session.rings p5 p6 end)
    (may : MayRecordPair p0) where
  abbrev rings : PairRings
  rings = s.session.rings

  abbrev to_get : Side → Side → List Block
  to_get base side = blocks_to_get base side t (good_prefix recorded.pulled) p0

  abbrev Has : Side → Side → Type 0
  Has base side = EachPairMoment tells p5 p6 (λ m. KeepsRunWith side (to_get base side) p0 m)

  -- the base gets nothing but the new blocks
  base_has : (base : Side) → image_fault_of (disk_on base p0).held ≡ None
      → EachPairMoment tells p5 p6 (λ m. KeepsRunWith base (new_blocks t (disk_on base p0).held (good_prefix recorded.pulled)) p0 m) → Has base base
  base_has base read was stops m since =
      subst (λ (l : List Block). KeepsRunWith base (l ++ new_blocks t (disk_on base p0).held (good_prefix recorded.pulled)) p0 m)
      (sym (brought_nothing (disk_on base p0).held (limits_in (disk_on base p0).held read))) (was stops m since)

  -- a side that kept its run and no more
  run_has : (base side : Side) → ring_on side rings ≡ None → EachPairMoment tells p0 p5 (KeepsRunWith side [] p0) → Has base side
  run_has base side none was stops m since =
      let own = (disk_on side p0).held in
      keeps_first (header_in own) own (run_in own) (next_in own) (to_get base side) 0 (image_on side m)
      (none_kept t tells s p0 p5 p6 end sound started recorded side none
      (λ l. RunWith t tells s p0 p5 p6 end sound started recorded side [] l) was stops m since)

  lead_has : StartsWithLead t.frame.words rings s.session.session p0 p5 → image_fault_of (lead_image p0) ≡ None → Has (lead_on p0) (lead_on p0)
  lead_has w read = ⊎_elim
      (λ none. run_has (lead_on p0) (lead_on p0) none (started.keeps.lead_run read may))
      (λ ring. base_has (lead_on p0) read (λ stops m since.
      recording_from t tells s p0 p5 p6 end sound started recorded (lead_on p0) (λ h. run_in (lead_image p0)) (lead_image p0) (image_on (lead_on p0) m)
      w.header w.next w.after
      (ring_kept t tells s p0 p5 p6 end sound started recorded (lead_on p0) (run_in (lead_image p0)) ring.0 ring.1 w.lead stops m since)))
      (ring_or (ring_on (lead_on p0) rings))

  -- by the header of either image the side that follows is brought the same
  same_missing : AreAlike t.frame.words p0 → missing_blocks (header_in (lead_image p0)) (lead_image p0) (follower_image p0)
      ≡ blocks_not_below (next_in (follower_image p0)) (run_in (lead_image p0))
  same_missing alike = ap (λ (h : Header). blocks_not_below (next_of h (follower_image p0)) (run_in (lead_image p0)))
      (sym (one_header t.frame.words p0 alike.header))

  brought_has : AreAlike t.frame.words p0 → (m : PairMoment)
      → KeepsRunWith (follower_on p0) (missing_blocks (header_in (lead_image p0)) (lead_image p0) (follower_image p0)) p0 m
      → KeepsRunWith (follower_on p0) (to_get (lead_on p0) (follower_on p0)) p0 m
  brought_has alike m keeps =
      let own = follower_image p0 in
      keeps_with_more (header_in own) own (run_in own) (next_in own) (blocks_not_below (next_in own) (run_in (lead_image p0)))
      (new_blocks t (lead_image p0) (good_prefix recorded.pulled)) 0 (image_on (follower_on p0) m)
      (subst (λ (l : List Block). KeepsRunWith (follower_on p0) l p0 m) (same_missing alike) keeps)

  -- a side that follows and has failed
  follower_failed : image_fault_of (follower_image p0) ≡ None → ring_on (follower_on p0) rings ≡ None → Has (lead_on p0) (follower_on p0)
  follower_failed read none stops m since =
      let own = follower_image p0 in
      ⊎_elim
      (λ keeps. keeps_first (header_in own) own (run_in own) (next_in own) (to_get (lead_on p0) (follower_on p0)) 0 (image_on (follower_on p0) m) keeps)
      (λ brought. brought_has brought.0 m brought.1)
      (none_kept t tells s p0 p5 p6 end sound started recorded (follower_on p0) none
      (λ l. RunWith t tells s p0 p5 p6 end sound started recorded (follower_on p0) [] l ⊎ (AreAlike t.frame.words p0
      × RunWith t tells s p0 p5 p6 end sound started recorded (follower_on p0)
      (missing_blocks (header_in (lead_image p0)) (lead_image p0) (follower_image p0)) l))
      (started.keeps.follower read may) stops m since)

  -- one that was brought up
  follower_brought : StartsWithLead t.frame.words rings s.session.session p0 p5 → AreAlike t.frame.words p0 → (r : Ring)
      → ring_on (follower_on p0) rings ≡ Some r
      → StartsOnRun (ring_on (follower_on p0) rings) rings.header (follower_on p0) (brought_run rings.header (lead_image p0) (follower_image p0))
      rings.next p0 p5 → Has (lead_on p0) (follower_on p0)
  follower_brought w alike r ring begins stops m since =
      let own = follower_image p0 in
      let lead = lead_image p0 in
      let new = new_blocks t lead (good_prefix recorded.pulled) in
      let missing = blocks_not_below (next_in own) (run_in lead) in
      let image = image_on (follower_on p0) m in
      let same = one_header t.frame.words p0 alike.header in
      let kept : KeepsRecording (header_in lead) own (brought_run (header_in lead) lead own) (next_in lead) new 0 image =
      recording_from t tells s p0 p5 p6 end sound started recorded (follower_on p0) (λ h. brought_run h lead own) lead image w.header w.next w.after
      (ring_kept t tells s p0 p5 p6 end sound started recorded (follower_on p0) (brought_run rings.header lead own) r ring begins stops m since) in
      let at : KeepsRecording (header_in own) own (run_in own ++ missing) (next_in lead) new 0 image =
      subst (λ (h : Header). KeepsRecording h own (recovered_run h own ++ blocks_not_below (next_of h own) (run_in lead)) (next_in lead) new 0 image) (sym same)
      kept in
      let limits = limits_in lead (no_fault_alike alike (lead_on p0)) in
      let long : next_in own + length missing ≡ next_in lead =
      subst (λ (h : Header). next_in own + length (blocks_not_below (next_of h own) (run_in lead)) ≡ next_in lead) (sym same)
      (brought_next t.frame.words p0 alike limits) in
      keeps_moved (header_in own) own (run_in own) missing (next_in own) (next_in lead) new 0 image long at

  follower_has : StartsWithLead t.frame.words rings s.session.session p0 p5 → image_fault_of (follower_image p0) ≡ None
      → Has (lead_on p0) (follower_on p0)
  follower_has w read = ⊎_elim
      (λ none. follower_failed read none)
      (λ ring. ⊎_elim
      (λ both. follower_brought w both.0 ring.0 ring.1 both.1)
      (λ failed. absurd (let no : None ≡ Some ring.0 = sym failed.0 ∙ ring.1 in cc))
      w.follower)
      (ring_or (ring_on (follower_on p0) rings))

  other_has : StartsWithoutLead t.frame.words rings s.session.session p0 p5 → image_fault_of (follower_image p0) ≡ None
      → Has (follower_on p0) (follower_on p0)
  other_has w read = ⊎_elim
      (λ none. absurd (no_rings rings (lead_on p0) w.lead.0 none))
      (λ ring. base_has (follower_on p0) read (λ stops m since.
      recording_from t tells s p0 p5 p6 end sound started recorded (follower_on p0) (λ h. run_in (follower_image p0)) (follower_image p0)
      (image_on (follower_on p0) m) w.header w.next w.after
      (ring_kept t tells s p0 p5 p6 end sound started recorded (follower_on p0) (run_in (follower_image p0)) ring.0 ring.1 w.follower stops m since)))
      (ring_or (ring_on (follower_on p0) rings))

  -- over all moments
  has_pulled : (base side : Side) → Has base side
      → EachPairMoment tells p0 p6 (λ m. HasPulledBytes p0 m → KeepsRunWith side (to_get base side) p0 m)
  has_pulled base side has = over_pulled t tells s p0 p5 p6 end sound started recorded (KeepsRunWith side (to_get base side) p0)
      (λ stops m since some. inr (has stops m since))

  pub kept_with_lead : StartsWithLead t.frame.words rings s.session.session p0 p5 → (side : Side) → image_fault_of (disk_on side p0).held ≡ None
      → EachPairMoment tells p0 p6 (λ m. HasPulledBytes p0 m → KeepsRunWith side (to_get (lead_on p0) side) p0 m)
  kept_with_lead w = of_sides (λ (x : Side). image_fault_of (disk_on x p0).held ≡ None
      → EachPairMoment tells p0 p6 (λ m. HasPulledBytes p0 m → KeepsRunWith x (to_get (lead_on p0) x) p0 m)) (lead_on p0)
      (λ read. has_pulled (lead_on p0) (lead_on p0) (lead_has w read)) (λ read. has_pulled (lead_on p0) (follower_on p0) (follower_has w read))

  pub kept_without_lead : StartsWithoutLead t.frame.words rings s.session.session p0 p5 → (side : Side) → image_fault_of (disk_on side p0).held ≡ None
      → EachPairMoment tells p0 p6 (λ m. HasPulledBytes p0 m → KeepsRunWith side (to_get (follower_on p0) side) p0 m)
  kept_without_lead w = of_sides (λ (x : Side). image_fault_of (disk_on x p0).held ≡ None
      → EachPairMoment tells p0 p6 (λ m. HasPulledBytes p0 m → KeepsRunWith x (to_get (follower_on p0) x) p0 m)) (lead_on p0)
      (λ read. has_pulled (follower_on p0) (lead_on p0) (run_has (follower_on p0) (lead_on p0) w.lead.0 (started.keeps.lead_run read may)))
      (λ read. has_pulled (follower_on p0) (follower_on p0) (other_has w read))
