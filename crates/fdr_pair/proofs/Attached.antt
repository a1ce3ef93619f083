-- Both sides, attached for a recording.
use Rattle.std.proofs.Common.{◌≡◌, ◌≢◌, inl, inr, ⊎_elim, ℕ, ◌-◌, List, refl, sym, ◌∙◌, ap, subst, arith, Option, Some, None}
use Rattle.std.specs.Prelude.{IsTrue}
use Rattle.fdr_io.specs.Faults.{Rose}
use Rattle.fdr_deck.specs.State.{Tells}
use Rattle.fdr_slot.specs.declared.image.Header.{Header}
use Rattle.fdr_recover.specs.Images.{recovered_run}
use Rattle.fdr_ring.specs.Rings.{IsAttaching, OfSettled}
use Rattle.fdr_ring.specs.declared.ring.Ring.{Ring}
use Rattle.fdr_recorder.proofs.Steps.{tail_same}
use Rattle.fdr_twin.specs.declared.side.Side.{Side}
use Rattle.fdr_twin.specs.declared.side.Side.TheVariants.{First, Second}
use Rattle.fdr_twin.specs.Pair.{Pair, PairMoment, disk_on, image_on, seen}
use Rattle.fdr_twin.specs.Same.{IsSameDisk}
use Rattle.fdr_twin.specs.Rest.{PairElapses, StaysOn, LeavesSide}
use Rattle.fdr_twin.specs.RestSound.{LeavesSide-here, IsSameDisk-then, PairElapses-then}
use Rattle.fdr_twin.specs.Sound.{IsSoundPair}
use Rattle.fdr_twin.specs.Serving.{EachPairMoment, Serves}
use Rattle.fdr_twin.proofs.Serves.{other_left}
use Rattle.fdr_pair.specs.declared.join.Follower.{Follower}
use Rattle.fdr_pair.specs.declared.join.Follower.TheVariants as follower
use Rattle.fdr_pair.specs.declared.join.Joined.{Joined}
use Rattle.fdr_pair.specs.declared.outcome.PairOutcome.{PairOutcome}
use Rattle.fdr_pair.specs.declared.outcome.PairOutcome.TheVariants as outcome
use Rattle.fdr_pair.specs.declared.rings.PairRings.{PairRings}
use Rattle.fdr_pair.specs.PairWork.{PairWork}
use Rattle.fdr_pair.specs.Announcing.{PairAnnounces, AnnouncesLiving}
use Rattle.fdr_pair.specs.Attaching.{start_on, IsAttachReady, HasNext, AttachedNow, AttachMoment, AreAttachMoments, AgreeOnNext}
use Rattle.fdr_pair.specs.Attaching.{IsNotGoneOn, HasGoneOnFrom, IsGoingFault}
use Rattle.fdr_pair.proofs.Sides.{settled_on}
use Rattle.fdr_pair.proofs.Going.{known, ring_left}
use Rattle.fdr_pair.proofs.PairWorks.{work_here, work_of, work_then}
use Rattle.fdr_pair.proofs.SideCounts.{counted_then}
use Rattle.fdr_pair.specs.SideCounts.{CountsBoth}
use Rattle.fdr_pair.proofs.KeptSides.{of_now}

-- an image that is as it was
attaching_same : (h : Header) (image : List ℕ) → IsAttaching h image image
attaching_same h image = record {
  run = record { kept = record { size = refl; header = refl }; run = tail_same (h.slots - 1) (recovered_run h image); next = refl };
  bytes = record { torn = record { size = refl; front = refl; behind = refl }; same = λ closed. refl };
}

-- calls whose moments have another property besides
pub with_moments : (tells : Tells) (P Q : PairMoment → Type 0) (old new : Pair) → PairWork tells P old new → EachPairMoment tells old new Q
    → PairWork tells Q old new
with_moments tells P Q old new work each =
    record { time = work.time; counts = work.counts; line = work.line; line_moments = work.line_moments; moments = each }

-- a moment at which a side is as it was on a disk that was as before
stays_before : (side : Side) (old mid : Pair) (m : PairMoment) → IsSameDisk (disk_on side old) (disk_on side mid) → StaysOn side mid m → StaysOn side old m
stays_before side old mid m same stays = record { image = same.no_more (image_on side m) stays.image; faults = stays.faults ∙ same.faults }

-- what a side is attached from, and what became of it
module _ (tells : Tells) (h : Header) (side : Side) where
  -- no calls, on a side that has failed
  pub failed_still : (p : Pair) → IsSoundPair tells p → PairWork tells (AttachMoment h side follower.Failed p) p p
  failed_still p sound = with_moments tells (λ m. IsTrue tells.stops → IsTrue tells.stops) (AttachMoment h side follower.Failed p) p p
      (work_here tells (λ m. IsTrue tells.stops → IsTrue tells.stops) p sound (λ stops m first second told. told)) (λ stops m since. inl since)

  -- no calls, on a side that has its ring already
  pub ring_still : (r : Ring) (p : Pair) → IsSoundPair tells p → PairWork tells (AttachMoment h side (follower.Brought r) p) p p
  ring_still r p sound = with_moments tells (λ m. IsTrue tells.stops → IsTrue tells.stops) (AttachMoment h side (follower.Brought r) p) p p
      (work_here tells (λ m. IsTrue tells.stops → IsTrue tells.stops) p sound (λ stops m first second told. told))
      (λ stops m since. other_left tells side p p sound (LeavesSide-here side p) stops m since)

  -- an attach
  pub attach_work : (old new : Pair) → IsSoundPair tells old → Serves tells side (OfSettled (seen side old) (IsAttaching h)) old new
      → CountsBoth old new → PairWork tells (AttachMoment h side follower.Level old) old new
  attach_work old new sound served counts =
      work_of tells side (OfSettled (seen side old) (IsAttaching h)) (AttachMoment h side follower.Level old) old new sound served counts
      (λ stops m own other. own)

  -- a side is as ready as it was, where its disk is as it was
  pub ready_left : (start : Follower) (p q : Pair) → IsSameDisk (disk_on side p) (disk_on side q) → IsAttachReady tells h side start p
      → IsAttachReady tells h side start q
  ready_left follower.Failed p q same ready = tt
  ready_left follower.Level p q same ready = omega (arith, ready, same.extent)
  ready_left (follower.Brought r) p q same ready = (ring_left tells side r p q same ready.0, ready.1)

  -- what became of a side, and then its disk is left
  pub now_then : (start : Follower) (o : Option Ring) (old mid new : Pair) → IsSameDisk (disk_on side mid) (disk_on side new)
      → AttachedNow tells h side start o old mid → AttachedNow tells h side start o old new
  now_then follower.Failed None old mid new same now = same.faults ∙ now
  now_then follower.Failed (Some r) old mid new same now = absurd now
  now_then follower.Level None old mid new same now = subst (λ (n : ℕ). Rose (disk_on side old).faults n) (sym same.faults) now
  now_then follower.Level (Some r) old mid new same now = record {
    header = now.header;
    next = now.next;
    keeps = λ told. subst (λ (l : List ℕ). IsAttaching h (disk_on side old).held l) (sym same.held) (now.keeps told);
    run = λ told. ap (λ (l : List ℕ). recovered_run h l) same.held ∙ now.run told;
    ring = ring_left tells side r mid new same now.ring;
    faults = same.faults ∙ now.faults;
  }
  now_then (follower.Brought r) None old mid new same now = absurd now
  now_then (follower.Brought r) (Some s) old mid new same now = record {
    same = now.same;
    ring = ring_left tells side s mid new same now.ring;
    disk = IsSameDisk-then (disk_on side old) (disk_on side mid) (disk_on side new) now.disk same;
  }

  -- a moment of calls that leave the side
  pub moment_left : (start : Follower) (old new : Pair) → IsSoundPair tells old → LeavesSide side old new
      → EachPairMoment tells old new (AttachMoment h side start old)
  moment_left follower.Failed old new sound leaves stops m since = leaves.moments m since
  moment_left follower.Level old new sound leaves stops m since =
      let image = other_left tells side old new sound leaves stops m since in
      (λ settled. subst (λ (l : List ℕ). IsAttaching h (disk_on side old).held l) (sym (settled (image_on side m) image))
      (attaching_same h (disk_on side old).held))
  moment_left (follower.Brought r) old new sound leaves stops m since = other_left tells side old new sound leaves stops m since

  -- a moment after calls that leave the side
  pub moment_before : (start : Follower) (old mid : Pair) (m : PairMoment) → IsSoundPair tells mid → PairElapses old mid → LeavesSide side old mid
      → AttachMoment h side start mid m → AttachMoment h side start old m
  moment_before follower.Failed old mid m sound time leaves at = ⊎_elim
      (λ now. leaves.moments m (sound.falls old.clock mid.clock m time.later (omega arith) now))
      (λ stays. inr (stays_before side old mid m leaves.disk stays))
      at
  moment_before follower.Level old mid m sound time leaves at =
      λ settled. subst (λ (l : List ℕ). IsAttaching h l (image_on side m)) leaves.disk.held (at (settled_on old mid side leaves.disk settled))
  moment_before (follower.Brought r) old mid m sound time leaves at = leaves.disk.no_more (image_on side m) at

  -- a moment of a side that has a ring now, at which its image is one that a stop could leave
  pub moment_now : (start : Follower) (r : Ring) (old mid : Pair) (m : PairMoment) → IsSoundPair tells mid → AttachedNow tells h side start (Some r) old mid
      → IsTrue tells.stops → (disk_on side mid).may_leave (image_on side m) → AttachMoment h side start old m
  moment_now follower.Failed r old mid m sound now stops image = absurd now
  moment_now follower.Level r old mid m sound now stops image =
      (λ settled. subst (λ (l : List ℕ). IsAttaching h (disk_on side old).held l) (sym (now.ring.settled stops (image_on side m) image))
      (now.keeps ((sound.sides side).stops_need_bytes stops)))
  moment_now (follower.Brought s) r old mid m sound now stops image = now.disk.no_more (image_on side m) image

  -- a moment of calls that leave the side, after what became of it
  pub moment_then : (start : Follower) (o : Option Ring) (old mid new : Pair) → IsSoundPair tells mid → PairElapses old mid
      → AttachedNow tells h side start o old mid → (start ≡ follower.Failed → IsSameDisk (disk_on side old) (disk_on side mid))
      → EachPairMoment tells old mid (AttachMoment h side start old) → LeavesSide side mid new → EachPairMoment tells mid new (AttachMoment h side start old)
  moment_then start (Some r) old mid new sound time now still was leaves stops m since =
      moment_now start r old mid m sound now stops (other_left tells side mid new sound leaves stops m since)
  moment_then follower.Failed None old mid new sound time now still was leaves stops m since = ⊎_elim
      (λ here. known tells (AttachMoment h side follower.Failed old) old mid sound time was stops m here)
      (λ stays. inr (stays_before side old mid m (still refl) stays))
      (leaves.moments m since)
  moment_then follower.Level None old mid new sound time now still was leaves stops m since =
      of_now tells side (OfSettled (seen side old) (IsAttaching h)) mid m sound stops
      (λ x here. known tells (AttachMoment h side follower.Level old) old mid sound time was stops x here)
      (other_left tells side mid new sound leaves stops m since)
  moment_then (follower.Brought r) None old mid new sound time now still was leaves stops m since = absurd now

  -- the ring that a side has now goes on with the number that was found
  next_now : (start : Follower) (r : Ring) (found : ℕ) (old new : Pair) → HasNext tells h side start found old
      → AttachedNow tells h side start (Some r) old new → IsTrue tells.bytes → r.next ≡ found
  next_now follower.Failed r found old new has now told = absurd now
  next_now follower.Level r found old new has now told = now.next told ∙ has told
  next_now (follower.Brought s) r found old new has now told = ap (λ (x : Ring). x.next) now.same ∙ has

  -- no fault was counted on a side that has a ring now
  faults_now : (start : Follower) (r : Ring) (old new : Pair) → AttachedNow tells h side start (Some r) old new
      → (disk_on side new).faults ≡ (disk_on side old).faults
  faults_now follower.Failed r old new now = absurd now
  faults_now follower.Level r old new now = now.faults
  faults_now (follower.Brought s) r old new now = now.disk.faults

-- the first side is attached, and then the second
module _ (tells : Tells) (h : Header) (lead : Side) (other start_first start_second : Follower) (o : Option Ring) (old mid new : Pair)
    (sound : IsSoundPair tells old) (sound_mid : IsSoundPair tells mid) (is_first : start_first ≡ start_on First lead other)
    (is_second : start_second ≡ start_on Second lead other) (one : AttachedNow tells h First start_first o old mid)
    (one_work : PairWork tells (AttachMoment h First start_first old) old mid) (one_left : LeavesSide Second old mid)
    (one_still : start_first ≡ follower.Failed → IsSameDisk old.first mid.first) where
  both_at : (m : PairMoment) → AttachMoment h First start_first old m → AttachMoment h Second start_second old m → AreAttachMoments h lead other old m
  both_at m first second = record {
    first = subst (λ (f : Follower). AttachMoment h First f old m) is_first first;
    second = subst (λ (f : Follower). AttachMoment h Second f old m) is_second second;
  }

  -- while the first is attached
  one_moments : EachPairMoment tells old mid (AreAttachMoments h lead other old)
  one_moments stops m since =
      both_at m (one_work.moments stops m since) (moment_left tells h Second start_second old mid sound one_left stops m since)

  module _ (two_work : PairWork tells (AttachMoment h Second start_second mid) mid new) (two_left : LeavesSide First mid new) where
    pub first_attached : AttachedNow tells h First (start_on First lead other) o old new
    first_attached = subst (λ (f : Follower). AttachedNow tells h First f o old new) is_first
        (now_then tells h First start_first o old mid new two_left.disk one)

    -- while the second is attached
    two_moments : EachPairMoment tells mid new (AreAttachMoments h lead other old)
    two_moments stops m since = both_at m
        (moment_then tells h First start_first o old mid new sound_mid one_work.time one one_still one_work.moments two_left stops m since)
        (moment_before tells h Second start_second old mid m sound_mid one_work.time one_left (two_work.moments stops m since))

    pub both_attached : PairWork tells (AreAttachMoments h lead other old) old new
    both_attached = work_then tells (AreAttachMoments h lead other old) (AreAttachMoments h lead other old) (AreAttachMoments h lead other old) old mid new
        sound_mid
        (with_moments tells (AttachMoment h First start_first old) (AreAttachMoments h lead other old) old mid one_work one_moments)
        (with_moments tells (AttachMoment h Second start_second mid) (AreAttachMoments h lead other old) mid new two_work two_moments)
        (λ stops m at. at) (λ stops m at. at)

-- no side had failed, where both have rings now
living_follower : (tells : Tells) (h : Header) (lead : Side) (other : Follower) (r s : Ring) (old new : Pair)
    → AttachedNow tells h First (start_on First lead other) (Some r) old new → AttachedNow tells h Second (start_on Second lead other) (Some s) old new
    → other ≢ follower.Failed
living_follower tells h First follower.Failed r s old new first second = absurd second
living_follower tells h Second follower.Failed r s old new first second = absurd first
living_follower tells h lead follower.Level r s old new first second = λ is. absurd (cc)
living_follower tells h lead (follower.Brought x) r s old new first second = λ is. absurd (cc)

-- both sides were attached, from the old pair to the one in between
module _ (tells : Tells) (h : Header) (joined : Joined) (old mid : Pair) (sound_mid : IsSoundPair tells mid)
    (first_next : HasNext tells h First (start_on First joined.lead joined.follower) joined.found.next old)
    (second_next : HasNext tells h Second (start_on Second joined.lead joined.follower) joined.found.next old)
    (work : PairWork tells (AreAttachMoments h joined.lead joined.follower old) old mid)
    (first_same : start_on First joined.lead joined.follower ≡ follower.Failed → IsSameDisk old.first mid.first)
    (second_same : start_on Second joined.lead joined.follower ≡ follower.Failed → IsSameDisk old.second mid.second) where
  -- no number is that of all rings
  pub not_gone_on : (o u : Option Ring) (why : PairOutcome) → AttachedNow tells h First (start_on First joined.lead joined.follower) o old mid
      → AttachedNow tells h Second (start_on Second joined.lead joined.follower) u old mid → IsNotGoneOn o u why
      → IsGoingFault tells h joined why old mid
  not_gone_on None None outcome.DiskFault first second why = (first, second)
  not_gone_on (Some r) (Some s) (outcome.BlocksDiffer seq) first second differ = (
    living_follower tells h joined.lead joined.follower r s old mid first second,
    record {
      first = faults_now tells h First (start_on First joined.lead joined.follower) r old mid first;
      second = faults_now tells h Second (start_on Second joined.lead joined.follower) s old mid second;
    },
    λ told. differ.0 (next_now tells h First (start_on First joined.lead joined.follower) r joined.found.next old mid first_next first told
        ∙ sym (next_now tells h Second (start_on Second joined.lead joined.follower) s joined.found.next old mid second_next second told)),
  )
  not_gone_on o u why first second never = absurd never

  -- the number of the rings is the one that was found
  next_found : (o u : Option Ring) (next : ℕ) → AttachedNow tells h First (start_on First joined.lead joined.follower) o old mid
      → AttachedNow tells h Second (start_on Second joined.lead joined.follower) u old mid → AgreeOnNext o u next → IsTrue tells.bytes
      → next ≡ joined.found.next
  next_found None None next first second agree told = absurd agree
  next_found None (Some s) next first second agree told =
      sym agree ∙ next_now tells h Second (start_on Second joined.lead joined.follower) s joined.found.next old mid second_next second told
  next_found (Some r) None next first second agree told =
      sym agree ∙ next_now tells h First (start_on First joined.lead joined.follower) r joined.found.next old mid first_next first told
  next_found (Some r) (Some s) next first second agree told =
      sym agree.0 ∙ next_now tells h First (start_on First joined.lead joined.follower) r joined.found.next old mid first_next first told

  -- a moment of either side until then
  first_was : EachPairMoment tells old mid (AttachMoment h First (start_on First joined.lead joined.follower) old)
  first_was stops m since = (work.moments stops m since).first

  second_was : EachPairMoment tells old mid (AttachMoment h Second (start_on Second joined.lead joined.follower) old)
  second_was stops m since = (work.moments stops m since).second

  -- the next number is announced
  module _ (rings : PairRings) (o u : Option Ring) (next : ℕ) (new : Pair) (header : rings.header ≡ h) (is_first : rings.first ≡ o)
      (is_second : rings.second ≡ u) (is_next : rings.next ≡ next) (agree : AgreeOnNext o u next)
      (first : AttachedNow tells h First (start_on First joined.lead joined.follower) o old mid)
      (second : AttachedNow tells h Second (start_on Second joined.lead joined.follower) u old mid) where
    gone_told : (side : Side) → PairAnnounces tells side next mid new → IsSameDisk mid.first new.first → IsSameDisk mid.second new.second
        → EachPairMoment tells mid new (AreAttachMoments h joined.lead joined.follower old) → HasGoneOnFrom tells h joined rings old new
    gone_told side tell same_first same_second each = record {
      header = header;
      next = λ told. is_next ∙ next_found o u next first second agree told;
      first = subst (λ (x : Option Ring). AttachedNow tells h First (start_on First joined.lead joined.follower) x old new) (sym is_first)
          (now_then tells h First (start_on First joined.lead joined.follower) o old mid new same_first first);
      second = subst (λ (x : Option Ring). AttachedNow tells h Second (start_on Second joined.lead joined.follower) x old new) (sym is_second)
          (now_then tells h Second (start_on Second joined.lead joined.follower) u old mid new same_second second);
      time = PairElapses-then old mid new work.time tell.time;
      counts = counted_then tells old mid new sound_mid work.time tell.time work.counts tell.counts;
      line = record {
        input = tell.line.input ∙ work.line.input;
        taken = tell.line.taken ∙ work.line.taken;
        pulled_before = tell.line.pulled_before ∙ work.line.pulled_before;
        input_faults = tell.line.input_faults ∙ work.line.input_faults;
      };
      announced = tell.announced ∙ sym is_next;
      least = omega (arith, tell.least, work.line.least, is_next);
      greatest = omega (arith, tell.greatest, work.line.greatest, is_next);
      moments = λ stops m since. ⊎_elim
          (λ was. let at = work.line_moments stops m was in record {
            sides = work.moments stops m was;
            least = omega (arith, at.least);
            announced = omega (arith, at.greatest);
            pulled = record { taken = at.taken; pulled_before = at.pulled_before };
          })
          (λ is. let at = tell.moments stops m is in record {
            sides = each stops m is;
            least = omega (arith, at.least, work.line.least, is_next);
            announced = omega (arith, at.announced, work.line.greatest, is_next);
            pulled = record { taken = at.pulled.taken ∙ work.line.taken; pulled_before = at.pulled.pulled_before ∙ work.line.pulled_before };
          })
          (tell.time.no_more old.clock m work.time.later since);
    }

  pub gone_on : (rings : PairRings) (o u : Option Ring) (next : ℕ) (new : Pair) → rings.header ≡ h → rings.first ≡ o → rings.second ≡ u
      → rings.next ≡ next → AgreeOnNext o u next → AttachedNow tells h First (start_on First joined.lead joined.follower) o old mid
      → AttachedNow tells h Second (start_on Second joined.lead joined.follower) u old mid → AnnouncesLiving tells o u next mid new
      → HasGoneOnFrom tells h joined rings old new
  gone_on rings None None next new header is_first is_second is_next agree first second tell = absurd agree
  gone_on rings (Some r) u next new header is_first is_second is_next agree first second tell =
      gone_told rings (Some r) u next new header is_first is_second is_next agree first second First tell tell.own tell.away.disk
      (λ stops m since. record {
        first = moment_now tells h First (start_on First joined.lead joined.follower) r old mid m sound_mid first stops (tell.moments stops m since).image;
        second = moment_then tells h Second (start_on Second joined.lead joined.follower) u old mid new sound_mid work.time second second_same second_was
            tell.away stops m since;
      })
  gone_on rings None (Some s) next new header is_first is_second is_next agree first second tell =
      gone_told rings None (Some s) next new header is_first is_second is_next agree first second Second tell tell.away.disk tell.own
      (λ stops m since. record {
        first = moment_then tells h First (start_on First joined.lead joined.follower) None old mid new sound_mid work.time first first_same first_was
            tell.away stops m since;
        second = moment_now tells h Second (start_on Second joined.lead joined.follower) s old mid m sound_mid second stops (tell.moments stops m since).image;
      })
