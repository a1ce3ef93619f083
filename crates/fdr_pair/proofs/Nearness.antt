-- What is on the sides of a twin, and how far it is ahead of what is announced.
use Rattle.std.proofs.Common.{◌≡◌, ℕ, ◌+◌, ◌≤◌, List, sym, ◌∙◌, ap, arith, Option, Some, None}
use Rattle.std.specs.Prelude.{IsTrue}
use Rattle.fdr_deck.specs.State.{State, Tells}
use Rattle.fdr_slot.specs.declared.image.Header.{Header}
use Rattle.fdr_recover.specs.Images.{next_of}
use Rattle.fdr_recorder.specs.Recording.{IsClose}
use Rattle.fdr_ring.specs.declared.ring.Ring.{Ring}
use Rattle.fdr_twin.specs.declared.side.Side.{Side}
use Rattle.fdr_twin.specs.declared.side.Side.TheVariants.{First, Second}
use Rattle.fdr_twin.specs.Pair.{Pair, disk_on, seen}
use Rattle.fdr_twin.specs.Same.{IsSameState}
use Rattle.fdr_twin.specs.Rest.{PairElapses}
use Rattle.fdr_twin.specs.RestSound.{PairElapses-then}
use Rattle.fdr_twin.specs.Sound.{IsSoundPair}
use Rattle.fdr_twin.specs.Serving.{EachPairMoment}
use Rattle.fdr_pair.specs.Ahead.{IsCloseOn, IsNearNow, StaysNear, StaysNearOn}
use Rattle.fdr_pair.specs.Announcing.{AnnouncesLiving}
use Rattle.fdr_pair.specs.Living.{Follows}
use Rattle.fdr_pair.specs.SidePuts.{IsSettledRing, PutsUnlessFailed}
use Rattle.fdr_pair.proofs.Going.{on}
use Rattle.fdr_pair.proofs.KeptSides.{now_left_image, tell_left, tell_time}
use Rattle.fdr_pair.proofs.NearLeft.{near_left}
use Rattle.fdr_pair.proofs.Servings.{now_quiet}
use Rattle.fdr_pair.proofs.Told.{shows}

-- what holds of the deck that the twin is, turned to a side, holds of the side
pub near_shown : (tells : Tells) (h : Header) (side : Side) (s t : State) (p q : Pair) → IsSameState s (seen side p) → IsSameState t (seen side q)
    → StaysNear tells h s t → StaysNearOn tells h side p q
near_shown tells h side s t p q same_old same_new near = record {
  moments = λ mark now. shows tells (IsClose h mark) side s t p q same_old same_new (near.moments mark (before mark now));
  now = λ stops mark now image leaves.
      let few = near.now stops mark (before mark now) image (same_new.left image leaves) in
      omega (arith, few, same_new.least);
}
  where
    before : (mark : ℕ) → IsNearNow h mark (seen side p) → IsNearNow h mark s
    before mark now image leaves = let few = now image (same_old.leaves image leaves) in omega (arith, few, same_old.least)

-- nothing was done
pub near_here : (tells : Tells) (h : Header) (side : Side) (p : Pair) → IsSoundPair tells p → StaysNearOn tells h side p p
near_here tells h side p sound = near_left tells h side p p (now_left_image tells side p sound)
    (λ stops m since. (now_quiet tells side p sound stops m since).least) (λ image leaves. leaves) (omega arith)

-- calls, and then others
pub near_on_then : (tells : Tells) (h : Header) (side : Side) (start p q : Pair) → PairElapses start p → PairElapses p q → StaysNearOn tells h side start p
    → StaysNearOn tells h side p q → StaysNearOn tells h side start q
near_on_then tells h side start p q before time one two = record {
  moments = λ mark near stops m since.
      on tells (IsCloseOn h mark side) start p q before time (one.moments mark near) (two.moments mark (one.now stops mark near)) stops m since;
  now = λ stops mark near. two.now stops mark (one.now stops mark near);
}

-- ---- an announcement

tell_more : (tells : Tells) (side : Side) (o u : Option Ring) (count : ℕ) (p q : Pair) → AnnouncesLiving tells o u count p q → (image : List ℕ)
    → (disk_on side q).may_leave image → (disk_on side p).may_leave image
tell_more tells First (Some r) u count p q tell image leaves = tell.own.no_more image leaves
tell_more tells Second (Some r) u count p q tell image leaves = tell.away.disk.no_more image leaves
tell_more tells First None (Some s) count p q tell image leaves = tell.away.disk.no_more image leaves
tell_more tells Second None (Some s) count p q tell image leaves = tell.own.no_more image leaves
tell_more tells First None None count p q tell image leaves = tell.first.disk.no_more image leaves
tell_more tells Second None None count p q tell image leaves = tell.second.disk.no_more image leaves

module _ (tells : Tells) (count : ℕ) (p q : Pair) (sound : IsSoundPair tells p) (most : p.announced ≤ count) where
  tell_low : (o u : Option Ring) → AnnouncesLiving tells o u count p q → EachPairMoment tells p q (λ m. p.least ≤ m.announced)
  tell_low (Some r) u tell stops m since =
      let low = (tell.moments stops m since).least in
      omega (arith, low, most, (sound.sides First).least)
  tell_low None (Some s) tell stops m since =
      let low = (tell.moments stops m since).least in
      omega (arith, low, most, (sound.sides First).least)
  tell_low None None tell stops m since = (now_quiet tells First p sound stops m (tell.moments m since)).least

  tell_least : (o u : Option Ring) → AnnouncesLiving tells o u count p q → p.least ≤ q.least
  tell_least (Some r) u tell = omega (arith, tell.least, most, (sound.sides First).least)
  tell_least None (Some s) tell = omega (arith, tell.least, most, (sound.sides First).least)
  tell_least None None tell = omega (arith, tell.least)

  -- a number that isn't below the announced one is told
  near_told : (h : Header) (side : Side) (o u : Option Ring) → AnnouncesLiving tells o u count p q → StaysNearOn tells h side p q
  near_told h side o u tell = near_left tells h side p q (tell_left tells side o u count p q sound tell) (tell_low o u tell)
      (tell_more tells side o u count p q tell) (tell_least o u tell)

-- ---- a block on both sides, and its announcement

pub near_block : (tells : Tells) (h : Header) (next session : ℕ) (bytes : List ℕ) (p0 p1 p2 p3 : Pair) (o0 o1 u0 u1 : Option Ring) → IsSoundPair tells p2
    → PutsUnlessFailed tells First o0 o1 session bytes p0 p1 → PutsUnlessFailed tells Second u0 u1 session bytes p1 p2
    → AnnouncesLiving tells o1 u1 (next + 1) p2 p3 → p0.announced ≡ next → Follows h next o0 → Follows h next u0
    → (side : Side) → StaysNearOn tells h side p0 p3
near_block tells h next session bytes p0 p1 p2 p3 o0 o1 u0 u1 sound one two tell told first second side =
    near_on_then tells h side p0 p2 p3 (PairElapses-then p0 p1 p2 one.time two.time) (tell_time tells o1 u1 (next + 1) p2 p3 tell)
    (near_on_then tells h side p0 p1 p2 one.time two.time (one_near side) (two_near side))
    (near_told tells (next + 1) p2 p3 sound (omega (arith, told, one.told, two.told)) h side o1 u1 tell)
  where
    one_near : (side : Side) → StaysNearOn tells h side p0 p1
    one_near First = one.near h (λ r is. ((first r is).0, (first r is).1 ∙ sym told))
    one_near Second = one.near_away h

    two_near : (side : Side) → StaysNearOn tells h side p1 p2
    two_near First = two.near_away h
    two_near Second = two.near h (λ r is. ((second r is).0, (second r is).1 ∙ sym told ∙ sym one.told))

-- ---- the start of a recording

-- on a settled disk no block after the ring's next number is there
pub near_ring : (tells : Tells) (h : Header) (next : ℕ) (side : Side) (r : Ring) (p : Pair) → IsSoundPair tells p → IsTrue tells.stops
    → IsSettledRing tells side r p → r.header ≡ h → r.next ≡ next → IsNearNow h next (seen side p)
near_ring tells h next side r p sound stops ring header number image leaves =
    let still = ap (next_of h) (ring.settled stops image leaves) in
    let begins = ring.sure.ring.next ((sound.sides side).stops_need_bytes stops) in
    let same = ap (λ (x : Header). next_of x (disk_on side p).held) header in
    omega (arith, still, begins, same, number)
