-- What the image of a side keeps over calls, whether the side has failed by then or not.
use Rattle.std.proofs.Common.{◌≡◌, ℕ, ◌+◌, List, [], ◌∷◌, ◌++◌, refl, sym, subst, arith, Option, Some, None}
use Rattle.std.specs.Prelude.{IsTrue}
use Rattle.fdr_deck.specs.State.{Moment, Tells}
use Rattle.fdr_slot.specs.declared.image.Header.{Header}
use Rattle.fdr_recover.specs.Blocks.{Block}
use Rattle.fdr_recover.specs.Images.{recovered_run}
use Rattle.fdr_ring.specs.declared.ring.Ring.{Ring}
use Rattle.fdr_twin.specs.declared.side.Side.{Side}
use Rattle.fdr_twin.specs.declared.side.Side.TheVariants.{First, Second}
use Rattle.fdr_twin.specs.Pair.{Pair, PairMoment, disk_on, image_on}
use Rattle.fdr_twin.specs.Same.{IsSameDisk}
use Rattle.fdr_twin.specs.Rest.{PairElapses}
use Rattle.fdr_twin.specs.RestSound.{LeavesSide-here, PairElapses-then}
use Rattle.fdr_twin.specs.Sound.{IsSoundPair}
use Rattle.fdr_twin.specs.Serving.{EachPairMoment}
use Rattle.fdr_twin.proofs.Serves.{other_left}
use Rattle.fdr_recorder.specs.Keeping.{RecoversPrefix}
use Rattle.fdr_recorder.proofs.Steps.{keeps_more, keeps_none, keeps_on, keeps_run, same_run}
use Rattle.fdr_pair.specs.Announcing.{AnnouncesLiving}
use Rattle.fdr_pair.specs.Living.{IsReadyFor, IsReadyRing, SideKept, SideNow}
use Rattle.fdr_pair.specs.PairRecording.{IsSettledSide}
use Rattle.fdr_pair.specs.Putting.{MayPut}
use Rattle.fdr_pair.specs.SidePuts.{PutOwn, PutsUnlessFailed, next_block}
use Rattle.fdr_pair.proofs.Going.{known, may_stand, on}

-- an image that a stop now may leave is that of a moment now
pub moment_of_image : (tells : Tells) (side : Side) (p : Pair) (m : PairMoment) → IsSoundPair tells p → IsTrue tells.stops
    → (disk_on side p).may_leave (image_on side m) → (x : PairMoment) × p.since p.clock x × (image_on side x ≡ image_on side m)
moment_of_image tells side p m sound stops leaves =
    let shown : Moment = record { image = image_on side m; announced = p.announced; taken = p.taken; pulled_before = p.pulled_before } in
    let found = (sound.sides side).counts_now stops shown leaves refl (record { taken = refl; pulled_before = refl }) in
    (found.0, found.1.0, sym found.1.1.image)

-- what holds of the image of each moment now holds of an image that a stop now may leave
pub of_now : (tells : Tells) (side : Side) (P : List ℕ → Type 0) (p : Pair) (m : PairMoment) → IsSoundPair tells p → IsTrue tells.stops
    → ((x : PairMoment) → p.since p.clock x → P (image_on side x)) → (disk_on side p).may_leave (image_on side m) → P (image_on side m)
of_now tells side P p m sound stops holds leaves =
    let now = moment_of_image tells side p m sound stops leaves in subst P now.2 (holds now.0 now.1)

-- a moment now has an image that a stop now may leave
pub now_left_image : (tells : Tells) (side : Side) (p : Pair) → IsSoundPair tells p → EachPairMoment tells p p
    (λ m. (disk_on side p).may_leave (image_on side m))
now_left_image tells side p sound stops m since = other_left tells side p p sound (LeavesSide-here side p) stops m since

-- what is kept is kept in an image that is the same
kept_same : (side : Side) (o : Option Ring) (new : List Block) (old : Pair) (a b : PairMoment) → image_on side a ≡ image_on side b
    → SideKept side o new old a → SideKept side o new old b
kept_same side None new old a b same is = subst (λ (l : List ℕ). (disk_on side old).may_leave l) same is
kept_same side (Some r) new old a b same is =
    subst (λ (l : List ℕ). RecoversPrefix r.header (disk_on side old).held (recovered_run r.header (disk_on side old).held) new 0 l) same is

-- further blocks to come
pub kept_more : (side : Side) (o : Option Ring) (new more : List Block) (old : Pair) (m : PairMoment) → SideKept side o new old m
    → SideKept side o (new ++ more) old m
kept_more side None new more old m is = is
kept_more side (Some r) new more old m is =
    keeps_more r.header (disk_on side old).held (image_on side m) (recovered_run r.header (disk_on side old).held) new more 0 is

-- an image that a stop could leave of a settled side
pub kept_still : (tells : Tells) (side : Side) (o : Option Ring) (new : List Block) (p : Pair) (m : PairMoment) → IsTrue tells.stops
    → IsSettledSide tells side o p → (disk_on side p).may_leave (image_on side m) → SideKept side o new p m
kept_still tells side None new p m stops settled leaves = leaves
kept_still tells side (Some r) new p m stops settled leaves =
    let held = (disk_on side p).held in
    subst (λ (l : List ℕ). RecoversPrefix r.header held (recovered_run r.header held) new 0 l) (sym (settled.settled stops (image_on side m) leaves))
    (keeps_run r.header held held new 0 (same_run r.header held) (omega arith))

-- nothing was done
pub kept_here : (tells : Tells) (side : Side) (o : Option Ring) (new : List Block) (p : Pair) → IsSoundPair tells p → IsSettledSide tells side o p
    → EachPairMoment tells p p (SideKept side o new p)
kept_here tells side o new p sound settled stops m since =
    kept_still tells side o new p m stops settled (now_left_image tells side p sound stops m since)

-- calls, and then others that leave the side
pub kept_left : (tells : Tells) (side : Side) (o : Option Ring) (new : List Block) (start p q : Pair) → IsSoundPair tells p → PairElapses start p
    → PairElapses p q → EachPairMoment tells start p (SideKept side o new start)
    → EachPairMoment tells p q (λ m. (disk_on side p).may_leave (image_on side m)) → EachPairMoment tells start q (SideKept side o new start)
kept_left tells side o new start p q sound before time was left = on tells (SideKept side o new start) start p q before time was
    (λ stops m since.
    let now = moment_of_image tells side p m sound stops (left stops m since) in
    kept_same side o new start now.0 m now.2 (known tells (SideKept side o new start) start p sound before was stops now.0 now.1))

-- blocks, and then more of them
pub kept_then : (tells : Tells) (side : Side) (done more : List Block) (start p q : Pair) → IsSoundPair tells p → PairElapses start p → PairElapses p q
    → (first o : Option Ring) → SideNow tells side first o done start p → EachPairMoment tells start p (SideKept side first done start)
    → EachPairMoment tells p q (SideKept side o more p) → EachPairMoment tells start q (SideKept side first (done ++ more) start)
kept_then tells side done more start p q sound before time None (Some s) gone was is = absurd gone
kept_then tells side done more start p q sound before time None None gone was is =
    kept_left tells side None (done ++ more) start p q sound before time was is
kept_then tells side done more start p q sound before time (Some r) None gone was is =
    kept_left tells side (Some r) (done ++ more) start p q sound before time
    (λ stops m since. kept_more side (Some r) done more start m (was stops m since)) is
kept_then tells side done more start p q sound before time (Some r) (Some s) gone was is =
    on tells (SideKept side (Some r) (done ++ more) start) start p q before time
    (λ stops m since. kept_more side (Some r) done more start m (was stops m since))
    (λ stops m since. keeps_on r.header (disk_on side start).held (disk_on side p).held (image_on side m) (recovered_run r.header
    (disk_on side start).held) done more 0 (gone.keeps ((sound.sides side).stops_need_bytes stops))
    (subst (λ (h : Header). RecoversPrefix h (disk_on side p).held (recovered_run h (disk_on side p).held) more 0 (image_on side m)) gone.header
    (is stops m since)))

-- the block was put, or it wasn't
put_stands : (tells : Tells) (side : Side) (r : Ring) (next session : ℕ) (bytes : List ℕ) (p : Pair) (m : PairMoment)
    → IsReadyRing tells side r next session bytes p → MayPut r.header (next_block r session bytes) (disk_on side p).held (image_on side m)
    → SideKept side (Some r) (record { number = next; session = session; payload = bytes } ∷ []) p m
put_stands tells side r next session bytes p m ready may =
    let held = (disk_on side p).held in
    subst (λ (n : ℕ). let b : Block = record { number = n; session = session; payload = bytes } in
    RecoversPrefix r.header held (recovered_run r.header held) (b ∷ []) 0 (image_on side m)) ready.next
    (may_stand r.header (next_block r session bytes) held held (image_on side m) [] 0 may (keeps_none r.header held) (omega arith))

-- a block on a side
put_kept : (tells : Tells) (side : Side) (o o' : Option Ring) (next session : ℕ) (bytes : List ℕ) (p q : Pair) → IsSoundPair tells p
    → IsReadyFor tells side o next session bytes p → PutOwn tells side o o' session bytes p q
    → EachPairMoment tells p q (SideKept side o (record { number = next; session = session; payload = bytes } ∷ []) p)
put_kept tells side None None next session bytes p q sound ready own stops m since = now_left_image tells side p sound stops m (own.moments stops m since)
put_kept tells side None (Some s) next session bytes p q sound ready own stops m since = absurd own
put_kept tells side (Some r) None next session bytes p q sound ready own stops m since =
    put_stands tells side r next session bytes p m ready (own.moments stops m since)
put_kept tells side (Some r) (Some s) next session bytes p q sound ready own stops m since =
    put_stands tells side r next session bytes p m ready (own.moments stops m since)

-- what is kept since calls that left the side is kept since before them
kept_before : (side : Side) (o : Option Ring) (new : List Block) (p q : Pair) (m : PairMoment) → IsSameDisk (disk_on side p) (disk_on side q)
    → SideKept side o new q m → SideKept side o new p m
kept_before side None new p q m same is = same.no_more (image_on side m) is
kept_before side (Some r) new p q m same is =
    subst (λ (l : List ℕ). RecoversPrefix r.header l (recovered_run r.header l) new 0 (image_on side m)) same.held is

-- the announcement leaves both
pub tell_left : (tells : Tells) (side : Side) (o u : Option Ring) (count : ℕ) (p q : Pair) → IsSoundPair tells p → AnnouncesLiving tells o u count p q
    → EachPairMoment tells p q (λ m. (disk_on side p).may_leave (image_on side m))
tell_left tells First (Some r) u count p q sound tell stops m since = (tell.moments stops m since).image
tell_left tells Second (Some r) u count p q sound tell stops m since = other_left tells Second p q sound tell.away stops m since
tell_left tells First None (Some s) count p q sound tell stops m since = other_left tells First p q sound tell.away stops m since
tell_left tells Second None (Some s) count p q sound tell stops m since = (tell.moments stops m since).image
tell_left tells side None None count p q sound tell stops m since = now_left_image tells side p sound stops m (tell.moments m since)

pub tell_time : (tells : Tells) (o u : Option Ring) (count : ℕ) (p q : Pair) → AnnouncesLiving tells o u count p q → PairElapses p q
tell_time tells (Some r) u count p q tell = tell.time
tell_time tells None (Some s) count p q tell = tell.time
tell_time tells None None count p q tell = tell.time

-- a side that is ready is settled
ready_settled : (tells : Tells) (side : Side) (o : Option Ring) (next session : ℕ) (bytes : List ℕ) (p : Pair)
    → IsReadyFor tells side o next session bytes p → IsSettledSide tells side o p
ready_settled tells side None next session bytes p ready = tt
ready_settled tells side (Some r) next session bytes p ready = ready.ring

-- a block on both sides, and its announcement
module _ (tells : Tells) (next session : ℕ) (bytes : List ℕ) (p0 p1 p2 p3 : Pair) (sound0 : IsSoundPair tells p0) (sound1 : IsSoundPair tells p1)
    (sound2 : IsSoundPair tells p2) (o0 o1 u0 u1 : Option Ring) (one : PutsUnlessFailed tells First o0 o1 session bytes p0 p1)
    (two : PutsUnlessFailed tells Second u0 u1 session bytes p1 p2) (tell : AnnouncesLiving tells o1 u1 (next + 1) p2 p3) where
  pub first_block_kept : IsReadyFor tells First o0 next session bytes p0
      → EachPairMoment tells p0 p3 (SideKept First o0 (record { number = next; session = session; payload = bytes } ∷ []) p0)
  first_block_kept ready =
      let new : List Block = record { number = next; session = session; payload = bytes } ∷ [] in
      kept_left tells First o0 new p0 p2 p3 sound2 (PairElapses-then p0 p1 p2 one.time two.time) (tell_time tells o1 u1 (next + 1) p2 p3 tell)
      (kept_left tells First o0 new p0 p1 p2 sound1 one.time two.time (put_kept tells First o0 o1 next session bytes p0 p1 sound0 ready one.own)
      (λ stops m since. other_left tells First p1 p2 sound1 two.away stops m since))
      (tell_left tells First o1 u1 (next + 1) p2 p3 sound2 tell)

  pub second_block_kept : IsReadyFor tells Second u0 next session bytes p0 → IsReadyFor tells Second u0 next session bytes p1
      → EachPairMoment tells p0 p3 (SideKept Second u0 (record { number = next; session = session; payload = bytes } ∷ []) p0)
  second_block_kept ready ready_mid =
      let new : List Block = record { number = next; session = session; payload = bytes } ∷ [] in
      kept_left tells Second u0 new p0 p2 p3 sound2 (PairElapses-then p0 p1 p2 one.time two.time) (tell_time tells o1 u1 (next + 1) p2 p3 tell)
      (on tells (SideKept Second u0 new p0) p0 p1 p2 one.time two.time
      (λ stops m since. kept_still tells Second u0 new p0 m stops (ready_settled tells Second u0 next session bytes p0 ready)
      (other_left tells Second p0 p1 sound0 one.away stops m since))
      (λ stops m since. kept_before Second u0 new p0 p1 m one.away.disk
      (put_kept tells Second u0 u1 next session bytes p1 p2 sound1 ready_mid two.own stops m since)))
      (tell_left tells Second o1 u1 (next + 1) p2 p3 sound2 tell)
