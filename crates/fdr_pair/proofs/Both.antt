-- A block on both sides of a twin.
use Rattle.std.proofs.lemmas.List.{append-nil}
use Rattle.std.proofs.Common.{◌≡◌, ℕ, ◌+◌, ◌<◌, ◌^◌, ◌≤◌, List, [], ◌∷◌, length, refl, sym, ap, arith, Option, Some, None}
use Rattle.fdr_deck.specs.State.{Tells}
use Rattle.fdr_recover.specs.Blocks.{Block}
use Rattle.fdr_ring.specs.declared.ring.Ring.{Ring}
use Rattle.fdr_twin.specs.declared.side.Side.{Side}
use Rattle.fdr_twin.specs.declared.side.Side.TheVariants.{First, Second}
use Rattle.fdr_twin.specs.Pair.{Pair}
use Rattle.fdr_twin.specs.Rest.{PairElapses, LeavesSide}
use Rattle.fdr_twin.specs.Sound.{IsSoundPair}
use Rattle.fdr_twin.specs.RestSound.{PairElapses-here, PairElapses-then}
use Rattle.fdr_pair.specs.SidePuts.{PutsUnlessFailed, IsPutReady}
use Rattle.fdr_pair.specs.Announcing.{AnnouncesLiving}
use Rattle.fdr_pair.specs.Living.{IsReadyFor, GoesOn}
use Rattle.fdr_pair.proofs.Servings.{now_told}
use Rattle.fdr_pair.proofs.Going.{going_none, going_put, going_away, going_told, ring_left}

-- a side that is ready for a block is ready for it after calls that leave it
pub ready_left : (tells : Tells) (side : Side) (o : Option Ring) (number session : ℕ) (bytes : List ℕ) (p q : Pair) → LeavesSide side p q
    → IsReadyFor tells side o number session bytes p → IsReadyFor tells side o number session bytes q
ready_left tells side None number session bytes p q leaves ready = ready
ready_left tells side (Some r) number session bytes p q leaves ready = record {
  ring = ring_left tells side r p q leaves.disk ready.ring;
  next = ready.next;
  old_version = ready.old_version;
  fits = ready.fits;
}

pub put_ready : (tells : Tells) (side : Side) (o : Option Ring) (number session : ℕ) (bytes : List ℕ) (p : Pair)
    → IsReadyFor tells side o number session bytes p
    → number < 2 ^ 48 → IsPutReady tells side o session bytes p
put_ready tells side None number session bytes p ready bound = tt
put_ready tells side (Some r) number session bytes p ready bound =
    record { ring = ready.ring; old_version = ready.old_version; fits = ready.fits; bound = omega (arith, ready.next, bound) }

module _ (tells : Tells) (number session : ℕ) (bytes : List ℕ) (p0 p1 p2 p3 : Pair) (sound0 : IsSoundPair tells p0) (sound1 : IsSoundPair tells p1)
    (sound2 : IsSoundPair tells p2) (o0 o1 u0 u1 : Option Ring) (one : PutsUnlessFailed tells First o0 o1 session bytes p0 p1)
    (two : PutsUnlessFailed tells Second u0 u1 session bytes p1 p2)
    (first_ready : IsReadyFor tells First o0 number session bytes p0) (second_ready : IsReadyFor tells Second u0 number session bytes p0) where
  b : Block
  b = record { number = number; session = session; payload = bytes }

  first_two : PairElapses p0 p2
  first_two = PairElapses-then p0 p1 p2 one.time two.time

  -- the first side, until the announcement
  first_put : GoesOn tells First o0 number (record { number = number; session = session; payload = bytes } ∷ [])
      (record { number = number; session = session; payload = bytes } ∷ []) p0 o1 p2
  first_put =
      let new : List Block = record { number = number; session = session; payload = bytes } ∷ [] in
      let zero_more : number ≡ number + 0 = omega arith in
      let is : (let x : Block = record { number = number; session = session; payload = bytes } in x)
      ≡ record { number = number + 0; session = session; payload = bytes } =
      ap (λ (n : ℕ). let x : Block = record { number = n; session = session; payload = bytes } in x) zero_more in
      going_away tells First number session bytes new new p0 p1 p2 sound1 one.time two.time o0 o1 [] refl two.away
      (λ few stops m since. let at = (two.moments stops m since).greatest in omega (arith, at, one.greatest, few)) first_ready
      (going_put tells First number session bytes new [] p0 p0 p1 sound0 (PairElapses-here p0 sound0.falls) one.time o0 o0 o1
      (record { number = number; session = session; payload = bytes }) refl is
      one.own (λ few stops m since. let at = (one.moments stops m since).greatest in omega (arith, at, few)) first_ready
      (going_none tells First number session bytes new p0 o0 sound0 first_ready))

  second_put : GoesOn tells Second u0 number (record { number = number; session = session; payload = bytes } ∷ [])
      (record { number = number; session = session; payload = bytes } ∷ []) p0 u1 p2
  second_put =
      let new : List Block = record { number = number; session = session; payload = bytes } ∷ [] in
      let zero_more : number ≡ number + 0 = omega arith in
      let is : (let x : Block = record { number = number; session = session; payload = bytes } in x)
      ≡ record { number = number + 0; session = session; payload = bytes } =
      ap (λ (n : ℕ). let x : Block = record { number = n; session = session; payload = bytes } in x) zero_more in
      going_put tells Second number session bytes new [] p0 p1 p2 sound1 one.time two.time u0 u0 u1
      (record { number = number; session = session; payload = bytes }) refl is
      two.own (λ few stops m since. let at = (two.moments stops m since).greatest in omega (arith, at, one.greatest, few)) second_ready
      (going_away tells Second number session bytes new [] p0 p0 p1 sound0 (PairElapses-here p0 sound0.falls) one.time u0 u0 new refl one.away
      (λ few stops m since. let at = (one.moments stops m since).greatest in omega (arith, at, few)) second_ready
      (going_none tells Second number session bytes new p0 u0 sound0 second_ready))

-- the announcement
pub first_told : (tells : Tells) (number session : ℕ) (bytes : List ℕ) (new : List Block) (p0 p2 p3 : Pair) (sound2 : IsSoundPair tells p2)
    (time : PairElapses p0 p2)
    (o0 o1 u1 : Option Ring) → length new ≡ 1 → (p0.greatest ≤ number → p2.greatest ≤ number + 1) → IsReadyFor tells First o0 number session bytes p0
    → AnnouncesLiving tells o1 u1 (number + 1) p2 p3 → GoesOn tells First o0 number new new p0 o1 p2 → GoesOn tells First o0 number new new p0 o1 p3
first_told tells number session bytes new p0 p2 p3 sound2 time o0 (Some r) u1 long below ready tell going =
    going_told tells First number session bytes new new p0 p2 p3 sound2 time tell.time o0 r (number + 1) [] (sym (append-nil new)) tell
    (λ few. let at = below few in omega (arith, at, long)) (omega (arith, long)) ready going
first_told tells number session bytes new p0 p2 p3 sound2 time o0 None (Some s) long below ready tell going =
    going_away tells First number session bytes new new p0 p2 p3 sound2 time tell.time o0 None [] (sym (append-nil new)) tell.away
    (λ few stops m since. let at = below few in let told = (tell.moments stops m since).announced in omega (arith, told, at, long)) ready going
first_told tells number session bytes new p0 p2 p3 sound2 time o0 None None long below ready tell going =
    going_away tells First number session bytes new new p0 p2 p3 sound2 time tell.time o0 None [] (sym (append-nil new)) tell.first
    (λ few stops m since.
    let at = below few in
    let told = now_told tells First p2 sound2 stops m (tell.moments m since) in
    omega (arith, told, at, long)) ready going

pub second_told : (tells : Tells) (number session : ℕ) (bytes : List ℕ) (new : List Block) (p0 p2 p3 : Pair) (sound2 : IsSoundPair tells p2)
    (time : PairElapses p0 p2)
    (u0 o1 u1 : Option Ring) → length new ≡ 1 → (p0.greatest ≤ number → p2.greatest ≤ number + 1) → IsReadyFor tells Second u0 number session bytes p0
    → AnnouncesLiving tells o1 u1 (number + 1) p2 p3 → GoesOn tells Second u0 number new new p0 u1 p2 → GoesOn tells Second u0 number new new p0 u1 p3
second_told tells number session bytes new p0 p2 p3 sound2 time u0 (Some r) u1 long below ready tell going =
    going_away tells Second number session bytes new new p0 p2 p3 sound2 time tell.time u0 u1 [] (sym (append-nil new)) tell.away
    (λ few stops m since. let at = below few in let told = (tell.moments stops m since).announced in omega (arith, told, at, long)) ready going
second_told tells number session bytes new p0 p2 p3 sound2 time u0 None (Some s) long below ready tell going =
    going_told tells Second number session bytes new new p0 p2 p3 sound2 time tell.time u0 s (number + 1) [] (sym (append-nil new)) tell
    (λ few. let at = below few in omega (arith, at, long)) (omega (arith, long)) ready going
second_told tells number session bytes new p0 p2 p3 sound2 time u0 None None long below ready tell going =
    going_away tells Second number session bytes new new p0 p2 p3 sound2 time tell.time u0 None [] (sym (append-nil new)) tell.second
    (λ few stops m since.
    let at = below few in
    let told = now_told tells Second p2 sound2 stops m (tell.moments m since) in
    omega (arith, told, at, long)) ready going

-- both sides, over the block and its announcement
module _ (tells : Tells) (number session : ℕ) (bytes : List ℕ) (p0 p1 p2 p3 : Pair) (sound0 : IsSoundPair tells p0) (sound1 : IsSoundPair tells p1)
    (sound2 : IsSoundPair tells p2) (o0 o1 u0 u1 : Option Ring) (one : PutsUnlessFailed tells First o0 o1 session bytes p0 p1)
    (two : PutsUnlessFailed tells Second u0 u1 session bytes p1 p2) (tell : AnnouncesLiving tells o1 u1 (number + 1) p2 p3)
    (first_ready : IsReadyFor tells First o0 number session bytes p0) (second_ready : IsReadyFor tells Second u0 number session bytes p0) where
  pub first_going : GoesOn tells First o0 number (record { number = number; session = session; payload = bytes } ∷ [])
      (record { number = number; session = session; payload = bytes } ∷ []) p0 o1 p3
  first_going =
      first_told tells number session bytes (record { number = number; session = session; payload = bytes } ∷ []) p0 p2 p3 sound2
      (PairElapses-then p0 p1 p2 one.time two.time) o0 o1 u1
      refl (λ few. omega (arith, two.greatest, one.greatest, few)) first_ready tell
      (first_put tells number session bytes p0 p1 p2 p3 sound0 sound1 sound2 o0 o1 u0 u1 one two first_ready second_ready)

  pub second_going : GoesOn tells Second u0 number (record { number = number; session = session; payload = bytes } ∷ [])
      (record { number = number; session = session; payload = bytes } ∷ []) p0 u1 p3
  second_going =
      second_told tells number session bytes (record { number = number; session = session; payload = bytes } ∷ []) p0 p2 p3 sound2
      (PairElapses-then p0 p1 p2 one.time two.time) u0 o1 u1
      refl (λ few. omega (arith, two.greatest, one.greatest, few)) second_ready tell
      (second_put tells number session bytes p0 p1 p2 p3 sound0 sound1 sound2 o0 o1 u0 u1 one two first_ready second_ready)
