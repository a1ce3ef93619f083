-- Calls that serve one side of a twin.
use Rattle.std.proofs.Common.{◌≡◌, ⊎_elim, ℕ, List, refl, sym, ◌∙◌, arith, subst}
use Rattle.std.specs.Prelude.{IsTrue}
use Rattle.fdr_deck.specs.State.{State, Tells, Moment}
use Rattle.fdr_deck.specs.Calls.{IsDiskWork}
use Rattle.fdr_twin.specs.declared.side.Side.{Side}
use Rattle.fdr_twin.specs.Pair.{Pair, PairMoment, other_side, disk_on, image_on, seen}
use Rattle.fdr_deck.proofs.Quiet.{IsDiskWork-weaken}
use Rattle.fdr_twin.specs.Same.{IsSameState, Turns}
use Rattle.fdr_twin.specs.Rest.{LeavesSide, HasSameRest}
use Rattle.fdr_twin.specs.Sound.{IsSoundPair}
use Rattle.fdr_twin.specs.Serving.{Serves}
use Rattle.fdr_twin.proofs.Same.{IsDiskWork-same, IsSame-here, IsSame-sym}
use Rattle.fdr_twin.specs.RestSound.{PairElapses-then, LeavesSide-then}
use Rattle.fdr_twin.proofs.Turns.{Turns-disk, Turns-seen, Turns-time, Turns-leaves}

-- a side that a call left has at each moment of it an image that a stop before it could leave
pub other_left : (tells : Tells) (side : Side) (old new : Pair) → IsSoundPair tells old → LeavesSide side old new → IsTrue tells.stops
    → (m : PairMoment) → new.since old.clock m → (disk_on side old).may_leave (image_on side m)
other_left tells side old new sound leaves stops m since = ⊎_elim
    (λ was. let shown : Moment = record { image = image_on side m; announced = m.announced; taken = m.taken; pulled_before = m.pulled_before } in
    ((sound.sides side).only_now stops shown (m, (was, record { image = refl; announced = refl; taken = refl; pulled_before = refl }))).image)
    (λ stays. stays.image)
    (leaves.moments m since)

-- calls of a deck that are quiet and leave the rest serve the side that the twin is turned to, and leave the other
pub serves : (tells : Tells) (P : List ℕ → Type 0) (side : Side) (s t : State) (old new : Pair) → IsSoundPair tells old
    → IsSameState s (seen old.turned old) → IsSameState t (seen new.turned new) → old.turned ≡ side → HasSameRest old new → IsDiskWork tells P s t
    → Serves tells side P old new
serves tells P side s t old new sound same_old same_new turned rest quiet = record {
  turned = rest.turned ∙ turned;
  disk_work = here;
  other = away;
  time = rest.time;
  moments = λ stops m since.
      let shown : Moment = record { image = image_on side m; announced = m.announced; taken = m.taken; pulled_before = m.pulled_before } in
      let is = here.moments stops shown (m, (since, record { image = refl; announced = refl; taken = refl; pulled_before = refl })) in
      record {
        image = is.image;
        other = other_left tells (other_side side) old new sound away stops m since;
        least = is.least;
        greatest = is.greatest;
        taken = is.pulled.taken;
        pulled_before = is.pulled.pulled_before;
      };
}
  where
    away : LeavesSide (other_side side) old new
    away = subst (λ (s : Side). LeavesSide (other_side s) old new) turned rest.other

    same_old' : IsSameState s (seen side old)
    same_old' = subst (λ (x : Side). IsSameState s (seen x old)) turned same_old

    same_new' : IsSameState t (seen side new)
    same_new' = subst (λ (x : Side). IsSameState t (seen x new)) (rest.turned ∙ turned) same_new

    here : IsDiskWork tells P (seen side old) (seen side new)
    here = IsDiskWork-same tells s t (seen side old) (seen side new) same_old' same_new' P quiet

-- a turn to the side, and then calls that serve it
pub serves_turned : (tells : Tells) (P Q : List ℕ → Type 0) (side : Side) (old mid new : Pair) → IsSoundPair tells old → IsSoundPair tells mid
    → Turns side old mid → Serves tells side P mid new → (IsTrue tells.stops → (image : List ℕ) → P image → Q image) → Serves tells side Q old new
serves_turned tells P Q side old mid new sound sound_mid turns served weaker = record {
  turned = served.turned;
  disk_work = IsDiskWork-weaken tells P Q (seen side old) (seen side new) (IsDiskWork-same tells (seen side mid) (seen side new) (seen side old) (seen side new)
      (IsSame-sym (seen side old) (seen side mid) (Turns-seen side side old mid turns)) (IsSame-here (seen side new)) P served.disk_work) weaker;
  other = LeavesSide-then (other_side side) old mid new sound_mid.falls (Turns-time side old mid tells sound turns) served.time
      (Turns-leaves (other_side side) side old mid turns) served.other;
  time = PairElapses-then old mid new (Turns-time side old mid tells sound turns) served.time;
  moments = λ stops m since.
      let at = served.moments stops m (subst (λ (k : ℕ). new.since k m) (sym turns.clock) since) in
      record {
        image = weaker stops (image_on side m) at.image;
        other = (Turns-disk (other_side side) side old mid turns).no_more (image_on (other_side side) m) at.other;
        least = omega (arith, at.least, turns.least);
        greatest = omega (arith, at.greatest, turns.greatest);
        taken = at.taken ∙ turns.taken;
        pulled_before = at.pulled_before ∙ turns.pulled_before;
      };
}
