-- Until bytes are pulled, nothing is done.
use Rattle.std.proofs.Common.{◌≡◌, ◌⊎◌, ◌<◌, inl, inr, ⊎_elim, ◌∙◌}
use Rattle.std.specs.Prelude.{IsTrue}
use Rattle.fdr_deck.specs.State.{Tells}
use Rattle.fdr_twin.specs.declared.side.Side.{Side}
use Rattle.fdr_twin.specs.declared.side.Side.TheVariants.{First, Second}
use Rattle.fdr_twin.specs.Pair.{Pair, PairMoment, disk_on, image_on}
use Rattle.fdr_twin.specs.Same.{IsSameDisk}
use Rattle.fdr_twin.specs.Rest.{PairElapses, StaysOn}
use Rattle.fdr_twin.specs.RestSound.{IsSameDisk-then, LeavesSide-here}
use Rattle.fdr_twin.specs.Sound.{IsSoundPair}
use Rattle.fdr_twin.specs.Serving.{EachPairMoment}
use Rattle.fdr_pair.specs.Traces.{IsIdleMoment}
use Rattle.fdr_pair.proofs.Going.{known}
use Rattle.fdr_pair.proofs.Servings.{now_quiet}

-- nothing was done at the moment, or bytes had been pulled
abbrev pub IsIdleUntilPull : Pair → PairMoment → Type 0
IsIdleUntilPull old m = IsIdleMoment old m ⊎ (old.taken < m.taken)

-- nothing was done yet
pub still_here : (p : Pair) (side : Side) → IsSameDisk (disk_on side p) (disk_on side p)
still_here p side = (LeavesSide-here side p).disk

pub still_then : (a b c : Pair) (side : Side) → IsSameDisk (disk_on side a) (disk_on side b) → IsSameDisk (disk_on side b) (disk_on side c)
    → IsSameDisk (disk_on side a) (disk_on side c)
still_then a b c side one two = IsSameDisk-then (disk_on side a) (disk_on side b) (disk_on side c) one two

pub idle_now : (tells : Tells) (p : Pair) → IsSoundPair tells p → EachPairMoment tells p p (IsIdleUntilPull p)
idle_now tells p sound stops m since = inl (record { pulled = (now_quiet tells First p sound stops m since).pulled; sides = λ side. inl since })

-- a moment of which this is known of both sides, or all is known
both_sides : {P : Side → Type 0} {Q : Type 0} → Q ⊎ P First → Q ⊎ P Second → Q ⊎ ((side : Side) → P side)
both_sides (inl all) second = inl all
both_sides (inr one) (inl all) = inl all
both_sides {P = P} (inr one) (inr two) = inr each
  where
    each : (side : Side) → P side
    each First = one
    each Second = two

-- nothing was done up to p, and nothing since
module _ (tells : Tells) (start p : Pair) (sound : IsSoundPair tells p) (before : PairElapses start p)
    (was : EachPairMoment tells start p (IsIdleUntilPull start)) (still : (side : Side) → IsSameDisk (disk_on side start) (disk_on side p))
    (taken : p.taken ≡ start.taken) (pulled_before : p.pulled_before ≡ start.pulled_before) where
  stays_since : (side : Side) (m : PairMoment) → StaysOn side p m → StaysOn side start m
  stays_since side m stays = record { image = (still side).no_more (image_on side m) stays.image; faults = stays.faults ∙ (still side).faults }

  side_since : IsTrue tells.stops → (side : Side) (m : PairMoment) → p.since p.clock m ⊎ StaysOn side p m → IsIdleUntilPull start m ⊎ StaysOn side start m
  side_since stops side m is = ⊎_elim
      (λ early. inl (known tells (IsIdleUntilPull start) start p sound before was stops m early))
      (λ stays. inr (stays_since side m stays)) is

  pub idle_on : IsTrue tells.stops → (m : PairMoment) → IsIdleMoment p m → IsIdleUntilPull start m
  idle_on stops m is = ⊎_elim (λ all. all)
      (λ stays. inl (record {
        pulled = record { taken = is.pulled.taken ∙ taken; pulled_before = is.pulled.pulled_before ∙ pulled_before };
        sides = λ side. inr (stays side);
      }))
      (both_sides {P = λ side. StaysOn side start m} (side_since stops First m (is.sides First)) (side_since stops Second m (is.sides Second)))
