-- The counts of faults of both sides, over calls.
use Rattle.std.proofs.Common.{◌⊎◌, inl, inr, ⊎_elim, arith}
use Rattle.fdr_deck.specs.State.{Tells}
use Rattle.fdr_twin.specs.declared.side.Side.{Side}
use Rattle.fdr_twin.specs.Pair.{Pair, PairMoment, other_side}
use Rattle.fdr_twin.specs.Rest.{CountsSide, HasSameRest, IsCounted, LeavesSide, PairElapses}
use Rattle.fdr_twin.specs.Same.{Turns}
use Rattle.fdr_twin.specs.Sound.{IsSoundPair}
use Rattle.fdr_twin.proofs.Turns.{Turns-leaves, Turns-time}
use Rattle.fdr_pair.specs.SideCounts.{CountsBoth}
use Rattle.fdr_pair.proofs.Sides.{either_side}

-- no calls
pub counted_here : (p : Pair) → CountsBoth p p
counted_here p side = record { faults = omega arith; moments = λ m since. inl since }

-- calls, and then others
pub counted_then : (tells : Tells) (old mid new : Pair) → IsSoundPair tells mid → PairElapses old mid → PairElapses mid new → CountsBoth old mid
    → CountsBoth mid new → CountsBoth old new
counted_then tells old mid new sound time more first second side = record {
  faults = omega (arith, (first side).faults, (second side).faults);
  moments = λ m since. ⊎_elim
      (λ was. early m ((first side).moments m was))
      (λ is. ⊎_elim
      (λ now. early m ((first side).moments m (sound.falls old.clock mid.clock m time.later (omega arith) now)))
      (λ counted. inr (record { least = omega (arith, (first side).faults, counted.least); greatest = counted.greatest }))
      ((second side).moments m is))
      (more.no_more old.clock m time.later since);
}
  where
    early : (m : PairMoment) → old.since old.clock m ⊎ IsCounted side old mid m → old.since old.clock m ⊎ IsCounted side old new m
    early m was = ⊎_elim (λ known. inl known)
        (λ counted. inr (record { least = counted.least; greatest = omega (arith, counted.greatest, (second side).faults) })) was

-- a side that is left
counted_left : (side : Side) (old new : Pair) → LeavesSide side old new → CountsSide side old new
counted_left side old new leaves = record {
  faults = omega (arith, leaves.disk.faults);
  moments = λ m since. ⊎_elim (λ was. inl was)
      (λ stays. inr (record { least = omega (arith, stays.faults); greatest = omega (arith, stays.faults, leaves.disk.faults) })) (leaves.moments m since);
}

-- both sides are left
pub counted_both_left : (old new : Pair) → ((side : Side) → LeavesSide side old new) → CountsBoth old new
counted_both_left old new leaves side = counted_left side old new (leaves side)

-- calls of a deck that leave the rest
pub counted_rest : (old new : Pair) → HasSameRest old new → CountsBoth old new
counted_rest old new rest side =
    either_side (λ x. CountsSide x old new) side old.turned rest.own (counted_left (other_side old.turned) old new rest.other)

-- a turn to a side, and then calls of a deck that leave the rest
pub counted_turned : (tells : Tells) (side : Side) (old mid new : Pair) → IsSoundPair tells old → IsSoundPair tells mid → Turns side old mid
    → HasSameRest mid new → CountsBoth old new
counted_turned tells side old mid new sound sound_mid turns rest =
    counted_then tells old mid new sound_mid (Turns-time side old mid tells sound turns) rest.time
    (counted_both_left old mid (λ x. Turns-leaves x side old mid turns)) (counted_rest mid new rest)
