-- Each twin has its own rest, and the same rest carries on from twin to twin.
use Rattle.std.specs.Prelude.{◌⊎◌, ℕ, ◌≤◌}
use Rattle.std.proofs.Common.{inl, inr, ⊎_elim, refl, ◌∙◌, arith, subst}
use Rattle.fdr_twin.specs.declared.side.Side.{Side}
use Rattle.fdr_twin.specs.Pair.{Pair, PairMoment, Disk, other_side, disk_on, image_on}
use Rattle.fdr_twin.specs.Same.{IsSameDisk}
use Rattle.fdr_twin.specs.Rest.{PairElapses, StaysOn, LeavesSide, IsCounted, CountsSide, HasSameRest}

IsSameDisk-here : (d : Disk) → IsSameDisk d d
IsSameDisk-here d = record { extent = refl; held = refl; no_more = λ image is. is; no_less = λ image is. is; faults = refl }

-- A disk that is as it was, twice in a row, is as it was at first.
pub IsSameDisk-then : (a b c : Disk) → IsSameDisk a b → IsSameDisk b c → IsSameDisk a c
IsSameDisk-then a b c one two = record {
  extent = two.extent ∙ one.extent;
  held = two.held ∙ one.held;
  no_more = λ image is. one.no_more image (two.no_more image is);
  no_less = λ image is. two.no_less image (one.no_less image is);
  faults = two.faults ∙ one.faults;
}

-- Time goes on where nothing is done: the moments since a time are those from before.
pub PairElapses-here : (p : Pair) → ((earlier t : ℕ) (m : PairMoment) → earlier ≤ t → t ≤ p.clock → p.since t m → p.since earlier m) → PairElapses p p
PairElapses-here p falls = record {
  later = omega arith;
  earlier = λ t m le since. since;
  added = λ t m le since. falls t p.clock m le (omega arith) since;
  no_more = λ t m le since. inl since;
}

-- Where time goes on twice in a row, it goes on from the first to the last.
pub PairElapses-then : (old mid new : Pair) → PairElapses old mid → PairElapses mid new → PairElapses old new
PairElapses-then old mid new first second =
    let step : (t : ℕ) → t ≤ old.clock → t ≤ mid.clock = λ t le. omega (arith, le, first.later) in
    let start : old.clock ≤ mid.clock = first.later in
    record {
      later = omega (arith, first.later, second.later);
      earlier = λ t m le since. second.earlier t m (step t le) (first.earlier t m le since);
      added = λ t m le since. ⊎_elim
          (λ was. second.earlier t m (step t le) (first.added t m le was))
          (λ is. second.added t m (step t le) is)
          (second.no_more old.clock m start since);
      no_more = λ t m le since. ⊎_elim
          (λ was. ⊎_elim (λ long. inl long) (λ mine. inr (second.earlier old.clock m start mine)) (first.no_more t m le was))
          (λ is. inr (second.added old.clock m start is))
          (second.no_more t m (step t le) since);
    }

-- A side is left where nothing is done.
pub LeavesSide-here : (side : Side) (p : Pair) → LeavesSide side p p
LeavesSide-here side p = record { disk = IsSameDisk-here (disk_on side p); moments = λ m since. inl since }

StaysOn-before : (side : Side) (old mid : Pair) (m : PairMoment) → IsSameDisk (disk_on side old) (disk_on side mid) → StaysOn side mid m
    → StaysOn side old m
StaysOn-before side old mid m same stays = record {
  image = same.no_more (image_on side m) stays.image;
  faults = stays.faults ∙ same.faults;
}

-- A side that is left twice in a row is left from the first to the last.
pub LeavesSide-then : (side : Side) (old mid new : Pair)
    → ((earlier t : ℕ) (m : PairMoment) → earlier ≤ t → t ≤ mid.clock → mid.since t m → mid.since earlier m)
    → PairElapses old mid → PairElapses mid new → LeavesSide side old mid → LeavesSide side mid new → LeavesSide side old new
LeavesSide-then side old mid new falls time more first second = record {
  disk = IsSameDisk-then (disk_on side old) (disk_on side mid) (disk_on side new) first.disk second.disk;
  moments = λ m since. ⊎_elim
      (λ was. first.moments m was)
      (λ is. ⊎_elim
      (λ now. first.moments m (falls old.clock mid.clock m time.later (omega arith) now))
      (λ stays. inr (StaysOn-before side old mid m first.disk stays))
      (second.moments m is))
      (more.no_more old.clock m time.later since);
}

CountsSide-here : (side : Side) (p : Pair) → CountsSide side p p
CountsSide-here side p = record { faults = omega arith; moments = λ m since. inl since }

CountsSide-then : (side : Side) (old mid new : Pair)
    → ((earlier t : ℕ) (m : PairMoment) → earlier ≤ t → t ≤ mid.clock → mid.since t m → mid.since earlier m)
    → PairElapses old mid → PairElapses mid new → CountsSide side old mid → CountsSide side mid new → CountsSide side old new
CountsSide-then side old mid new falls time more first second = record {
  faults = omega (arith, first.faults, second.faults);
  moments = λ m since. ⊎_elim
      (λ was. early m (first.moments m was))
      (λ is. ⊎_elim
      (λ now. early m (first.moments m (falls old.clock mid.clock m time.later (omega arith) now)))
      (λ counted. inr (record { least = omega (arith, first.faults, counted.least); greatest = counted.greatest }))
      (second.moments m is))
      (more.no_more old.clock m time.later since);
}
  where
    early : (m : PairMoment) → old.since old.clock m ⊎ IsCounted side old mid m → old.since old.clock m ⊎ IsCounted side old new m
    early m was = ⊎_elim (λ known. inl known)
        (λ counted. inr (record { least = counted.least; greatest = omega (arith, counted.greatest, second.faults) })) was

-- Where nothing is done, a twin has the same rest.
pub HasSameRest-here : (p : Pair) → ((earlier t : ℕ) (m : PairMoment) → earlier ≤ t → t ≤ p.clock → p.since t m → p.since earlier m) → HasSameRest p p
HasSameRest-here p falls = record {
  turned = refl;
  other = LeavesSide-here
      (other_side p.turned) p;
  own = CountsSide-here p.turned p;
  time = PairElapses-here p falls;
}

-- What leaves the same rest twice in a row leaves it from the first to the last.
pub HasSameRest-then : (old mid new : Pair) → ((earlier t : ℕ) (m : PairMoment) → earlier ≤ t → t ≤ mid.clock → mid.since t m → mid.since earlier m)
    → HasSameRest old mid → HasSameRest mid new → HasSameRest old new
HasSameRest-then old mid new falls first second = record {
  turned = second.turned ∙ first.turned;
  other = LeavesSide-then (other_side old.turned) old mid new falls first.time second.time first.other
      (subst (λ (s : Side). LeavesSide (other_side s) mid new) first.turned second.other);
  own = CountsSide-then old.turned old mid new falls first.time second.time first.own
      (subst (λ (s : Side). CountsSide s mid new) first.turned second.own);
  time = PairElapses-then old mid new first.time second.time;
}
