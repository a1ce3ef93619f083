-- An announcement of a twin.
use Rattle.std.proofs.Common.{◌≡◌, ℕ, refl, sym, ◌∙◌, subst, arith}
use Rattle.fdr_deck.specs.State.{State, Tells, Moment}
use Rattle.fdr_deck.specs.Pull.{KeepsInput}
use Rattle.fdr_deck.specs.Moments.{EachMoment, IsNow}
use Rattle.fdr_deck.specs.Calls.{Announces, LeavesDisk}
use Rattle.fdr_twin.specs.declared.side.Side.{Side}
use Rattle.fdr_twin.specs.Pair.{Pair, other_side, disk_on, image_on, seen}
use Rattle.fdr_twin.specs.Same.{IsSameState, IsSameDisk, Turns}
use Rattle.fdr_twin.specs.Rest.{LeavesSide, HasSameRest}
use Rattle.fdr_twin.specs.Sound.{IsSoundPair}
use Rattle.fdr_twin.specs.Serving.{EachPairMoment}
use Rattle.fdr_twin.specs.RestSound.{PairElapses-here, PairElapses-then, LeavesSide-here, LeavesSide-then, IsSameDisk-then}
use Rattle.fdr_twin.proofs.Turns.{Turns-disk, Turns-time, Turns-leaves}
use Rattle.fdr_pair.proofs.Servings.{line_here}
use Rattle.fdr_pair.proofs.Sides.{facing_side}
use Rattle.fdr_pair.specs.Announcing.{PairAnnounces, PairStays}
use Rattle.fdr_pair.proofs.SideCounts.{counted_here, counted_turned}

-- What holds of each moment of calls of the side that the twin is turned to holds of each moment of the pair, as that side shows it.
pub shows : (tells : Tells) (P : Moment → Type 0) (side : Side) (s t : State) (old new : Pair) → IsSameState s (seen side old) → IsSameState t (seen side new)
    → EachMoment tells s t P
    → EachPairMoment tells old new (λ m. P (record { image = image_on side m; announced = m.announced; taken = m.taken; pulled_before = m.pulled_before }))
shows tells P side s t old new same_old same_new each stops m since =
    let shown : Moment = record { image = image_on side m; announced = m.announced; taken = m.taken; pulled_before = m.pulled_before } in
    each stops shown (subst (λ (k : ℕ). t.since k shown) same_old.clock
    (same_new.only old.clock shown (m, (since, record { image = refl; announced = refl; taken = refl; pulled_before = refl }))))

pub announced : (tells : Tells) (side : Side) (count : ℕ) (s t : State) (old mid new : Pair) → IsSoundPair tells old → IsSoundPair tells mid
    → Turns side old mid → IsSameState s (seen mid.turned mid) → IsSameState t (seen new.turned new) → HasSameRest mid new
    → Announces count s t → LeavesDisk s t → KeepsInput s t → t.input_faults ≡ s.input_faults → EachMoment tells s t (IsNow t)
    → PairAnnounces tells side count old new
announced tells side count s t old mid new sound sound_mid turns same_mid same_new rest tell leaves kept faults moments = record {
  time = PairElapses-then old mid new (Turns-time side old mid tells sound turns) rest.time;
  counts = counted_turned tells side old mid new sound sound_mid turns rest;
  away = LeavesSide-then (other_side side) old mid new sound_mid.falls (Turns-time side old mid tells sound turns) rest.time
      (Turns-leaves (other_side side) side old mid turns) (subst (λ (x : Side). LeavesSide (other_side x) mid new) turns.turned rest.other);
  own = own;
  line = record {
    input = here_new.input ∙ kept.input ∙ sym here.input ∙ turns.input;
    taken = here_new.taken ∙ kept.taken ∙ sym here.taken ∙ turns.taken;
    pulled_before = here_new.pulled_before ∙ kept.pulled_before ∙ sym here.pulled_before ∙ turns.pulled_before;
    input_faults = here_new.input_faults ∙ faults ∙ sym here.input_faults ∙ turns.input_faults;
  };
  announced = here_new.announced ∙ tell.announced;
  least = omega (arith, here_new.least, tell.least, here.least, turns.least);
  greatest = omega (arith, here_new.greatest, tell.greatest, here.greatest, turns.greatest);
  moments = λ stops m since.
      let is = shows tells (IsNow t) side s t mid new here here_new moments stops m (subst (λ (k : ℕ). new.since k m) (sym turns.clock) since) in
      record {
        least = omega (arith, is.least, tell.least, here.least, turns.least);
        pulled = record {
          taken = is.pulled.taken ∙ kept.taken ∙ sym here.taken ∙ turns.taken;
          pulled_before = is.pulled.pulled_before ∙ kept.pulled_before ∙ sym here.pulled_before ∙ turns.pulled_before;
        };
        announced = omega (arith, is.greatest, tell.greatest, here.greatest, turns.greatest);
        image = own.no_more (image_on side m) (here_new.leaves (image_on side m) is.image);
      };
}
  where
    here : IsSameState s (seen side mid)
    here = facing_side s mid side same_mid turns.turned

    here_new : IsSameState t (seen side new)
    here_new = facing_side t new side same_new (rest.turned ∙ turns.turned)

    own : IsSameDisk (disk_on side old) (disk_on side new)
    own = IsSameDisk-then (disk_on side old) (disk_on side mid) (disk_on side new) (Turns-disk side side old mid turns) (record {
      extent = here_new.extent ∙ leaves.extent ∙ sym here.extent;
      held = here_new.held ∙ leaves.disk.held ∙ sym here.held;
      no_more = λ image is. here.leaves image (leaves.disk.no_more image (here_new.left image is));
      no_less = λ image is. here_new.leaves image (leaves.disk.no_less image (here.left image is));
      faults = here_new.disk_faults ∙ leaves.disk_faults ∙ sym here.disk_faults;
    })

pub stays : (tells : Tells) (p : Pair) → IsSoundPair tells p → PairStays p p
stays tells p sound = record {
  time = PairElapses-here p sound.falls;
  counts = counted_here p;
  first = LeavesSide-here _ p;
  second = LeavesSide-here _ p;
  line = line_here p;
  least = refl;
  greatest = refl;
  moments = λ m since. since;
}
