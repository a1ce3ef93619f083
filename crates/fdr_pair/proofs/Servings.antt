-- A block on a side that may have failed.
use Rattle.std.proofs.Common.{◌≡◌, ℕ, ◌+◌, ◌≤◌, List, [], ◌∷◌, refl, sym, subst, arith, Some, None}
use Rattle.std.specs.Prelude.{IsTrue}
use Rattle.fdr_io.specs.Faults.{Rose}
use Rattle.fdr_deck.specs.State.{Tells, Moment}
use Rattle.fdr_deck.specs.Disk.{IsSettled}
use Rattle.fdr_deck.proofs.Moments.{KeepsAnnounced-greatest, KeepsAnnounced-least}
use Rattle.fdr_ring.specs.Rings.{OfSettled}
use Rattle.fdr_ring.specs.declared.ring.Ring.{Ring}
use Rattle.fdr_twin.specs.declared.side.Side.{Side}
use Rattle.fdr_twin.specs.Pair.{Pair, other_side, disk_on, image_on, seen}
use Rattle.fdr_twin.specs.Sound.{IsSoundPair}
use Rattle.fdr_twin.specs.Serving.{EachPairMoment, Serves}
use Rattle.fdr_twin.specs.RestSound.{PairElapses-here, LeavesSide-here}
use Rattle.fdr_pair.specs.Ahead.{StaysNearOn}
use Rattle.fdr_pair.specs.Numbers.{KeepsLine}
use Rattle.fdr_pair.specs.Putting.{AddsExactly, HasPut, MayPut}
use Rattle.fdr_pair.specs.SidePuts.{next_block, IsQuiet, IsSettledRing, PutsUnlessFailed}
use Rattle.fdr_pair.proofs.NearLeft.{near_left}
use Rattle.fdr_pair.proofs.SideCounts.{counted_here}
use Rattle.fdr_slot.specs.declared.image.Header.{Header}
use Rattle.fdr_twin.proofs.Serves.{other_left}
use Rattle.std.specs.Option.{ForSome}
use Rattle.fdr_pair.specs.SideCounts.{CountsBoth}

-- the moments of a twin now have a told number no greater than the greatest
pub now_told : (tells : Tells) (side : Side) (p : Pair) → IsSoundPair tells p → EachPairMoment tells p p (λ m. m.announced ≤ p.greatest)
now_told tells side p sound stops m since =
    let shown : Moment = record { image = image_on side m; announced = m.announced; taken = m.taken; pulled_before = m.pulled_before } in
    ((sound.sides side).only_now stops shown (m, (since, record { image = refl; announced = refl; taken = refl; pulled_before = refl }))).greatest

-- a moment now
pub now_quiet : (tells : Tells) (side : Side) (p : Pair) → IsSoundPair tells p → EachPairMoment tells p p (IsQuiet p)
now_quiet tells side p sound stops m since =
    let shown : Moment = record { image = image_on side m; announced = m.announced; taken = m.taken; pulled_before = m.pulled_before } in
    let now = (sound.sides side).only_now stops shown (m, (since, record { image = refl; announced = refl; taken = refl; pulled_before = refl })) in
    record { least = now.least; greatest = now.greatest; pulled = record { taken = now.pulled.taken; pulled_before = now.pulled.pulled_before } }

pub line_here : (p : Pair) → KeepsLine p p
line_here p = record { input = refl; taken = refl; pulled_before = refl; input_faults = refl }

-- nothing was done
still_near : (tells : Tells) (h : Header) (side : Side) (p : Pair) → IsSoundPair tells p → StaysNearOn tells h side p p
still_near tells h side p sound = near_left tells h side p p (other_left tells side p p sound (LeavesSide-here side p))
    (λ stops m since. (now_quiet tells side p sound stops m since).least) (λ image leaves. leaves) (omega arith)

-- nothing is done on a side that has failed
pub puts_none : (tells : Tells) (side : Side) (session : ℕ) (bytes : List ℕ) (p : Pair) → IsSoundPair tells p
    → PutsUnlessFailed tells side None None session bytes p p
puts_none tells side session bytes p sound = record {
  time = PairElapses-here p sound.falls;
  counts = counted_here p;
  away = LeavesSide-here (other_side side) p;
  line = line_here p;
  told = refl;
  least = omega arith;
  greatest = omega arith;
  moments = now_quiet tells side p sound;
  own = record { moments = λ stops m since. since; faults = refl };
  near = λ h follows. still_near tells h side p sound;
  near_away = λ h. still_near tells h (other_side side) p sound;
}

module _ (tells : Tells) (side : Side) (r : Ring) (session : ℕ) (bytes : List ℕ) (old new : Pair) (sound : IsSoundPair tells old)
    (settled : IsTrue tells.stops → IsSettled (seen side old))
    (served : Serves tells side (OfSettled (seen side old) (MayPut r.header (next_block r session bytes))) old new)
    (counts : CountsBoth old new) (puts_near : old.announced ≡ r.next → StaysNearOn tells r.header side old new) where
  own_moments : EachPairMoment tells old new (λ m. MayPut r.header (next_block r session bytes) (disk_on side old).held (image_on side m))
  own_moments stops m since = (served.moments stops m since).image (settled stops)

  greatest : new.greatest ≤ old.greatest
  greatest = KeepsAnnounced-greatest tells (seen side old) (seen side new) (sound.sides side) served.disk_work.passes.announced

  least : old.least ≤ new.least
  least = KeepsAnnounced-least tells (seen side old) (seen side new) (sound.sides side) served.disk_work.passes.announced

  line : KeepsLine old new
  line = record {
    input = served.disk_work.passes.input.input;
    taken = served.disk_work.passes.input.taken;
    pulled_before = served.disk_work.passes.input.pulled_before;
    input_faults = served.disk_work.passes.input_faults;
  }

  told : new.announced ≡ old.announced
  told = served.disk_work.passes.announced.announced

  quiet : EachPairMoment tells old new (IsQuiet old)
  quiet stops m since = let at = served.moments stops m since in
      record { least = at.least; greatest = at.greatest; pulled = record { taken = at.taken; pulled_before = at.pulled_before } }

  near : (h : Header) → ForSome (Some r) (λ x. (x.header ≡ h) × (x.next ≡ old.announced)) → StaysNearOn tells h side old new
  near h follows = let is = follows r refl in subst (λ (x : Header). StaysNearOn tells x side old new) is.0 (puts_near (sym is.1))

  near_away : (h : Header) → StaysNearOn tells h (other_side side) old new
  near_away h = near_left tells h (other_side side) old new (λ stops m since. (served.moments stops m since).other)
      (λ stops m since. (quiet stops m since).least) served.other.disk.no_more least

  pub puts_failed : Rose (disk_on side old).faults (disk_on side new).faults → PutsUnlessFailed tells side (Some r) None session bytes old new
  puts_failed rose = record {
    time = served.time;
    counts = counts;
    away = served.other;
    line = line;
    told = told;
    least = least;
    greatest = greatest;
    moments = quiet;
    own = record { moments = own_moments; faults = rose };
    near = near;
    near_away = near_away;
  }

  pub puts_put : (s : Ring) → s.header ≡ r.header → s.next ≡ r.next + 1 → (disk_on side new).faults ≡ (disk_on side old).faults
      → (IsTrue tells.bytes → HasPut r.header (next_block r session bytes) (disk_on side old).held (disk_on side new).held)
      → (IsTrue tells.bytes → AddsExactly r.header (next_block r session bytes ∷ []) (disk_on side old).held (disk_on side new).held)
      → IsSettledRing tells side s new → PutsUnlessFailed tells side (Some r) (Some s) session bytes old new
  puts_put s header next faults put exact ring = record {
    time = served.time;
    counts = counts;
    away = served.other;
    line = line;
    told = told;
    least = least;
    greatest = greatest;
    moments = quiet;
    own = record { moments = own_moments; header = header; next = next; faults = faults; put = put; exact = exact; ring = ring };
    near = near;
    near_away = near_away;
  }
