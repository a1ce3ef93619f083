-- What is seen of the twin that never fails.
use Rattle.std.specs.Prelude.{◌≡◌, ◌⊎◌, ℕ, ◌≤◌, List, length}
use Rattle.std.proofs.Common.{refl, ap, arith}
use Rattle.fdr_deck.specs.State.{State, Tells, Moment}
use Rattle.fdr_deck.specs.Announced.{least_announced, greatest_announced}
use Rattle.fdr_deck.specs.declared.announced.Announced.{Announced}
use Rattle.fdr_deck.specs.Sure.{Sure, sure_state, sure_tells, sure_is_sound}
use Rattle.fdr_twin.specs.declared.side.Side.{Side}
use Rattle.fdr_twin.specs.declared.side.Side.TheVariants.{First, Second}
use Rattle.fdr_twin.specs.Pair.{Pair, PairMoment, Disk, other_side, disk_on, seen}
use Rattle.fdr_twin.specs.Same.{IsSameState, IsSameDisk}
use Rattle.fdr_twin.specs.Rest.{HasSameRest}
use Rattle.fdr_twin.specs.Sound.{IsSoundPair}
use Rattle.fdr_twin.specs.SoundSame.{IsSoundDeck-same}
use Rattle.fdr_twin.specs.RestSound.{HasSameRest-here, HasSameRest-then}

-- what is seen of the twin that never fails: the side that it is turned to, both images, the rest of the input, the numbers of
-- bytes pulled, and what was announced
pub record SureSides : Type 0 where
  pub turned : Side
  pub first : List ℕ
  pub second : List ℕ
  pub input : List ℕ
  pub taken : ℕ
  pub pulled_before : ℕ
  pub announced : Announced

-- the image of a side, of the two that are given
abbrev pub sure_image : Side → List ℕ → List ℕ → List ℕ
sure_image First first second = first
sure_image Second first second = second

-- a side of the twin that never fails, as a deck that never fails
abbrev pub sure_on : Side → SureSides → Sure
sure_on side s = record {
  image = sure_image side s.first s.second;
  input = s.input;
  taken = s.taken;
  pulled_before = s.pulled_before;
  announced = s.announced;
}

-- what the twin that never fails means, as the state of a deck: of the side that it is turned to
abbrev pub sure_twin_state : SureSides → State
sure_twin_state s = sure_state (sure_on s.turned s)

-- a disk that never fails, with this image
abbrev pub sure_disk : List ℕ → Disk
sure_disk image = record { extent = length image; held = image; may_leave = λ other. ⊥; faults = 0 }

-- what the twin that never fails means, as a pair
abbrev pub sure_pair : SureSides → Pair
sure_pair s = record {
  turned = s.turned;
  first = sure_disk s.first;
  second = sure_disk s.second;
  clock = 0;
  since = λ t m. ⊥;
  announced = s.announced.number;
  least = least_announced s.announced;
  greatest = greatest_announced s.announced;
  input = s.input;
  taken = s.taken;
  pulled_before = s.pulled_before;
  input_faults = 0;
}

-- Each side of the twin that never fails means what the deck that never fails means.
pub sure_faces : (side : Side) (s : SureSides) → IsSameState (sure_state (sure_on side s)) (seen side (sure_pair s))
sure_faces First s = record {
  extent = refl;
  held = refl;
  leaves = λ image is. is;
  left = λ image is. is;
  clock = refl;
  moments = λ t m is. absurd is;
  only = λ t m is. absurd is.1.0;
  announced = refl;
  least = refl;
  greatest = refl;
  input = refl;
  taken = refl;
  pulled_before = refl;
  disk_faults = refl;
  input_faults = refl;
}
sure_faces Second s = record {
  extent = refl;
  held = refl;
  leaves = λ image is. is;
  left = λ image is. is;
  clock = refl;
  moments = λ t m is. absurd is;
  only = λ t m is. absurd is.1.0;
  announced = refl;
  least = refl;
  greatest = refl;
  input = refl;
  taken = refl;
  pulled_before = refl;
  disk_faults = refl;
  input_faults = refl;
}

-- The twin that never fails is sound.
pub sure_twin_is_sound : (s : SureSides) → IsSoundPair sure_tells (sure_pair s)
sure_twin_is_sound s = record {
  sides = λ side. IsSoundDeck-same sure_tells (sure_state (sure_on side s)) (seen side (sure_pair s)) (sure_faces side s) (sure_is_sound (sure_on side s));
  falls = λ earlier t m le now since. since;
}

-- Where nothing is done, the twin that never fails has the same rest.
pub sure_rest_here : (s : SureSides) → HasSameRest (sure_pair s) (sure_pair s)
sure_rest_here s = HasSameRest-here (sure_pair s) (sure_twin_is_sound s).falls

-- What leaves the same rest of the twin that never fails twice in a row leaves it from the first to the last.
pub sure_rest_then : (old mid new : SureSides) → HasSameRest (sure_pair old) (sure_pair mid) → HasSameRest (sure_pair mid) (sure_pair new)
    → HasSameRest (sure_pair old) (sure_pair new)
sure_rest_then old mid new first second = HasSameRest-then (sure_pair old) (sure_pair mid) (sure_pair new) (sure_twin_is_sound mid).falls first second

same_sure_disk : (side : Side) (old new : SureSides) → sure_image side new.first new.second ≡ sure_image side old.first old.second
    → IsSameDisk (disk_on side (sure_pair old)) (disk_on side (sure_pair new))
same_sure_disk First old new same = record {
  extent = ap (λ (l : List ℕ). length l) same;
  held = same;
  no_more = λ image is. is;
  no_less = λ image is. is;
  faults = refl;
}
same_sure_disk Second old new same = record {
  extent = ap (λ (l : List ℕ). length l) same;
  held = same;
  no_more = λ image is. is;
  no_less = λ image is. is;
  faults = refl;
}

no_faults : (side : Side) (old new : SureSides) → (disk_on side (sure_pair old)).faults ≤ (disk_on side (sure_pair new)).faults
no_faults First old new = omega arith
no_faults Second old new = omega arith

-- A call of the twin that never fails which leaves the image of the other side leaves the same rest.
pub sure_rest : (old new : SureSides) → new.turned ≡ old.turned
    → sure_image (other_side old.turned) new.first new.second ≡ sure_image (other_side old.turned) old.first old.second
    → HasSameRest (sure_pair old) (sure_pair new)
sure_rest old new turned same = record {
  turned = turned;
  other = record { disk = same_sure_disk (other_side old.turned) old new same; moments = λ m since. absurd since };
  own = record { faults = no_faults old.turned old new; moments = λ m since. absurd since };
  time = record {
    later = omega arith;
    earlier = λ t m le since. since;
    added = λ t m le since. since;
    no_more = λ t m le since. absurd since;
  };
}
