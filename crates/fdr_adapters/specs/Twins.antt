-- What a twin over two storages means.
use Rattle.std.specs.Prelude.{◌≡◌, ℕ, List, Bool, false, length, IsTrue}
use Rattle.std.proofs.Common.{refl, sym}
use Rattle.std.proofs.Math.Nat.{min-le_right, le-max_right}
use Rattle.std.proofs.lemmas.Bool.{false≢true, cond-true}
use Rattle.fdr_deck.specs.State.{State, Tells}
use Rattle.fdr_deck.specs.Moments.{IsSoundDeck}
use Rattle.fdr_deck.specs.Announced.{least_announced, greatest_announced}
use Rattle.fdr_storage.specs.Disk.{Told}
use Rattle.fdr_storage.specs.declared.numbers.Numbers.{Numbers}
use Rattle.fdr_storage_deck.specs.Runs.{extent_of}
use Rattle.fdr_twin.specs.declared.side.Side.{Side}
use Rattle.fdr_twin.specs.declared.side.Side.TheVariants.{First, Second}
use Rattle.fdr_twin.specs.Pair.{Pair, Disk, seen}
use Rattle.fdr_twin.specs.Same.{IsSameState}
use Rattle.fdr_twin.specs.Rest.{HasSameRest}
use Rattle.fdr_twin.specs.Sound.{IsSoundPair}
use Rattle.fdr_twin.specs.RestSound.{HasSameRest-here, HasSameRest-then}

-- what a twin over two storages tells: what its stream and its storages do, but no moments
abbrev pub twin_tells : Told → Bool → Tells
twin_tells told input = record { input = input; bytes = told.bytes; stops = false }

-- one of the disks, by its storage, the length that is known, and its count of faults
abbrev pub twin_disk : Told → Rattle.fdr_storage.specs.Disk.StoredFile → ℕ → ℕ → Disk
twin_disk told d known faults = record { extent = extent_of told d known; held = d.held; may_leave = d.may_leave; faults = faults }

-- of two disks that of the first side, where the one named first is that of this side
abbrev pub first_disk_of : Side → Disk → Disk → Disk
first_disk_of First here there = here
first_disk_of Second here there = there

-- what a twin means that is turned to this side, with this disk there and this one on the other side
abbrev pub pair_over : Side → Disk → Disk → List ℕ → Numbers → ℕ → Pair
pair_over side here there input numbers input_faults = record {
  turned = side;
  first = first_disk_of side here there;
  second = first_disk_of side there here;
  clock = 0;
  since = λ t m. ⊥;
  announced = numbers.announced.number;
  least = least_announced numbers.announced;
  greatest = greatest_announced numbers.announced;
  input = input;
  taken = numbers.taken;
  pulled_before = numbers.pulled_before;
  input_faults = input_faults;
}

-- what a twin means as the deck of this disk
abbrev pub state_over : Disk → List ℕ → Numbers → ℕ → State
state_over here input numbers input_faults = record {
  extent = here.extent;
  held = here.held;
  may_leave = here.may_leave;
  clock = 0;
  since = λ t m. ⊥;
  announced = numbers.announced.number;
  least = least_announced numbers.announced;
  greatest = greatest_announced numbers.announced;
  input = input;
  taken = numbers.taken;
  pulled_before = numbers.pulled_before;
  disk_faults = here.faults;
  input_faults = input_faults;
}

-- As a deck a twin means what the side means that it is turned to.
pub pair_faces : (side : Side) (here there : Disk) (input : List ℕ) (numbers : Numbers) (input_faults : ℕ)
    → IsSameState (state_over here input numbers input_faults) (seen side (pair_over side here there input numbers input_faults))
pair_faces First here there input numbers input_faults = record {
  extent = refl;
  held = refl;
  leaves = λ image is. is;
  left = λ image is. is;
  clock = refl;
  moments = λ t m is. absurd is;
  only = λ t m is. absurd is.1.0;
  announced = refl;
  least = refl;
  greatest = refl;
  input = refl;
  taken = refl;
  pulled_before = refl;
  disk_faults = refl;
  input_faults = refl;
}
pair_faces Second here there input numbers input_faults = record {
  extent = refl;
  held = refl;
  leaves = λ image is. is;
  left = λ image is. is;
  clock = refl;
  moments = λ t m is. absurd is;
  only = λ t m is. absurd is.1.0;
  announced = refl;
  least = refl;
  greatest = refl;
  input = refl;
  taken = refl;
  pulled_before = refl;
  disk_faults = refl;
  input_faults = refl;
}

-- A disk's length is that of its bytes, where they are told.
abbrev pub IsMeasured : Told → Disk → Type 0
IsMeasured told d = IsTrue told.bytes → length d.held ≡ d.extent

-- The length of a disk over a storage is that of its bytes, where they are told.
pub twin_disk_is_measured : (told : Told) (d : Rattle.fdr_storage.specs.Disk.StoredFile) (known faults : ℕ) → IsMeasured told (twin_disk told d known faults)
twin_disk_is_measured told d known faults is = sym (cond-true _ _ _ is)

-- As a deck a twin is sound.
pub twin_state_is_sound : (told : Told) (input_told : Bool) (here : Disk) (input : List ℕ) (numbers : Numbers) (input_faults : ℕ) → IsMeasured told here
    → IsSoundDeck (twin_tells told input_told) (state_over here input numbers input_faults)
twin_state_is_sound told input_told here input numbers input_faults measured = record {
  stops_need_bytes = λ is. absurd (false≢true is);
  size = measured;
  held = λ is. absurd (false≢true is);
  least = min-le_right numbers.announced.least numbers.announced.number;
  greatest = le-max_right numbers.announced.greatest numbers.announced.number;
  only_now = λ is m since. absurd since;
  counts_now = λ is m leaves same pulled. absurd (false≢true is);
  falls = λ is earlier t m le now since. since;
}

side_is_sound : (told : Told) (input_told : Bool) (turned side : Side) (here there : Disk) (input : List ℕ) (numbers : Numbers) (input_faults : ℕ)
    → IsMeasured told here → IsMeasured told there
    → IsSoundDeck (twin_tells told input_told) (seen side (pair_over turned here there input numbers input_faults))
side_is_sound told input_told turned side here there input numbers input_faults measured other_measured = record {
  stops_need_bytes = λ is. absurd (false≢true is);
  size = size turned side;
  held = λ is. absurd (false≢true is);
  least = min-le_right numbers.announced.least numbers.announced.number;
  greatest = le-max_right numbers.announced.greatest numbers.announced.number;
  only_now = λ is m since. absurd (false≢true is);
  counts_now = λ is m leaves same pulled. absurd (false≢true is);
  falls = λ is earlier t m le now since. absurd (false≢true is);
}
  where
    size : (turned side : Side) → IsTrue told.bytes
        → length ((seen side (pair_over turned here there input numbers input_faults)).held) ≡ (seen side (pair_over turned here there input numbers
        input_faults)).extent
    size First First = measured
    size First Second = other_measured
    size Second First = other_measured
    size Second Second = measured

-- A twin over two storages is sound.
pub pair_is_sound : (told : Told) (input_told : Bool) (turned : Side) (here there : Disk) (input : List ℕ) (numbers : Numbers) (input_faults : ℕ)
    → IsMeasured told here → IsMeasured told there
    → IsSoundPair (twin_tells told input_told) (pair_over turned here there input numbers input_faults)
pair_is_sound told input_told turned here there input numbers input_faults measured other_measured = record {
  sides = λ side. side_is_sound told input_told turned side here there input numbers input_faults measured other_measured;
  falls = λ earlier t m le now since. since;
}

-- Where nothing is done, a twin has the same rest.
pub pair_rest_here : (side : Side) (here there : Disk) (input : List ℕ) (numbers : Numbers) (input_faults : ℕ)
    → HasSameRest (pair_over side here there input numbers input_faults) (pair_over side here there input numbers input_faults)
pair_rest_here side here there input numbers input_faults =
    HasSameRest-here (pair_over side here there input numbers input_faults) (λ earlier t m le now since. since)

-- What leaves the same rest twice in a row leaves it from the first to the last.
pub pair_rest_then : (old mid new : Pair) → ((t : ℕ) (m : Rattle.fdr_twin.specs.Pair.PairMoment) → mid.since t m → ⊥)
    → HasSameRest old mid → HasSameRest mid new → HasSameRest old new
pair_rest_then old mid new none first second = HasSameRest-then old mid new (λ earlier t m le now since. absurd (none t m since)) first second
