-- What is seen of the deck that never fails.
use Rattle.std.specs.Prelude.{ℕ, List, length, true, false}
use Rattle.std.proofs.Common.{refl}
use Rattle.std.proofs.Math.Nat.{min-le_right, le-max_right}
use Rattle.std.proofs.lemmas.Bool.{false≢true}
use Rattle.fdr_deck.specs.State.{State, Tells}
use Rattle.fdr_deck.specs.Moments.{IsSoundDeck}
use Rattle.fdr_deck.specs.Announced.{least_announced, greatest_announced}
use Rattle.fdr_deck.specs.declared.announced.Announced.{Announced}

-- what is seen of the deck that never fails: the image on its disk, the rest of its input, the numbers of bytes pulled, and what
-- was announced
pub record Sure : Type 0 where
  pub image : List ℕ
  pub input : List ℕ
  pub taken : ℕ
  pub pulled_before : ℕ
  pub announced : Announced

-- the deck that never fails tells its input and its bytes, and not its stops
abbrev pub sure_tells : Tells
sure_tells = record { input = true; bytes = true; stops = false }

-- what the deck that never fails means, as the state of a deck
abbrev pub sure_state : Sure → State
sure_state s = record {
  extent = length s.image;
  held = s.image;
  may_leave = λ image. ⊥;
  clock = 0;
  since = λ t m. ⊥;
  announced = s.announced.number;
  least = least_announced s.announced;
  greatest = greatest_announced s.announced;
  input = s.input;
  taken = s.taken;
  pulled_before = s.pulled_before;
  disk_faults = 0;
  input_faults = 0;
}

-- The deck that never fails is sound.
pub sure_is_sound : (s : Sure) → IsSoundDeck sure_tells (sure_state s)
sure_is_sound s = record {
  stops_need_bytes = λ told. refl;
  size = λ told. refl;
  held = λ told. absurd (false≢true told);
  least = min-le_right s.announced.least s.announced.number;
  greatest = le-max_right s.announced.greatest s.announced.number;
  only_now = λ told m since. absurd since;
  counts_now = λ told m leaves same pulled. leaves;
  falls = λ told earlier t m le now since. since;
}
