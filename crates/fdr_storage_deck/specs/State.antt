-- What a deck over a storage means.
use Rattle.std.specs.Prelude.{◌⊎◌, ℕ, ◌≤◌, Bool, List}
use Rattle.std.proofs.Common.{inl, inr, ⊎_elim, refl, sym, ap, ◌∙◌}
use Rattle.std.proofs.Math.Nat.{min-le_right, le-max_right}
use Rattle.std.proofs.lemmas.Bool.{cond-true}
use Rattle.fdr_deck.specs.State.{State, Tells}
use Rattle.fdr_deck.specs.Moments.{IsSoundDeck}
use Rattle.fdr_deck.specs.Announced.{least_announced, greatest_announced}
use Rattle.fdr_storage.specs.Disk.{Told, StoredFile, IsIn, IsSoundDisk, span_of}
use Rattle.fdr_storage.specs.declared.numbers.Numbers.{Numbers}
use Rattle.fdr_storage_deck.specs.Runs.{extent_of}

-- what a deck over a storage tells: what its stream and its storage do
abbrev pub deck_tells : Told → Bool → Tells
deck_tells told input = record { input = input; bytes = told.bytes; stops = told.stops }

-- what a deck over a storage means, by the storage, the length that is known, the rest of the input, the numbers, and the counts
-- of faults of the disk and of the input. Its moments since a time are those of the storage, and those of now
abbrev pub deck_state : Told → StoredFile → ℕ → List ℕ → Numbers → ℕ → ℕ → State
deck_state told disk known input numbers disk_faults input_faults = record {
  extent = extent_of told disk known;
  held = disk.held;
  may_leave = disk.may_leave;
  clock = disk.clock;
  since = λ t m. disk.past t m ⊎ IsIn disk.may_leave (span_of numbers) m;
  announced = numbers.announced.number;
  least = least_announced numbers.announced;
  greatest = greatest_announced numbers.announced;
  input = input;
  taken = numbers.taken;
  pulled_before = numbers.pulled_before;
  disk_faults = disk_faults;
  input_faults = input_faults;
}

-- A deck over a storage is sound.
pub deck_is_sound : (told : Told) (input_told : Bool) (disk : StoredFile) (known : ℕ) (input : List ℕ) (numbers : Numbers) (disk_faults input_faults : ℕ)
    → IsSoundDisk told disk → IsSoundDeck (deck_tells told input_told) (deck_state told disk known input numbers disk_faults input_faults)
deck_is_sound told input_told disk known input numbers disk_faults input_faults sound = record {
  stops_need_bytes = sound.stops_need_bytes;
  size = λ is. sym (cond-true _ _ _ is);
  held = sound.held;
  least = min-le_right numbers.announced.least numbers.announced.number;
  greatest = le-max_right numbers.announced.greatest numbers.announced.number;
  only_now = λ is m since.
      let now : IsIn disk.may_leave (span_of numbers) m = ⊎_elim (λ past. absurd (sound.over is m past)) (λ here. here) since in
      record { image = now.image; least = now.least; greatest = now.greatest; pulled = record { taken = now.taken; pulled_before = now.pulled_before } };
  counts_now = λ is m leaves same pulled. inr (record {
    image = leaves;
    least = Rattle.std.proofs.Common.subst (λ (k : ℕ). least_announced numbers.announced ≤ k) (sym same)
        (min-le_right numbers.announced.least numbers.announced.number);
    greatest = Rattle.std.proofs.Common.subst (λ (k : ℕ). k ≤ greatest_announced numbers.announced) (sym same)
        (le-max_right numbers.announced.greatest numbers.announced.number);
    taken = pulled.taken;
    pulled_before = pulled.pulled_before;
  });
  falls = λ is earlier t m le now since. ⊎_elim (λ past. inl (sound.falls is earlier t m le now past)) (λ here. inr here) since;
}
