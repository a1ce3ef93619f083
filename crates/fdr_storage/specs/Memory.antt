-- What the storage in memory means: its first content, and all calls since.
use Rattle.std.specs.Prelude.{◌≡◌, ◌⊎◌, ℕ, ◌-◌, List, [], ◌∷◌, length, replicate, Bool, true}
use Rattle.fdr_deck.specs.State.{Moment}
use Rattle.fdr_deck.specs.Disk.{patched, Torn, IsZeros}
use Rattle.fdr_storage.specs.Disk.{Told, StoredFile, IsIn, span_of}
use Rattle.fdr_storage.specs.declared.numbers.Numbers.{Numbers}
use Rattle.fdr_storage.specs.declared.entries.Step.{Step}
use Rattle.fdr_storage.specs.declared.entries.Step.TheVariants.{Begin, Write, Tear, Grow, Pad, Sync}
use Rattle.fdr_storage.specs.declared.entries.Entry.{Entry}

-- the storage in memory tells its bytes and its stops
abbrev pub memory_told : Told
memory_told = record { bytes = true; stops = true }

-- what is held after a call, by what was held before it
abbrev pub bytes_by : Step → List ℕ → List ℕ
bytes_by Begin held = held
bytes_by (Write at bytes) held = patched at bytes.items held
bytes_by (Tear at count) held = held
bytes_by (Grow most) held = replicate most 0
bytes_by (Pad most) held = held
bytes_by Sync held = held

-- The image is one of these images, torn in the range of n bytes from the place `at` on.
abbrev pub IsTornOf : ℕ → ℕ → (List ℕ → Type 0) → List ℕ → Type 0
IsTornOf at n leaves image = (from : List ℕ) × (leaves from × Torn at n from image)

-- The image is one that a stop after the call may leave, where `held` was held before it and a stop before it could leave what
-- `leaves` says.
abbrev pub leavings_by : Step → List ℕ → (List ℕ → Type 0) → List ℕ → Type 0
leavings_by Begin held leaves image = leaves image
leavings_by (Write at bytes) held leaves image = (image ≡ patched at bytes.items held) ⊎ IsTornOf at (length bytes.items) leaves image
leavings_by (Tear at count) held leaves image = IsTornOf at count leaves image
leavings_by (Grow most) held leaves image = leaves image ⊎ IsZeros most image
leavings_by (Pad most) held leaves image = leaves image ⊎ IsZeros most image
leavings_by Sync held leaves image = image ≡ held

-- what is held after all these calls, by what was held at first
unfoldable pub bytes_after : List Entry → List ℕ → List ℕ
bytes_after [] held = held
bytes_after (e ∷ es) held = bytes_after es (bytes_by e.step held)

-- The image is one that a stop after all these calls may leave.
unfoldable pub leavings_after : List Entry → List ℕ → (List ℕ → Type 0) → List ℕ → Type 0
leavings_after [] held leaves image = leaves image
leavings_after (e ∷ es) held leaves image = leavings_after es (bytes_by e.step held) (leavings_by e.step held leaves) image

-- The moment is one of the calls since the call of number t.
unfoldable pub past_calls : List Entry → List ℕ → (List ℕ → Type 0) → ℕ → Moment → Type 0
past_calls [] held leaves t m = ⊥
past_calls (e ∷ es) held leaves t m = ((t ≡ 0) × IsIn (λ image. leaves image ⊎ leavings_by e.step held leaves image) (span_of e.numbers) m)
    ⊎ past_calls es (bytes_by e.step held) (leavings_by e.step held leaves) (t - 1) m

-- what the storage in memory means, by its first content, the calls since, the numbers of the call above that began last, and the
-- counts of calls that failed and that were interrupted, and its marks
abbrev pub memory_disk : List ℕ → List Entry → Numbers → ℕ → ℕ → Bool → Bool → StoredFile
memory_disk first entries begun faults interruptions whole flushed = record {
  held = bytes_after entries first;
  may_leave = leavings_after entries first (λ image. image ≡ first);
  clock = length entries;
  past = past_calls entries first (λ image. image ≡ first);
  begun = span_of begun;
  faults = faults;
  interruptions = interruptions;
  whole = whole;
  flushed = flushed;
}
