-- Where the sync word of a first subframe is in a bit list.
use Rattle.std.specs.Prelude.{ℕ, ◌≡◌, ◌+◌, ◌*◌, ◌<◌, ◌≤◌, List}
use Rattle.fdr_bits.specs.Bits.{bits_in, word_at}
use Rattle.fdr_frame.specs.Slots.{sync_word}

-- The sync word of a first subframe, octal 1107, is at bit p, and its twelve bits lie within the bytes.
abbrev pub IsSyncPosition : List ℕ → ℕ → Type 0
IsSyncPosition b p = (p + 12 ≤ bits_in b) × (word_at b p ≡ sync_word 1)

-- Bit p is the first from bit `from` on that the sync word of a first subframe is at.
pub record IsFirstSyncFrom (b : List ℕ) (from p : ℕ) : Type 0 where
  pub behind : from ≤ p
  pub position : IsSyncPosition b p
  pub first : (q : ℕ) → from ≤ q → q < p → ¬ IsSyncPosition b q

-- The sync word of a first subframe is at no bit from bit `from` on.
abbrev pub HasNoSyncFrom : List ℕ → ℕ → Type 0
HasNoSyncFrom b from = (q : ℕ) → from ≤ q → ¬ IsSyncPosition b q

-- The sync word of a first subframe begins in none of the bytes from byte i on that are before byte j.
abbrev pub HasNoSyncInBytes : List ℕ → ℕ → ℕ → Type 0
HasNoSyncInBytes b i j = (q : ℕ) → 8 * i ≤ q → q < 8 * j → ¬ IsSyncPosition b q
