-- Words that wait in a room of zeros.
use Rattle.std.specs.Prelude.{ℕ, ◌≡◌, ◌<◌, ◌≤◌, ◌+◌, ◌*◌, ◌/◌, ◌%◌, ◌^◌, ◌==◌, List, ◌++◌, Option, Some, None, length, take, slice_index, if◌then◌else◌}
use Rattle.fdr_stream.specs.Packing.{filled_by, unpaired_after}

-- the whole bytes that wait for a block, the four bits after them, where there are some, and how many bytes there may be
pub record WaitingBytes : Type 0 where
  pub items : List ℕ
  pub odd : Option ℕ
  pub capacity : ℕ

-- what waits of a room of bytes with so many half bytes in it
abbrev pub waiting_of : List ℕ → ℕ → WaitingBytes
waiting_of room halves = record {
  items = take (halves / 2) room;
  odd = if halves % 2 == 1 then Some (slice_index room (halves / 2)) else None;
  capacity = length room;
}

-- All bytes from place n on are 0.
abbrev pub IsZeroFrom : List ℕ → ℕ → Type 0
IsZeroFrom bytes n = (k : ℕ) → n ≤ k → slice_index bytes k ≡ 0

-- So many half bytes wait in the room, and all after them is 0.
pub record IsWaiting (room : List ℕ) (halves : ℕ) : Type 0 where
  pub within : halves ≤ 2 * length room
  pub bits : slice_index room (halves / 2) < 16 ^ (halves % 2)
  pub zeros : IsZeroFrom room (halves / 2 + 1)

-- what waits after further words of 12 bits
abbrev pub with_words : WaitingBytes → List ℕ → WaitingBytes
with_words w words = record w { items = w.items ++ filled_by w.odd words; odd = unpaired_after w.odd words }
