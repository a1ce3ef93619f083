-- What of a recording survives in other bits, and how it is listed from them.
--
-- A run is some frames of the recording, one after the other. The bits round it may be any: others struck out, put in or
-- turned, or no recording at all.
use Rattle.std.specs.Prelude.{◌≡◌, ℕ, ◌+◌, ◌-◌, ◌*◌, ◌%◌, ◌<◌, ◌≤◌, nat_le, IsTrue, ◌⊎◌, List, [], ◌∷◌, ◌++◌, length, map, filter}
use Rattle.std.specs.List.{flat_map, range_with_len}
use Rattle.fdr_bits.specs.Bits.{bits_in, bit_at}
use Rattle.fdr_bus.specs.declared.BusRecord.{BusRecord}
use Rattle.fdr_table.specs.Rows.{TableRows}
use Rattle.fdr_layout.specs.Samples.{Sample, ending_in}
use Rattle.fdr_sampler.specs.Stream.{stream_of}
use Rattle.fdr_sync.specs.Frames.{IsFramePosition}
use Rattle.fdr_sync.specs.Accepted.{accepted_frames}
use Rattle.fdr_recon.specs.declared.Row.{Row}
use Rattle.fdr_recon.specs.Rows.{are_joined, reach}
use Rattle.fdr_readout.specs.Listing.{frame_read, rows_at, row_line_of, listing_of}
use Rattle.fdr_readout.specs.SampledRows.{sampled_row, sampled_rows, whole_frames}

-- ---- the premise

-- The n bits of the bytes a from bit p on are in the bytes b from bit q on.
pub record StandIn (a : List ℕ) (p n : ℕ) (b : List ℕ) (q : ℕ) : Type 0 where
  pub within : q + n ≤ bits_in b
  pub same : (x : ℕ) → x < n → bit_at b (q + x) ≡ bit_at a (p + x)

-- No frame position of b reaches over bit q: none begins in the 48 w - 1 bits before it.
abbrev pub IsClearBefore : List ℕ → ℕ → ℕ → Type 0
IsClearBefore b w q = (p : ℕ) → p < q → q < p + 48 * w → ¬ IsFramePosition b w p

-- A surviving run: frames j to j + m - 1 of the recording, one at least and all of them whole, survive in the bytes b from bit q
-- on. Their exact bits are there, and no frame position of b reaches into them from before.
pub record Survives (t : TableRows) (records : List BusRecord) (b : List ℕ) (q j m : ℕ) : Type 0 where
  pub not_empty : 1 ≤ m
  pub whole : j + m ≤ whole_frames t records
  pub stand : StandIn (stream_of t records) (48 * t.frame.words * j) (48 * t.frame.words * m) b q
  pub clear : IsClearBefore b t.frame.words q

-- ---- what is listed

-- where m frames begin that follow one another from bit q on
abbrev pub frames_from : ℕ → ℕ → ℕ → List ℕ
frames_from w q m = map (λ i. q + 48 * w * i) (range_with_len 0 m)

-- The m frames from bit q on are accepted frames of the bytes b, one next to the other among all that are, and they are joined.
pub record AreAcceptedInARow (t : TableRows) (b : List ℕ) (q m : ℕ) : Type 0 where
  pub before : List ℕ
  pub behind : List ℕ
  pub accepted : accepted_frames b t.frame.words ≡ before ++ frames_from t.frame.words q m ++ behind
  pub joined : IsTrue (are_joined t.frame (map (frame_read b t.frame.words) (accepted_frames b t.frame.words)) (length before + (m - 1)) (m - 1))

-- The list xs is what is left of ys where some elements are taken out.
abbrev pub AreAmong : {X : Type 0} → List X → List X → Type 0
AreAmong [] ys = Unit {0}
AreAmong (x ∷ xs) [] = ⊥
AreAmong (x ∷ xs) (y ∷ ys) = ((x ≡ y) × AreAmong xs ys) ⊎ AreAmong (x ∷ xs) ys

-- the sampled rows of frame k of a recording whose earliest part lies in frame j or a later one, in the order of last parts
unfoldable pub sampled_since : TableRows → List BusRecord → ℕ → ℕ → List Row
sampled_since t records j k = map (sampled_row t records k) (filter (λ (s : Sample). nat_le (j + reach t.frame.words s.parts) k) (ending_in t (k % 16)))

-- the lines of the rows of the accepted frame at bit a
unfoldable pub lines_at : TableRows → List ℕ → ℕ → List ℕ
lines_at t b a = flat_map (row_line_of t) (rows_at t b a)

-- A surviving run is listed: frames j to j + m - 1 of the recording, from bit q of the bytes b on, are accepted and joined; the
-- listing has the lines of their rows, one frame's after the other's and nothing between them; among the rows of each are those
-- that were sampled from frame j on; and a frame whose superframe begins at frame j or later has its sampled rows and no others.
pub record AreListed (t : TableRows) (records : List BusRecord) (b : List ℕ) (q j m : ℕ) : Type 0 where
  pub accepted : AreAcceptedInARow t b q m
  pub lines : (front : List ℕ) × (back : List ℕ) × (listing_of t b ≡ front ++ flat_map (lines_at t b) (frames_from t.frame.words q m) ++ back)
  pub rows : (i : ℕ) → i < m → AreAmong (sampled_since t records j (j + i)) (rows_at t b (q + 48 * t.frame.words * i))
  pub all_rows : (i : ℕ) → i < m → (j + i) % 16 ≤ i → rows_at t b (q + 48 * t.frame.words * i) ≡ sampled_rows t records (j + i)

-- The rows are listed in both: of the accepted frame at bit q of the bytes b, and with the same text of the one at bit r of the
-- bytes c.
pub record AreInBoth (t : TableRows) (rows : List Row) (b : List ℕ) (q : ℕ) (c : List ℕ) (r : ℕ) : Type 0 where
  pub one : AreAmong (map (row_line_of t) rows) (map (row_line_of t) (rows_at t b q))
  pub other : AreAmong (map (row_line_of t) rows) (map (row_line_of t) (rows_at t c r))
