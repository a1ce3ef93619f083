-- What bits hold in short: how many frames and rows, and what the values of the rows add up to.
use Rattle.std.specs.Prelude.{ℕ, ◌≡◌, ◌+◌, ◌%◌, ◌^◌, ◌<◌, List, length, filter, sum_by}
use Rattle.std.specs.List.{flat_map, filter_map}
use Rattle.std.specs.Int.{w64, cast_unsigned}
use Rattle.fdr_sync.specs.Accepted.{accepted_frames}
use Rattle.fdr_table.specs.Rows.{TableRows}
use Rattle.fdr_recon.specs.declared.Row.{Row}
use Rattle.fdr_readout.specs.declared.tally.Summary.{Summary}
use Rattle.fdr_readout.specs.Listing.{rows_at}
use Rattle.fdr_readout.specs.Entries.{Entry, row_of_entry, is_frame_entry}

-- the rows of the accepted frames of bits, frame by frame
unfoldable pub listed_rows : TableRows → List ℕ → List Row
listed_rows t b = flat_map (rows_at t b) (accepted_frames b t.frame.words)

-- the value of a row as a number of 64 bits: a negative value counts as 2^64 more
abbrev pub value_bits : Row → ℕ
value_bits r = cast_unsigned w64 r.value

-- the summary of bits: how many accepted frames they have, how many rows, and the sum of the rows' values modulo 2^64
unfoldable pub summary_of : TableRows → List ℕ → Summary
summary_of t b = record {
  frames = length (accepted_frames b t.frame.words);
  rows = length (listed_rows t b);
  sum = sum_by value_bits (listed_rows t b) % 2 ^ 64;
}

-- the summary of no bits
abbrev pub no_summary : Summary
no_summary = record { frames = 0; rows = 0; sum = 0 }

-- the rows among entries
abbrev pub rows_among : List Entry → List Row
rows_among entries = filter_map row_of_entry entries

-- Each number of the summary is below 2^64.
pub record IsOf64Bits (s : Summary) : Type 0 where
  pub frames : s.frames < 2 ^ 64
  pub rows : s.rows < 2 ^ 64
  pub sum : s.sum < 2 ^ 64

-- The second summary has these entries more than the first: each number grew, modulo 2^64, by the frames or the rows among them,
-- or by the sum of these rows' values. It has 64 bits where it had 64 bits.
pub record Tallies (before now : Summary) (entries : List Entry) : Type 0 where
  pub frames : now.frames % 2 ^ 64 ≡ (before.frames + length (filter is_frame_entry entries)) % 2 ^ 64
  pub rows : now.rows % 2 ^ 64 ≡ (before.rows + length (rows_among entries)) % 2 ^ 64
  pub sum : now.sum % 2 ^ 64 ≡ (before.sum + sum_by value_bits (rows_among entries)) % 2 ^ 64
  pub fits : IsOf64Bits before → IsOf64Bits now
