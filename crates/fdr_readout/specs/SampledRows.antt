-- The rows that a recording samples, made from the records of its trace and the table, without any bits.
use Rattle.std.specs.Prelude.{ℕ, ◌-◌, ◌*◌, ◌/◌, ◌%◌, List, ◌++◌, length, map}
use Rattle.std.specs.List.{flat_map, range_with_len}
use Rattle.fdr_bits.specs.Bits.{bits_in}
use Rattle.fdr_bus.specs.declared.BusRecord.{BusRecord}
use Rattle.fdr_table.specs.Rows.{TableRows}
use Rattle.fdr_layout.specs.Samples.{Sample, ending_in}
use Rattle.fdr_sampler.specs.Held.{raw_value}
use Rattle.fdr_sampler.specs.Stream.{stream_words, stream_of}
use Rattle.fdr_recon.specs.declared.Row.{Row}
use Rattle.fdr_recon.specs.Rows.{reach, row_with}
use Rattle.fdr_readout.specs.Listing.{gap_lines, row_line_of}

-- the word slot of a recording that the superframe of frame j begins at
abbrev pub superframe_start : ℕ → ℕ → ℕ
superframe_start w j = 64 * w * (j / 16)

-- the row of a sample whose last part lies in frame j of a recording: the counter of the frame with its earliest part, and the
-- value that was held for it. It is made of the records and the table, and of no bits
unfoldable pub sampled_row : TableRows → List BusRecord → ℕ → Sample → Row
sampled_row t records j s =
    row_with t s ((j - reach t.frame.words s.parts) % 4096) (raw_value t records (superframe_start t.frame.words j) s)

-- the rows with the values that were sampled, of the samples whose last part lies in frame j of a recording, in the order of last
-- parts
unfoldable pub sampled_rows : TableRows → List BusRecord → ℕ → List Row
sampled_rows t records j = map (sampled_row t records j) (ending_in t (j % 16))

-- how many whole frames a recording has
unfoldable pub whole_frames : TableRows → List BusRecord → ℕ
whole_frames t records = length (stream_words t records) / (4 * t.frame.words)

-- the lines of the rows with the values that were sampled in frame j of a recording
unfoldable pub sampled_lines : TableRows → List BusRecord → ℕ → List ℕ
sampled_lines t records j = flat_map (row_line_of t) (sampled_rows t records j)

-- the listing of what was sampled: the lines of the sampled rows of each whole frame of a recording in order, and one gap of the
-- bits that remain, where there are any
unfoldable pub sampled_listing : TableRows → List BusRecord → List ℕ
sampled_listing t records =
    flat_map (sampled_lines t records) (range_with_len 0 (whole_frames t records))
    ++ gap_lines (48 * t.frame.words * whole_frames t records) (bits_in (stream_of t records))
