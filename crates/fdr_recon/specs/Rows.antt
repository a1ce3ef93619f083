-- The rows of frames that were read one after another.
use Rattle.std.specs.Prelude.{ℕ, ◌+◌, ◌-◌, ◌*◌, ◌/◌, ◌%◌, ◌^◌, pos, Bool, false, if◌then◌else◌, ◌==◌, ◌&&◌, nat_le, List, [], Option, Some, None, map, sum_by}
use Rattle.std.specs.Prelude.{slice_index}
use Rattle.std.specs.List.{filter_map, range_with_len, list_all, slice_index_or}
use Rattle.fdr_frame.specs.Slots.{subframe_of, word_of}
use Rattle.fdr_table.specs.Rows.{FrameRow, ParamRow, TableRows}
use Rattle.fdr_table.specs.Value.{value_of}
use Rattle.fdr_check.specs.Occurrences.{cycle_of}
use Rattle.fdr_layout.specs.Samples.{Part, Sample, first_at, last_at, ending_in}
use Rattle.fdr_recon.specs.declared.Row.{Row}

-- a frame that was read: whether it begins where the frame before it ends, and its words
pub record ReadFrame : Type 0 where
  pub adjacent : Bool
  pub words : List ℕ

-- frame i of a list of frames that were read, counted from 0
abbrev pub frame_at : List ReadFrame → ℕ → ReadFrame
frame_at frames i = slice_index_or frames i (record { adjacent = false; words = [] })

-- where the counter's word is among the words of a frame
abbrev pub counter_place : FrameRow → ℕ
counter_place f = f.words * (f.csub - 1) + (f.cword - 1)

-- the counter of a frame with these words
abbrev pub counter_in : FrameRow → List ℕ → ℕ
counter_in f words = slice_index words (counter_place f)

-- the place of a frame with these words in its superframe: its counter modulo 16
abbrev pub cycle_of_frame : FrameRow → List ℕ → ℕ
cycle_of_frame f words = counter_in f words % 16

-- whether of two frames in a row the later is linked to the earlier: it begins where that ends, and its counter is one more,
-- modulo 4096
unfoldable pub are_linked : FrameRow → ReadFrame → ReadFrame → Bool
are_linked f earlier later = later.adjacent && (counter_in f later.words == (counter_in f earlier.words + 1) % 4096)

-- whether frame i is joined with the d frames before it: there are as many, and each two neighbours of these d + 1 frames are
-- linked
unfoldable pub are_joined : FrameRow → List ReadFrame → ℕ → ℕ → Bool
are_joined f frames i d =
    nat_le d i && list_all (λ e. are_linked f (frame_at frames (i - (e + 1))) (frame_at frames (i - e))) (range_with_len 0 d)

-- how many frames before its last part a sample's earliest part is
abbrev pub reach : ℕ → List Part → ℕ
reach w parts = cycle_of w (last_at parts) - cycle_of w (first_at parts)

-- the bits of a part of a sample whose last part lies in frame i, which has this cycle
abbrev pub bits_of : ℕ → List ReadFrame → ℕ → ℕ → Part → ℕ
bits_of w frames i cycle p =
    slice_index (frame_at frames (i - (cycle - cycle_of w p.at))).words (p.at / 12 % (4 * w)) / 2 ^ (p.at % 12) % 2 ^ p.width

-- the raw value of a sample whose last part lies in frame i, which has this cycle: the bits of each part at their place in it
unfoldable pub raw_of_parts : ℕ → List ReadFrame → ℕ → ℕ → List Part → ℕ
raw_of_parts w frames i cycle parts = sum_by (λ p. bits_of w frames i cycle p * 2 ^ p.shift) parts

-- what stands for no parameter
abbrev pub no_param : ParamRow
no_param = record {
  name = [];
  bus = 0;
  label = 0;
  sdi = None;
  lsb = 0;
  width = 0;
  signed = false;
  num = pos 0;
  den = pos 1;
  offset = pos 0;
  decimals =
      0;
  rate = 0;
  age = None;
  tells = false;
  row = 0;
}

-- the parameter with index n
unfoldable pub param_at : List ParamRow → ℕ → ParamRow
param_at params n = slice_index_or params n no_param

-- the row of a sample with this raw value, whose earliest part lies in a frame with this counter
unfoldable pub row_with : TableRows → Sample → ℕ → ℕ → Row
row_with t s counter raw = record {
  counter = counter;
  subframe = subframe_of t.frame.words (first_at s.parts / 12);
  word = word_of t.frame.words (first_at s.parts / 12);
  param = s.param;
  value = value_of (param_at t.params s.param) raw;
}

-- the row of a sample whose last part lies in frame i, where the frames back to its earliest part are joined; none where they
-- aren't
unfoldable pub row_of : TableRows → List ReadFrame → ℕ → Sample → Option Row
row_of t frames i s =
    let w = t.frame.words in
    let d = reach w s.parts in
    if are_joined t.frame frames i d
    then Some (row_with t s (counter_in t.frame (frame_at frames (i - d)).words)
    (raw_of_parts w frames i (cycle_of_frame t.frame (frame_at frames i).words) s.parts))
    else None

-- for each sample that ends in the cycle of frame i, in the order of last parts, its row, or none where it isn't listed
unfoldable pub rows_looked_at : TableRows → List ReadFrame → ℕ → List (Option Row)
rows_looked_at t frames i = map (row_of t frames i) (ending_in t (cycle_of_frame t.frame (frame_at frames i).words))

-- the rows of frame i, in the order of the last parts of their samples
unfoldable pub rows_of_frame : TableRows → List ReadFrame → ℕ → List Row
rows_of_frame t frames i = filter_map (λ r. r) (rows_looked_at t frames i)
