-- The ranges that the fields of a table keep.
use Rattle.std.specs.Prelude.{◌≡◌, ◌≢◌, ◌+◌, ◌<◌, ◌≤◌, neg_ℤ, pos, ◌≤ℤ◌, List, IsTrue, true, false, ◌&&◌, nat_le, length, All, AllPairs}
use Rattle.std.specs.Option.{option_map_or}
use Rattle.fdr_frame.specs.WordCount.{IsWordCount}
use Rattle.fdr_table.specs.Bounds.{most_params, most_places, most_words, subframe_count, least_counter_word, frame_word_bits, most_parts, periods}
use Rattle.fdr_table.specs.Bounds.{bus_word_bits, most_bus, most_label, most_sdi, most_scale, most_offset, most_decimals, most_rate, most_age}
use Rattle.fdr_table.specs.Fields.{is_among, is_name}
use Rattle.fdr_table.specs.Rows.{FrameRow, ParamRow, PlaceRow, TableRows}

-- The fields of a frame row keep their ranges: a subframe has one of the five numbers of words, the counter is in one of the
-- words 2 to 1,024, of one of the subframes 1 to 4.
pub record IsFrameInRange (f : FrameRow) : Type 0 where
  pub words : IsWordCount f.words
  pub cword_low : least_counter_word ≤ f.cword
  pub cword_high : f.cword ≤ most_words
  pub csub_low : 1 ≤ f.csub
  pub csub_high : f.csub ≤ subframe_count

-- The fields of a parameter keep their ranges: its bits are within a bus word, and scale, offset, decimals, rate and age within
-- their bounds. One that tells whether its word is fresh has one bit and no sign.
pub record IsParamInRange (p : ParamRow) : Type 0 where
  pub bus : p.bus ≤ most_bus
  pub label : p.label ≤ most_label
  pub sdi : IsTrue (option_map_or (λ sdi. nat_le sdi most_sdi) p.sdi true)
  pub lsb_low : 1 ≤ p.lsb
  pub width_low : 1 ≤ p.width
  pub bits : p.lsb + p.width ≤ bus_word_bits + 1
  pub num_low : neg_ℤ (pos most_scale) ≤ℤ p.num
  pub num_high : p.num ≤ℤ pos most_scale
  pub den_low : pos 1 ≤ℤ p.den
  pub den_high : p.den ≤ℤ pos most_scale
  pub offset_low : neg_ℤ (pos most_offset) ≤ℤ p.offset
  pub offset_high : p.offset ≤ℤ pos most_offset
  pub decimals : p.decimals ≤ most_decimals
  pub rate_low : 1 ≤ p.rate
  pub rate_high : p.rate ≤ most_rate
  pub age : IsTrue (option_map_or (λ age. nat_le 1 age && nat_le age most_age) p.age true)
  pub tells_width : IsTrue p.tells → p.width ≡ 1
  pub tells_sign : IsTrue p.tells → p.signed ≡ false

-- The fields of a place keep their ranges: its bits are within a word of a frame, and its cycle below its period. A set of
-- subframes has some of the bits of subframes 1 to 4, so it is 1 to 15.
pub record IsPlaceInRange (p : PlaceRow) : Type 0 where
  pub part_low : 1 ≤ p.part
  pub part_high : p.part ≤ most_parts
  pub subs_low : 1 ≤ p.subs
  pub subs_high : p.subs ≤ 15
  pub word_low : 1 ≤ p.word
  pub word_high : p.word ≤ most_words
  pub step : p.step ≤ most_words
  pub lsb_low : 1 ≤ p.lsb
  pub width_low : 1 ≤ p.width
  pub bits : p.lsb + p.width ≤ frame_word_bits + 1
  pub cycle : p.cycle < p.period
  pub period : IsTrue (is_among periods p.period)

-- All fields of a table keep their ranges, and each place is one of a parameter of the table.
pub record IsInRange (t : TableRows) : Type 0 where
  pub frame : IsFrameInRange t.frame
  pub params : All IsParamInRange t.params
  pub places : All IsPlaceInRange t.places
  pub owners : All (λ (p : PlaceRow). p.param < length t.params) t.places

-- The name of each parameter is one that is allowed, and no two have the same.
pub record HaveOwnNames (params : List ParamRow) : Type 0 where
  pub allowed : All (λ (p : ParamRow). IsTrue (is_name p.name)) params
  pub different : AllPairs (λ (p q : ParamRow). p.name ≢ q.name) params

-- The table has no more than 2,048 parameters and 8,192 places.
pub record IsWithinLimits (t : TableRows) : Type 0 where
  pub params : length t.params ≤ most_params
  pub places : length t.places ≤ most_places
