-- The bus word that is held for a parameter, whether it is fresh, and the raw value that a sample takes from it.
use Rattle.std.specs.Prelude.{ℕ, ◌+◌, ◌-◌, ◌/◌, ◌^◌, ◌==◌, Bool, true, false, not, ◌&&◌, nat_le, if◌then◌else◌, List, reverse, find, slice_get, Option}
use Rattle.std.specs.Prelude.{is_some}
use Rattle.std.specs.Option.{option_map, option_map_or}
use Rattle.fdr_bus.specs.declared.BusRecord.{BusRecord}
use Rattle.fdr_bus.specs.Records.{is_end}
use Rattle.fdr_bus.specs.Words.{bits_at, is_odd, label_of, sdi_of}
use Rattle.fdr_table.specs.Rows.{ParamRow, TableRows}
use Rattle.fdr_layout.specs.Samples.{Sample, first_at}
use Rattle.fdr_sampler.specs.SlotTimes.{slot_time, time_of_slot}

-- where a parameter comes from: the words of a bus with a label, and with an SDI where one is given, and the field of such a word
-- that has its raw number; for how many microseconds a word is fresh, where that ends; and whether the raw number tells freshness
-- in place of the field
pub record Source : Type 0 where
  pub bus : ℕ
  pub label : ℕ
  pub sdi : Option ℕ
  pub lsb : ℕ
  pub width : ℕ
  pub age : Option ℕ
  pub tells : Bool

-- where the parameter of this row comes from
abbrev pub source_of : ParamRow → Source
source_of p = record { bus = p.bus; label = p.label; sdi = p.sdi; lsb = p.lsb; width = p.width; age = p.age; tells = p.tells }

-- whether a record is a bus word of odd parity with the source's bus and label, and with its SDI where one is given
abbrev pub is_from : Source → BusRecord → Bool
is_from s r =
    not (is_end r) && is_odd r.word && (r.bus == s.bus) && (label_of r.word == s.label) && option_map_or (λ sdi. sdi_of r.word == sdi) s.sdi true

-- whether the record counts for word slot k, which is sampled k / w seconds after the start: its time in microseconds isn't later
abbrev pub counts_for : ℕ → ℕ → BusRecord → Bool
counts_for w k r = nat_le (slot_time w r.time) (time_of_slot k)

-- the record that is held for a source at word slot k: the last one of the source that counts for it
unfoldable pub held_record : ℕ → Source → List BusRecord → ℕ → Option BusRecord
held_record w s records k = find (λ r. is_from s r && counts_for w k r) (reverse records)

-- a bus word that is held, with the time that it came at in microseconds
pub record HeldWord : Type 0 where
  pub word : ℕ
  pub time : ℕ

-- the word of a record, with its time
abbrev pub word_and_time : BusRecord → HeldWord
word_and_time r = record { word = r.word; time = r.time }

-- the word that is held for a source at word slot k, with its time
abbrev pub held_word : ℕ → Source → List BusRecord → ℕ → Option HeldWord
held_word w s records k = option_map word_and_time (held_record w s records k)

-- whether what is held for a source is fresh at word slot k: there is a word, and words of the source have no age, or it isn't
-- older than that
abbrev pub is_fresh : ℕ → Source → ℕ → Option HeldWord → Bool
is_fresh w s k held = option_map_or (λ (h : HeldWord). option_map_or (λ age. nat_le (time_of_slot k) (slot_time w (h.time + age))) s.age true) held false

-- the source's field of what is held, or 0 where nothing is
abbrev pub field_held : Source → Option HeldWord → ℕ
field_held s held = option_map_or (λ (h : HeldWord). bits_at h.word s.lsb s.width) held 0

-- the raw number of a source at word slot k, where this is held: whether it is fresh, 1 or 0, where the source tells that; where
-- its words have an age, the field of a fresh word, and all ones without one; where it has neither, the field, or 0 where nothing
-- is held
unfoldable pub raw_of_held : ℕ → Source → ℕ → Option HeldWord → ℕ
raw_of_held w s k held =
    if s.tells then (if is_fresh w s k held then 1 else 0)
    else if is_some s.age then (if is_fresh w s k held then field_held s held else 2 ^ s.width - 1)
    else field_held s held

-- the word slot of the superframe in which a sample's earliest part is
abbrev pub first_part_slot : Sample → ℕ
first_part_slot s = first_at s.parts / 12

-- the sampled value: the raw value of a sample in the superframe that begins at word slot `start`, which is the raw number of
-- what is held for its parameter at the slot of its earliest part
unfoldable pub raw_value : TableRows → List BusRecord → ℕ → Sample → ℕ
raw_value t records start s =
    let w = t.frame.words in
    let k = start + first_part_slot s in
    option_map_or (λ (p : ParamRow). raw_of_held w (source_of p) k (held_word w (source_of p) records k)) (slice_get t.params s.param) 0
