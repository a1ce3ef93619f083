-- The records of a trace, and which of them are good.
use Rattle.std.specs.Prelude.{◌≡◌, ◌<◌, ◌≤◌, ◌⊎◌, ℕ, ◌+◌, ◌*◌, ◌/◌, ◌^◌, ◌==◌, Bool, true, false, not, ◌&&◌, ◌||◌, nat_lt, nat_le, if◌then◌else◌}
use Rattle.std.specs.Prelude.{List, [], ◌∷◌, IsTrue, All, AllPairs, length, map, take, drop, fold, slice_index, Option, Some, None}
use Rattle.std.specs.List.{range_with_len, list_any}
use Rattle.std.specs.Option.{option_map}
use Rattle.byteorder.specs.Endian.{big_number}
use Rattle.fdr_bus.specs.declared.BusRecord.{BusRecord}
use Rattle.fdr_bus.specs.declared.RecordKind.TheVariants.{Word, End}
use Rattle.fdr_bus.specs.declared.TraceFault.{TraceFault}
use Rattle.fdr_bus.specs.declared.TraceFault.TheVariants as fault

-- the 16 bytes of record i of the bytes of a trace, counted from 0
abbrev pub record_bytes : List ℕ → ℕ → List ℕ
record_bytes bytes i = take 16 (drop (16 * i) bytes)

-- all whole records of the bytes of a trace, 16 bytes each
unfoldable pub whole_records : List ℕ → List (List ℕ)
whole_records bytes = map (record_bytes bytes) (range_with_len 0 (length bytes / 16))

-- what the 16 bytes of a record say: its kind and bus, a byte each; two bytes that aren't read; its word of 4 bytes and its time
-- of 8, the highest byte first
unfoldable pub record_of : List ℕ → BusRecord
record_of bytes = record {
  kind = if slice_index bytes 0 == 2 then End else Word;
  bus = slice_index bytes 1;
  word = big_number 4 (drop 4 bytes);
  time = big_number 8 (drop 8 bytes);
}

-- the latest time that a record may have, in microseconds: 1,440,000,000,000, which is 16 days and 16 hours
abbrev pub last_time : ℕ
last_time = 1440000000000

-- how many good records a trace has at most, 2^32
unfoldable pub most_records : ℕ
most_records = 2 ^ 32

-- whether the first byte of a record names a kind: 1 a word, 2 the end
abbrev pub has_kind : List ℕ → Bool
has_kind bytes = (slice_index bytes 0 == 1) || (slice_index bytes 0 == 2)

-- whether a record may follow one of time `before`: it has a kind, and its time isn't before that and isn't over `last_time`
unfoldable pub is_good : ℕ → List ℕ → Bool
is_good before bytes = has_kind bytes && nat_le before (record_of bytes).time && nat_le (record_of bytes).time last_time

-- why a record can't follow one of time `before`: it has no kind, its time goes back, or its time is too late; none where it can
unfoldable pub record_fault : ℕ → List ℕ → Option TraceFault
record_fault before bytes =
    if not (has_kind bytes) then Some fault.Kind
    else if nat_lt (record_of bytes).time before then Some fault.Back
    else if nat_lt last_time (record_of bytes).time then Some fault.Late
    else None

-- whether a record ends the trace
abbrev pub is_end : BusRecord → Bool
is_end r = elim r.kind [ Word ↦ false | End ↦ true ]

-- the good records from the first on, after one of time `before`, up to and with the first end record
abbrev pub good_from : ℕ → List (List ℕ) → List BusRecord
good_from before [] = []
good_from before (bytes ∷ rest) =
    if is_good before bytes then (record_of bytes ∷ (if is_end (record_of bytes) then [] else good_from (record_of bytes).time rest)) else []

-- the good prefix of a trace: the good records from the first on, up to and with the first end record, and at most 2^32
unfoldable pub good_prefix : List ℕ → List BusRecord
good_prefix bytes = good_from 0 (take most_records (whole_records bytes))

-- These are the first of the whole records, and all of them are good: a kind of record each, none before the one before it, none
-- too late, none after an end record, and no more than 2^32.
pub record AreGoodRecords (bytes : List ℕ) (records : List BusRecord) : Type 0 where
  pub first : records ≡ map record_of (take (length records) (whole_records bytes))
  pub kinds : All (λ r. IsTrue (has_kind r)) (take (length records) (whole_records bytes))
  pub in_order : AllPairs (λ earlier later. earlier.time ≤ later.time) records
  pub in_time : All (λ r. r.time ≤ last_time) records
  pub end_is_last : AllPairs (λ earlier later. is_end earlier ≡ false) records
  pub few : length records ≤ most_records

-- These are the longest list of good records that the bytes begin with. Only the good prefix is that, by the law
-- `good_prefix_is_longest`.
pub record IsGoodPrefix (bytes : List ℕ) (records : List BusRecord) : Type 0 where
  pub are_good : AreGoodRecords bytes records
  pub longest : (other : List BusRecord) → AreGoodRecords bytes other → length other ≤ length records

-- the time of the last of some records in microseconds, or `before` where there is none
abbrev pub time_after : ℕ → List BusRecord → ℕ
time_after before records = fold (λ time (r : BusRecord). r.time) before records

-- the time of the last of some records in microseconds, or 0 where there is none
abbrev pub time_of : List BusRecord → ℕ
time_of records = time_after 0 records

-- whether one of some records ends the trace
abbrev pub has_end : List BusRecord → Bool
has_end records = list_any is_end records

-- These bytes settle the trace, whatever follows them: their good prefix has an end record, or 2^32 records, or a record comes
-- after it that isn't good.
abbrev pub IsDecided : List ℕ → Type 0
IsDecided bytes = (has_end (good_prefix bytes) ≡ true) ⊎ ((length (good_prefix bytes) ≡ most_records) ⊎ (16 * length (good_prefix bytes) + 16 ≤ length bytes))

-- The bytes are whole good records with no end record among them, so the trace may go on.
pub record IsOpen (bytes : List ℕ) : Type 0 where
  pub whole : length bytes ≡ 16 * length (good_prefix bytes)
  pub unended : has_end (good_prefix bytes) ≡ false

-- The bytes are whole good records without an end record, fewer than 2^32, the last of them of time `before`, or none and that is
-- 0: one more may follow.
pub record AwaitsRecord (bytes : List ℕ) (before : ℕ) : Type 0 where
  pub goes_on : IsOpen bytes
  pub few : length (good_prefix bytes) < most_records
  pub last : time_of (good_prefix bytes) ≡ before

-- why no good record comes in these bytes after their good prefix, with the number of the record, counted from 0: too many, cut
-- short, or its own fault; none where the good prefix has an end record
unfoldable pub fault_after : List BusRecord → List ℕ → Option (ℕ × TraceFault)
fault_after good bytes =
    if has_end good then None
    else if length good == most_records then Some (length good, fault.Many)
    else if nat_lt (length bytes) (16 * length good + 16) then Some (length good, fault.Truncated)
    else option_map (λ why. (length good, why)) (record_fault (time_of good) (record_bytes bytes (length good)))

-- the fault of a trace whose whole input these bytes are: the number of the first record that isn't good, counted from 0, and its
-- fault; none where an end record comes before it
unfoldable pub trace_fault : List ℕ → Option (ℕ × TraceFault)
trace_fault bytes = fault_after (good_prefix bytes) bytes
