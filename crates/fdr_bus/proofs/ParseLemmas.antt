-- What the bytes of a record say, and whether it may follow.
use Rattle.std.proofs.Common.{◌≡◌, ◌≤◌, ◌<◌, ℕ, Bool, true, false, List, Some, None, drop, slice_index, refl, arith}
use Rattle.std.specs.Prelude.{nat_le, nat_lt, ◌&&◌}
use Rattle.std.proofs.lemmas.Bool.Decides.{nat_tests}
use Rattle.byteorder.specs.Endian.{big_number}
use Rattle.fdr_bus.specs.Records.{has_kind, record_of, is_good, record_fault, last_time}
use Rattle.fdr_bus.specs.declared.BusRecord.{BusRecord}
use Rattle.fdr_bus.specs.declared.RecordKind.{RecordKind}
use Rattle.fdr_bus.specs.declared.RecordKind.TheVariants.{Word, End}
use Rattle.fdr_bus.specs.declared.TraceFault.TheVariants as fault

-- the tests of a good record, over plain values
good_tests : (kind : Bool) (before time last : ℕ) → kind ≡ true → before ≤ time → time ≤ last → (kind && nat_le before time && nat_le time last) ≡ true
good_tests kind before time last named order in_time = grind (arith, nat_tests)

early_tests : (kind : Bool) (before time last : ℕ) → time < before → (kind && nat_le before time && nat_le time last) ≡ false
early_tests kind before time last early = grind (arith, nat_tests)

late_tests : (kind : Bool) (before time last : ℕ) → last < time → (kind && nat_le before time && nat_le time last) ≡ false
late_tests kind before time last late = grind (arith, nat_tests)

unnamed_tests : (kind : Bool) (before time last : ℕ) → kind ≡ false → (kind && nat_le before time && nat_le time last) ≡ false
unnamed_tests kind before time last unnamed = grind (arith, nat_tests)

pub is_good_yes : (before : ℕ) (bytes : List ℕ) → has_kind bytes ≡ true → before ≤ (record_of bytes).time → (record_of bytes).time ≤ last_time
    → is_good before bytes ≡ true
unfolding is_good
is_good_yes before bytes named order in_time = good_tests (has_kind bytes) before (record_of bytes).time last_time named order in_time

pub is_good_unnamed : (before : ℕ) (bytes : List ℕ) → has_kind bytes ≡ false → is_good before bytes ≡ false
unfolding is_good
is_good_unnamed before bytes unnamed = unnamed_tests (has_kind bytes) before (record_of bytes).time last_time unnamed

pub is_good_early : (before : ℕ) (bytes : List ℕ) → (record_of bytes).time < before → is_good before bytes ≡ false
unfolding is_good
is_good_early before bytes early = early_tests (has_kind bytes) before (record_of bytes).time last_time early

pub is_good_late : (before : ℕ) (bytes : List ℕ) → last_time < (record_of bytes).time → is_good before bytes ≡ false
unfolding is_good
is_good_late before bytes late = late_tests (has_kind bytes) before (record_of bytes).time last_time late

pub record_fault_unnamed : (before : ℕ) (bytes : List ℕ) → has_kind bytes ≡ false → record_fault before bytes ≡ Some fault.Kind
unfolding record_fault
record_fault_unnamed before bytes unnamed = rw unnamed refl

pub record_fault_early : (before : ℕ) (bytes : List ℕ) → has_kind bytes ≡ true → (record_of bytes).time < before → record_fault before bytes ≡ Some fault.Back
unfolding record_fault
record_fault_early before bytes named early =
    let test : nat_lt (record_of bytes).time before ≡ true = grind (arith, nat_tests) in
    rw (named, test) refl

pub record_fault_late : (before : ℕ) (bytes : List ℕ) → has_kind bytes ≡ true → before ≤ (record_of bytes).time → last_time < (record_of bytes).time
    → record_fault before bytes ≡ Some fault.Late
unfolding record_fault
record_fault_late before bytes named order late =
    let back : nat_lt (record_of bytes).time before ≡ false = grind (arith, nat_tests) in
    let test : nat_lt last_time (record_of bytes).time ≡ true = grind (arith, nat_tests) in
    rw (named, back, test) refl

pub record_fault_none : (before : ℕ) (bytes : List ℕ) → has_kind bytes ≡ true → before ≤ (record_of bytes).time → (record_of bytes).time ≤ last_time
    → record_fault before bytes ≡ None
unfolding record_fault
record_fault_none before bytes named order in_time =
    let back : nat_lt (record_of bytes).time before ≡ false = grind (arith, nat_tests) in
    let late : nat_lt last_time (record_of bytes).time ≡ false = grind (arith, nat_tests) in
    rw (named, back, late) refl

-- what a good record is
named_tests : (kind : Bool) (before time last : ℕ) → (kind && nat_le before time && nat_le time last) ≡ true → kind ≡ true
named_tests kind before time last good = grind (arith, nat_tests)

in_time_tests : (kind : Bool) (before time last : ℕ) → (kind && nat_le before time && nat_le time last) ≡ true → time ≤ last
in_time_tests kind before time last good = grind (arith, nat_tests)

order_tests : (kind : Bool) (before time last : ℕ) → (kind && nat_le before time && nat_le time last) ≡ true → before ≤ time
order_tests kind before time last good = grind (arith, nat_tests)

pub is_good_named : (before : ℕ) (bytes : List ℕ) → is_good before bytes ≡ true → has_kind bytes ≡ true
unfolding is_good
is_good_named before bytes good = named_tests (has_kind bytes) before (record_of bytes).time last_time good

pub is_good_in_time : (before : ℕ) (bytes : List ℕ) → is_good before bytes ≡ true → (record_of bytes).time ≤ last_time
unfolding is_good
is_good_in_time before bytes good = in_time_tests (has_kind bytes) before (record_of bytes).time last_time good

pub is_good_in_order : (before : ℕ) (bytes : List ℕ) → is_good before bytes ≡ true → before ≤ (record_of bytes).time
unfolding is_good
is_good_in_order before bytes good = order_tests (has_kind bytes) before (record_of bytes).time last_time good

-- a record by its kind and its numbers
abbrev pub record_with : RecordKind → ℕ → ℕ → ℕ → BusRecord
record_with kind bus word time = record { kind = kind; bus = bus; word = word; time = time }

pub record_of_word : (bytes : List ℕ) (word time : ℕ) → slice_index bytes 0 ≡ 1 → word ≡ big_number 4 (drop 4 bytes) → time ≡ big_number 8 (drop 8 bytes)
    → (record_with Word (slice_index bytes 1) word time ≡ record_of bytes) × (has_kind bytes ≡ true)
unfolding record_of
record_of_word bytes word time one word_is time_is = (rw (word_is, time_is, one) refl, rw one refl)

pub record_of_end : (bytes : List ℕ) (word time : ℕ) → slice_index bytes 0 ≡ 2 → word ≡ big_number 4 (drop 4 bytes) → time ≡ big_number 8 (drop 8 bytes)
    → (record_with End (slice_index bytes 1) word time ≡ record_of bytes) × (has_kind bytes ≡ true)
unfolding record_of
record_of_end bytes word time two word_is time_is = (rw (word_is, time_is, two) refl, rw two refl)

-- whether a record is good, and its fault
pub ruleset record_tests = (is_good_yes, is_good_unnamed, is_good_early, is_good_late, record_fault_unnamed, record_fault_early, record_fault_late)
