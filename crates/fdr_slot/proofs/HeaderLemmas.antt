-- The faults of a header, and what is read of its bytes.
use Rattle.std.proofs.Common.{◌≡◌, ◌≢◌, ◌≤◌, ◌<◌, ℕ, true, false, List, ◌++◌, Some, None, slice_index, refl, sym, ap, subst, ⊎_elim, ◌∙◌, arith}
use Rattle.std.specs.Prelude.{nat_lt, ◌==◌, if◌then◌else◌, replicate}
use Rattle.std.proofs.lemmas.Bool.{cases_eq}
use Rattle.std.proofs.lemmas.Bool.Decides.{nat_tests}
use Rattle.byteorder.specs.Endian.{big_number, big_bytes}
use Rattle.fdr_slot.proofs.NumberLemmas.{big_number-big_bytes_4}
use Rattle.fdr_frame.proofs.WordCounts.{word_count_bounds}
use Rattle.fdr_slot.specs.Limits.{in_limits, IsInLimits}
use Rattle.fdr_slot.specs.Places.{image_size}
use Rattle.fdr_slot.specs.Headers.{has_open_gate, has_magic, header_of, version_byte, header_bytes, image_fault}
use Rattle.fdr_slot.specs.declared.image.Header.{Header}
use Rattle.fdr_slot.specs.declared.image.ImageFault.TheVariants as fault

-- the test is true of numbers within the limits
pub in_limits-yes : (h : Header) → IsInLimits h → in_limits h ≡ true
in_limits-yes h limits = grind (arith, nat_tests)

pub in_limits-is : (h : Header) → in_limits h ≡ true → IsInLimits h
in_limits-is h within = record {
  least_slots = grind (arith, nat_tests);
  most_slots = grind (arith, nat_tests);
  least_payload = grind (arith, nat_tests);
  most_payload = grind (arith, nat_tests);
  word_count = grind (arith, nat_tests);
  least_version = grind (arith, nat_tests);
  most_version = grind (arith, nat_tests);
}

pub image_fault_closed : (bytes : List ℕ) (size : ℕ) → 64 ≤ size → slice_index bytes 0 ≢ 0x5a → image_fault bytes size ≡ Some fault.Closed
unfolding image_fault
image_fault_closed bytes size whole closed =
    let small : nat_lt size 64 ≡ false = grind (arith, nat_tests) in
    let gate : has_open_gate bytes ≡ false = grind (arith, nat_tests) in
    rw (small, gate) refl

pub image_fault_magic : (bytes : List ℕ) (size : ℕ) → 64 ≤ size → slice_index bytes 0 ≡ 0x5a → has_magic bytes ≡ false
    → image_fault bytes size ≡ Some fault.Magic
unfolding image_fault
image_fault_magic bytes size whole gate magic =
    let small : nat_lt size 64 ≡ false = grind (arith, nat_tests) in
    let test : has_open_gate bytes ≡ true = grind (arith, nat_tests) in
    rw (small, test, magic) refl

pub image_fault_geometry : (bytes : List ℕ) (size : ℕ) → 64 ≤ size → slice_index bytes 0 ≡ 0x5a → has_magic bytes ≡ true → in_limits (header_of bytes) ≡ false
    → image_fault bytes size ≡ Some fault.Geometry
unfolding image_fault
image_fault_geometry bytes size whole gate magic outside =
    let small : nat_lt size 64 ≡ false = grind (arith, nat_tests) in
    let test : has_open_gate bytes ≡ true = grind (arith, nat_tests) in
    rw (small, test, magic, outside) refl

pub image_fault_short : (bytes : List ℕ) (size : ℕ) → 64 ≤ size → slice_index bytes 0 ≡ 0x5a → has_magic bytes ≡ true → in_limits (header_of bytes) ≡ true
    → size < image_size (header_of bytes) → image_fault bytes size ≡ Some fault.Short
unfolding image_fault
image_fault_short bytes size whole gate magic limits short =
    let small : nat_lt size 64 ≡ false = grind (arith, nat_tests) in
    let test : has_open_gate bytes ≡ true = grind (arith, nat_tests) in
    let few : nat_lt size (image_size (header_of bytes)) ≡ true = grind (arith, nat_tests) in
    rw (small, test, magic, limits, few) refl

pub image_fault_none : (bytes : List ℕ) (size : ℕ) → 64 ≤ size → slice_index bytes 0 ≡ 0x5a → has_magic bytes ≡ true → in_limits (header_of bytes) ≡ true
    → image_size (header_of bytes) ≤ size → image_fault bytes size ≡ None
unfolding image_fault
image_fault_none bytes size whole gate magic limits enough =
    let small : nat_lt size 64 ≡ false = grind (arith, nat_tests) in
    let test : has_open_gate bytes ≡ true = grind (arith, nat_tests) in
    let few : nat_lt size (image_size (header_of bytes)) ≡ false = grind (arith, nat_tests) in
    rw (small, test, magic, limits, few) refl

pub ruleset image_faults = (in_limits-yes, in_limits-is, image_fault_closed, image_fault_magic, image_fault_geometry, image_fault_short, image_fault_none)

-- a header by its numbers
abbrev header_with : ℕ → ℕ → ℕ → ℕ → Header
header_with slots payload words version = record { slots = slots; payload = payload; words = words; version = version }

-- what is read of a version's byte
abbrev read_version : ℕ → ℕ
read_version byte = if byte == 0xa5 then 2 else 1

version_back : (version : ℕ) → 1 ≤ version → version ≤ 2 → read_version (version_byte version) ≡ version
version_back version least most = ⊎_elim
    (λ second. rw second refl)
    (λ other. let first : version ≡ 1 = omega (arith, other) in rw first refl)
    (cases_eq version 2)

-- a header within the limits is read as it was written
pub header_of-header_bytes : (h : Header) → IsInLimits h → header_of (header_bytes h) ≡ h
unfolding header_of header_bytes
header_of-header_bytes h limits =
    let words = word_count_bounds h.words limits.word_count in
    let third = big_bytes 4 h.words ++ replicate 44 0 in
    let second = big_bytes 4 h.payload ++ third in
    let version = read_version (version_byte h.version) in
    ap (λ x. header_with x (big_number 4 second) (big_number 4 third) version) (big_number-big_bytes_4 h.slots second (omega arith))
    ∙ ap (λ x. header_with h.slots x (big_number 4 third) version) (big_number-big_bytes_4 h.payload third (omega arith))
    ∙ ap (λ x. header_with h.slots h.payload x version) (big_number-big_bytes_4 h.words (replicate 44 0) (omega arith))
    ∙ ap (λ x. header_with h.slots h.payload h.words x) (version_back h.version limits.least_version limits.most_version)

has_open_gate-header_bytes : (h : Header) → slice_index (header_bytes h) 0 ≡ 0x5a
unfolding header_bytes
has_open_gate-header_bytes h = refl

has_magic-header_bytes : (h : Header) → has_magic (header_bytes h) ≡ true
unfolding has_magic header_bytes
has_magic-header_bytes h = refl

-- a written header has no fault where there are bytes enough
pub image_fault-header_bytes : (h : Header) (size : ℕ) → IsInLimits h → image_size h ≤ size → image_fault (header_bytes h) size ≡ None
image_fault-header_bytes h size limits enough =
    let back = header_of-header_bytes h limits in
    let whole : 64 ≤ size = omega arith in
    image_fault_none (header_bytes h) size whole (has_open_gate-header_bytes h) (has_magic-header_bytes h)
    (ap in_limits back ∙ in_limits-yes h limits)
    (subst (λ x. image_size x ≤ size) (sym back) enough)
