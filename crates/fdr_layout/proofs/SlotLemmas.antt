-- The parts by word slot.
use Rattle.std.proofs.Common.{◌≡◌, ℕ, ◌*◌, ◌<◌, ◌==◌, List, map, length, get_or, arith}
use Rattle.std.specs.List.{All, range_with_len, enumerate_from}
use Rattle.std.proofs.lemmas.List.Elements.{All-map, All-weaker, All-filter, All-same}
use Rattle.fdr_lists.proofs.Pieces.{All-flat_map, All-flat_map-range}
use Rattle.fdr_layout.specs.Samples.{Part, Sample}
use Rattle.fdr_layout.specs.SlotParts.{SlotPart, parts_of_sample, parts_among, parts_at, parts_of_slot}
use Rattle.fdr_layout.proofs.Endings.{numbered_below}

-- ---- the numbers of samples

parts_among_numbers : (samples : List Sample) → All (λ (a : SlotPart). a.sample < length samples) (parts_among samples)
unfolding parts_among
parts_among_numbers samples =
    let P : SlotPart → Type 0 = λ a. a.sample < length samples in
    let made : ℕ → Part → SlotPart = λ n p. record { sample = n; part = p } in
    All-flat_map P (λ (e : ℕ × Sample). parts_of_sample e.0 e.1.parts) (enumerate_from 0 samples)
    (All-weaker (λ (e : ℕ × Sample). e.0 < length samples) (λ (e : ℕ × Sample). All P (parts_of_sample e.0 e.1.parts))
    (λ e below. All-map P (made e.0) e.1.parts (λ k d h. below)) (enumerate_from 0 samples) (numbered_below 0 (length samples) samples (omega arith)))

-- what holds of each part holds of those of a slot
pub parts_of_slot_hold : (P : SlotPart → Type 0) (parts : List SlotPart) (k : ℕ) → All P parts → All P (parts_of_slot parts k)
unfolding parts_of_slot
parts_of_slot_hold P parts k all =
    All-flat_map-range P (parts_at parts) (12 * k) 12 (λ x low high. All-filter (λ (a : SlotPart). a.part.at == x) P parts all)

pub slots_numbers : (samples : List Sample) (slots : List (List SlotPart)) (n : ℕ) → slots ≡ map (parts_of_slot (parts_among samples)) (range_with_len 0 n)
    → All (λ (parts : List SlotPart). All (λ (a : SlotPart). a.sample < length samples) parts) slots
slots_numbers samples slots n made =
    let P : SlotPart → Type 0 = λ a. a.sample < length samples in
    All-same (λ (parts : List SlotPart). All P parts) slots (map (parts_of_slot (parts_among samples)) (range_with_len 0 n)) made
    (All-map (λ (parts : List SlotPart). All P parts) (parts_of_slot (parts_among samples)) (range_with_len 0 n)
    (λ k d h. parts_of_slot_hold P (parts_among samples) (get_or (range_with_len 0 n) k d) (parts_among_numbers samples)))
