-- The blocks of an image of which a range is torn.
use Rattle.std.proofs.Common.{◌≡◌, ◌≢◌, ◌⊎◌, inl, inr, ⊎_elim, ℕ, ◌+◌, ◌-◌, ◌*◌, ◌%◌, ◌<◌, ◌≤◌, true, false, List, [], ◌∷◌, ◌++◌, length}
use Rattle.std.proofs.Common.{Some, None, refl, sym, ap, ◌∙◌, subst, arith}
use Rattle.std.specs.Prelude.{slice_index, slice_range}
use Rattle.std.proofs.Math.Nat.{mul-le-mul_right, mod-lt}
use Rattle.std.proofs.lemmas.Bool.{cases_eq, cases_lt, cases_Bool}
use Rattle.std.proofs.lemmas.Bool.Decides.{nat_tests}
use Rattle.fdr_deck.specs.Disk.{Torn}
use Rattle.fdr_slot.specs.declared.image.Header.{Header}
use Rattle.fdr_slot.specs.declared.head.SlotHead.{SlotHead}
use Rattle.fdr_slot.specs.Limits.{IsInLimits}
use Rattle.fdr_slot.specs.Places.{slot_at, slot_size}
use Rattle.fdr_slot.specs.Headers.{has_open_gate}
use Rattle.fdr_slot.specs.Heads.{head_of, is_valid, session_in}
use Rattle.fdr_recover.specs.Blocks.{Block, IsNextOfBlocks, run_below, if_numbered}
use Rattle.fdr_recover.specs.Images.{head_at, bytes_in, block_of, block_in, next_of, blocks_below, recovered_run}
use Rattle.fdr_recover.proofs.Nexts.{IsNext-one}
use Rattle.fdr_recover.proofs.BlockLemmas.{block_in-valid, block_in-invalid, next_of-is_next}
use Rattle.fdr_ring.specs.Gates.{KeepsHeader}
use Rattle.fdr_ring.specs.Closing.{IsTurned}
use Rattle.fdr_ring.specs.Runs.{IsTail, KeepsRun, HasAdded}
use Rattle.fdr_ring.proofs.Bytes.{range_outside, range_first, byte_front, torn_byte_same}
use Rattle.fdr_ring.proofs.Slots.{IsEmptied, IsAdded, run_below-same, next_among-same, emptied_run, emptied_next, added_run, added_next}

-- two slots lie apart
pub slots_apart : (h : Header) (i j : ℕ) → i ≢ j → (slot_at h i + slot_size h ≤ slot_at h j) ⊎ (slot_at h j + slot_size h ≤ slot_at h i)
slots_apart h i j other = ⊎_elim
    (λ less. let whole : (i + 1) * (16 + h.payload) ≤ j * (16 + h.payload) = mul-le-mul_right (16 + h.payload) (omega arith) in inl
    (omega (arith, whole)))
    (λ more. let whole : (j + 1) * (16 + h.payload) ≤ i * (16 + h.payload) = mul-le-mul_right (16 + h.payload)
    (⊎_elim (λ (less : j < i). let le : j + 1 ≤ i = omega arith in le) (λ (no : i ≤ j). absurd (other (omega arith))) (cases_lt j i)) in inr
    (omega (arith, whole)))
    (cases_lt i j)

fits_valid : (h : Header) (i : ℕ) (head : SlotHead) → is_valid h i head ≡ true → head.len ≤ h.payload
fits_valid h i head valid = grind (arith, nat_tests)

-- the block of a slot by its bytes
block_in-same : (h : Header) (old new : List ℕ) (i : ℕ) → head_at h new i ≡ head_at h old i
    → ((n : ℕ) → n ≤ h.payload → bytes_in h new i n ≡ bytes_in h old i n) → block_in h new i ≡ block_in h old i
block_in-same h old new i head bytes = ⊎_elim
    (λ valid. block_in-valid h new i (ap (is_valid h i) head ∙ valid)
    ∙ ap (λ x. Some (block_of h new i x)) head
    ∙ ap (λ (p : List ℕ). Some (record { number = (head_at h old i).seq; session = session_in h (head_at h old i); payload = p }))
    (bytes (head_at h old i).len (fits_valid h i (head_at h old i) valid))
    ∙ sym (block_in-valid h old i valid))
    (λ invalid. block_in-invalid h new i (ap (is_valid h i) head ∙ invalid) ∙ sym (block_in-invalid h old i invalid))
    (cases_Bool (is_valid h i (head_at h old i)))

-- a slot outside the tear
pub block_in-outside : (h : Header) (at n i : ℕ) (old new : List ℕ) → (slot_at h i + slot_size h ≤ at) ⊎ (at + n ≤ slot_at h i)
    → Torn at n old new → block_in h new i ≡ block_in h old i
unfolding head_at bytes_in
block_in-outside h at n i old new apart torn =
    block_in-same h old new i
    (ap head_of (range_outside at n (slot_at h i) 16 old new
    (⊎_elim (λ front. inl (omega (arith, front))) (λ behind. inr behind) apart) torn))
    (λ count few. range_outside at n (slot_at h i + 16) count old new
    (⊎_elim (λ front. inl (omega (arith, front, few))) (λ behind. inr (omega (arith, behind))) apart) torn)

-- a slot whose gate is closed
pub block_in-closed : (h : Header) (image : List ℕ) (i : ℕ) → slice_index image (slot_at h i) ≢ 0x5a → block_in h image i ≡ None
unfolding head_at head_of
block_in-closed h image i closed =
    let first = range_first (slot_at h i) 16 image (omega arith) in
    let gate : has_open_gate (slice_range image (slot_at h i) (slot_at h i + 16)) ≡ false = grind (arith, nat_tests, first) in
    let invalid : is_valid h i (head_at h image i) ≡ false = rw gate refl in
    block_in-invalid h image i invalid

-- a tear after a closed gate, within its slot
pub body_torn : (h : Header) (i j : ℕ) (old new : List ℕ) → slice_index old (slot_at h i) ≢ 0x5a
    → Torn (slot_at h i + 1) (15 + h.payload) old new → block_in h new j ≡ block_in h old j
body_torn h i j old new closed torn = ⊎_elim
    (λ same. ap (block_in h new) same ∙ block_in-closed h new i (λ open_now. closed (sym gate ∙ open_now))
    ∙ sym (ap (block_in h old) same ∙ block_in-closed h old i closed))
    (λ other. block_in-outside h (slot_at h i + 1) (15 + h.payload) j old new
    (⊎_elim (λ front. inl (omega (arith, front))) (λ behind. inr (omega (arith, behind))) (slots_apart h j i other)) torn)
    (cases_eq j i)
  where
    gate : slice_index new (slot_at h i) ≡ slice_index old (slot_at h i)
    gate = byte_front (slot_at h i + 1) (15 + h.payload) (slot_at h i) old new (omega arith) torn

-- a torn gate is one slot's alone
pub gate_torn : (h : Header) (i j : ℕ) (old new : List ℕ) → j ≢ i → Torn (slot_at h i) 1 old new → block_in h new j ≡ block_in h old j
gate_torn h i j old new other torn =
    block_in-outside h (slot_at h i) 1 j old new (⊎_elim (λ front. inl front) (λ behind. inr (omega (arith, behind)))
    (slots_apart h j i other)) torn

-- a gate that was to be closed leaves the image, or empties its slot
pub turned_slots : (h : Header) (i : ℕ) (old new : List ℕ) → slot_at h i < length old → IsTurned (slot_at h i) old new
    → (new ≡ old) ⊎ IsEmptied h.slots i (block_in h old) (block_in h new)
turned_slots h i old new within turned = ⊎_elim
    (λ was. ⊎_elim
    (λ is. inl (torn_byte_same (slot_at h i) old new within turned.torn (is ∙ sym was)))
    (λ gone. inr (record { others = λ j less other. gate_torn h i j old new other turned.torn; here = block_in-closed h new i gone }))
    (cases_eq (slice_index new (slot_at h i)) 0x5a))
    (λ closed. inl (turned.same closed))
    (cases_eq (slice_index old (slot_at h i)) 0x5a)

-- an image with the same blocks
pub same_slots : (h : Header) (old new : List ℕ) → IsInLimits h → ((j : ℕ) → j < h.slots → block_in h new j ≡ block_in h old j)
    → (recovered_run h new ≡ recovered_run h old) × (next_of h new ≡ next_of h old)
unfolding next_of blocks_below
same_slots h old new limits same =
    let next : next_of h new ≡ next_of h old = next_among-same (block_in h old) (block_in h new) h.slots same in (
      ap (run_below h.slots (block_in h new)) next
          ∙ run_below-same h.slots (block_in h old) (block_in h new) (next_of h old)
          (λ m less. ap (if_numbered m) (same (m % h.slots) (mod-lt m (omega arith)))),
      next,
    )

-- an image of which the slot so far ahead is emptied
pub emptied_image : (h : Header) (ahead : ℕ) (old new : List ℕ) → IsInLimits h → ahead ≤ 1 → KeepsHeader old new
    → IsEmptied h.slots ((next_of h old + ahead) % h.slots) (block_in h old) (block_in h new) → KeepsRun h (h.slots - (1 + ahead)) old new
unfolding blocks_below
emptied_image h ahead old new limits few kept emptied =
    let is = emptied_next h.slots ahead (block_in h old) (block_in h new) (next_of h old) (omega arith) (omega arith) emptied
    (next_of-is_next h old limits) in
    let next : next_of h new ≡ next_of h old = IsNext-one h.slots (block_in h new) (next_of h new) (next_of h old)
    (next_of-is_next h new limits) is in
    record {
      kept = kept;
      run = subst (λ k. IsTail (h.slots - (1 + ahead)) (recovered_run h old) (run_below h.slots (block_in h new) k)) (sym next)
          (emptied_run h.slots ahead (block_in h old) (block_in h new) (next_of h old) (omega arith) (omega arith) emptied);
      next = next;
    }

-- an image with the same run
pub same_image : (h : Header) (least : ℕ) (old new : List ℕ) → KeepsHeader old new → recovered_run h new ≡ recovered_run h old
    → next_of h new ≡ next_of h old → KeepsRun h least old new
same_image h least old new kept run next = record {
  kept = kept;
  run = record { lost = 0; within = omega arith; tail = run; enough = omega (arith, ap length run) };
  next = next;
}

-- an image of which the block of the next number has come
pub added_image : (h : Header) (b : Block) (old new : List ℕ) → IsInLimits h → KeepsHeader old new → b.number ≡ next_of h old
    → IsAdded h.slots b (block_in h old) (block_in h new) → HasAdded h b old new
unfolding blocks_below
added_image h b old new limits kept number added =
    let here = subst (IsNextOfBlocks h.slots (block_in h old)) (sym number) (next_of-is_next h old limits) in
    let is = added_next h.slots b (block_in h old) (block_in h new) (omega arith) added here in
    let next : next_of h new ≡ b.number + 1 = IsNext-one h.slots (block_in h new) (next_of h new) (b.number + 1)
    (next_of-is_next h new limits) is in
    record {
      kept = kept;
      run = ap (run_below h.slots (block_in h new)) next ∙ added_run h.slots b (block_in h old) (block_in h new) (omega arith) added
          ∙ ap (λ k. run_below h.slots (block_in h old) k ++ b ∷ []) number;
      next = next ∙ ap (λ k. k + 1) number;
    }
