-- The blocks of an image by the heads of its slots.
use Rattle.std.proofs.Common.{◌≡◌, ◌≢◌, ⊎_elim, ℕ, ◌+◌, ◌%◌, true, false, List, ◌++◌, length, take, Option, Some, None, refl, sym, ap, ◌∙◌, subst, arith}
use Rattle.std.specs.Prelude.{◌==◌, ◌↔◌, IsTrue, IsSome, slice_range}
use Rattle.std.proofs.lemmas.Bool.{cases_Bool}
use Rattle.std.proofs.lemmas.Bool.Decides.{nat_tests}
use Rattle.fdr_slot.specs.declared.image.Header.{Header}
use Rattle.fdr_slot.specs.declared.head.SlotHead.{SlotHead}
use Rattle.std.proofs.lemmas.List.{take_at}
use Rattle.fdr_slot.specs.Places.{slot_at}
use Rattle.fdr_slot.specs.Limits.{IsInLimits}
use Rattle.fdr_slot.specs.Heads.{is_valid}
use Rattle.fdr_recover.specs.Blocks.{Block, number_after, if_numbered}
use Rattle.fdr_recover.specs.Images.{head_at, bytes_in, block_of, block_in, block_numbered, payload_of, payload_at, next_of, IsNextNumber, blocks_below}
use Rattle.fdr_recover.specs.Images.{recovered_run, IsRecovered}
use Rattle.fdr_recover.proofs.Standing.{numbered_same, numbered_other, number_after-numbered}
use Rattle.fdr_recover.proofs.Nexts.{ArePlaced, next_among-is_next}
use Rattle.fdr_recover.proofs.Runs.{run_below-is_longest, IsLongestRun-one}

pub block_in-valid : (h : Header) (image : List ℕ) (i : ℕ) → is_valid h i (head_at h image i) ≡ true
    → block_in h image i ≡ Some (block_of h image i (head_at h image i))
unfolding block_in
block_in-valid h image i valid = rw valid refl

pub block_in-invalid : (h : Header) (image : List ℕ) (i : ℕ) → is_valid h i (head_at h image i) ≡ false → block_in h image i ≡ None
unfolding block_in
block_in-invalid h image i invalid = rw invalid refl

valid_place : (h : Header) (i : ℕ) (head : SlotHead) → is_valid h i head ≡ true → head.seq % h.slots ≡ i
valid_place h i head valid = grind (arith, nat_tests)

pub block_in-placed : (h : Header) (image : List ℕ) → ArePlaced h.slots (block_in h image)
block_in-placed h image = record {
  place = λ i b is. ⊎_elim
      (λ valid. let held = block_in-valid h image i valid in
      let found : Some (block_of h image i (head_at h image i)) ≡ Some b = sym held ∙ is in
      let block : block_of h image i (head_at h image i) ≡ b = cc in
      ap (λ (x : Block). x.number % h.slots) (sym block) ∙ valid_place h i (head_at h image i) valid)
      (λ invalid. let none = block_in-invalid h image i invalid in absurd (cc))
      (cases_Bool (is_valid h i (head_at h image i)));
}

pub next_of-is_next : (h : Header) (image : List ℕ) → IsInLimits h → IsNextNumber h image (next_of h image)
unfolding next_of
next_of-is_next h image limits = next_among-is_next h.slots (block_in h image) (omega arith) (block_in-placed h image)

-- the recovered run is the longest, and there is no other
pub recovered_run-is_recovered : (h : Header) (image : List ℕ) → IsInLimits h → IsRecovered h image (recovered_run h image)
unfolding blocks_below
recovered_run-is_recovered h image limits =
    run_below-is_longest h.slots (block_in h image) (next_of h image) (next_of-is_next h image limits)

pub recovered_run-one : (h : Header) (image : List ℕ) (run : List Block) → IsInLimits h → IsRecovered h image run → run ≡ recovered_run h image
recovered_run-one h image run limits is =
    IsLongestRun-one h.slots (block_in h image) run (recovered_run h image) is (recovered_run-is_recovered h image limits)

-- one more than the number in a slot, by its head
pub number_after-valid : (h : Header) (image : List ℕ) (i : ℕ) (head : SlotHead) → head ≡ head_at h image i → is_valid h i head ≡ true
    → number_after (block_in h image i) ≡ head.seq + 1
number_after-valid h image i head is valid =
    let held = block_in-valid h image i (ap (is_valid h i) (sym is) ∙ valid) in
    ap number_after held ∙ ap (λ (x : SlotHead). x.seq + 1) (sym is)

pub number_after-invalid : (h : Header) (image : List ℕ) (i : ℕ) (head : SlotHead) → head ≡ head_at h image i → is_valid h i head ≡ false
    → number_after (block_in h image i) ≡ 0
number_after-invalid h image i head is invalid =
    ap number_after (block_in-invalid h image i (ap (is_valid h i) (sym is) ∙ invalid))

-- a slot holds the block with a number
pub holds_number : (h : Header) (image : List ℕ) (number slot n : ℕ) → slot ≡ number % h.slots → n ≡ number_after (block_in h image slot)
    → IsTrue (n == number + 1) ↔ IsSome (block_numbered h image number)
unfolding block_numbered
holds_number h image number slot n own is =
    subst (λ m. IsTrue (m == number + 1) ↔ IsSome (if_numbered number (block_in h image (number % h.slots))))
    (sym (is ∙ ap (λ k. number_after (block_in h image k)) own))
    (number_after-numbered number (block_in h image (number % h.slots)))

in_own_slot : (h : Header) (image : List ℕ) (number slot : ℕ) (o : Option Block) → slot ≡ number % h.slots → block_in h image slot ≡ o
    → block_numbered h image number ≡ if_numbered number o
unfolding block_numbered
in_own_slot h image number slot o own is = ap (λ k. if_numbered number (block_in h image k)) (sym own) ∙ ap (if_numbered number) is

-- no block with this number is there where its slot isn't valid, or has another number
pub block_at-invalid : (h : Header) (image : List ℕ) (number slot : ℕ) (head : SlotHead) → slot ≡ number % h.slots → head ≡ head_at h image slot
    → is_valid h slot head ≡ false → block_numbered h image number ≡ None
block_at-invalid h image number slot head own is invalid =
    in_own_slot h image number slot None own (block_in-invalid h image slot (ap (is_valid h slot) (sym is) ∙ invalid))

pub block_at-other : (h : Header) (image : List ℕ) (number slot : ℕ) (head : SlotHead) → slot ≡ number % h.slots → head ≡ head_at h image slot
    → head.seq ≢ number → block_numbered h image number ≡ None
block_at-other h image number slot head own is other = ⊎_elim
    (λ valid. let there = in_own_slot h image number slot (Some (block_of h image slot (head_at h image slot))) own (block_in-valid h image slot valid) in
    let seq : (head_at h image slot).seq ≢ number = λ same. other (ap (λ (x : SlotHead). x.seq) is ∙ same) in
    there ∙ numbered_other number (block_of h image slot (head_at h image slot)) seq)
    (λ invalid. in_own_slot h image number slot None own (block_in-invalid h image slot invalid))
    (cases_Bool (is_valid h slot (head_at h image slot)))

pub block_at-some : (h : Header) (image : List ℕ) (number slot : ℕ) (head : SlotHead) → slot ≡ number % h.slots → head ≡ head_at h image slot
    → is_valid h slot head ≡ true → head.seq ≡ number → block_numbered h image number ≡ Some (block_of h image slot head)
block_at-some h image number slot head own is valid same =
    let there = block_in-valid h image slot (ap (is_valid h slot) (sym is) ∙ valid) ∙ ap (λ x. Some (block_of h image slot x)) (sym is) in
    in_own_slot h image number slot (Some (block_of h image slot head)) own there ∙ numbered_same number (block_of h image slot head) same

-- the bytes after the head, read into the front of a buffer
pub read_payload : (h : Header) (image mid buf rest : List ℕ) (number slot len at : ℕ) (head : SlotHead)
    → block_numbered h image number ≡ Some (block_of h image slot head) → mid ≡ image → at ≡ slot_at h slot + 16 → len ≡ head.len → length buf ≡ len
    → buf ≡ slice_range mid at (at + length buf) → take len (buf ++ rest) ≡ payload_at h image number
unfolding bytes_in
read_payload h image mid buf rest number slot len at head held same place size long read =
    ap (λ k. take k (buf ++ rest)) (sym long)
    ∙ take_at buf rest (length buf) refl
    ∙ read
    ∙ ap (λ xs. slice_range xs at (at + length buf)) same
    ∙ ap (λ k. slice_range image at (at + k)) (long ∙ size)
    ∙ ap (λ k. slice_range image k (k + head.len)) place
    ∙ sym (ap payload_of held)

-- a valid slot is the one that its block's number has
pub number_after-place : (h : Header) (slot number : ℕ) (head : SlotHead) → is_valid h slot head ≡ true → head.seq + 1 ≡ number + 1
    → number % h.slots ≡ slot
number_after-place h slot number head valid same =
    let is : head.seq ≡ number = omega (arith, same) in
    subst (λ k. k % h.slots ≡ slot) is (valid_place h slot head valid)

pub ruleset numbers_after = (number_after-valid, number_after-invalid, number_after-place)

pub ruleset blocks_at = (block_at-invalid, block_at-other, block_at-some)

pub ruleset recovered = (next_of-is_next, recovered_run-is_recovered, recovered_run-one)
