-- A recovered run has few bytes.
use Rattle.std.proofs.Common.{◌≡◌, ℕ, zero, suc, ◌+◌, ◌-◌, ◌*◌, ◌^◌, ◌<◌, ◌≤◌, Bool, true, false, ◌&&◌, List, [], ◌∷◌, length, Option, Some, None}
use Rattle.std.proofs.Common.{ap, sym, refl, ◌∙◌, subst, arith, ⊎_elim, mul-le-mul, suc-mul, length-append, le_trans, add-zero, drop}
use Rattle.std.specs.Prelude.{All, slice_range, if◌then◌else◌}
use Rattle.std.proofs.Math.Nat.{add-mod_right}
use Rattle.std.proofs.lemmas.Bool.{cases_lt, leb-true}
use Rattle.std.proofs.lemmas.List.{length-take}
use Rattle.std.proofs.lemmas.List.Elements.{All-head, All-tail}
use Rattle.fdr_slot.specs.Heads.{is_valid}
use Rattle.fdr_slot.specs.Limits.{IsInLimits}
use Rattle.fdr_slot.specs.Places.{slot_at, slot_number_of}
use Rattle.fdr_slot.specs.declared.image.Header.{Header}
use Rattle.fdr_recover.specs.Blocks.{Block, Slots, StandsInSlot, AreNumberedFrom}
use Rattle.fdr_recover.specs.Images.{block_in, block_of, bytes_in, head_at, recovered_run}
use Rattle.fdr_recover.specs.Payloads.{payloads_of}
use Rattle.fdr_recover.proofs.BlockLemmas.{recovered_run-is_recovered}

-- block i of blocks in their slots with numbers in a row
record BlockAt (n : ℕ) (slots : Slots) (number : ℕ) : Type 0 where
  block : Block
  number_is : block.number ≡ number
  stands : StandsInSlot n slots block

block_at : (n : ℕ) (slots : Slots) (first : ℕ) (run : List Block) (i : ℕ) → AreNumberedFrom first run → All (StandsInSlot n slots) run → i < length run
    → BlockAt n slots (first + i)
block_at n slots first [] i numbered stand within = absurd (omega (arith, within))
block_at n slots first (b ∷ bs) zero numbered stand within =
    record { block = b; number_is = omega (arith, numbered.0); stands = All-head (StandsInSlot n slots) b bs stand }
block_at n slots first (b ∷ bs) (suc i) numbered stand within =
    let rest = block_at n slots (first + 1) bs i numbered.1 (All-tail (StandsInSlot n slots) b bs stand) (omega (arith, within)) in
    record { block = rest.block; number_is = omega (arith, rest.number_is); stands = rest.stands }

-- two blocks in one slot are one
one_block : (n : ℕ) (slots : Slots) (first : ℕ) → 0 < n → BlockAt n slots first → BlockAt n slots (first + n) → ⊥
one_block n slots first some a b =
    let slot : slot_number_of n b.block.number ≡ slot_number_of n a.block.number =
    ap (slot_number_of n) b.number_is ∙ add-mod_right first n ∙ ap (slot_number_of n) (sym a.number_is) in
    let same : ◌≡◌ {A = Option Block} (Some a.block) (Some b.block) = sym a.stands ∙ ap slots (sym slot) ∙ b.stands in
    let numbers : a.block.number ≡ b.block.number = cc in
    omega (arith, numbers, a.number_is, b.number_is, some)

-- so there are no more than slots
few_blocks : (n : ℕ) (slots : Slots) (first : ℕ) (run : List Block) → 0 < n → AreNumberedFrom first run → All (StandsInSlot n slots) run → length run ≤ n
few_blocks n slots first run some numbered stand = ⊎_elim
    (λ (many : n < length run). absurd (one_block n slots first some
    (subst (BlockAt n slots) (add-zero first) (block_at n slots first run 0 numbered stand (omega (arith, many, some))))
    (block_at n slots first run n numbered stand many)))
    (λ (few : length run ≤ n). few)
    (cases_lt n (length run))

-- each has no more bytes than a payload may have
short_range : (xs : List ℕ) (a n : ℕ) → length (slice_range xs a (a + n)) ≤ n
short_range xs a n = omega (arith, length-take (a + n - a) (drop a xs))

second_true : (x y : Bool) → (x && y) ≡ true → y ≡ true
second_true true y both = both
second_true false y both = absurd (cc)

short_block : (h : Header) (image : List ℕ) (i : ℕ) (b : Block) → block_in h image i ≡ Some b → length b.payload ≤ h.payload
unfolding block_in bytes_in
short_block h image i b is = go (is_valid h i (head_at h image i)) refl is
  where
    go : (v : Bool) → is_valid h i (head_at h image i) ≡ v → (if v then Some (block_of h image i (head_at h image i)) else None) ≡ Some b
        → length b.payload ≤ h.payload
    go false valid same = absurd (cc)
    go true valid same =
        let block : block_of h image i (head_at h image i) ≡ b = cc in
        let fits : (head_at h image i).len ≤ h.payload = leb-true _ _ (second_true _ _ valid) in
        subst (λ (x : Block). length x.payload ≤ h.payload) block
        (le_trans (short_range image (slot_at h i + 16) (head_at h image i).len) fits)

short_blocks : (h : Header) (image : List ℕ) (run : List Block) → All (StandsInSlot h.slots (block_in h image)) run
    → length (payloads_of run) ≤ length run * h.payload
short_blocks h image [] stand = omega arith
short_blocks h image (b ∷ bs) stand =
    let P = StandsInSlot h.slots (block_in h image) in
    let product : length (b ∷ bs) * h.payload ≡ length bs * h.payload + h.payload = suc-mul (length bs) h.payload in
    omega (
      arith,
      product,
      length-append b.payload (payloads_of bs),
      short_block h image (slot_number_of h.slots b.number) b (All-head P b bs stand),
      short_blocks h image bs (All-tail P b bs stand),
    )

-- the bytes of a recovered run
pub run_short : (h : Header) (image : List ℕ) → IsInLimits h → length (payloads_of (recovered_run h image)) ≤ 2 ^ 28
run_short h image limits =
    let run = recovered_run h image in
    let is_run = (recovered_run-is_recovered h image limits).is_run in
    let some : 0 < h.slots = omega (arith, limits.least_slots) in
    let few = few_blocks h.slots (block_in h image) is_run.first run some is_run.numbered is_run.stand in
    let blocks : length run ≤ 65536 = omega (arith, few, limits.most_slots) in
    let product : length run * h.payload ≤ 65536 * 4096 = mul-le-mul blocks limits.most_payload in
    omega (arith, short_blocks h image run is_run.stand, product)
