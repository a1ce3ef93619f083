-- The blocks that an image has of numbers in a row, read one after another.
use Rattle.std.proofs.Common.{◌≡◌, ◌≢◌, ⊎_elim, ℕ, zero, suc, ◌+◌, ◌-◌, ◌≤◌, List, [], ◌∷◌, ◌++◌, length, Some, None}
use Rattle.std.proofs.Common.{refl, ap, sym, ◌∙◌, subst, arith, length-append, zero-add, add-zero}
use Rattle.std.specs.Prelude.{All, filter_map}
use Rattle.std.specs.List.{range_with_len, cons_option}
use Rattle.std.proofs.lemmas.List.{append-nil}
use Rattle.std.proofs.lemmas.List.Elements.{All-head, All-tail, filter_map-append}
use Rattle.std.proofs.lemmas.Grind.{flat_map-append}
use Rattle.fdr_lists.proofs.Options.{some_or_none}
use Rattle.fdr_lists.proofs.Ranges.{range_more}
use Rattle.fdr_slot.specs.declared.image.Header.{Header}
use Rattle.fdr_slot.specs.Limits.{IsInLimits}
use Rattle.fdr_recover.specs.Blocks.{Block, StandsInSlot, AreNumberedFrom}
use Rattle.fdr_recover.specs.Images.{block_in, block_numbered, payload_of, payload_at, session_of_slot, session_at, blocks_between, recovered_run, next_of}
use Rattle.fdr_recover.specs.Payloads.{payloads_of}
use Rattle.fdr_recover.proofs.Standing.{stands-standing_block, standing_block-stands}
use Rattle.fdr_recover.proofs.Nexts.{IsNext-one}
use Rattle.fdr_recover.proofs.BlockLemmas.{next_of-is_next, recovered_run-is_recovered}

-- no numbers
pub between_none : (h : Header) (image : List ℕ) (first next : ℕ) → next ≤ first → blocks_between h image first next ≡ []
between_none h image first next none =
    let count : next - first ≡ 0 = omega (arith, none) in
    ap (λ n. filter_map (block_numbered h image) (range_with_len first n)) count

-- as many numbers
pub between_count : (h : Header) (image : List ℕ) (first a b : ℕ) → a - first ≡ b - first → blocks_between h image first a ≡ blocks_between h image first b
between_count h image first a b same = ap (λ n. filter_map (block_numbered h image) (range_with_len first n)) same

-- one number more
pub between_more : (h : Header) (image : List ℕ) (first number : ℕ) → first ≤ number
    → blocks_between h image first (number + 1) ≡ blocks_between h image first number ++ cons_option (block_numbered h image number) []
between_more h image first number low =
    let count : number + 1 - first ≡ (number - first) + 1 = omega (arith, low) in
    let last : first + (number - first) ≡ number = omega (arith, low) in
    ap (λ n. filter_map (block_numbered h image) (range_with_len first n)) count
    ∙ ap (filter_map (block_numbered h image)) (range_more first (number - first))
    ∙ filter_map-append (block_numbered h image) (range_with_len first (number - first)) ((first + (number - first)) ∷ [])
    ∙ ap (λ n. blocks_between h image first number ++ cons_option (block_numbered h image n) []) last

-- further numbers
range_split : (a m n : ℕ) → range_with_len a (m + n) ≡ range_with_len a m ++ range_with_len (a + m) n
range_split a zero n = ap (λ k. range_with_len a k) (zero-add n) ∙ ap (λ k. range_with_len k n) (sym (add-zero a))
range_split a (suc m) n =
    let count : suc m + n ≡ suc (m + n) = omega arith in
    let from : a + 1 + m ≡ a + suc m = omega arith in
    ap (range_with_len a) count
    ∙ ap (λ xs. a ∷ xs) (range_split (a + 1) m n)
    ∙ ap (λ k. a ∷ range_with_len (a + 1) m ++ range_with_len k n) from

pub between_split : (h : Header) (image : List ℕ) (first number next : ℕ) → first ≤ number → number ≤ next
    → blocks_between h image first next ≡ blocks_between h image first number ++ blocks_between h image number next
between_split h image first number next low high =
    let count : next - first ≡ (number - first) + (next - number) = omega (arith, low, high) in
    let from : first + (number - first) ≡ number = omega (arith, low) in
    ap (λ n. filter_map (block_numbered h image) (range_with_len first n)) count
    ∙ ap (filter_map (block_numbered h image)) (range_split first (number - first) (next - number))
    ∙ filter_map-append (block_numbered h image) (range_with_len first (number - first)) (range_with_len (first + (number - first)) (next - number))
    ∙ ap (λ n. blocks_between h image first number ++ filter_map (block_numbered h image) (range_with_len n (next - number))) from

-- blocks with numbers in a row, each in its slot, are all that the image has of these numbers
range_of_numbered : (h : Header) (image : List ℕ) (first : ℕ) (blocks : List Block) → AreNumberedFrom first blocks
    → All (StandsInSlot h.slots (block_in h image)) blocks → filter_map (block_numbered h image) (range_with_len first (length blocks)) ≡ blocks
unfolding block_numbered
range_of_numbered h image first [] numbered stand = refl
range_of_numbered h image first (b ∷ bs) numbered stand =
    let P = StandsInSlot h.slots (block_in h image) in
    let here = stands-standing_block h.slots (block_in h image) first b (All-head P b bs stand) numbered.0 in
    ap (λ o. cons_option o (filter_map (block_numbered h image) (range_with_len (first + 1) (length bs)))) here
    ∙ ap (λ xs. b ∷ xs) (range_of_numbered h image (first + 1) bs numbered.1 (All-tail P b bs stand))

pub between_numbered : (h : Header) (image : List ℕ) (first next : ℕ) (blocks : List Block) → AreNumberedFrom first blocks
    → All (StandsInSlot h.slots (block_in h image)) blocks → first + length blocks ≡ next → blocks_between h image first next ≡ blocks
between_numbered h image first next blocks numbered stand whole =
    let count : next - first ≡ length blocks = omega (arith, whole) in
    ap (λ n. filter_map (block_numbered h image) (range_with_len first n)) count
    ∙ range_of_numbered h image first blocks numbered stand

-- the recovered run is all blocks from its first number on
pub between_run : (h : Header) (image : List ℕ) (first next : ℕ) → IsInLimits h → first + length (recovered_run h image) ≡ next
    → next ≡ next_of h image → blocks_between h image first next ≡ recovered_run h image
between_run h image first next limits count is_next =
    let run = recovered_run h image in
    let is_run = (recovered_run-is_recovered h image limits).is_run in
    let ends = IsNext-one h.slots (block_in h image) _ _ is_run.next (next_of-is_next h image limits) in
    let from : is_run.first ≡ first = omega (arith, ends, count, is_next) in
    between_numbered h image first next run (subst (λ k. AreNumberedFrom k run) from is_run.numbered) is_run.stand count

-- the payloads of some blocks and of some more
pub length-payloads-append : (blocks more : List Block) → length (payloads_of (blocks ++ more)) ≡ length (payloads_of blocks) + length (payloads_of more)
length-payloads-append blocks more =
    ap length (flat_map-append (λ (b : Block). b.payload) blocks more) ∙ length-append (payloads_of blocks) (payloads_of more)

pub payloads-one : (b : Block) → payloads_of (b ∷ []) ≡ b.payload
payloads-one b = append-nil b.payload

-- a block more
pub payloads-push : (blocks : List Block) (b : Block) → payloads_of (blocks ++ b ∷ []) ≡ payloads_of blocks ++ b.payload
payloads-push blocks b =
    flat_map-append (λ (x : Block). x.payload) blocks (b ∷ []) ∙ ap (λ xs. payloads_of blocks ++ xs) (append-nil b.payload)

pub payloads-push_more : (blocks : List Block) (b : Block) (more : List Block)
    → payloads_of ((blocks ++ b ∷ []) ++ more) ≡ (payloads_of blocks ++ b.payload) ++ payloads_of more
payloads-push_more blocks b more =
    flat_map-append (λ (x : Block). x.payload) (blocks ++ b ∷ []) more ∙ ap (λ xs. xs ++ payloads_of more) (payloads-push blocks b)

-- a block by what is read of it
abbrev pub block_with : ℕ → ℕ → List ℕ → Block
block_with number session payload = record { number = number; session = session; payload = payload }

-- the block with a number has it
block_numbered-number : (h : Header) (image : List ℕ) (number : ℕ) (b : Block) → block_numbered h image number ≡ Some b → b.number ≡ number
unfolding block_numbered
block_numbered-number h image number b is = (standing_block-stands h.slots (block_in h image) number b is).0

-- what was read of a block that is there
pub block_read : (h : Header) (image : List ℕ) (number session : ℕ) (payload : List ℕ) → block_numbered h image number ≢ None
    → session ≡ session_at h image number → payload ≡ payload_at h image number
    → block_with number session payload ∷ [] ≡ cons_option (block_numbered h image number) []
block_read h image number session payload there one two = ⊎_elim
    (λ none. absurd (there none))
    (λ some. let b = some.0 in
    let numbers : number ≡ b.number = sym (block_numbered-number h image number b some.1) in
    let sessions : session ≡ b.session = one ∙ ap session_of_slot some.1 in
    let payloads : payload ≡ b.payload = two ∙ ap payload_of some.1 in
    let same : block_with number session payload ≡ b =
    ap (λ n. block_with n session payload) numbers ∙ ap (λ s. block_with b.number s payload) sessions
    ∙ ap (λ xs. block_with b.number b.session xs) payloads in
    ap (λ x. x ∷ []) same ∙ sym (ap (λ o. cons_option o []) some.1))
    (some_or_none (block_numbered h image number))
