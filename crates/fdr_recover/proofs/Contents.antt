-- Images that differ in their version alone hold blocks with the same numbers and payloads.
use Rattle.std.proofs.Common.{◌≡◌, ⊎_elim, ℕ, zero, suc, ◌+◌, ◌-◌, ◌*◌, ◌%◌, Bool, true, false, List, [], ◌∷◌, ◌++◌, map, take}
use Rattle.std.proofs.Common.{drop, Option, Some, None, refl, sym, ap, ◌∙◌, arith, drop-drop}
use Rattle.std.specs.Prelude.{max, ◌==◌, if◌then◌else◌, slice_range, option_map}
use Rattle.std.proofs.lemmas.Bool.{cases_Bool}
use Rattle.std.proofs.lemmas.List.{map-append}
use Rattle.fdr_slot.specs.declared.image.Header.{Header}
use Rattle.fdr_slot.specs.declared.head.SlotHead.{SlotHead}
use Rattle.fdr_slot.specs.Places.{slot_at}
use Rattle.fdr_slot.specs.Heads.{head_of, is_valid}
use Rattle.fdr_recover.specs.Blocks.{Block, Slots, number_after, next_among, if_numbered, standing_block, blocks_with_next, run_below}
use Rattle.fdr_recover.specs.Images.{head_at, bytes_in, block_of, block_in, next_of, blocks_below, recovered_run}
use Rattle.fdr_recover.specs.Payloads.{contents_of}
use Rattle.fdr_recover.proofs.BlockLemmas.{block_in-valid, block_in-invalid}

-- slots that hold blocks with the same numbers and payloads
pub record HaveSameContents (slots others : Slots) : Type 0 where
  pub each : (i : ℕ) → option_map contents_of (slots i) ≡ option_map contents_of (others i)

same_number : (a b : Block) → contents_of a ≡ contents_of b → a.number ≡ b.number
same_number a b same = ap (λ (x : ℕ × List ℕ). x.0) same

number_after-contents : (o p : Option Block) → option_map contents_of o ≡ option_map contents_of p → number_after o ≡ number_after p
number_after-contents None None same = refl
number_after-contents None (Some b) same = absurd (cc)
number_after-contents (Some a) None same = absurd (cc)
number_after-contents (Some a) (Some b) same =
    let inner : contents_of a ≡ contents_of b = cc in
    ap (λ n. n + 1) (same_number a b inner)

if_numbered-contents : (number : ℕ) (o p : Option Block) → option_map contents_of o ≡ option_map contents_of p
    → option_map contents_of (if_numbered number o) ≡ option_map contents_of (if_numbered number p)
if_numbered-contents number None None same = refl
if_numbered-contents number None (Some b) same = absurd (cc)
if_numbered-contents number (Some a) None same = absurd (cc)
if_numbered-contents number (Some a) (Some b) same =
    let inner : contents_of a ≡ contents_of b = cc in
    let numbers : a.number ≡ b.number = same_number a b inner in
    ⊎_elim
    (λ yes. let too : (b.number == number) ≡ true = ap (λ n. n == number) (sym numbers) ∙ yes in rw (yes, too) same)
    (λ no. let too : (b.number == number) ≡ false = ap (λ n. n == number) (sym numbers) ∙ no in rw (no, too) refl)
    (cases_Bool (a.number == number))

with_next-contents : (xs ys : List Block) (o p : Option Block) → map contents_of xs ≡ map contents_of ys
    → option_map contents_of o ≡ option_map contents_of p → map contents_of (blocks_with_next xs o) ≡ map contents_of (blocks_with_next ys p)
with_next-contents xs ys None None front same = refl
with_next-contents xs ys None (Some b) front same = absurd (cc)
with_next-contents xs ys (Some a) None front same = absurd (cc)
with_next-contents xs ys (Some a) (Some b) front same =
    let inner : contents_of a ≡ contents_of b = cc in
    map-append contents_of xs (a ∷ [])
    ∙ ap (λ zs. zs ++ contents_of a ∷ []) front
    ∙ ap (λ z. map contents_of ys ++ z ∷ []) inner
    ∙ sym (map-append contents_of ys (b ∷ []))

-- the same greatest number
pub next_among-contents : (n : ℕ) (slots others : Slots) → HaveSameContents slots others → next_among n slots ≡ next_among n others
next_among-contents zero slots others same = refl
next_among-contents (suc i) slots others same =
    ap (λ x. max x (number_after (slots i))) (next_among-contents i slots others same)
    ∙ ap (λ x. max (next_among i others) x) (number_after-contents (slots i) (others i) (same.each i))

-- the same run below a number
pub run_below-contents : (n : ℕ) (slots others : Slots) (number : ℕ) → HaveSameContents slots others
    → map contents_of (run_below n slots number) ≡ map contents_of (run_below n others number)
run_below-contents n slots others zero same = refl
run_below-contents n slots others (suc number) same =
    with_next-contents (run_below n slots number) (run_below n others number) (standing_block n slots number) (standing_block n others number)
    (run_below-contents n slots others number same)
    (if_numbered-contents number (slots (number % n)) (others (number % n)) (same.each (number % n)))

-- the contents of a block that is there
abbrev contents_at : ℕ → List ℕ → Option (ℕ × List ℕ)
contents_at number payload = Some (number, payload)

-- bytes after the header
slice_after : (image : List ℕ) (k n : ℕ) → slice_range image (64 + k) (64 + k + n) ≡ take n (drop k (drop 64 image))
slice_after image k n =
    let size : (64 + k + n) - (64 + k) ≡ n = omega arith in
    ap (λ m. take m (drop (64 + k) image)) size ∙ ap (take n) (sym (drop-drop k 64 image))

-- Two headers with the same numbers but for the version, and images that are the same after their headers.
module _ (a b : Header) (one two : List ℕ) (slots : a.slots ≡ b.slots) (payload : a.payload ≡ b.payload) (rest : drop 64 one ≡ drop 64 two) where
  head_at-same : (i : ℕ) → head_at a one i ≡ head_at b two i
  unfolding head_at
  head_at-same i =
      ap head_of (
      slice_after one (i * (16 + a.payload)) 16
      ∙ ap (λ p. take 16 (drop (i * (16 + p)) (drop 64 one))) payload
      ∙ ap (λ xs. take 16 (drop (i * (16 + b.payload)) xs)) rest
      ∙ sym (slice_after two (i * (16 + b.payload)) 16)
      )

  is_valid-same : (i : ℕ) (head : SlotHead) → is_valid a i head ≡ is_valid b i head
  is_valid-same i head = rw (slots, payload) refl

  bytes_in-same : (i n : ℕ) → bytes_in a one i n ≡ bytes_in b two i n
  unfolding bytes_in
  bytes_in-same i n =
      let from : 64 + (i * (16 + a.payload)) + 16 ≡ 64 + (i * (16 + a.payload) + 16) = omega arith in
      let to : 64 + (i * (16 + b.payload)) + 16 ≡ 64 + (i * (16 + b.payload) + 16) = omega arith in
      ap (λ k. slice_range one k (k + n)) from
      ∙ slice_after one (i * (16 + a.payload) + 16) n
      ∙ ap (λ p. take n (drop (i * (16 + p) + 16) (drop 64 one))) payload
      ∙ ap (λ xs. take n (drop (i * (16 + b.payload) + 16) xs)) rest
      ∙ sym (slice_after two (i * (16 + b.payload) + 16) n)
      ∙ sym (ap (λ k. slice_range two k (k + n)) to)

  block_in-same : HaveSameContents (block_in a one) (block_in b two)
  block_in-same = record {
    each = λ i.
        let here = head_at a one i in
        let there = head_at b two i in
        let heads : here ≡ there = head_at-same i in
        let tests : is_valid a i here ≡ is_valid b i there = is_valid-same i here ∙ ap (is_valid b i) heads in
        ⊎_elim
        (λ valid. let bytes : bytes_in a one i here.len ≡ bytes_in b two i there.len =
        bytes_in-same i here.len ∙ ap (λ (x : SlotHead). bytes_in b two i x.len) heads in
        ap (option_map contents_of) (block_in-valid a one i valid)
        ∙ ap (λ (x : SlotHead). contents_at x.seq (bytes_in a one i here.len)) heads
        ∙ ap (contents_at there.seq) bytes
        ∙ sym (ap (option_map contents_of) (block_in-valid b two i (sym tests ∙ valid))))
        (λ invalid. ap (option_map contents_of) (block_in-invalid a one i invalid)
        ∙ sym (ap (option_map contents_of) (block_in-invalid b two i (sym tests ∙ invalid))))
        (cases_Bool (is_valid a i here));
  }

  pub next_of-same : next_of a one ≡ next_of b two
  unfolding next_of
  next_of-same =
      next_among-contents a.slots (block_in a one) (block_in b two) block_in-same ∙ ap (λ n. next_among n (block_in b two)) slots

  -- the recovered runs have the same numbers and payloads
  pub recovered_run-contents : map contents_of (recovered_run a one) ≡ map contents_of (recovered_run b two)
  unfolding blocks_below
  recovered_run-contents =
      run_below-contents a.slots (block_in a one) (block_in b two) (next_of a one) block_in-same
      ∙ ap (λ n. map contents_of (run_below n (block_in b two) (next_of a one))) slots
      ∙ ap (λ k. map contents_of (run_below b.slots (block_in b two) k)) next_of-same
