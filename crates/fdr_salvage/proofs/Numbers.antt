-- The numbers of the valid slots, sorted, are those of the valid blocks.
use Rattle.std.proofs.Common.{◌≡◌, ◌≢◌, ⊎_elim, ℕ, zero, suc, ◌+◌, ◌-◌, ◌%◌, ◌<◌, List, [], ◌∷◌, ◌++◌, length, get_or, map, Option, Some, None, refl}
use Rattle.std.proofs.Common.{sym, ap, ◌∙◌}
use Rattle.std.proofs.Common.{arith, mod-lt, zero-add}
use Rattle.std.specs.Prelude.{All, AllPairs, Contains, filter_map, option_map, IsPermutation}
use Rattle.std.specs.List.{range_with_len, cons_option}
use Rattle.std.specs.List.Sorted.{IsNonDecreasing}
use Rattle.std.proofs.lemmas.Bool.{cases_lt, cases_eq}
use Rattle.std.proofs.lemmas.List.{append-nil, length-map, get_or-map}
use Rattle.std.proofs.lemmas.List.Elements.{All-nil, All-head, All-tail, All-push, Contains-append_left, filter_map-append}
use Rattle.std.proofs.lemmas.List.Elements.{Contains-append_right}
use Rattle.std.proofs.lemmas.List.Kept.{AllPairs-cons}
use Rattle.std.proofs.lemmas.List.Sorted.{sum_by-IsPermutation}
use Rattle.fdr_lists.proofs.Ranges.{range_more}
use Rattle.fdr_lists.proofs.Pairs.{AllPairs-nil, AllPairs-head, AllPairs-tail, Contains-here}
use Rattle.fdr_slot.specs.declared.image.Header.{Header}
use Rattle.fdr_slot.specs.Limits.{IsInLimits}
use Rattle.fdr_recover.specs.Blocks.{Block, StandsInSlot, if_numbered}
use Rattle.fdr_recover.specs.Images.{block_in, block_numbered, blocks_between, next_of}
use Rattle.fdr_recover.proofs.Standing.{numbered_same, numbered_other, standing_block-stands, stands-standing_block}
use Rattle.fdr_recover.proofs.BlockLemmas.{block_in-placed, next_of-is_next}
use Rattle.fdr_recover.proofs.Between.{between_more}
use Rattle.fdr_salvage.specs.Runs.{valid_blocks, slot_number, slot_numbers}
use Rattle.fdr_salvage.proofs.Times.{times, times-other, same_in_order, times_upto}

abbrev number_of : Block → ℕ
number_of b = b.number

-- the number that the image has a block with, or none
abbrev valid_number : Header → List ℕ → ℕ → Option ℕ
valid_number h image number = option_map (λ (b : Block). b.number) (block_numbered h image number)

none_of : (x : ℕ) (o : Option Block) → ((b : Block) → o ≡ Some b → b.number ≢ x) → times x (cons_option (option_map number_of o) []) ≡ 0
none_of x None other = refl
none_of x (Some b) other = times-other x b.number [] (other b refl)

-- what a slot holds has the number, or the image doesn't
own_number : (x : ℕ) (o : Option Block)
    → times x (cons_option (option_map number_of o) []) ≡ times x (cons_option (option_map number_of (if_numbered x o)) [])
own_number x None = refl
own_number x (Some b) = ⊎_elim
    (λ same. ap (λ o. times x (cons_option (option_map number_of o) [])) (sym (numbered_same x b same)))
    (λ other. times-other x b.number [] other ∙ sym (ap (λ o. times x (cons_option (option_map number_of o) [])) (numbered_other x b other)))
    (cases_eq b.number x)

map-option : (o : Option Block) (bs : List Block) → map number_of (cons_option o bs) ≡ cons_option (option_map number_of o) (map number_of bs)
map-option None bs = refl
map-option (Some b) bs = refl

map-filter_map : (f : ℕ → Option Block) (xs : List ℕ) → map number_of (filter_map f xs) ≡ filter_map (λ x. option_map number_of (f x)) xs
map-filter_map f [] = refl
map-filter_map f (x ∷ xs) =
    map-option (f x) (filter_map f xs) ∙ ap (cons_option (option_map number_of (f x))) (map-filter_map f xs)

-- what holds of blocks, and of one more where there is one
All-option : (P : Block → Type 0) (xs : List Block) (o : Option Block) → All P xs → ((b : Block) → o ≡ Some b → P b) → All P (xs ++ cons_option o [])
All-option P xs None all each = rw append-nil all
All-option P xs (Some b) all each = All-push P xs b all (each b refl)

-- numbers that rise
abbrev IsBefore : Block → Block → Type 0
IsBefore b c = b.number < c.number

rising_option : (xs : List Block) (o : Option Block) → AllPairs IsBefore xs → ((b : Block) → o ≡ Some b → All (λ (x : Block). IsBefore x b) xs)
    → AllPairs IsBefore (xs ++ cons_option o [])
rising_option xs None pairs below = rw append-nil pairs
rising_option [] (Some y) pairs below = AllPairs-cons IsBefore y [] (All-nil (IsBefore y)) (AllPairs-nil IsBefore)
rising_option (x ∷ xs) (Some y) pairs below =
    let P : Block → Type 0 = λ (z : Block). IsBefore z y in
    let rest = rising_option xs (Some y) (AllPairs-tail IsBefore x xs pairs)
    (λ b is. let same : y ≡ b = cc in rw (← same) (All-tail P x xs (below y refl))) in
    AllPairs-cons IsBefore x (xs ++ y ∷ []) (All-push (IsBefore x) xs y (AllPairs-head IsBefore x xs pairs) (All-head P x xs (below y refl))) rest

-- they don't fall
up_by_pairs : (xs : List Block) → AllPairs IsBefore xs → IsNonDecreasing (map number_of xs)
up_by_pairs xs pairs i j d order within =
    let e : Block = record { number = 0; session = 0; payload = [] } in
    let long : j < length xs = omega (arith, within, length-map xs number_of) in
    ⊎_elim
    (λ less. omega (arith, get_or-map number_of xs i e d (omega (arith, order, long)), get_or-map number_of xs j e d long, pairs i j e less long))
    (λ more. let same : i ≡ j = omega (arith, more, order) in omega (arith, ap (λ k. get_or (map number_of xs) k d) same))
    (cases_lt i j)

module _ (h : Header) (image : List ℕ) where
  -- the block with a number has it, and is in its slot
  numbered-stands : (number : ℕ) (b : Block) → block_numbered h image number ≡ Some b → (b.number ≡ number) × StandsInSlot h.slots (block_in h image) b
  unfolding block_numbered
  numbered-stands number b is = standing_block-stands h.slots (block_in h image) number b is

  -- a slot's block is the one that the image has with its number
  pub slot-stands : (slot : ℕ) (b : Block) → block_in h image slot ≡ Some b → StandsInSlot h.slots (block_in h image) b
  slot-stands slot b is = ap (block_in h image) ((block_in-placed h image).place slot b is) ∙ is

  pub stands-numbered : (b : Block) → StandsInSlot h.slots (block_in h image) b → block_numbered h image b.number ≡ Some b
  unfolding block_numbered
  stands-numbered b stands = stands-standing_block h.slots (block_in h image) b.number b stands refl

  slot_number-valid : (x : ℕ) → times x (cons_option (slot_number h image (x % h.slots)) []) ≡ times x (cons_option (valid_number h image x) [])
  unfolding block_numbered
  slot_number-valid x = own_number x (block_in h image (x % h.slots))

  -- how often a number is among those of the slots: it comes from its own slot alone
  times_slots : (x : ℕ) → IsInLimits h → times x (slot_numbers h image h.slots) ≡ times x (cons_option (valid_number h image x) [])
  unfolding slot_numbers
  times_slots x limits =
      (times_upto (slot_number h image) x (x % h.slots) h.slots (λ i other. none_of x (block_in h image i)
      (λ b is same. other (sym ((block_in-placed h image).place i b is) ∙ ap (λ k. k % h.slots) same)))).1
      (mod-lt x (omega (arith, limits.least_slots)))
      ∙ slot_number-valid x

  -- and among those of the valid blocks: from its own place alone
  valid_numbers : map number_of (valid_blocks h image) ≡ filter_map (valid_number h image) (range_with_len 0 (next_of h image))
  unfolding valid_blocks
  valid_numbers =
      let count : next_of h image - 0 ≡ next_of h image = omega arith in
      ap (λ n. map number_of (filter_map (block_numbered h image) (range_with_len 0 n))) count
      ∙ map-filter_map (block_numbered h image) (range_with_len 0 (next_of h image))

  pub times_valid : (x : ℕ) → IsInLimits h
      → times x (map (λ (b : Block). b.number) (valid_blocks h image)) ≡ times x (cons_option (valid_number h image x) [])
  times_valid x limits =
      let among = times_upto (valid_number h image) x x (next_of h image)
      (λ i other. none_of x (block_numbered h image i) (λ b is same. other (sym (numbered-stands i b is).0 ∙ same))) in
      ap (times x) valid_numbers ∙ ⊎_elim
      (λ below. among.1 below)
      (λ above. among.0 above ∙ sym (none_of x (block_numbered h image x) (λ b is same.
      omega (arith, (next_of-is_next h image limits).above b (numbered-stands x b is).1, same, above))))
      (cases_lt x (next_of h image))

  -- one number more
  pub between_suc : (n : ℕ) → blocks_between h image 0 (suc n) ≡ blocks_between h image 0 n ++ cons_option (block_numbered h image n) []
  between_suc n =
      let next : suc n ≡ n + 1 = omega arith in
      ap (λ k. blocks_between h image 0 k) next ∙ between_more h image 0 n (omega arith)

  -- what holds of the block with each number
  all_between : (P : Block → Type 0) (n : ℕ) → ((number : ℕ) (b : Block) → number < n → block_numbered h image number ≡ Some b → P b)
      → All P (blocks_between h image 0 n)
  all_between P zero each = All-nil P
  all_between P (suc n) each = rw (between_suc n) (All-option P (blocks_between h image 0 n) (block_numbered h image n)
      (all_between P n (λ number b below is. each number b (omega (arith, below)) is)) (λ b is. each n b (omega arith) is))

  -- each is in its slot
  pub between-stand : (n : ℕ) → All (StandsInSlot h.slots (block_in h image)) (blocks_between h image 0 n)
  between-stand n = all_between (StandsInSlot h.slots (block_in h image)) n (λ number b below is. (numbered-stands number b is).1)

  -- their numbers rise
  pub between-rising : (n : ℕ) → AllPairs (λ (b c : Block). b.number < c.number) (blocks_between h image 0 n)
  between-rising zero = AllPairs-nil IsBefore
  between-rising (suc n) = rw (between_suc n) (rising_option (blocks_between h image 0 n) (block_numbered h image n) (between-rising n)
      (λ c is. all_between (λ (x : Block). IsBefore x c) n
      (λ number b below here. omega (arith, below, (numbered-stands number b here).0, (numbered-stands n c is).0))))

  pub valid-rising : AllPairs (λ (b c : Block). b.number < c.number) (valid_blocks h image)
  unfolding valid_blocks
  valid-rising = between-rising (next_of h image)

  -- the numbers of the slots, once they are sorted
  pub sorted_valid : (numbers : List ℕ) → IsInLimits h → IsPermutation (slot_numbers h image h.slots) numbers → IsNonDecreasing numbers
      → map (λ (b : Block). b.number) (valid_blocks h image) ≡ numbers
  sorted_valid numbers limits permutation up =
      same_in_order (map number_of (valid_blocks h image)) numbers (up_by_pairs (valid_blocks h image) valid-rising) up
      (λ x. times_valid x limits ∙ sym (times_slots x limits) ∙ sym (sum_by-IsPermutation _ (slot_numbers h image h.slots) numbers permutation))

  -- a block in its slot is among those below the next number
  between-contains : (n number : ℕ) (b : Block) → number < n → block_numbered h image number ≡ Some b → Contains (blocks_between h image 0 n) b
  between-contains zero number b below is = absurd (omega (arith, below))
  between-contains (suc n) number b below is = rw (between_suc n) (⊎_elim
      (λ earlier. Contains-append_left (blocks_between h image 0 n) (cons_option (block_numbered h image n) []) b (between-contains n number b earlier is))
      (λ last. let same : n ≡ number = omega (arith, last, below) in
      Contains-append_right (blocks_between h image 0 n) (cons_option (block_numbered h image n) []) b (rw (same, is) (Contains-here b [])))
      (cases_lt number n))

  pub valid-contains : (b : Block) → IsInLimits h → StandsInSlot h.slots (block_in h image) b → Contains (valid_blocks h image) b
  unfolding valid_blocks
  valid-contains b limits stands =
      between-contains (next_of h image) b.number b ((next_of-is_next h image limits).above b stands) (stands-numbered b stands)

  pub valid-stand : All (StandsInSlot h.slots (block_in h image)) (valid_blocks h image)
  unfolding valid_blocks
  valid-stand = between-stand (next_of h image)

-- the numbers of one slot more
pub numbers_more : (h : Header) (held mid before now : List ℕ) (slot : ℕ) → now ≡ before ++ cons_option (slot_number h mid slot) [] → mid ≡ held
    → before ≡ slot_numbers h held slot → now ≡ slot_numbers h held (slot + 1)
unfolding slot_numbers
numbers_more h held mid before now slot read same earlier =
    let more = ap (filter_map (slot_number h held)) (range_more 0 slot)
    ∙ filter_map-append (slot_number h held) (range_with_len 0 slot) ((0 + slot) ∷ [])
    ∙ ap (λ k. slot_numbers h held slot ++ cons_option (slot_number h held k) []) (zero-add slot) in
    rw (read, same, earlier) (sym more)
