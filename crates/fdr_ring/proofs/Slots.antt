-- Slots of which one is emptied, or gets the next block.
use Rattle.std.proofs.Common.{◌≡◌, ◌≢◌, ⊎_elim, ℕ, zero, suc, ◌+◌, ◌-◌, ◌/◌, ◌%◌, ◌<◌, ◌≤◌, List, [], ◌∷◌, ◌++◌, length, drop, Some, None}
use Rattle.std.proofs.Common.{refl, sym, ap, ◌∙◌, arith, length-drop}
use Rattle.std.specs.Prelude.{max, min}
use Rattle.std.proofs.Math.Nat.{mod-lt, div-add-mod, mul-le-mul_left}
use Rattle.std.proofs.lemmas.Bool.{cases_lt, cases_eq}
use Rattle.std.proofs.lemmas.List.{drop-append-le}
use Rattle.fdr_recover.specs.Blocks.{Block, Slots, IsNextOfBlocks, number_after, next_among, if_numbered, standing_block, blocks_with_next, run_below}
use Rattle.fdr_recover.proofs.Standing.{stands-standing_block, numbered_other}
use Rattle.fdr_recover.proofs.Runs.{run_below-none, run_below-some, length-run_below, run_below-short}
use Rattle.fdr_ring.specs.Runs.{IsTail, last_blocks}
use Rattle.fdr_lists.proofs.Options.{some_or_none}

-- numbers of one slot are a whole turn apart
pub turn_apart : (n a b : ℕ) → a % n ≡ b % n → a < b → a + n ≤ b
turn_apart n a b same less = ⊎_elim
    (λ more. let whole = mul-le-mul_left {m = a / n + 1} {n = b / n} n (omega arith) in
    let first = div-add-mod a n in
    let second = div-add-mod b n in
    omega (arith, whole, first, second, same))
    (λ no_more. let whole = mul-le-mul_left {m = b / n} {n = a / n} n no_more in
    let first = div-add-mod a n in
    let second = div-add-mod b n in
    absurd (omega (arith, whole, first, second, same)))
    (cases_lt (a / n) (b / n))

-- the same blocks are below a number
pub run_below-same : (n : ℕ) (old new : Slots) (number : ℕ) → ((m : ℕ) → m < number → standing_block n new m ≡ standing_block n old m)
    → run_below n new number ≡ run_below n old number
run_below-same n old new zero same = refl
run_below-same n old new (suc number) same =
    ap (λ r. blocks_with_next r (standing_block n new number)) (run_below-same n old new number (λ m less. same m (omega arith)))
    ∙ ap (blocks_with_next (run_below n old number)) (same number (omega arith))

pub next_among-same : (old new : Slots) (i : ℕ) → ((j : ℕ) → j < i → new j ≡ old j) → next_among i new ≡ next_among i old
next_among-same old new zero same = refl
next_among-same old new (suc i) same =
    ap (λ x. max x (number_after (new i))) (next_among-same old new i (λ j less. same j (omega arith)))
    ∙ ap (λ o. max (next_among i old) (number_after o)) (same i (omega arith))

-- all slots except one are as they were, and this one is empty
pub record IsEmptied (n k : ℕ) (old new : Slots) : Type 0 where
  pub others : (j : ℕ) → j < n → j ≢ k → new j ≡ old j
  pub here : new k ≡ None

standing_block-elsewhere : (n k : ℕ) (old new : Slots) (m : ℕ) → 0 < n → IsEmptied n k old new → m % n ≢ k → standing_block n new m ≡ standing_block n old m
standing_block-elsewhere n k old new m some emptied other = ap (if_numbered m) (emptied.others (m % n) (mod-lt m some) other)

standing_block-here : (n k : ℕ) (old new : Slots) (m : ℕ) → IsEmptied n k old new → m % n ≡ k → standing_block n new m ≡ None
standing_block-here n k old new m emptied same = ap (λ j. if_numbered m (new j)) same ∙ ap (if_numbered m) emptied.here

-- what is left of the blocks below a number, of which those below the limit may be gone
record IsCut (limit number : ℕ) (whole part : List Block) : Type 0 where
  lost : ℕ
  within : lost ≤ length whole
  tail : part ≡ drop lost whole
  enough : min (number - limit) (length whole) ≤ length part

drop-more : (lost : ℕ) (xs : List Block) (b : Block) → lost ≤ length xs → drop lost xs ++ b ∷ [] ≡ drop lost (xs ++ b ∷ [])
drop-more lost xs b within = sym (drop-append-le lost xs (b ∷ []) within)

drop-whole : (xs : List Block) → drop (length xs) xs ≡ []
drop-whole [] = refl
drop-whole (x ∷ xs) = drop-whole xs

cut_below : (n k limit : ℕ) (old new : Slots) (number : ℕ) → 0 < n → IsEmptied n k old new → ((m : ℕ) → m < number → m % n ≡ k → m < limit)
    → IsCut limit number (run_below n old number) (run_below n new number)
cut_below n k limit old new zero some emptied late = record { lost = 0; within = omega arith; tail = refl; enough = omega arith }
cut_below n k limit old new (suc number) some emptied late =
    let before = cut_below n k limit old new number some emptied (λ m less same. late m (omega arith) same) in
    ⊎_elim
    (λ gone. let empty = run_below-none n new number (standing_block-here n k old new number emptied gone) in
    let far = late number (omega arith) gone in
    record {
      lost = length (run_below n old (suc number));
      within = omega arith;
      tail = empty
          ∙ sym (drop-whole (run_below n old (suc number)));
      enough = omega (arith, far);
    })
    (λ kept. let same = standing_block-elsewhere n k old new number some emptied kept in
    ⊎_elim
    (λ none. let whole = run_below-none n old number none in
    let part = run_below-none n new number (same ∙ none) in
    record { lost = 0; within = omega arith; tail = part ∙ sym whole; enough = omega (arith, ap length whole, ap length part) })
    (λ held. let whole = run_below-some n old number held.0 held.1 in
    let part = run_below-some n new number held.0 (same ∙ held.1) in
    let long = length-run_below n old number held.0 held.1 in
    let left = length-run_below n new number held.0 (same ∙ held.1) in
    record {
      lost = before.lost;
      within = omega (arith, before.within, long);
      tail = part ∙ ap (λ r. r ++ held.0 ∷ []) before.tail ∙ drop-more before.lost (run_below n old number) held.0 before.within
          ∙ ap (drop before.lost) (sym whole);
      enough = omega (arith, before.enough, long, left);
    })
    (some_or_none (standing_block n old number)))
    (cases_eq (number % n) k)

-- the slot of the number that is so far ahead of the next one is emptied
pub emptied_run : (n ahead : ℕ) (old new : Slots) (next : ℕ) → 0 < n → ahead < n → IsEmptied n ((next + ahead) % n) old new
    → IsTail (n - (1 + ahead)) (run_below n old next) (run_below n new next)
emptied_run n ahead old new next some less emptied =
    let cut = cut_below n ((next + ahead) % n) (next + ahead + 1 - n) old new next some emptied
    (λ m below same. let far = turn_apart n m (next + ahead) same (omega arith) in omega (arith, far)) in
    let short = run_below-short n old next in
    record { lost = cut.lost; within = cut.within; tail = cut.tail; enough = omega (arith, cut.enough, short) }

-- and the next number stays
pub emptied_next : (n ahead : ℕ) (old new : Slots) (next : ℕ) → 0 < n → ahead + 1 < n → IsEmptied n ((next + ahead) % n) old new
    → IsNextOfBlocks n old next → IsNextOfBlocks n new next
emptied_next n ahead old new next some less emptied is = record {
  above = λ b stands. ⊎_elim
      (λ gone. absurd (let none : new (b.number % n) ≡ None = ap new gone ∙ emptied.here in let found : None ≡ Some b = sym none
      ∙ stands in cc))
      (λ kept. is.above b (sym (emptied.others (b.number % n) (mod-lt b.number some) kept) ∙ stands))
      (cases_eq (b.number % n) ((next + ahead) % n));
  stands = λ positive. let top = is.stands positive in (
    top.0,
    (
      emptied.others (top.0.number % n) (mod-lt top.0.number some)
          (λ same. let far = turn_apart n top.0.number (next + ahead) same (omega (arith, top.1.1)) in absurd (omega (arith, far, top.1.1)))
          ∙ top.1.0,
      top.1.1,
    ),
  );
}

-- a block that isn't in its slot ends the blocks below
pub length-run_below-from : (n : ℕ) (slots : Slots) (number m : ℕ) → m < number → standing_block n slots m ≡ None
    → length (run_below n slots number) + m + 1 ≤ number
length-run_below-from n slots zero m less none = absurd (omega arith)
length-run_below-from n slots (suc number) m less none = ⊎_elim
    (λ empty. omega (arith, ap length (run_below-none n slots number empty), less))
    (λ held. let long = length-run_below n slots number held.0 held.1 in
    ⊎_elim
    (λ below. let rest = length-run_below-from n slots number m below none in omega (arith, rest, long))
    (λ above. let same : m ≡ number = omega arith in absurd
    (let found : None ≡ Some held.0 = sym none ∙ ap (standing_block n slots) same ∙ held.1 in cc))
    (cases_lt m number))
    (some_or_none (standing_block n slots number))

-- a closed slot so far ahead of the next number bounds the run
pub run_below-bound : (n ahead : ℕ) (slots : Slots) (next : ℕ) → ahead < n → slots ((next + ahead) % n) ≡ None
    → ((m : ℕ) → m + n ≡ next + ahead → m % n ≡ (next + ahead) % n) → length (run_below n slots next) ≤ n - (1 + ahead)
run_below-bound n ahead slots next less none turn = ⊎_elim
    (λ early. omega (arith, run_below-short n slots next, early))
    (λ late. let m : ℕ = next + ahead - n in
    let whole : m + n ≡ next + ahead = omega arith in
    let same = turn m whole in
    let gone : standing_block n slots m ≡ None = ap (λ j. if_numbered m (slots j)) same ∙ ap (if_numbered m) none in
    let bound = length-run_below-from n slots next m (omega arith) gone in
    omega (arith, bound))
    (cases_lt (next + ahead) n)

-- a tail that isn't longer than it must be
pub IsTail-exact : (most : ℕ) (whole part : List Block) → IsTail most whole part → length part ≤ most → part ≡ last_blocks most whole
IsTail-exact most whole part tail short =
    let long : length part ≡ length whole - tail.lost = ap length tail.tail ∙ length-drop tail.lost whole in
    let few : tail.lost ≡ length whole - most = omega (arith, tail.enough, tail.within, long, short) in
    tail.tail ∙ ap (λ k. drop k whole) few

-- the slot of the next number, which was empty, gets its block
pub record IsAdded (n : ℕ) (b : Block) (old new : Slots) : Type 0 where
  pub others : (j : ℕ) → j < n → j ≢ b.number % n → new j ≡ old j
  pub pulled_before : old (b.number % n) ≡ None
  pub here : new (b.number % n) ≡ Some b

added_below : (n : ℕ) (b : Block) (old new : Slots) (m : ℕ) → 0 < n → IsAdded n b old new → m < b.number
    → standing_block n new m ≡ standing_block n old m
added_below n b old new m some added less = ⊎_elim
    (λ same. ap (λ j. if_numbered m (new j)) same ∙ ap (if_numbered m) added.here ∙ numbered_other m b (λ equal. omega (arith, equal, less))
    ∙ sym (ap (λ j. if_numbered m (old j)) same ∙ ap (if_numbered m) added.pulled_before))
    (λ other. ap (if_numbered m) (added.others (m % n) (mod-lt m some) other))
    (cases_eq (m % n) (b.number % n))

pub added_run : (n : ℕ) (b : Block) (old new : Slots) → 0 < n → IsAdded n b old new
    → run_below n new (b.number + 1) ≡ run_below n old b.number ++ b ∷ []
added_run n b old new some added =
    let here : standing_block n new b.number ≡ Some b = stands-standing_block n new b.number b added.here refl in
    let one : b.number + 1 ≡ suc b.number = omega arith in
    ap (run_below n new) one ∙ run_below-some n new b.number b here
    ∙ ap (λ r. r ++ b ∷ []) (run_below-same n old new b.number (λ m less. added_below n b old new m some added less))

pub added_next : (n : ℕ) (b : Block) (old new : Slots) → 0 < n → IsAdded n b old new → IsNextOfBlocks n old b.number → IsNextOfBlocks n new (b.number + 1)
added_next n b old new some added is = record {
  above = λ x stands. ⊎_elim
      (λ same. let found : Some b ≡ Some x = sym added.here ∙ ap new (sym same) ∙ stands in
      let block : b ≡ x = cc in
      let number : b.number ≡ x.number = ap (λ (y : Block). y.number) block in omega (arith, number))
      (λ other. let below = is.above x (sym (added.others (x.number % n) (mod-lt x.number some) other) ∙ stands) in omega (arith, below))
      (cases_eq (x.number % n) (b.number % n));
  stands = λ positive. (b, (added.here, refl));
}
