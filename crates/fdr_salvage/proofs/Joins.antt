-- One block more, and what that makes of the runs and of their numbers.
use Rattle.std.proofs.Common.{◌≡◌, ◌≢◌, ⊎_elim, ℕ, ◌+◌, ◌<◌, true, false, List, [], ◌∷◌, ◌++◌, length, map, Option, Some, None, refl, sym, ap}
use Rattle.std.proofs.Common.{◌∙◌}
use Rattle.std.proofs.Common.{subst, arith, length-append}
use Rattle.std.specs.Prelude.{All, Contains, IsTrue, IsSome, option_to_list}
use Rattle.std.specs.List.{flat_map}
use Rattle.std.proofs.lemmas.Bool.{cases_lt}
use Rattle.std.proofs.lemmas.Bool.Decides.{nat_tests}
use Rattle.std.proofs.lemmas.List.{append-nil, length-map, map-append, nil_from_length, same_from_push}
use Rattle.std.proofs.lemmas.List.Elements.{All-pop, All-push, All-weaker, All-contains, Contains-push}
use Rattle.fdr_slot.specs.Limits.{sequence_end}
use Rattle.fdr_recover.specs.Blocks.{Block, AreNumberedFrom}
use Rattle.fdr_recover.specs.Stretches.{stretches, AreNeighbours}
use Rattle.fdr_recover.proofs.Stretching.{stretches-all, stretches-are, stretches-push_with, stretches-push_apart}
use Rattle.fdr_salvage.specs.declared.salvage.Run.{Run}
use Rattle.fdr_salvage.specs.Runs.{goes_on_with, run_numbers, HasBlockNumbers}

-- a run by its two numbers
abbrev pub run_of : ℕ → ℕ → Run
run_of first next = record { first = first; next = next }

pub goes_on-true : (b c : Block) → c.number ≡ b.number + 1 → goes_on_with b c ≡ true
goes_on-true b c next = grind (arith, nat_tests)

pub goes_on-false : (b c : Block) → c.number ≢ b.number + 1 → goes_on_with b c ≡ false
goes_on-false b c other = grind (arith, nat_tests)

goes_on-next : (b c : Block) → IsTrue (goes_on_with b c) → c.number ≡ b.number + 1
goes_on-next b c is = grind (arith, nat_tests)

-- the numbers of a stretch go up by one
abbrev pub AreConsecutive : List Block → Type 0
AreConsecutive run = (first : ℕ) × AreNumberedFrom first run

abbrev NeighboursBelong : List Block → Type 0
NeighboursBelong part = (b c : Block) → AreNeighbours part b c → IsTrue (goes_on_with b c)

numbered_within : (b : Block) (bs : List Block) → NeighboursBelong (b ∷ bs) → AreNumberedFrom b.number (b ∷ bs)
numbered_within b [] within = (refl, tt)
numbered_within b (c ∷ cs) within =
    let next = goes_on-next b c (within b c ([], cs, refl)) in
    let rest = numbered_within c cs (λ x y near. within x y (b ∷ near.0, near.1, ap (λ xs. b ∷ xs) near.2)) in
    (refl, subst (λ k. AreNumberedFrom k (c ∷ cs)) next rest)

consecutive_within : (part : List Block) → NeighboursBelong part → AreConsecutive part
consecutive_within [] within = (0, tt)
consecutive_within (b ∷ bs) within = (b.number, numbered_within b bs within)

pub stretches-consecutive : (blocks : List Block) → All AreConsecutive (stretches goes_on_with blocks)
stretches-consecutive blocks =
    All-weaker NeighboursBelong AreConsecutive consecutive_within (stretches goes_on_with blocks) (stretches-are goes_on_with blocks).within

-- the numbers of a run that ends with a block
last_number : (first : ℕ) (xs : List Block) (c : Block) → AreNumberedFrom first (xs ++ c ∷ []) → c.number ≡ first + length xs
last_number first [] c numbered = omega (arith, numbered.0)
last_number first (x ∷ xs) c numbered = omega (arith, last_number (first + 1) xs c numbered.1)

run_next : (first : ℕ) (xs : List Block) (c : Block) → AreNumberedFrom first (xs ++ c ∷ []) → (run_numbers (xs ++ c ∷ [])).next ≡ c.number + 1
run_next first [] c numbered = omega arith
run_next first (x ∷ xs) c numbered = omega (arith, numbered.0, last_number first (x ∷ xs) c numbered, length-append xs (c ∷ []))

-- and of that run with a block more
run_push : (xs : List Block) (c b : Block)
    → run_numbers ((xs ++ c ∷ []) ++ b ∷ []) ≡ run_of (run_numbers (xs ++ c ∷ [])).first ((run_numbers (xs ++ c ∷ [])).next + 1)
run_push [] c b = ap (λ n. run_of c.number n) (omega arith)
run_push (x ∷ xs) c b = ap (λ n. run_of x.number n) (omega (arith, length-append (xs ++ c ∷ []) (b ∷ [])))

run_one : (b : Block) → run_numbers (b ∷ []) ≡ run_of b.number (b.number + 1)
run_one b = ap (λ n. run_of b.number n) (omega arith)

-- a list that isn't empty by its last element
pub last_of : {X : Type 0} (x : X) (xs : List X) → (front : List X) × (last : X) × (x ∷ xs ≡ front ++ last ∷ [])
last_of x [] = ([], x, refl)
last_of x (y ∷ ys) = let more = last_of y ys in (x ∷ more.0, more.1, ap (λ zs. x ∷ zs) more.2)

last_of_some : {X : Type 0} (xs : List X) → 0 < length xs → (front : List X) × (last : X) × (xs ≡ front ++ last ∷ [])
last_of_some [] some = absurd (omega (arith, some))
last_of_some (x ∷ xs) some = last_of x xs

-- the last element of what a list is mapped to
pub map-split_last : {X Y : Type 0} (f : X → Y) (xs : List X) (ys : List Y) (y : Y) → map f xs ≡ ys ++ y ∷ []
    → (front : List X) × (last : X) × (xs ≡ front ++ last ∷ []) × (map f front ≡ ys) × (f last ≡ y)
map-split_last f [] ys y is = absurd (omega (arith, ap length is, length-append ys (y ∷ [])))
map-split_last f (x ∷ xs) ys y is =
    let end = last_of x xs in
    let same = same_from_push (map f end.0) ys (f end.1) y (sym (ap (map f) end.2 ∙ map-append f end.0 (end.1 ∷ [])) ∙ is) in
    (end.0, end.1, end.2, same.0, same.1)

-- The last of the runs' numbers, and the stretch that has them.
record LastStretch (blocks : List Block) (before : List Run) (last : Run) : Type 0 where
  block : Block
  closed : List (List Block)
  latest : List Block
  is : stretches goes_on_with blocks ≡ closed ++ (latest ++ block ∷ []) ∷ []
  earlier : map run_numbers closed ≡ before
  numbers : run_numbers (latest ++ block ∷ []) ≡ last
  next : last.next ≡ block.number + 1

last_stretch : (blocks : List Block) (before : List Run) (last : Run) → map run_numbers (stretches goes_on_with blocks) ≡ before ++ last ∷ []
    → LastStretch blocks before last
last_stretch blocks before last is =
    let parts = stretches goes_on_with blocks in
    let s = map-split_last run_numbers parts before last is in
    let here : Contains parts s.1 = subst (λ (ps : List (List Block)). Contains ps s.1) (sym s.2) (Contains-push s.0 s.1) in
    let numbered = All-contains AreConsecutive parts s.1 (stretches-consecutive blocks) here in
    let end = last_of_some s.1 (All-contains (λ (part : List Block). 0 < length part) parts s.1 (stretches-are goes_on_with blocks).not_empty here) in
    let numbers : run_numbers (end.0 ++ end.1 ∷ []) ≡ last = sym (ap run_numbers end.2) ∙ s.4 in
    record {
      block = end.1;
      closed = s.0;
      latest = end.0;
      is = s.2 ∙ ap (λ (part : List Block). s.0 ++ part ∷ []) end.2;
      earlier = s.3;
      numbers = numbers;
      next = sym (ap (λ (run : Run). run.next) numbers)
          ∙ run_next numbered.0 end.0 end.1 (subst (λ (part : List Block). AreNumberedFrom numbered.0 part) end.2 numbered.1);
    }

-- the number goes on with the last run
pub join_with : (blocks : List Block) (b : Block) (before : List Run) (last : Run)
    → map run_numbers (stretches goes_on_with blocks) ≡ before ++ last ∷ [] → last.next ≡ b.number
    → map run_numbers (stretches goes_on_with (blocks ++ b ∷ [])) ≡ before ++ run_of last.first (last.next + 1) ∷ []
join_with blocks b before last is next =
    let s = last_stretch blocks before last is in
    let belong = goes_on-true s.block b (sym next ∙ s.next) in
    ap (map run_numbers) (stretches-push_with goes_on_with blocks s.closed s.latest s.block b s.is belong)
    ∙ map-append run_numbers s.closed (((s.latest ++ s.block ∷ []) ++ b ∷ []) ∷ [])
    ∙ ap (λ rs. rs ++ run_numbers ((s.latest ++ s.block ∷ []) ++ b ∷ []) ∷ []) s.earlier
    ∙ ap (λ r. before ++ r ∷ []) (run_push s.latest s.block b)
    ∙ ap (λ (r : Run). before ++ run_of r.first (r.next + 1) ∷ []) s.numbers

-- what holds of each run still holds
pub bounds_with : (before : List Run) (last : Run) (number : ℕ) → All HasBlockNumbers (before ++ last ∷ []) → last.next ≡ number → number < sequence_end
    → All HasBlockNumbers (before ++ run_of last.first (number + 1) ∷ [])
bounds_with before last number bounds next fits =
    let popped = All-pop HasBlockNumbers (before ++ last ∷ []) before (Some last) refl bounds in
    All-push HasBlockNumbers before (run_of last.first (number + 1)) popped.0
    (record { not_empty = omega (arith, popped.1.not_empty, next); bound = omega (arith, fits) })

-- it doesn't
pub join_apart : (blocks : List Block) (b : Block) (before : List Run) (last : Run)
    → map run_numbers (stretches goes_on_with blocks) ≡ before ++ last ∷ [] → last.next ≢ b.number
    → map run_numbers (stretches goes_on_with (blocks ++ b ∷ [])) ≡ (before ++ last ∷ []) ++ run_of b.number (b.number + 1) ∷ []
join_apart blocks b before last is other =
    let s = last_stretch blocks before last is in
    let differ = goes_on-false s.block b (λ same. other (s.next ∙ sym same)) in
    ap (map run_numbers) (stretches-push_apart goes_on_with blocks s.closed s.latest s.block b s.is differ)
    ∙ map-append run_numbers (s.closed ++ (s.latest ++ s.block ∷ []) ∷ []) ((b ∷ []) ∷ [])
    ∙ ap (λ parts. map run_numbers parts ++ run_numbers (b ∷ []) ∷ []) (sym s.is)
    ∙ ap (λ rs. rs ++ run_numbers (b ∷ []) ∷ []) is
    ∙ ap (λ r. (before ++ last ∷ []) ++ r ∷ []) (run_one b)

-- there is no run yet
pub join_first : (blocks : List Block) (b : Block) → map run_numbers (stretches goes_on_with blocks) ≡ []
    → map run_numbers (stretches goes_on_with (blocks ++ b ∷ [])) ≡ run_of b.number (b.number + 1) ∷ []
join_first blocks b none =
    let no_parts = nil_from_length _ (sym (length-map (stretches goes_on_with blocks) run_numbers) ∙ ap length none) in
    let empty = sym (stretches-all goes_on_with blocks) ∙ ap (flat_map (λ (part : List Block). part)) no_parts in
    ap (λ xs. map run_numbers (stretches goes_on_with (xs ++ b ∷ []))) empty ∙ ap (λ r. r ∷ []) (run_one b)

-- nothing was taken out of a list, so it is empty, and what is left of it is
pub none_popped : (xs ys : List Run) (n : ℕ) (o : Option Run) → n ≡ length xs → (0 < n → IsSome o) → o ≡ None → xs ≡ ys ++ option_to_list o
    → (xs ≡ []) × (ys ≡ [])
none_popped xs ys n None long some is left =
    let none : xs ≡ [] = ⊎_elim (λ less. let is = some less in absurd (cc)) (λ zero. nil_from_length xs (omega (arith, zero, long))) (cases_lt 0 n) in
    (none, sym (append-nil ys) ∙ sym left ∙ none)
none_popped xs ys n (Some r) long some is left = absurd (cc)
