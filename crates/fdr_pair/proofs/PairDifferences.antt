-- The least number at which the blocks of two runs differ, as the page computes it and as the contract says it.
use Rattle.std.proofs.Common.{◌≡◌, ◌≢◌, ◌⊎◌, ⊎_elim, inl, inr, ℕ, ◌+◌, ◌≤◌, zero, suc, Bool, true, false, List, [], ◌∷◌, Option, Some, None, refl, sym, ◌∙◌}
use Rattle.std.proofs.Common.{ap, subst, arith}
use Rattle.std.specs.Prelude.{All, Contains, bytes_eq, nat_eq, not, ◌&&◌, ◌||◌}
use Rattle.std.proofs.lemmas.Bool.{cases_Bool}
use Rattle.std.proofs.lemmas.Bool.Decides.{nat_tests}
use Rattle.std.proofs.lemmas.List.Elements.{All-contains, All-nil, All-cons, All-weaker, Contains-append_left, Contains-append_right, Contains-push}
use Rattle.std.proofs.lemmas.List.Folds.{list_any_at}
use Rattle.std.specs.Cmp.Lexicographic.{bytes_decides}
use Rattle.fdr_recover.specs.Blocks.{AreNumberedFrom, Block}
use Rattle.fdr_pair.specs.Differ.{DifferAt, IsLeastDifference}
use Rattle.fdr_pair.specs.PairMeaning.{has_other, least_difference}

-- ---- two blocks

-- whether a block has the number of another and isn't the same
abbrev is_other : Block → Block → Bool
is_other b c = nat_eq c.number b.number && not (nat_eq c.session b.session && bytes_eq c.payload b.payload)

same_block : (a b : Block) → a.number ≡ b.number → a.session ≡ b.session → a.payload ≡ b.payload → a ≡ b
same_block a b number session payload =
    ap (λ (n : ℕ). let x : Block = record { number = n; session = a.session; payload = a.payload } in x) number
    ∙ ap (λ (n : ℕ). let x : Block = record { number = b.number; session = n; payload = a.payload } in x) session
    ∙ ap (λ (n : List ℕ). let x : Block = record { number = b.number; session = b.session; payload = n } in x) payload

-- the parts of the test
parts_true : (n s p : Bool) → (n && not (s && p)) ≡ true → (n ≡ true) × ((s && p) ≡ false)
parts_true true true false is = (refl, refl)
parts_true true false p is = (refl, refl)
parts_true true true true is = absurd (cc)
parts_true false s p is = absurd (cc)

parts_false : (n s p : Bool) → (n && not (s && p)) ≡ false → n ≡ true → (s ≡ true) × (p ≡ true)
parts_false true true true is number = (refl, refl)
parts_false true true false is number = absurd (cc)
parts_false true false p is number = absurd (cc)
parts_false false s p is number = absurd (cc)

bytes_same : (xs ys : List ℕ) → xs ≡ ys → bytes_eq xs ys ≡ true
bytes_same xs ys is = (bytes_decides xs ys).1 is

number_same : (x y : ℕ) → x ≡ y → nat_eq x y ≡ true
number_same x y is = grind (arith, nat_tests)

number_is : (x y : ℕ) → nat_eq x y ≡ true → x ≡ y
number_is x y is = grind (arith, nat_tests)

other_true : (b c : Block) → is_other b c ≡ true → (c.number ≡ b.number) × (b ≢ c)
other_true b c is =
    let parts = parts_true (nat_eq c.number b.number) (nat_eq c.session b.session) (bytes_eq c.payload b.payload) is in (
      number_is c.number b.number parts.0,
      λ (same : b ≡ c).
          let session = number_same c.session b.session (ap (λ (x : Block). x.session) (sym same)) in
          let payload = bytes_same c.payload b.payload (ap (λ (x : Block). x.payload) (sym same)) in
          let both : (nat_eq c.session b.session && bytes_eq c.payload b.payload) ≡ true = rw (session, payload) refl in
          let no : true ≡ false = sym both ∙ parts.1 in cc,
    )

other_false : (b c : Block) → is_other b c ≡ false → c.number ≡ b.number → b ≡ c
other_false b c is number =
    let parts = parts_false (nat_eq c.number b.number) (nat_eq c.session b.session) (bytes_eq c.payload b.payload) is
    (number_same c.number b.number number) in
    sym (same_block c b number (number_is c.session b.session parts.0) ((bytes_decides c.payload b.payload).0 parts.1))

-- ---- one block and a run

contains_head : (b : Block) (bs : List Block) → Contains (b ∷ bs) b
contains_head b bs = Contains-append_left (b ∷ []) bs b (Contains-push [] b)

contains_tail : (b : Block) (bs : List Block) (c : Block) → Contains bs c → Contains (b ∷ bs) c
contains_tail b bs c is = Contains-append_right (b ∷ []) bs c is

contains_cases : (b : Block) (bs : List Block) (c : Block) → Contains (b ∷ bs) c → (b ≡ c) ⊎ Contains bs c
contains_cases b bs c (zero, low, is) = inl is
contains_cases b bs c (suc k, low, is) = inr (k, omega (arith, low), is)

find_other : (b : Block) (bs : List Block) → has_other bs b ≡ true → (c : Block) × (Contains bs c × (is_other b c ≡ true))
find_other b [] is = absurd (cc)
find_other b (c ∷ cs) is = ⊎_elim
    (λ (here : is_other b c ≡ true). (c, (contains_head c cs, here)))
    (λ (no : is_other b c ≡ false).
    let later : has_other cs b ≡ true = subst (λ (x : Bool). (x || has_other cs b) ≡ true) no is in
    let found = find_other b cs later in (found.0, (contains_tail c cs found.0 found.1.0, found.1.1)))
    (cases_Bool (is_other b c))

no_other : (b : Block) (bs : List Block) (c : Block) → has_other bs b ≡ false → Contains bs c → is_other b c ≡ false
no_other b bs c none is = ⊎_elim
    (λ (other : is_other b c ≡ true).
    let has : has_other bs b ≡ true = list_any_at (is_other b) bs is.0 c is.1 (ap (is_other b) is.2 ∙ other) in
    let no : true ≡ false = sym has ∙ none in absurd (cc))
    (λ (other : is_other b c ≡ false). other)
    (cases_Bool (is_other b c))

-- ---- two runs

at_least : (first : ℕ) (bs : List Block) → AreNumberedFrom first bs → All (λ (b : Block). first ≤ b.number) bs
at_least first [] numbered = All-nil (λ (b : Block). first ≤ b.number)
at_least first (b ∷ bs) numbered = All-cons (λ (x : Block). first ≤ x.number) b bs (omega (arith, numbered.0))
    (All-weaker (λ (x : Block). first + 1 ≤ x.number) (λ (x : Block). first ≤ x.number) (λ x low. omega (arith, low)) bs (at_least (first + 1) bs numbered.1))

-- the least difference of a run is that of another which differs at the same numbers
carries : (xs zs ys : List Block) (o : Option ℕ) → ((n : ℕ) → DifferAt xs ys n → DifferAt zs ys n) → ((n : ℕ) → DifferAt zs ys n → DifferAt xs ys n)
    → IsLeastDifference xs ys o → IsLeastDifference zs ys o
carries xs zs ys None to from least = λ n differ. least n (from n differ)
carries xs zs ys (Some n) to from least = (to n least.0, λ m differ. least.1 m (from m differ))

-- there is one least difference
pub one_least : (xs ys : List Block) (o p : Option ℕ) → IsLeastDifference xs ys o → IsLeastDifference xs ys p → o ≡ p
one_least xs ys None None a b = refl
one_least xs ys None (Some n) a b = absurd (a n b.0)
one_least xs ys (Some n) None a b = absurd (b n a.0)
one_least xs ys (Some n) (Some m) a b =
    let low = a.1 m b.0 in
    let high = b.1 n a.0 in
    let same : n ≡ m = omega (arith, low, high) in
    ap Some same

least_by : (first : ℕ) (b : Block) (bs ys : List Block) (test : Bool) → has_other ys b ≡ test → AreNumberedFrom first (b ∷ bs)
    → IsLeastDifference bs ys (least_difference bs ys) → IsLeastDifference (b ∷ bs) ys (least_difference (b ∷ bs) ys)
least_by first b bs ys true is numbered rest =
    let found = find_other b ys is in
    let other = other_true b found.0 found.1.1 in
    let at : least_difference (b ∷ bs) ys ≡ Some b.number = rw is refl in
    subst (IsLeastDifference (b ∷ bs) ys) (sym at) (
      record {
        one = b;
        other = found.0;
        in_first = contains_head b bs;
        in_second = found.1.0;
        number_of_one = refl;
        number_of_other = other.0;
        differ = other.1;
      },
      λ n differ.
          let low = All-contains (λ (x : Block). first ≤ x.number) (b ∷ bs) differ.one (at_least first (b ∷ bs) numbered) differ.in_first in
          omega (arith, low, numbered.0, differ.number_of_one),
    )
least_by first b bs ys false is numbered rest =
    let at : least_difference (b ∷ bs) ys ≡ least_difference bs ys = rw is refl in
    subst (IsLeastDifference (b ∷ bs) ys) (sym at) (carries bs (b ∷ bs) ys (least_difference bs ys)
    (λ n differ. record {
      one = differ.one;
      other = differ.other;
      in_first = contains_tail b bs differ.one differ.in_first;
      in_second = differ.in_second;
      number_of_one = differ.number_of_one;
      number_of_other = differ.number_of_other;
      differ = differ.differ;
    })
    (λ n differ. ⊎_elim
    (λ (here : b ≡ differ.one).
    let number : differ.other.number ≡ b.number = differ.number_of_other ∙ sym differ.number_of_one ∙ ap (λ (x : Block). x.number) (sym here) in
    let same = other_false b differ.other (no_other b ys differ.other is differ.in_second) number in
    absurd (differ.differ (sym here ∙ same)))
    (λ (later : Contains bs differ.one). record {
      one = differ.one;
      other = differ.other;
      in_first = later;
      in_second = differ.in_second;
      number_of_one = differ.number_of_one;
      number_of_other = differ.number_of_other;
      differ = differ.differ;
    })
    (contains_cases b bs differ.one differ.in_first))
    rest)

-- what the page computes is the least difference
pub least_is : (first : ℕ) (xs ys : List Block) → AreNumberedFrom first xs → IsLeastDifference xs ys (least_difference xs ys)
least_is first [] ys numbered = λ n differ. absurd (omega (arith, differ.in_first.1))
least_is first (b ∷ bs) ys numbered = least_by first b bs ys (has_other ys b) refl numbered (least_is (first + 1) bs ys numbered.1)
