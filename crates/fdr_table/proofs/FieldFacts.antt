-- Facts about single fields.
use Rattle.std.proofs.Common.{◌≡◌, ◌∙◌, sym, ap, refl, ℕ, suc, ◌+◌, ◌-◌, ◌*◌, ◌^◌, ◌<◌, ◌≤◌, Bool, true, false, ◌&&◌, nat_le, nat_lt, List, [], ◌∷◌, length}
use Rattle.std.proofs.Common.{get_or, take, drop, Option, Some, None, arith, add-one, zero, zero-add, add_assoc, ◌⊎◌}
use Rattle.std.specs.Prelude.{if◌then◌else◌, sum_by}
use Rattle.std.specs.List.{list_all}
use Rattle.std.specs.Char.{digit_value}
use Rattle.std.specs.Str.Parse.{digits_value, AllDigits}
use Rattle.std.proofs.lemmas.Bool.Decides.{nat_tests}
use Rattle.std.proofs.lemmas.Bool.{true≢false, false≢true, lt-ltb}
use Rattle.std.proofs.lemmas.Int.Digits.{digits_value-lt, digits_value_more}
use Rattle.std.proofs.lemmas.Str.Parse.{digits_value-take-le}
use Rattle.std.proofs.Math.Nat.{pow-le-pow_right, one-le-pow, pow-suc}
use Rattle.std.proofs.lemmas.List.Sums.{sum_by-cons}
use Rattle.std.proofs.Math.Seq.{drop-cons}
use Rattle.fdr_table.specs.Fields.{is_digit, is_octal_digit, decimal_of, label_field, is_name, is_name_byte, subframes_of, is_subframe_digit, is_increasing}
use Rattle.fdr_table.specs.Fields.{subframe_bit}

-- both tests pass
pub both-left : (a b : Bool) → (a && b) ≡ true → a ≡ true
both-left true b h = refl
both-left false b h = absurd (false≢true h)

pub both-right : (a b : Bool) → (a && b) ≡ true → b ≡ true
both-right true b h = h
both-right false b h = absurd (false≢true h)

-- a test of each element holds of one
pub list_all-at : {X : Type 0} (test : X → Bool) (xs : List X) (i : ℕ) (d : X) → list_all test xs ≡ true → i < length xs → test (get_or xs i d) ≡ true
list_all-at test [] i d h lt = absurd (omega arith)
list_all-at test (x ∷ xs) zero d h lt = both-left (test x) (list_all test xs) h
list_all-at test (x ∷ xs) (suc i) d h lt = list_all-at test xs i d (both-right (test x) (list_all test xs) h) (omega arith)

-- a number within bounds, and another test
pub held : (low n high : ℕ) (t : Bool) → low ≤ n → n ≤ high → (nat_le low n && nat_le n high && t) ≡ t
held low n high t a b = grind (arith, nat_tests)

pub below : (low n high : ℕ) (t : Bool) → n < low → (nat_le low n && nat_le n high && t) ≡ false
below low n high t a = grind (arith, nat_tests)

pub above : (low n high : ℕ) (t : Bool) → high < n → (nat_le low n && nat_le n high && t) ≡ false
above low n high t a = grind (arith, nat_tests)

pub digit-value : (c : ℕ) → is_digit c ≡ true → (digit_value c ≡ c - 48) × (48 ≤ c) × (c ≤ 57)
digit-value c h = grind (arith, nat_tests)

pub octal-value : (c : ℕ) → is_octal_digit c ≡ true → (digit_value c < 8) × (is_digit c ≡ true)
octal-value c h = grind (arith, nat_tests)

all-digits : (base : ℕ) (test : ℕ → Bool) → ((c : ℕ) → test c ≡ true → digit_value c < base) → (xs : List ℕ) → list_all test xs ≡ true → AllDigits base xs
all-digits base test small [] h = tt
all-digits base test small (x ∷ xs) h =
    (small x (both-left (test x) (list_all test xs) h), all-digits base test small xs (both-right (test x) (list_all test xs) h))

-- octal digits are decimal digits
pub octal-digits : (xs : List ℕ) → list_all is_octal_digit xs ≡ true → list_all is_digit xs ≡ true
octal-digits [] h = refl
octal-digits (x ∷ xs) h =
    let e = (octal-value x (both-left (is_octal_digit x) (list_all is_octal_digit xs) h)).1 in
    let r = octal-digits xs (both-right (is_octal_digit x) (list_all is_octal_digit xs) h) in
    rw (e, r) refl

-- no number of so few digits is too large
digits-fit : (base most : ℕ) (xs : List ℕ) → 1 ≤ base → AllDigits base xs → length xs ≤ most → base ^ most ≤ 2 ^ 64 → digits_value base xs < 2 ^ 64
digits-fit base most xs some digits short room =
    let below = digits_value-lt base xs digits in
    let largest : base ^ length xs ≤ base ^ most = pow-le-pow_right {n = base} some short in
    omega (arith, below, largest, room)

pub decimal-fits : (xs : List ℕ) → list_all is_digit xs ≡ true → length xs ≤ 19 → digits_value 10 xs < 2 ^ 64
decimal-fits xs h short = digits-fit 10 19 xs (omega arith) (all-digits 10 is_digit (λ c d. omega (arith, digit-value c d)) xs h) short (omega arith)

pub octal-fits : (xs : List ℕ) → list_all is_octal_digit xs ≡ true → length xs ≤ 3 → digits_value 8 xs < 2 ^ 64
octal-fits xs h short = digits-fit 8 3 xs (omega arith) (all-digits 8 is_octal_digit (λ c d. (octal-value c d).0) xs h) short (omega arith)

-- one more digit of a number
pub value-step : (base i : ℕ) (xs : List ℕ) → list_all is_digit xs ≡ true → i < length xs
    → digits_value base (take i xs) * base + (get_or xs i 0 - 48) ≡ digits_value base (take (i + 1) xs)
value-step base i xs h lt =
    let e = digits_value_more base xs i lt in
    let d = (digit-value (get_or xs i 0) (list_all-at is_digit xs i 0 h lt)).0 in
    sym (e ∙ ap (λ x. digits_value base (take i xs) * base + x) d)

pub value-bound : (base i : ℕ) (xs : List ℕ) → 1 ≤ base → list_all is_digit xs ≡ true → i < length xs → digits_value base xs < 2 ^ 64
    → digits_value base (take i xs) * base + (get_or xs i 0 - 48) < 2 ^ 64
value-bound base i xs one h lt fits =
    let e = value-step base i xs h lt in
    let most = digits_value-take-le base xs (i + 1) one in
    omega (arith, e, most, fits)

pub decimal-none-short : (xs : List ℕ) → length xs < 1 → decimal_of xs ≡ None
unfolding decimal_of
decimal-none-short xs h = rw (below 1 (length xs) 19 (list_all is_digit xs) h) refl

pub decimal-none-long : (xs : List ℕ) → 19 < length xs → decimal_of xs ≡ None
unfolding decimal_of
decimal-none-long xs h = rw (above 1 (length xs) 19 (list_all is_digit xs) h) refl

pub decimal-digits : (xs : List ℕ) → 1 ≤ length xs → length xs ≤ 19 → decimal_of xs ≡ (if list_all is_digit xs then Some (digits_value 10 xs) else None)
unfolding decimal_of
decimal-digits xs a b = rw (held 1 (length xs) 19 (list_all is_digit xs) a b) refl

pub ruleset decimals = (decimal-none-short, decimal-none-long, decimal-digits, decimal-fits)

pub label-none-short : (xs : List ℕ) → length xs < 1 → label_field xs ≡ None
unfolding label_field
label-none-short xs h = rw (below 1 (length xs) 3 (list_all is_octal_digit xs) h) refl

pub label-none-long : (xs : List ℕ) → 3 < length xs → label_field xs ≡ None
unfolding label_field
label-none-long xs h = rw (above 1 (length xs) 3 (list_all is_octal_digit xs) h) refl

pub label-digits : (xs : List ℕ) → 1 ≤ length xs → length xs ≤ 3
    → label_field xs ≡ (if list_all is_octal_digit xs then (if nat_le (digits_value 8 xs) 255 then Some (digits_value 8 xs) else None) else None)
unfolding label_field
label-digits xs a b = rw (held 1 (length xs) 3 (list_all is_octal_digit xs) a b) refl

pub ruleset labels = (label-none-short, label-none-long, label-digits, octal-fits, octal-digits)

pub name-none-short : (xs : List ℕ) → length xs < 1 → is_name xs ≡ false
unfolding is_name
name-none-short xs h = below 1 (length xs) 16 (list_all is_name_byte xs) h

pub name-none-long : (xs : List ℕ) → 16 < length xs → is_name xs ≡ false
unfolding is_name
name-none-long xs h = above 1 (length xs) 16 (list_all is_name_byte xs) h

pub name-bytes : (xs : List ℕ) → 1 ≤ length xs → length xs ≤ 16 → is_name xs ≡ list_all is_name_byte xs
unfolding is_name
name-bytes xs a b = held 1 (length xs) 16 (list_all is_name_byte xs) a b

pub ruleset names = (name-none-short, name-none-long, name-bytes)

-- the set that is read, where these digits are left after `last`
abbrev pub left_subframes : ℕ → ℕ → List ℕ → Option ℕ
left_subframes last so_far rest =
    if list_all is_subframe_digit rest && is_increasing (last ∷ rest) then Some (so_far + sum_by subframe_bit rest) else None

start-by : (a l lt inc : Bool) (s : ℕ) → (a ≡ true → lt ≡ true)
    → (if (a && l) && inc then Some s else None) ≡ (if (a && l) && (lt && inc) then Some (0 + s) else None)
start-by false l lt inc s h = refl
start-by true l lt inc s h = rw (h refl, zero-add s) refl

pub left-start : (xs : List ℕ) → 1 ≤ length xs → subframes_of xs ≡ left_subframes 48 0 xs
unfolding subframes_of
left-start [] h = absurd (omega arith)
left-start (x ∷ xs) h =
    let e : nat_le 1 (length (x ∷ xs)) ≡ true = grind (arith, nat_tests) in
    rw e (start-by (is_subframe_digit x) (list_all is_subframe_digit xs) (nat_lt 48 x) (is_increasing (x ∷ xs)) (sum_by subframe_bit (x ∷ xs)) (digit-above x))
  where
    digit-above : (x : ℕ) → is_subframe_digit x ≡ true → nat_lt 48 x ≡ true
    digit-above x h = grind (arith, nat_tests)

stop-by : (a l lt inc : Bool) (s : ℕ) → (a && lt) ≡ false → (if (a && l) && (lt && inc) then Some s else None) ≡ None
stop-by false l lt inc s h = refl
stop-by true false lt inc s h = refl
stop-by true true false inc s h = refl
stop-by true true true inc s h = absurd (true≢false h)

go-by : (a l lt inc : Bool) (s t : ℕ) → a ≡ true → lt ≡ true → s ≡ t
    → (if (a && l) && (lt && inc) then Some s else None) ≡ (if l && inc then Some t else None)
go-by true l true inc s t a b e = rw e refl
go-by false l lt inc s t a b e = absurd (false≢true a)
go-by true l false inc s t a b e = absurd (false≢true b)

stop-test : (last d : ℕ) → (d ≤ last) ⊎ (52 < d) → (is_subframe_digit d && nat_lt last d) ≡ false
stop-test last d h = grind (arith, nat_tests)

pub left-stop : (last so_far d : ℕ) (rest : List ℕ) → (d ≤ last) ⊎ (52 < d) → left_subframes last so_far (d ∷ rest) ≡ None
left-stop last so_far d rest h =
    stop-by (is_subframe_digit d) (list_all is_subframe_digit rest) (nat_lt last d) (is_increasing (d ∷ rest)) (so_far + sum_by subframe_bit (d ∷ rest))
    (stop-test last d h)

is-digit : (d : ℕ) → 48 < d → d ≤ 52 → is_subframe_digit d ≡ true
is-digit d a b = grind (arith, nat_tests)

pub left-next : (last so_far d : ℕ) (rest : List ℕ) → 48 ≤ last → last < d → d ≤ 52
    → left_subframes last so_far (d ∷ rest) ≡ left_subframes d (so_far + subframe_bit d) rest
left-next last so_far d rest low lt high =
    go-by (is_subframe_digit d) (list_all is_subframe_digit rest) (nat_lt last d) (is_increasing (d ∷ rest)) _ _
    (is-digit d (omega arith) high) (lt-ltb last d lt)
    (ap (λ (n : ℕ). so_far + n) (sum_by-cons subframe_bit d rest) ∙ sym (add_assoc so_far (subframe_bit d) (sum_by subframe_bit rest)))

-- a set below the bit of the last digit stays below the next one's with it
pub set-bound : (last so_far d : ℕ) → 48 ≤ last → last < d → so_far < 2 ^ (last - 48) → so_far + subframe_bit d < 2 ^ (d - 48)
set-bound last so_far d low lt small =
    let below_digit : last - 48 ≤ d - 49 = omega arith in
    let grows : 2 ^ (last - 48) ≤ 2 ^ (d - 49) = pow-le-pow_right {n = 2} (omega arith) below_digit in
    let e : d - 48 ≡ suc (d - 49) = omega arith in
    let p : 2 ^ (d - 48) ≡ 2 ^ (d - 49) * 2 = ap (λ (k : ℕ). 2 ^ k) e ∙ pow-suc 2 (d - 49) in
    omega (arith, grows, p, small)

pub set-high : (last so_far : ℕ) → last ≤ 52 → so_far < 2 ^ (last - 48) → so_far ≤ 15
set-high last so_far high small =
    let short : last - 48 ≤ 4 = omega arith in
    let most : 2 ^ (last - 48) ≤ 2 ^ 4 = pow-le-pow_right {n = 2} (omega arith) short in
    omega (arith, most, small)

pub bit-low : (d : ℕ) → 1 ≤ subframe_bit d
bit-low d = one-le-pow (d - 49) 2 (omega arith)

-- the digit at an index is the first of those that are left there
pub left-at : (last so_far i : ℕ) (xs : List ℕ) → i < length xs
    → left_subframes last so_far (drop i xs) ≡ left_subframes last so_far (get_or xs i 0 ∷ drop (i + 1) xs)
left-at last so_far i xs lt = ap (left_subframes last so_far) (drop-cons xs i 0 lt ∙ ap (λ (k : ℕ). get_or xs i 0 ∷ drop k xs) (sym (add-one i)))

pub subframes-empty : (xs : List ℕ) → length xs ≡ 0 → subframes_of xs ≡ None
unfolding subframes_of
subframes-empty [] h = refl
subframes-empty (x ∷ xs) h = absurd (omega arith)
