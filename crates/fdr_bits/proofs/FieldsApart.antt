-- A field of a word is kept where other fields of the word are written, and reads back once it was written itself.
use Rattle.std.proofs.Common.{◌≡◌, ℕ, ◌+◌, ◌-◌, ◌/◌, ◌%◌, ◌^◌, ◌<◌, ◌≤◌, ◌⊎◌, inl, inr, sym, ap, ◌∙◌, ⊎_elim, arith}
use Rattle.std.specs.Int.{bit_at as nat_bit}
use Rattle.std.proofs.lemmas.Nat.{shr-shr, shr_split, mod-pow-add, mod_low, mod_below, pow_pos, field_of as field_below}
use Rattle.std.proofs.lemmas.Nat.Bits.{bit_at_cat_low}
use Rattle.fdr_bits.specs.Fields.{field_of, with_field}
use Rattle.fdr_bits.proofs.FieldLemmas.{field_of-with_field, with_field_below, with_field_above}

-- the low bits of a number are those of its further low bits
mod_of_mod : (x a b : ℕ) → b ≤ a → x % 2 ^ a % 2 ^ b ≡ x % 2 ^ b
mod_of_mod x a b low =
    let split : a ≡ (a - b) + b = omega arith in
    ap (λ n. x % 2 ^ n % 2 ^ b) split
    ∙ ap (λ n. n % 2 ^ b) (mod-pow-add x (a - b) b)
    ∙ mod_low (x / 2 ^ b % 2 ^ (a - b)) b (x % 2 ^ b) (mod_below x (2 ^ b) (pow_pos b))

-- a field rests on the bits below its end alone, and on those from its beginning on
field_from_below : (x y b m a : ℕ) → b + m ≤ a → x % 2 ^ a ≡ y % 2 ^ a → field_of x b m ≡ field_of y b m
field_from_below x y b m a low same =
    let reorder : b + m ≡ m + b = omega arith in
    sym (field_below x m b)
    ∙ ap (λ n. n / 2 ^ b) (sym (mod_of_mod x a (m + b) (omega arith)) ∙ ap (λ n. n % 2 ^ (m + b)) same ∙ mod_of_mod y a (m + b) (omega arith))
    ∙ field_below y m b

field_from_above : (x y b m a : ℕ) → a ≤ b → x / 2 ^ a ≡ y / 2 ^ a → field_of x b m ≡ field_of y b m
field_from_above x y b m a high same =
    let split : b ≡ a + (b - a) = omega arith in
    ap (λ n. x / 2 ^ n % 2 ^ m) split
    ∙ ap (λ n. n % 2 ^ m) (sym (shr-shr x a (b - a)) ∙ ap (λ n. n / 2 ^ (b - a)) same ∙ shr-shr y a (b - a))
    ∙ ap (λ n. y / 2 ^ n % 2 ^ m) (sym split)

-- a field that is written changes no other
pub field_of-with_field_apart : (word a n v b m : ℕ) → v < 2 ^ n → (b + m ≤ a) ⊎ (a + n ≤ b) → field_of (with_field word a n v) b m ≡ field_of word b m
field_of-with_field_apart word a n v b m fits apart =
    ⊎_elim
    (λ (below : b + m ≤ a). field_from_below (with_field word a n v) word b m a below (with_field_below word a n v))
    (λ (above : a + n ≤ b). field_from_above (with_field word a n v) word b m (a + n) above (with_field_above word a n v fits))
    apart

-- ---- the bits of a word after a field was written

bit_of_low : (x n j : ℕ) → j < n → nat_bit (x % 2 ^ n) j ≡ nat_bit x j
bit_of_low x n j few = sym (bit_at_cat_low (x / 2 ^ n) n (x % 2 ^ n) j few) ∙ ap (λ y. nat_bit y j) (shr_split x n)

-- those of the field
pub with_field_bit : (word a n v b : ℕ) → v < 2 ^ n → a ≤ b → b < a + n → nat_bit (with_field word a n v) b ≡ nat_bit v (b - a)
with_field_bit word a n v b fits low high =
    let new = with_field word a n v in
    let split : b ≡ a + (b - a) = omega arith in
    ap (nat_bit new) split
    ∙ ap (λ x. x % 2) (sym (shr-shr new a (b - a)))
    ∙ sym (bit_of_low (new / 2 ^ a) n (b - a) (omega arith))
    ∙ ap (λ x. nat_bit x (b - a)) (field_of-with_field word a n v fits)

-- and all others
pub with_field_other_bit : (word a n v b : ℕ) → v < 2 ^ n → (b < a) ⊎ (a + n ≤ b) → nat_bit (with_field word a n v) b ≡ nat_bit word b
with_field_other_bit word a n v b fits apart =
    field_of-with_field_apart word a n v b 1 fits
    (⊎_elim (λ (below : b < a). inl (omega arith)) (λ (above : a + n ≤ b). inr above) apart)
