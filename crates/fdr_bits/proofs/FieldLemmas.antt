-- A field of a word is written by a mask.
use Rattle.std.proofs.Common.{◌≡◌, ℕ, suc, zero, ◌+◌, ◌-◌, ◌*◌, ◌/◌, ◌%◌, ◌^◌, ◌<◌, ◌≤◌, sym, ap, ◌∙◌, arith, add-zero}
use Rattle.std.specs.Prelude.{bit_and, bit_or}
use Rattle.std.proofs.lemmas.Nat.{pow-add, shr-shr, shr_split, shr_high, mod_low, mod_below, pow_pos, and_mask, and_block, or_block, and_comm, or_comm}
use Rattle.std.proofs.lemmas.Nat.{or_shifted, mul-le, one_shl, shl_whole, shr_below, div-add-mod'}
use Rattle.std.proofs.Math.Nat.{mod-eq_of_lt}
use Rattle.fdr_bits.specs.Fields.{field_of, with_field}

-- a word of its bits above a field, the field and the bits below it
parts : ℕ → ℕ → ℕ → ℕ → ℕ → ℕ
parts high field low a n = (high * 2 ^ n + field) * 2 ^ a + low

word_parts : (word a n : ℕ) → word ≡ parts (word / 2 ^ (a + n)) (field_of word a n) (word % 2 ^ a) a n
unfolding parts
word_parts word a n =
    sym (shr_split word a)
    ∙ ap (λ h. h * 2 ^ a + word % 2 ^ a) (sym (shr_split (word / 2 ^ a) n))
    ∙ ap (λ h. (h * 2 ^ n + field_of word a n) * 2 ^ a + word % 2 ^ a) (shr-shr word a n)

with_field_parts : (word a n v : ℕ) → with_field word a n v ≡ parts (word / 2 ^ (a + n)) v (word % 2 ^ a) a n
unfolding parts
with_field_parts word a n v = omega arith

mask_number : (x y z : ℕ) → 0 < x → 0 < y → z * (x * y) ≡ 65536 → 65535 - (x * y - x) ≡ ((z - 1) * y + 0) * x + (x - 1)
mask_number x y zero x_some y_some all = absurd (omega arith)
mask_number x y (suc z) x_some y_some all =
    let over : x * 1 ≤ x * y = mul-le x 1 x y (omega arith) (omega arith) in
    let less : suc z - 1 ≡ z = omega arith in
    rw less (omega (arith, over))

-- the complement of a mask has ones above and below the field
mask_parts : (a n m : ℕ) → m + (a + n) ≡ 16 → 65535 - (2 ^ (a + n) - 2 ^ a) ≡ parts (2 ^ m - 1) 0 (2 ^ a - 1) a n
unfolding parts
mask_parts a n m is =
    let field : 2 ^ (a + n) ≡ 2 ^ a * 2 ^ n = pow-add 2 a n in
    let all : 2 ^ m * (2 ^ a * 2 ^ n) ≡ 65536 = ap (λ x. 2 ^ m * x) (sym field) ∙ sym (pow-add 2 m (a + n)) ∙ ap (λ k. 2 ^ k) is in
    ap (λ x. 65535 - (x - 2 ^ a)) field ∙ mask_number (2 ^ a) (2 ^ n) (2 ^ m) (pow_pos a) (pow_pos n) all

and_zero : (x : ℕ) → bit_and x 0 ≡ 0
and_zero x = and_comm x 0

or_zero : (x : ℕ) → bit_or x 0 ≡ x
or_zero x = or_comm x 0

-- the word without its field
cleared_parts : (high field low a n m : ℕ) → high < 2 ^ m → field < 2 ^ n → low < 2 ^ a
    → bit_and (parts high field low a n) (parts (2 ^ m - 1) 0 (2 ^ a - 1) a n) ≡ parts high 0 low a n
unfolding parts
cleared_parts high field low a n m high_fits field_fits low_fits =
    and_block a (high * 2 ^ n + field) ((2 ^ m - 1) * 2 ^ n + 0) low (2 ^ a - 1) low_fits (omega (arith, pow_pos a))
    ∙ ap (λ h. h * 2 ^ a + bit_and low (2 ^ a - 1)) (and_block n high (2 ^ m - 1) field 0 field_fits (pow_pos n))
    ∙ ap (λ l. (bit_and high (2 ^ m - 1) * 2 ^ n + bit_and field 0) * 2 ^ a + l) (and_mask low a ∙ mod-eq_of_lt low_fits)
    ∙ ap (λ h. (h * 2 ^ n + bit_and field 0) * 2 ^ a + low) (and_mask high m ∙ mod-eq_of_lt high_fits)
    ∙ ap (λ f. (high * 2 ^ n + f) * 2 ^ a + low) (and_zero field)

-- the word with the field's new bits
joined_parts : (high v low a n : ℕ) → v < 2 ^ n → low < 2 ^ a → bit_or (parts high 0 low a n) (v * 2 ^ a) ≡ parts high v low a n
unfolding parts
joined_parts high v low a n v_fits low_fits =
    ap (bit_or ((high * 2 ^ n + 0) * 2 ^ a + low)) (sym (add-zero (v * 2 ^ a)))
    ∙ or_block a (high * 2 ^ n + 0) v low 0 low_fits (pow_pos a)
    ∙ ap (λ h. bit_or h v * 2 ^ a + bit_or low 0) (add-zero (high * 2 ^ n))
    ∙ ap (λ h. h * 2 ^ a + bit_or low 0) (or_shifted high n v v_fits)
    ∙ ap (λ l. (high * 2 ^ n + v) * 2 ^ a + l) (or_zero low)

-- where n bits from bit a on lie within twelve
pub record IsField (word a n v : ℕ) : Type 0 where
  pub word_fits : word < 2 ^ 12
  pub within : a + n ≤ 12
  pub fits : v < 2 ^ n

field_shift : (a n : ℕ) → a + n ≤ 12 → (1 * 2 ^ (a + n) % 65536 ≡ 2 ^ (a + n)) × (1 * 2 ^ a % 65536 ≡ 2 ^ a)
field_shift a n within = (one_shl (a + n) 16 (omega arith), one_shl a 16 (omega arith))

-- the mask is the field's ones
pub mask_order : (a n : ℕ) → a + n ≤ 12 → 1 * 2 ^ a % 65536 ≤ 1 * 2 ^ (a + n) % 65536
mask_order a n within =
    let over : 2 ^ a * 1 ≤ 2 ^ a * 2 ^ n = mul-le (2 ^ a) 1 (2 ^ a) (2 ^ n) (omega arith) (pow_pos n) in
    omega (arith, field_shift a n within, pow-add 2 a n, over)

-- the word is written by its mask
pub with_field_by_mask : (word a n v : ℕ) → IsField word a n v
    → bit_or (bit_and word (65535 - (1 * 2 ^ (a + n) % 65536 - 1 * 2 ^ a % 65536))) (v * 2 ^ a % 65536) ≡ with_field word a n v
with_field_by_mask word a n v h =
    let high = word / 2 ^ (a + n) in
    let low = word % 2 ^ a in
    let field = field_of word a n in
    let m = 16 - (a + n) in
    let all : m + (a + n) ≡ 16 = omega (arith, h.within) in
    let room : 2 ^ 12 ≤ 2 ^ 16 = omega arith in
    let word_below : word < 2 ^ (m + (a + n)) = rw all (omega (arith, h.word_fits)) in
    let high_fits : high < 2 ^ m = shr_below word m (a + n) word_below in
    let low_fits : low < 2 ^ a = mod_below word (2 ^ a) (pow_pos a) in
    let field_fits : field < 2 ^ n = mod_below (word / 2 ^ a) (2 ^ n) (pow_pos n) in
    ap (λ x. bit_or (bit_and word (65535 - (x - 1 * 2 ^ a % 65536))) (v * 2 ^ a % 65536)) (field_shift a n h.within).0
    ∙ ap (λ x. bit_or (bit_and word (65535 - (2 ^ (a + n) - x))) (v * 2 ^ a % 65536)) (field_shift a n h.within).1
    ∙ ap (λ x. bit_or (bit_and word (65535 - (2 ^ (a + n) - 2 ^ a))) x) (shl_whole v n a 16 h.fits (omega (arith, h.within)))
    ∙ ap (λ x. bit_or (bit_and word x) (v * 2 ^ a)) (mask_parts a n m all)
    ∙ ap (λ x. bit_or (bit_and x (parts (2 ^ m - 1) 0 (2 ^ a - 1) a n)) (v * 2 ^ a)) (word_parts word a n)
    ∙ ap (λ x. bit_or x (v * 2 ^ a)) (cleared_parts high field low a n m high_fits field_fits low_fits)
    ∙ joined_parts high v low a n h.fits low_fits
    ∙ sym (with_field_parts word a n v)

-- the field reads back
pub field_of-with_field : (word a n v : ℕ) → v < 2 ^ n → field_of (with_field word a n v) a n ≡ v
unfolding parts
field_of-with_field word a n v fits =
    ap (λ x. field_of x a n) (with_field_parts word a n v)
    ∙ ap (λ x. x % 2 ^ n) (shr_high (word / 2 ^ (a + n) * 2 ^ n + v) a (word % 2 ^ a) (mod_below word (2 ^ a) (pow_pos a)))
    ∙ mod_low (word / 2 ^ (a + n)) n v fits

-- the bits below the field are kept
pub with_field_below : (word a n v : ℕ) → with_field word a n v % 2 ^ a ≡ word % 2 ^ a
unfolding parts
with_field_below word a n v =
    ap (λ x. x % 2 ^ a) (with_field_parts word a n v)
    ∙ mod_low (word / 2 ^ (a + n) * 2 ^ n + v) a (word % 2 ^ a) (mod_below word (2 ^ a) (pow_pos a))

-- the bits above the field are kept
pub with_field_above : (word a n v : ℕ) → v < 2 ^ n → with_field word a n v / 2 ^ (a + n) ≡ word / 2 ^ (a + n)
unfolding parts
with_field_above word a n v fits =
    sym (shr-shr (with_field word a n v) a n)
    ∙ ap (λ x. x / 2 ^ a / 2 ^ n) (with_field_parts word a n v)
    ∙ ap (λ x. x / 2 ^ n) (shr_high (word / 2 ^ (a + n) * 2 ^ n + v) a (word % 2 ^ a) (mod_below word (2 ^ a) (pow_pos a)))
    ∙ shr_high (word / 2 ^ (a + n)) n v fits

below_whole : (x k m : ℕ) → x / k < m → x % k < k → x / k * k + x % k ≡ x → m * k ≡ 4096 → x < 4096
below_whole x k m high low split whole =
    let rows : (x / k + 1) * k ≤ m * k = mul-le (x / k + 1) k m k (omega arith) (omega arith) in
    omega arith

-- a written word has twelve bits
pub with_field_fits : (word a n v : ℕ) → IsField word a n v → with_field word a n v < 4096
with_field_fits word a n v h =
    let m = 12 - (a + n) in
    let all : m + (a + n) ≡ 12 = omega (arith, h.within) in
    let word_below : word < 2 ^ (m + (a + n)) = rw all h.word_fits in
    let high_fits : word / 2 ^ (a + n) < 2 ^ m = shr_below word m (a + n) word_below in
    let whole : 2 ^ m * 2 ^ (a + n) ≡ 4096 = sym (pow-add 2 m (a + n)) ∙ ap (λ k. 2 ^ k) all in
    let new = with_field word a n v in
    let split = div-add-mod' new (2 ^ (a + n)) in
    let rest : new % 2 ^ (a + n) < 2 ^ (a + n) = mod_below new (2 ^ (a + n)) (pow_pos (a + n)) in
    let same : new / 2 ^ (a + n) ≡ word / 2 ^ (a + n) = with_field_above word a n v h.fits in
    below_whole new (2 ^ (a + n)) (2 ^ m) (omega arith) rest split whole
