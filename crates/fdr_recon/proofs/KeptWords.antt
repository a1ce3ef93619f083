-- The words that a value keeps.
use Rattle.std.proofs.Common.{◌≡◌, ℕ, ◌+◌, ◌-◌, ◌*◌, ◌/◌, ◌%◌, ◌^◌, ◌<◌, ◌≤◌, true, false, [], length, None, ap, sym, ◌∙◌, arith, ⊎_elim, lit≤}
use Rattle.std.specs.Prelude.{◌&&◌, nat_lt, if◌then◌else◌, slice_get, unwrap_or, slice_index}
use Rattle.std.specs.List.{All}
use Rattle.std.proofs.lemmas.Bool.{cases_Bool, lt-ltb, le-ltb, ltb-true, cond_both, cond-true, cond-false, and_parts, and_left, and_right}
use Rattle.std.proofs.lemmas.Option.{unwrap_or-slice_get}
use Rattle.std.proofs.lemmas.Nat.{mod_below, shl_below}
use Rattle.std.proofs.lemmas.Nat.{shl_whole}
use Rattle.std.proofs.Math.Nat.{pow-le-pow_right, div-add-mod, div-div-eq-div-mul}
use Rattle.fdr_check.specs.Occurrences.{cycle_of}
use Rattle.fdr_recon.specs.Kept.{RebuildKept, kept_word, from_end, word_back}

pub kept_word-past : (k : RebuildKept) (back place : ℕ) → 4 * k.frame.words ≤ place → kept_word k back place ≡ 0
unfolding kept_word
kept_word-past k back place past =
    cond-false _ _ _ (and_left _ _ (le-ltb place (4 * k.frame.words) past))

-- the word as it is counted from the end
pub word_back-read : (k : RebuildKept) (n : ℕ)
    → unwrap_or (if nat_lt n (length k.words) then slice_get k.words (length k.words - n - 1) else None) 0 ≡ word_back k n
word_back-read k n =
    ⊎_elim
    (λ (t : nat_lt n (length k.words) ≡ true).
    ap (λ o. unwrap_or o 0) (cond-true _ _ _ t) ∙ unwrap_or-slice_get k.words (length k.words - n - 1) 0 ∙ sym (cond-true _ _ _ t))
    (λ (f : nat_lt n (length k.words) ≡ false). ap (λ o. unwrap_or o 0) (cond-false _ _ _ f) ∙ sym (cond-false _ _ _ f))
    (cases_Bool (nat_lt n (length k.words)))

pub kept_word-back : (k : RebuildKept) (back place n : ℕ) → place < 4 * k.frame.words → n ≡ from_end k.frame.words back place
    → word_back k n ≡ kept_word k back place
unfolding kept_word
kept_word-back k back place n within e =
    let j = from_end k.frame.words back place in
    let word = slice_index k.words (length k.words - j - 1) in
    ap (word_back k) e
    ∙ ap (λ b. if b && nat_lt j (length k.words) then word else 0) (sym (lt-ltb place (4 * k.frame.words) within))

pub word_back-small : (k : RebuildKept) (n : ℕ) → All (λ word. word < 4096) k.words → word_back k n < 4096
word_back-small k n small =
    cond_both (nat_lt n (length k.words)) (slice_index k.words (length k.words - n - 1)) 0 (λ (word : ℕ). word < 4096)
    (λ t. let below : n < length k.words = ltb-true _ _ t in small (length k.words - n - 1) 0 (omega arith))
    (λ _. omega arith)

pub kept_word-none : (k : RebuildKept) (back place : ℕ) → k.words ≡ [] → kept_word k back place ≡ 0
unfolding kept_word
kept_word-none k back place none =
    let few : length k.words ≤ from_end k.frame.words back place = omega (arith, ap length none) in
    cond-false _ _ _ (and_right _ _ (le-ltb (from_end k.frame.words back place) (length k.words) few))

pub kept_word-small : (k : RebuildKept) (back place : ℕ) → All (λ word. word < 4096) k.words → kept_word k back place < 4096
unfolding kept_word
kept_word-small k back place small =
    cond_both (nat_lt place (4 * k.frame.words) && nat_lt (from_end k.frame.words back place) (length k.words))
    (slice_index k.words (length k.words - from_end k.frame.words back place - 1)) 0 (λ (word : ℕ). word < 4096)
    (λ t. let below : from_end k.frame.words back place < length k.words = ltb-true _ _ (and_parts _ _ t).1 in
    small (length k.words - from_end k.frame.words back place - 1) 0 (omega arith))
    (λ _. omega arith)

-- the cycle of a bit by its slot
pub cycle_of_slot : (w at : ℕ) → at / 12 / (4 * w) ≡ cycle_of w at
cycle_of_slot w at = let bits : 12 * (4 * w) ≡ 48 * w = omega arith in div-div-eq-div-mul at 12 (4 * w) ∙ ap (λ n. at / n) bits

-- 12 bits, shifted by at most 36 places
pub shifted : (bits shift : ℕ) → bits < 2 ^ 12 → shift ≤ 36 → (bits * 2 ^ shift % 2 ^ 64 ≡ bits * 2 ^ shift) × (bits * 2 ^ shift < 2 ^ 48)
shifted bits shift small few =
    let within : 12 + shift ≤ 48 = omega arith in
    let power : 2 ^ (12 + shift) ≤ 2 ^ 48 = pow-le-pow_right {n = 2} (lit≤ tt) within in
    (shl_whole bits 12 shift 64 small (omega arith), omega (arith, shl_below bits 12 shift small, power))

-- ---- slots up to the end of a frame

-- a slot by how many slots follow it up to the end of the frame that has this cycle
pub slot_from_end : (w cycle slot : ℕ) → 0 < w → slot / (4 * w) ≤ cycle
    → 4 * w * (cycle + 1) - 1 - slot ≡ from_end w (cycle - slot / (4 * w)) (slot % (4 * w))
slot_from_end w cycle slot some le =
    let q = slot / (4 * w) in
    let whole : cycle - q + q ≡ cycle = omega (arith, le) in
    omega (arith, div-add-mod slot (4 * w), mod_below slot (4 * w) (omega arith), ap (λ n. 4 * w * n) whole)
