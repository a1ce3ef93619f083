-- At which places of a word the level turns, and the 64 levels of a word as a decoder takes them.
use Rattle.std.proofs.Common.{◌≡◌, ℕ, zero, suc, ◌+◌, ◌-◌, ◌*◌, ◌/◌, ◌%◌, ◌^◌, ◌<◌, Bool, true, false, ◌∷◌, get_or}
use Rattle.std.proofs.Common.{refl, sym, ap, ◌∙◌, subst, arith, bit_and, bit_or, bit_xor, eqb, eqb→eq}
use Rattle.std.specs.Prelude.{not, min, ◌==◌}
use Rattle.std.specs.Bool.{beq}
use Rattle.std.specs.Int.{bit_at}
use Rattle.std.proofs.lemmas.List.FromFn.{get_or-map-range_with_len}
use Rattle.std.proofs.lemmas.Nat.{or_shifted, shr_split}
use Rattle.std.proofs.lemmas.Nat.Bits.{bit_at_and, bit_at_cat_low, bit_at-lt, bit_at_lowest, bit_at-suc, bit_at_xor}
use mir.Val.{bool_byte}
use Rattle.fdr_biphase.specs.declared.decoder.Decoder.{Decoder}
use Rattle.fdr_biphase.specs.declared.decoder.Fitting.TheVariants.{One}
use Rattle.fdr_biphase.specs.Phases.{turns_at}
use Rattle.fdr_biphase.specs.Past.{DecoderPast, RepresentsDecoder, with_word}
use Rattle.fdr_biphase.specs.Words.{word_bits}
use Rattle.fdr_biphase.proofs.Bounded.{each_below}
use Rattle.fdr_biphase.proofs.Paired.{before_place, cells_between, cells_whole, turn}

-- the levels of a word
abbrev pub levels_in : ℕ → ℕ → Bool
levels_in w p = bit_at w p == 1

-- ---- the levels before those of a word, as a word

moved : (w l : ℕ) → w < 2 ^ 64 → l < 2 → bit_or (w * 2 ^ 1 % 2 ^ 64) l ≡ (w % 2 ^ 63) * 2 ^ 1 + l
moved w l small bit =
    let e : w * 2 ^ 1 % 2 ^ 64 ≡ (w % 2 ^ 63) * 2 ^ 1 = omega arith in
    ap (λ (x : ℕ). bit_or x l) e ∙ or_shifted (w % 2 ^ 63) 1 l bit

low_bit : (w k q : ℕ) → q < k → bit_at (w % 2 ^ k) q ≡ bit_at w q
low_bit w k q low = sym (bit_at_cat_low (w / 2 ^ k) k (w % 2 ^ k) q low) ∙ ap (λ (x : ℕ). bit_at x q) (shr_split w k)

moved_first : (w l : ℕ) → w < 2 ^ 64 → l < 2 → bit_at (bit_or (w * 2 ^ 1 % 2 ^ 64) l) 0 ≡ l
moved_first w l small bit =
    let e : ((w % 2 ^ 63) * 2 ^ 1 + l) % 2 ≡ l = omega arith in
    ap (λ (x : ℕ). bit_at x 0) (moved w l small bit) ∙ bit_at_lowest ((w % 2 ^ 63) * 2 ^ 1 + l) ∙ e

moved_next : (w l q : ℕ) → w < 2 ^ 64 → l < 2 → q < 63 → bit_at (bit_or (w * 2 ^ 1 % 2 ^ 64) l) (suc q) ≡ bit_at w q
moved_next w l q small bit low =
    let e : ((w % 2 ^ 63) * 2 ^ 1 + l) / 2 ≡ w % 2 ^ 63 = omega arith in
    ap (λ (x : ℕ). bit_at x (suc q)) (moved w l small bit) ∙ bit_at-suc ((w % 2 ^ 63) * 2 ^ 1 + l) q ∙ ap (λ (x : ℕ). bit_at x q) e ∙ low_bit w 63 q low

differ : (a b : ℕ) → a < 2 → b < 2 → ((a + b) % 2 == 1) ≡ not (beq (a == 1) (b == 1))
differ zero zero p q = refl
differ zero (suc zero) p q = refl
differ (suc zero) zero p q = refl
differ (suc zero) (suc zero) p q = refl
differ zero (suc (suc b)) p q = absurd (omega arith)
differ (suc zero) (suc (suc b)) p q = absurd (omega arith)
differ (suc (suc a)) b p q = absurd (omega arith)

one_is : (last : Bool) → (bool_byte last == 1) ≡ last
one_is true = refl
one_is false = refl

is_bit : (last : Bool) → bool_byte last < 2
is_bit true = omega arith
is_bit false = omega arith

before_bit : (w : ℕ) (last : Bool) → w < 2 ^ 64 → (p : ℕ) → p < 64
    → (bit_at (bit_or (w * 2 ^ 1 % 2 ^ 64) (bool_byte last)) p == 1) ≡ before_place last (levels_in w) p
before_bit w last small zero low = ap (λ (k : ℕ). k == 1) (moved_first w (bool_byte last) small (is_bit last)) ∙ one_is last
before_bit w last small (suc q) low = ap (λ (k : ℕ). k == 1) (moved_next w (bool_byte last) q small (is_bit last) (omega arith))

level_there : (w p : ℕ) → p < 64 → get_or (word_bits 64 w) p false ≡ levels_in w p
unfolding word_bits
level_there w p low = get_or-map-range_with_len (levels_in w) 0 64 p p false low (omega arith)

level_before_there : (last : Bool) (w p : ℕ) → p < 64 → get_or (last ∷ word_bits 64 w) p false ≡ before_place last (levels_in w) p
level_before_there last w zero low = refl
level_before_there last w (suc q) low = level_there w q (omega arith)

-- the levels of a word, after the one before it, as a list
turn_of : (last : Bool) (w p : ℕ) → p < 64 → turns_at (last ∷ word_bits 64 w) (p + 1) ≡ turn last (levels_in w) p
turn_of last w p low =
    let next : p + 1 ≡ suc p = omega arith in
    let same : p + 1 - 1 ≡ p = omega arith in
    let all = last ∷ word_bits 64 w in
    ap (λ (k : ℕ). not (beq (get_or all k false) (get_or all (p + 1 - 1) false))) next
    ∙ ap (λ (k : ℕ). not (beq (get_or (word_bits 64 w) p false) (get_or all k false))) same
    ∙ ap (λ (b : Bool). not (beq b (get_or all p false))) (level_there w p low)
    ∙ ap (λ (b : Bool). not (beq (levels_in w p) b)) (level_before_there last w p low)

pub turned : (w : ℕ) (last : Bool) → w < 2 ^ 64 → (p : ℕ) → p < 64
    → (bit_at (bit_xor w (bit_or (w * 2 ^ 1 % 2 ^ 64) (bool_byte last))) p == 1) ≡ turns_at (last ∷ word_bits 64 w) (p + 1)
turned w last small p low =
    let before = bit_or (w * 2 ^ 1 % 2 ^ 64) (bool_byte last) in
    ap (λ (k : ℕ). k == 1) (bit_at_xor w before p) ∙ differ (bit_at w p) (bit_at before p) (bit_at-lt w p) (bit_at-lt before p)
    ∙ ap (λ (b : Bool). not (beq (levels_in w p) b)) (before_bit w last small p low) ∙ sym (turn_of last w p low)

-- ---- what a decoder takes

kept_one : (a m : ℕ) → m ≡ 1 → a < 2 → min a m ≡ 1 → a ≡ 1
kept_one a m one bit is = omega (arith, is)

-- where a mask is kept whole each place of it is set
all_set : (t : ℕ) → bit_and t 6148914691236517205 ≡ 6148914691236517205 → (i : ℕ) → i < 32 → bit_at t (2 * i) ≡ 1
all_set t whole i low =
    let set : bit_at 6148914691236517205 (2 * i) ≡ 1 =
    eqb→eq _ 1 (each_below (λ (i : ℕ). eqb (bit_at 6148914691236517205 (2 * i)) 1) 32 tt i low) in
    let e : min (bit_at t (2 * i)) (bit_at 6148914691236517205 (2 * i)) ≡ 1 =
    sym (bit_at_and t 6148914691236517205 (2 * i)) ∙ ap (λ (x : ℕ). bit_at x (2 * i)) whole ∙ set in
    kept_one (bit_at t (2 * i)) (bit_at 6148914691236517205 (2 * i)) set (bit_at-lt t (2 * i)) e

-- the place after an even one
next_bit : (t i : ℕ) → bit_at (t / 2) (2 * i) ≡ bit_at t (2 * i + 1)
next_bit t i = let e : suc (2 * i) ≡ 2 * i + 1 = omega arith in sym (bit_at-suc t (2 * i)) ∙ ap (bit_at t) e

-- what `turns` says of a word after a level
abbrev pub AreTurns : Bool → ℕ → ℕ → Type 0
AreTurns last w t = (p : ℕ) → p < 64 → (bit_at t p == 1) ≡ turns_at (last ∷ word_bits 64 w) (p + 1)

turn_is : (last : Bool) (w t : ℕ) → AreTurns last w t → (p : ℕ) → p < 64 → turn last (levels_in w) p ≡ (bit_at t p == 1)
turn_is last w t are p low = sym (are p low ∙ turn_of last w p low)

last_level : (w : ℕ) → w < 2 ^ 64 → (bit_at w 63 == 1) ≡ eqb (w / 2 ^ 63) 1
last_level w small = let e : bit_at w 63 ≡ w / 2 ^ 63 = omega arith in ap (λ (k : ℕ). eqb k 1) e

pub taken_whole : (d : Decoder) (past : DecoderPast) (phase w t r : ℕ) → RepresentsDecoder d past → d.fitting ≡ One phase → d.count % 2 ≡ phase → w < 2 ^ 64
    → AreTurns d.last w t → bit_and t 6148914691236517205 ≡ 6148914691236517205 → ((i : ℕ) → i < 32 → bit_at r i ≡ bit_at (t / 2) (2 * i))
    → RepresentsDecoder (record { count = d.count + 64; last = eqb (w / 2 ^ 63) 1; fitting = d.fitting; ended = d.ended }) (with_word past w r)
unfolding word_bits
taken_whole d past phase w t r st fitted here small are begin bits =
    let stands = cells_whole d past phase (levels_in w) (levels_in r) 32 st fitted here
    (λ n low. turn_is d.last w t are (2 * n) (omega arith) ∙ ap (λ (k : ℕ). k == 1) (all_set t begin n low))
    (λ n low. turn_is d.last w t are (2 * n + 1) (omega arith) ∙ ap (λ (k : ℕ). k == 1) (sym (bits n low ∙ next_bit t n))) in
    subst (λ (l : Bool). RepresentsDecoder (record { count = d.count + 64; last = l; fitting = d.fitting; ended = d.ended }) (with_word past w r))
    (last_level w small) stands

pub taken_between : (d : Decoder) (past : DecoderPast) (phase w t r : ℕ) → RepresentsDecoder d past → d.fitting ≡ One phase → (d.count % 2 ≡ phase → ⊥)
    → w < 2 ^ 64 → AreTurns d.last w t → bit_and (t / 2) 6148914691236517205 ≡ 6148914691236517205 → ((i : ℕ) → i < 32 → bit_at r i ≡ bit_at t (2 * i))
    → RepresentsDecoder (record { count = d.count + 64; last = eqb (w / 2 ^ 63) 1; fitting = d.fitting; ended = d.ended }) (with_word past w r)
unfolding word_bits
taken_between d past phase w t r st fitted inside small are begin bits =
    let stands = cells_between d past phase (levels_in w) (levels_in r) 32 st fitted inside
    (λ n low. turn_is d.last w t are (2 * n) (omega arith) ∙ ap (λ (k : ℕ). k == 1) (sym (bits n low)))
    (λ n low. turn_is d.last w t are (2 * n + 1) (omega arith) ∙ ap (λ (k : ℕ). k == 1) (sym (next_bit t n) ∙ all_set (t / 2) begin n low)) in
    subst (λ (l : Bool). RepresentsDecoder (record { count = d.count + 64; last = l; fitting = d.fitting; ended = d.ended }) (with_word past w r))
    (last_level w small) stands
