-- When a place meets the counter's word.
use Rattle.std.proofs.Common.{◌≡◌, ℕ, ◌+◌, ◌-◌, ◌*◌, ◌/◌, ◌%◌, ◌<◌, ◌≤◌, Bool, true, false, ◌&&◌, ◌==◌, nat_le, length, get_or, inl, inr, ap, sym, ◌∙◌, zero}
use Rattle.std.proofs.Common.{suc, zero-add, arith}
use Rattle.std.specs.List.{list_any, range_with_len}
use Rattle.std.proofs.Math.Nat.{mod-eq_of_lt}
use Rattle.std.proofs.lemmas.Nat.{mul-add-lt, div-mul-add, mod-mul-add, mod_below}
use Rattle.std.proofs.lemmas.Bool.Decides.{nat_tests}
use Rattle.std.proofs.lemmas.Bool.{and_from, and_parts, or_cases, eq-eqb, eqb-true, le-leb, lt-leb, leb-true, and_left, and_right}
use Rattle.std.proofs.lemmas.List.FromFn.{length-range_with_len, get_or-range_with_len}
use Rattle.std.proofs.lemmas.List.Folds.{list_any_at}
use Rattle.fdr_frame.specs.Slots.{frame_of, subframe_of, word_of, is_counter}
use Rattle.fdr_frame.proofs.WordCounts.{word_count_bounds}
use Rattle.fdr_table.specs.Rows.{FrameRow, PlaceRow}
use Rattle.fdr_table.specs.Bounds.{periods}
use Rattle.fdr_table.specs.Ranges.{IsFrameInRange, IsPlaceInRange}
use Rattle.fdr_table.specs.Fields.{is_among}
use Rattle.fdr_check.specs.Occurrences.{has_subframe, is_on_word, occurs}
use Rattle.fdr_check.specs.Faults.{meets_counter}
use Rattle.fdr_check.proofs.Walking.{frame_by_subframe}
use Rattle.fdr_check.proofs.Marking.{same_bool}

pub any_in_range : (t : ℕ → Bool) (a n : ℕ) → list_any t (range_with_len a n) ≡ true → (k : ℕ) × (a ≤ k) × (k < a + n) × (t k ≡ true)
any_in_range t a zero h = absurd (cc)
any_in_range t a (suc n) h = elim (or_cases (t a) (list_any t (range_with_len (a + 1) n)) h) [
  | inl here ↦ (a, omega arith, omega arith, here)
  | inr later ↦ let k = any_in_range t (a + 1) n later in (k.0, omega (arith, k.1), omega (arith, k.2), k.3)
]

pub any_from_range : (t : ℕ → Bool) (n k : ℕ) → k < n → t k ≡ true → list_any t (range_with_len 0 n) ≡ true
any_from_range t n k l h =
    let at : get_or (range_with_len 0 n) k 0 ≡ k = get_or-range_with_len 0 n k 0 l ∙ zero-add k in
    let within : k < length (range_with_len 0 n) = omega (arith, length-range_with_len 0 n) in
    list_any_at t (range_with_len 0 n) k 0 within (ap t at ∙ h)

pub period_few : (n : ℕ) → is_among periods n ≡ true → n ≤ 16
period_few n h = grind (arith, nat_tests)

-- a slot in the counter's word of a frame that the place is in
counter_slot : (w c s p : ℕ) → s < 4 → p < w → c < 16
    → ((c * 4 + s) * w + p < 64 * w) × (frame_of w ((c * 4 + s) * w + p) ≡ c) × (subframe_of w ((c * 4 + s) * w + p) ≡ s + 1)
    × (word_of w ((c * 4 + s) * w + p) ≡ p + 1)
counter_slot w c s p low within few =
    let at = (c * 4 + s) * w + p in
    let row : at / w ≡ c * 4 + s = div-mul-add (c * 4 + s) w p within in
    let below : at < w * 64 = mul-add-lt (c * 4 + s) w p 64 (omega arith) within in (
      omega (arith, below),
      frame_by_subframe w at ∙ ap (λ q. q / 4) row ∙ (omega arith),
      ap (λ q. q % 4 + 1) row ∙ (omega arith),
      ap (λ q. q + 1) (mod-mul-add (c * 4 + s) w p within),
    )

pub meets_by_word : (f : FrameRow) (p : PlaceRow) → IsFrameInRange f → IsPlaceInRange p
    → ((nat_le f.cword f.words && has_subframe p.subs f.csub) && is_on_word p f.cword) ≡ meets_counter f p
unfolding meets_counter
meets_by_word f p fits in_range =
    let w = f.words in
    let some = word_count_bounds w fits.words in
    let t : ℕ → Bool = λ k. occurs w p k && is_counter w f.cword f.csub k in
    same_bool _ _
    (λ h.
    let outer = and_parts (nat_le f.cword w && has_subframe p.subs f.csub) (is_on_word p f.cword) h in
    let inner = and_parts (nat_le f.cword w) (has_subframe p.subs f.csub) outer.0 in
    let few : p.cycle < 16 = omega (arith, in_range.cycle, period_few p.period in_range.period) in
    let at = (p.cycle * 4 + (f.csub - 1)) * w + (f.cword - 1) in
    let slot = counter_slot w p.cycle (f.csub - 1) (f.cword - 1) (omega (arith, fits.csub_low, fits.csub_high))
    (omega (arith, leb-true _ _ inner.0, fits.cword_low)) few in
    let sub : subframe_of w at ≡ f.csub = omega (arith, slot.2, fits.csub_low) in
    let word : word_of w at ≡ f.cword = omega (arith, slot.3, fits.cword_low) in
    let cycle : frame_of w at % p.period ≡ p.cycle = ap (λ q. q % p.period) slot.1 ∙ mod-eq_of_lt in_range.cycle in
    let here : occurs w p at ≡ true =
    and_from ((frame_of w at % p.period == p.cycle) && has_subframe p.subs (subframe_of w at)) (is_on_word p (word_of w at))
    (and_from (frame_of w at % p.period == p.cycle) (has_subframe p.subs (subframe_of w at)) (eq-eqb _ _ cycle) (ap (has_subframe p.subs) sub ∙ inner.1))
    (ap (is_on_word p) word ∙ outer.1) in
    any_from_range t (64 * w) at slot.0 (and_from (occurs w p at) (is_counter w f.cword f.csub at) here
    (and_from (subframe_of w at == f.csub) (word_of w at == f.cword) (eq-eqb _ _ sub) (eq-eqb _ _ word))))
    (λ h.
    let found = any_in_range t 0 (64 * w) h in
    let k = found.0 in
    let both = and_parts (occurs w p k) (is_counter w f.cword f.csub k) found.3 in
    let counter = and_parts (subframe_of w k == f.csub) (word_of w k == f.cword) both.1 in
    let sub = eqb-true (subframe_of w k) f.csub counter.0 in
    let word = eqb-true (word_of w k) f.cword counter.1 in
    let outer = and_parts ((frame_of w k % p.period == p.cycle) && has_subframe p.subs (subframe_of w k)) (is_on_word p (word_of w k)) both.0 in
    let inner = and_parts (frame_of w k % p.period == p.cycle) (has_subframe p.subs (subframe_of w k)) outer.0 in
    let within : f.cword ≤ w = omega (arith, word, mod_below k w (omega (arith, some.0))) in
    and_from (nat_le f.cword w && has_subframe p.subs f.csub) (is_on_word p f.cword)
    (and_from (nat_le f.cword w) (has_subframe p.subs f.csub) (le-leb _ _ within) (ap (has_subframe p.subs) (sym sub) ∙ inner.1))
    (ap (is_on_word p) (sym word) ∙ outer.1))

-- the same by cases
pub meets_no_word : (f : FrameRow) (p : PlaceRow) → IsFrameInRange f → IsPlaceInRange p → f.words < f.cword → false ≡ meets_counter f p
meets_no_word f p fits in_range above =
    sym (and_left (nat_le f.cword f.words && has_subframe p.subs f.csub) (is_on_word p f.cword)
    (and_left (nat_le f.cword f.words) (has_subframe p.subs f.csub) (lt-leb _ _ above)))
    ∙ meets_by_word f p fits in_range

pub meets_no_subframe : (f : FrameRow) (p : PlaceRow) → IsFrameInRange f → IsPlaceInRange p → has_subframe p.subs f.csub ≡ false → false ≡ meets_counter f p
meets_no_subframe f p fits in_range out =
    sym (and_left (nat_le f.cword f.words && has_subframe p.subs f.csub) (is_on_word p f.cword)
    (and_right (nat_le f.cword f.words) (has_subframe p.subs f.csub) out))
    ∙ meets_by_word f p fits in_range

pub meets_word : (f : FrameRow) (p : PlaceRow) → IsFrameInRange f → IsPlaceInRange p → has_subframe p.subs f.csub ≡ true → f.cword ≤ f.words
    → is_on_word p f.cword ≡ meets_counter f p
meets_word f p fits in_range here within =
    ap (λ b. b && is_on_word p f.cword) (sym (and_from (nat_le f.cword f.words) (has_subframe p.subs f.csub) (le-leb _ _ within) here))
    ∙ meets_by_word f p fits in_range
