-- The walk over the slots in which a place occurs.
use Rattle.std.proofs.Common.{◌≡◌, ℕ, ◌+◌, ◌-◌, ◌*◌, ◌/◌, ◌%◌, ◌<◌, ◌≤◌, min, ◌≢◌, Bool, true, false, ◌&&◌, ◌==◌, nat_le, cond, List, [], ◌∷◌, ◌++◌, map}
use Rattle.std.proofs.Common.{length}
use Rattle.std.proofs.Common.{inl, inr, refl, sym, ap, ◌∙◌, suc, zero, zero-add, arith}
use Rattle.std.specs.List.{range_with_len, flat_map, filter}
use Rattle.std.proofs.Math.Nat.{div-div-eq-div-mul, mul_comm, zero-mod, add-mod_right, mod-eq_of_lt}
use Rattle.std.proofs.lemmas.Nat.{div-add-mod', div-mul-add, mod-mul-add}
use Rattle.std.proofs.lemmas.Bool.{and_left, and_right, and_from, and_parts, cases_eq, cases_Bool, eq-eqb, eqb-true, ne_eqb, le-leb, leb-true}
use Rattle.std.proofs.lemmas.Bool.{lt-leb, false_from_ne_true}
use Rattle.std.proofs.lemmas.Bool.{both_ways, cases_lt}
use Rattle.std.proofs.lemmas.List.{append-nil, append_assoc, map-append, length-append, length-map}
use Rattle.std.proofs.lemmas.List.Sums.{length-filter, count_by-le-length}
use Rattle.std.proofs.lemmas.List.FromFn.{length-range_with_len}
use Rattle.fdr_frame.specs.Slots.{frame_of, subframe_of, word_of}
use Rattle.fdr_table.specs.Rows.{PlaceRow}
use Rattle.fdr_check.specs.Occurrences.{has_subframe, is_on_word, occurs, begins_at, slots_of}
use Rattle.fdr_check.specs.Walks.{words_on, IsStep, slots_on, occurs_in_subframe, subframe_slots, frame_slots, starts_of}
use Rattle.fdr_check.proofs.Stretches.{filter-range_append, none_passes, next_kept, chunks, filter_moved, flat_map-range_append}
use Rattle.fdr_check.proofs.Stretches.{flat_map_agree, flat_map_none, flat_map-range_more}
use Rattle.fdr_check.proofs.Starting.{begins_in, begins_low, begins_slot}

pub frame_by_subframe : (w k : ℕ) → frame_of w k ≡ k / w / 4
frame_by_subframe w k = ap (λ n. k / n) (mul_comm 4 w) ∙ sym (div-div-eq-div-mul k w 4)

-- ---- the words of a subframe

single : (p : PlaceRow) (v : ℕ) → p.step ≡ 0 → is_on_word p v ≡ (v == p.word)
single p v e = ap (λ b. cond b (v == p.word) (nat_le p.word v && ((v - p.word) % p.step == 0))) (eq-eqb _ _ e)

stepped : (p : PlaceRow) (v : ℕ) → p.step ≢ 0 → is_on_word p v ≡ (nat_le p.word v && ((v - p.word) % p.step == 0))
stepped p v n = ap (λ b. cond b (v == p.word) (nat_le p.word v && ((v - p.word) % p.step == 0))) (ne_eqb _ _ n)

-- no word before the place's own is one of its words, and that is
before_word : (p : PlaceRow) (v : ℕ) → v < p.word → is_on_word p v ≡ false
before_word p v low = elim (cases_eq p.step 0) [
  | inl e ↦ single p v e ∙ ne_eqb v p.word (omega arith)
  | inr n ↦ stepped p v n ∙ and_left (nat_le p.word v) ((v - p.word) % p.step == 0) (lt-leb _ _ low)
]

pub at_word : (p : PlaceRow) → is_on_word p p.word ≡ true
at_word p = elim (cases_eq p.step 0) [
  | inl e ↦ single p p.word e ∙ eq-eqb p.word p.word refl
  | inr n ↦
      let none : p.word - p.word ≡ 0 = omega arith in
      stepped p p.word n ∙ and_from (nat_le p.word p.word) ((p.word - p.word) % p.step == 0) (le-leb _ _ (omega arith))
      (eq-eqb _ _ (ap (λ d. d % p.step) none ∙ zero-mod p.step))
]

pub step_single : (w : ℕ) (p : PlaceRow) → 0 < w → 1 ≤ p.word → p.step ≡ 0 → IsStep w p w
step_single w p some low e = record {
  positive = some;
  next = λ v on within. let same = eqb-true v p.word (sym (single p v e) ∙ on) in absurd (omega arith);
  between = λ v d on above below within.
      let same = eqb-true v p.word (sym (single p v e) ∙ on) in single p (v + d) e ∙ ne_eqb (v + d) p.word (omega arith);
}

pub step_many : (w : ℕ) (p : PlaceRow) → p.step ≢ 0 → IsStep w p p.step
step_many w p n = record {
  positive = omega arith;
  next = λ v on within.
      let two = and_parts (nat_le p.word v) ((v - p.word) % p.step == 0) (sym (stepped p v n) ∙ on) in
      let low = leb-true p.word v two.0 in
      let far : v + p.step - p.word ≡ v - p.word + p.step = omega arith in
      let rest : (v + p.step - p.word) % p.step ≡ 0 = ap (λ d. d % p.step) far ∙ add-mod_right (v - p.word) p.step ∙ eqb-true _ _ two.1 in
      stepped p (v + p.step) n
      ∙ and_from (nat_le p.word (v + p.step)) ((v + p.step - p.word) % p.step == 0) (le-leb _ _ (omega arith)) (eq-eqb _ _ rest);
  between = λ v d on above below within.
      let two = and_parts (nat_le p.word v) ((v - p.word) % p.step == 0) (sym (stepped p v n) ∙ on) in
      let low = leb-true p.word v two.0 in
      let none = eqb-true ((v - p.word) % p.step) 0 two.1 in
      let whole : v + d - p.word ≡ (v - p.word) / p.step * p.step + d = omega (arith, div-add-mod' (v - p.word) p.step) in
      let rest : (v + d - p.word) % p.step ≡ d = ap (λ x. x % p.step) whole ∙ mod-mul-add ((v - p.word) / p.step) p.step d below in
      stepped p (v + d) n ∙ and_right (nat_le p.word (v + d)) ((v + d - p.word) % p.step == 0) (ne_eqb _ _ (λ zero_is. omega arith));
}

-- those of the words before this one
abbrev pub words_before : ℕ → PlaceRow → ℕ → List ℕ
words_before w p word = filter (is_on_word p) (range_with_len 1 (min (word - 1) w))

pub no_words_before : (w : ℕ) (p : PlaceRow) → words_before w p p.word ≡ []
no_words_before w p = none_passes (is_on_word p) 1 (min (p.word - 1) w) (λ v low high. before_word p v (omega arith))

pub words_next : (w : ℕ) (p : PlaceRow) (n word : ℕ) → IsStep w p n → 1 ≤ word → word ≤ w → is_on_word p word ≡ true
    → words_before w p (word + n) ≡ words_before w p word ++ word ∷ []
words_next w p n word step low within on =
    let some = step.positive in
    let here : 1 + min (word - 1) w ≡ word = omega arith in
    next_kept (is_on_word p) 1 (min (word - 1) w) (min (word + n - 1) w) (omega arith) (ap (is_on_word p) here ∙ on)
    (λ v above below.
    let split : v ≡ word + (v - word) = omega arith in
    ap (is_on_word p) split ∙ step.between word (v - word) on (omega arith) (omega arith) (omega arith))
    ∙ ap (λ v. words_before w p word ++ v ∷ []) here

pub all_words : (w : ℕ) (p : PlaceRow) (word : ℕ) → w < word → words_before w p word ≡ words_on w p
unfolding words_on
all_words w p word past = let e : min (word - 1) w ≡ w = omega arith in ap (λ n. filter (is_on_word p) (range_with_len 1 n)) e

-- one more slot of a subframe
pub slots_next : (w : ℕ) (p : PlaceRow) (n word start : ℕ) (before old new : List ℕ) → IsStep w p n → 1 ≤ word → word ≤ w → is_on_word p word ≡ true
    → old ≡ before ++ map (λ v. start + (v - 1)) (words_before w p word) → new ≡ old ++ (start + (word - 1)) ∷ []
    → new ≡ before ++ map (λ v. start + (v - 1)) (words_before w p (word + n))
slots_next w p n word start before old new step low within on so_far more =
    let g : ℕ → ℕ = λ v. start + (v - 1) in
    more ∙ ap (λ xs. xs ++ g word ∷ []) so_far ∙ append_assoc before (map g (words_before w p word)) (g word ∷ [])
    ∙ ap (λ xs. before ++ xs) (sym (ap (map g) (words_next w p n word step low within on) ∙ map-append g (words_before w p word) (word ∷ [])))

pub no_slots_yet : (w : ℕ) (p : PlaceRow) (start : ℕ) (before : List ℕ) → before ≡ before ++ map (λ v. start + (v - 1)) (words_before w p p.word)
no_slots_yet w p start before = sym (append-nil before) ∙ ap (λ xs. before ++ map (λ v. start + (v - 1)) xs) (sym (no_words_before w p))

pub all_slots_on : (w : ℕ) (p : PlaceRow) (word start : ℕ) → w < word → map (λ v. start + (v - 1)) (words_before w p word) ≡ slots_on w p start
unfolding slots_on
all_slots_on w p word start past = ap (map (λ v. start + (v - 1))) (all_words w p word past)

-- ---- the subframes

-- the place occurs in a subframe of its frames where it is in the subframe
of_its_frame : (p : PlaceRow) (f s : ℕ) → s < 4 → f % p.period ≡ p.cycle → occurs_in_subframe (4 * f + s) p ≡ has_subframe p.subs (s + 1)
of_its_frame p f s few mine =
    let q : (4 * f + s) / 4 ≡ f = omega arith in
    let r : (4 * f + s) % 4 ≡ s = omega arith in
    ap (λ x. (x % p.period == p.cycle) && has_subframe p.subs ((4 * f + s) % 4 + 1)) q
    ∙ ap (λ b. b && has_subframe p.subs ((4 * f + s) % 4 + 1)) (eq-eqb _ _ mine)
    ∙ ap (λ x. has_subframe p.subs (x + 1)) r

-- whether a place occurs in a subframe of its frame, as a test of its subframes tells it
pub occurs_as_tested : (x p : PlaceRow) (f s : ℕ) (b : Bool) → x ≡ p → s < 4 → f % p.period ≡ p.cycle → has_subframe x.subs (s + 1) ≡ b
    → occurs_in_subframe (4 * f + s) p ≡ b
occurs_as_tested x p f s b same few mine test = of_its_frame p f s few mine ∙ ap (λ (y : PlaceRow). has_subframe y.subs (s + 1)) (sym same) ∙ test

pub in_subframe : (w : ℕ) (p : PlaceRow) (j : ℕ) → occurs_in_subframe j p ≡ true → subframe_slots w p j ≡ slots_on w p (j * w)
unfolding subframe_slots
in_subframe w p j here = ap (λ b. cond b (slots_on w p (j * w)) []) here

pub not_in_subframe : (w : ℕ) (p : PlaceRow) (j : ℕ) → occurs_in_subframe j p ≡ false → subframe_slots w p j ≡ []
unfolding subframe_slots
not_in_subframe w p j off = ap (λ b. cond b (slots_on w p (j * w)) []) off

-- a slot of a subframe
slot_occurs : (w : ℕ) (p : PlaceRow) (j i : ℕ) → i < w → occurs w p (j * w + i) ≡ (occurs_in_subframe j p && is_on_word p (1 + i))
slot_occurs w p j i within =
    let k = j * w + i in
    let sub : k / w ≡ j = div-mul-add j w i within in
    let word : word_of w k ≡ 1 + i = omega (arith, mod-mul-add j w i within) in
    ap (λ f. ((f % p.period == p.cycle) && has_subframe p.subs (subframe_of w k)) && is_on_word p (word_of w k)) (frame_by_subframe w k)
    ∙ ap (λ q. ((q / 4 % p.period == p.cycle) && has_subframe p.subs (q % 4 + 1)) && is_on_word p (word_of w k)) sub
    ∙ ap (λ v. occurs_in_subframe j p && is_on_word p v) word

slots_in_subframe : (w : ℕ) (p : PlaceRow) (j : ℕ) → filter (occurs w p) (range_with_len (j * w) w) ≡ subframe_slots w p j
unfolding slots_on words_on
slots_in_subframe w p j = elim (cases_Bool (occurs_in_subframe j p)) [
  | inl here ↦
      filter_moved (occurs w p) (is_on_word p) (λ v. j * w + (v - 1)) (j * w) 1 w
      (λ i l. slot_occurs w p j i l ∙ ap (λ b. b && is_on_word p (1 + i)) here) (λ i l. omega arith)
      ∙ sym (in_subframe w p j here)
  | inr off ↦
      none_passes (occurs w p) (j * w) w
      (λ x low high.
      let split : x ≡ j * w + (x - j * w) = omega arith in
      ap (occurs w p) split ∙ slot_occurs w p j (x - j * w) (omega arith) ∙ and_left (occurs_in_subframe j p) (is_on_word p (1 + (x - j * w))) off)
      ∙ sym (not_in_subframe w p j off)
]

pub slots_by_subframe : (w : ℕ) (p : PlaceRow) → slots_of w p ≡ flat_map (subframe_slots w p) (range_with_len 0 64)
unfolding slots_of
slots_by_subframe w p =
    let start : 0 ≡ 0 * w = omega arith in
    ap (λ a. filter (occurs w p) (range_with_len a (64 * w))) start ∙ chunks (occurs w p) w 0 64
    ∙ flat_map_agree (λ j. filter (occurs w p) (range_with_len (j * w) w)) (subframe_slots w p) 0 64 (λ j low high. slots_in_subframe w p j)

-- ---- the frames

other_frame : (w : ℕ) (p : PlaceRow) (j : ℕ) → j / 4 % p.period ≢ p.cycle → subframe_slots w p j ≡ []
other_frame w p j apart = not_in_subframe w p j (and_left (j / 4 % p.period == p.cycle) (has_subframe p.subs (j % 4 + 1)) (ne_eqb _ _ apart))

between_frames : (n c f d : ℕ) → c < n → f % n ≡ c → 0 < d → d < n → (f + d) % n ≢ c
between_frames n c f d within mine some below = λ e. elim (cases_lt (c + d) n) [
  | inl here ↦
      let whole : f + d ≡ f / n * n + (c + d) = omega (arith, div-add-mod' f n) in
      let rest : (f + d) % n ≡ c + d = ap (λ x. x % n) whole ∙ mod-mul-add (f / n) n (c + d) here in
      omega arith
  | inr past ↦
      let whole : f + d ≡ (f / n + 1) * n + (c + d - n) = omega (arith, div-add-mod' f n) in
      let rest : (f + d) % n ≡ c + d - n = ap (λ x. x % n) whole ∙ mod-mul-add (f / n + 1) n (c + d - n) (omega arith) in
      omega arith
]

-- the slots of the frames before this one
abbrev pub frames_before : ℕ → PlaceRow → ℕ → List ℕ
frames_before w p f = flat_map (subframe_slots w p) (range_with_len 0 (4 * min f 16))

pub no_frames_before : (w : ℕ) (p : PlaceRow) → p.cycle < p.period → frames_before w p p.cycle ≡ []
no_frames_before w p within =
    flat_map_none (subframe_slots w p) 0 (4 * min p.cycle 16)
    (λ j low high. other_frame w p j (λ e. let small : j / 4 % p.period ≡ j / 4 = mod-eq_of_lt (omega arith) in omega arith))

pub frames_next : (w : ℕ) (p : PlaceRow) (f : ℕ) → p.cycle < p.period → f < 16 → f % p.period ≡ p.cycle
    → frames_before w p (f + p.period) ≡ frames_before w p f ++ frame_slots w p f
unfolding frame_slots
frames_next w p f within few mine =
    let s = subframe_slots w p in
    let to = min (f + p.period) 16 in
    let before : min f 16 ≡ f = omega arith in
    let whole : 4 * to ≡ 4 * f + (4 + 4 * (to - (f + 1))) = omega arith in
    let none : flat_map s (range_with_len (4 * f + 4) (4 * (to - (f + 1)))) ≡ [] =
    flat_map_none s (4 * f + 4) (4 * (to - (f + 1)))
    (λ j low high. other_frame w p j (λ e.
    let split : j / 4 ≡ f + (j / 4 - f) = omega arith in
    between_frames p.period p.cycle f (j / 4 - f) within mine (omega arith) (omega arith) (sym (ap (λ x. x % p.period) split) ∙ e))) in
    ap (λ n. flat_map s (range_with_len 0 n)) whole ∙ flat_map-range_append s 0 (4 * f) (4 + 4 * (to - (f + 1)))
    ∙ ap (λ xs. flat_map s (range_with_len 0 (4 * f)) ++ xs)
    (ap (λ a. flat_map s (range_with_len a (4 + 4 * (to - (f + 1))))) (zero-add (4 * f)) ∙ flat_map-range_append s (4 * f) 4 (4 * (to - (f + 1)))
    ∙ ap (λ xs. flat_map s (range_with_len (4 * f) 4) ++ xs) none ∙ append-nil (flat_map s (range_with_len (4 * f) 4)))
    ∙ ap (λ n. flat_map s (range_with_len 0 (4 * n)) ++ flat_map s (range_with_len (4 * f) 4)) (sym before)

pub all_frames : (w : ℕ) (p : PlaceRow) (f : ℕ) → 16 ≤ f → frames_before w p f ≡ slots_of w p
all_frames w p f past =
    let e : 4 * min f 16 ≡ 64 = omega arith in
    ap (λ n. flat_map (subframe_slots w p) (range_with_len 0 n)) e ∙ sym (slots_by_subframe w p)

pub frame_added : (w : ℕ) (p : PlaceRow) (f : ℕ) (before old new : List ℕ) → p.cycle < p.period → f < 16 → f % p.period ≡ p.cycle
    → old ≡ before ++ frames_before w p f → new ≡ old ++ frame_slots w p f → new ≡ before ++ frames_before w p (f + p.period)
frame_added w p f before old new within few mine so_far more =
    more ∙ ap (λ xs. xs ++ frame_slots w p f) so_far ∙ append_assoc before (frames_before w p f) (frame_slots w p f)
    ∙ ap (λ xs. before ++ xs) (sym (frames_next w p f within few mine))

pub no_frame_yet : (w : ℕ) (p : PlaceRow) (before : List ℕ) → p.cycle < p.period → before ≡ before ++ frames_before w p p.cycle
no_frame_yet w p before within = sym (append-nil before) ∙ ap (λ xs. before ++ xs) (sym (no_frames_before w p within))

-- ---- the bits at which occurrences begin

begins_in_slot : (w : ℕ) (p : PlaceRow) (k : ℕ) → 1 ≤ p.lsb → p.lsb ≤ 12
    → filter (λ x. begins_at w x p) (range_with_len (12 * k) 12) ≡ cond (occurs w p k) ((12 * k + (p.lsb - 1)) ∷ []) []
begins_in_slot w p k low high =
    let t : ℕ → Bool = λ x. begins_at w x p in
    elim (cases_Bool (occurs w p k)) [
      | inl here ↦
          next_kept t (12 * k) (p.lsb - 1) 12 (omega arith) (begins_in w k (p.lsb - 1) p (omega arith) (omega arith) here)
          (λ x above below. false_from_ne_true (t x) (λ begins. let bit = begins_low w x p begins in omega arith))
          ∙ ap (λ xs. xs ++ (12 * k + (p.lsb - 1)) ∷ []) (none_passes t (12 * k) (p.lsb - 1)
          (λ x above below. false_from_ne_true (t x) (λ begins. let bit = begins_low w x p begins in omega arith)))
          ∙ ap (λ b. cond b ((12 * k + (p.lsb - 1)) ∷ []) []) (sym here)
      | inr off ↦
          none_passes t (12 * k) 12
          (λ x above below. false_from_ne_true (t x) (λ begins.
          let slot : x / 12 ≡ k = omega arith in
          both_ways (occurs w p k) off (ap (occurs w p) (sym slot) ∙ begins_slot w x p begins)))
          ∙ ap (λ b. cond b ((12 * k + (p.lsb - 1)) ∷ []) []) (sym off)
    ]

one_more : (g : ℕ → ℕ) (b : Bool) (k : ℕ) (xs : List ℕ) → cond b (g k ∷ []) [] ++ map g xs ≡ map g (cond b (k ∷ xs) xs)
one_more g true k xs = refl
one_more g false k xs = refl

begins_from : (w : ℕ) (p : PlaceRow) (a n : ℕ) → 1 ≤ p.lsb → p.lsb ≤ 12
    → filter (λ x. begins_at w x p) (range_with_len (12 * a) (12 * n)) ≡ map (λ k. 12 * k + (p.lsb - 1)) (filter (occurs w p) (range_with_len a n))
begins_from w p a zero low high = refl
begins_from w p a (suc n) low high =
    let t : ℕ → Bool = λ x. begins_at w x p in
    let count : 12 * suc n ≡ 12 + 12 * n = omega arith in
    let next : 12 * a + 12 ≡ 12 * (a + 1) = omega arith in
    let g : ℕ → ℕ = λ k. 12 * k + (p.lsb - 1) in
    ap (λ m. filter t (range_with_len (12 * a) m)) count ∙ filter-range_append t (12 * a) 12 (12 * n)
    ∙ ap (λ xs. xs ++ filter t (range_with_len (12 * a + 12) (12 * n))) (begins_in_slot w p a low high)
    ∙ ap (λ xs. cond (occurs w p a) (g a ∷ []) [] ++ xs) (ap (λ b. filter t (range_with_len b (12 * n))) next ∙ begins_from w p (a + 1) n low high)
    ∙ one_more g (occurs w p a) a (filter (occurs w p) (range_with_len (a + 1) n))

-- each occurrence of a place begins at its lowest bit of one of its slots
pub begins_by_slot : (w : ℕ) (p : PlaceRow) → 1 ≤ p.lsb → p.lsb ≤ 12
    → filter (λ x. begins_at w x p) (range_with_len 0 (768 * w)) ≡ map (λ k. 12 * k + (p.lsb - 1)) (slots_of w p)
unfolding slots_of
begins_by_slot w p low high =
    let count : 768 * w ≡ 12 * (64 * w) = omega arith in
    ap (λ n. filter (λ x. begins_at w x p) (range_with_len 0 n)) count ∙ begins_from w p 0 (64 * w) low high

pub starts_by_slot : (w : ℕ) (p : PlaceRow) → 1 ≤ p.lsb → p.lsb ≤ 12 → starts_of w p ≡ length (slots_of w p)
starts_by_slot w p low high =
    sym (length-filter (λ x. begins_at w x p) (range_with_len 0 (768 * w))) ∙ ap length (begins_by_slot w p low high)
    ∙ length-map (slots_of w p) (λ k. 12 * k + (p.lsb - 1))

-- ---- how many there are

pub words_counted : (w : ℕ) (p : PlaceRow) (n word count : ℕ) → IsStep w p n → 1 ≤ word → word ≤ w → is_on_word p word ≡ true
    → count ≡ length (words_before w p word) → count + 1 ≡ length (words_before w p (word + n))
words_counted w p n word count step low within on so_far =
    omega (arith, so_far, ap length (words_next w p n word step low within on), length-append (words_before w p word) (word ∷ []))

pub words_few : (w : ℕ) (p : PlaceRow) (word : ℕ) → length (words_before w p word) ≤ w
words_few w p word =
    omega (
      arith,
      length-filter (is_on_word p) (range_with_len 1 (min (word - 1) w)),
      count_by-le-length (is_on_word p) (range_with_len 1 (min (word - 1) w)),
      length-range_with_len 1 (min (word - 1) w),
    )

pub words_on_few : (w : ℕ) (p : PlaceRow) → length (words_on w p) ≤ w
unfolding words_on
words_on_few w p =
    omega (
      arith,
      length-filter (is_on_word p) (range_with_len 1 w),
      count_by-le-length (is_on_word p) (range_with_len 1 w),
      length-range_with_len 1 w,
    )

length_in_subframe : (w : ℕ) (p : PlaceRow) (j : ℕ) → length (subframe_slots w p j) ≡ cond (occurs_in_subframe j p) (length (words_on w p)) 0
unfolding slots_on
length_in_subframe w p j = elim (cases_Bool (occurs_in_subframe j p)) [
  | inl here ↦
      ap length (in_subframe w p j here) ∙ length-map (words_on w p) (λ v. j * w + (v - 1))
      ∙ ap (λ b. cond b (length (words_on w p)) 0) (sym here)
  | inr off ↦ ap length (not_in_subframe w p j off) ∙ ap (λ b. cond b (length (words_on w p)) 0) (sym off)
]

-- how often the place occurs in the first n subframes of a frame that it occurs in
abbrev pub CountsFrames : ℕ → PlaceRow → ℕ → ℕ → Type 0
CountsFrames w p n count = (f : ℕ) → f % p.period ≡ p.cycle → length (flat_map (subframe_slots w p) (range_with_len (4 * f) n)) ≡ count

pub subframe_counted : (w : ℕ) (p : PlaceRow) (n count here : ℕ) → n < 4 → CountsFrames w p n count
    → here ≡ cond (has_subframe p.subs (n + 1)) (length (words_on w p)) 0 → CountsFrames w p (n + 1) (count + here)
subframe_counted w p n count here few so_far is = λ f mine.
    let s = subframe_slots w p in
    let one : length (s (4 * f + n)) ≡ here =
    length_in_subframe w p (4 * f + n) ∙ ap (λ b. cond b (length (words_on w p)) 0) (of_its_frame p f n few mine) ∙ sym is in
    ap length (flat_map-range_more s (4 * f) n (4 * f + n) refl) ∙ length-append (flat_map s (range_with_len (4 * f) n)) (s (4 * f + n))
    ∙ ap (λ k. k + length (s (4 * f + n))) (so_far f mine) ∙ ap (λ k. count + k) one

pub counted_frame : (w : ℕ) (p : PlaceRow) (count : ℕ) → CountsFrames w p 4 count → (f : ℕ) → f % p.period ≡ p.cycle → length (frame_slots w p f) ≡ count
unfolding frame_slots
counted_frame w p count all = λ f mine. all f mine

pub frame_counted : (w : ℕ) (p : PlaceRow) (f count in_frame : ℕ) → p.cycle < p.period → f < 16 → f % p.period ≡ p.cycle
    → count ≡ length (frames_before w p f) → length (frame_slots w p f) ≡ in_frame → count + in_frame ≡ length (frames_before w p (f + p.period))
frame_counted w p f count in_frame within few mine so_far here =
    omega (
      arith,
      so_far,
      here,
      ap length (frames_next w p f within few mine),
      length-append (frames_before w p f) (frame_slots w p f),
    )
