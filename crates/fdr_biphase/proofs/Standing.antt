-- What a decoder stands for after a further level.
use Rattle.std.proofs.Common.{◌≡◌, ⊎_elim, ℕ, zero, suc, ◌+◌, ◌-◌, ◌/◌, ◌%◌, ◌<◌, ◌≤◌, Bool, true, false, cond, List, [], ◌∷◌, ◌++◌, length, take}
use Rattle.std.proofs.Common.{replicate, Option, Some, None, refl, sym, ap, ◌∙◌, subst, arith, append_assoc, append-nil, length-append}
use Rattle.std.specs.Prelude.{not, max, nat_lt, ◌==◌, ◌&&◌, IsSome}
use Rattle.std.specs.Bool.{beq, then_some}
use Rattle.std.proofs.lemmas.Bool.{cases_Bool, false_from_ne_true, cond-true, eq-eqb, eqb-true, eqb-false, lt-ltb, and_from}
use Rattle.std.proofs.lemmas.List.{append_cancel_right, replicate_more}
use Rattle.std.proofs.Math.Seq.{get_or-append_seam, take-append_seam}
use Rattle.fdr_lists.proofs.Options.{some_is}
use Rattle.fdr_biphase.specs.declared.decoder.Decoder.{Decoder}
use Rattle.fdr_biphase.specs.declared.decoder.Fitting.{Fitting}
use Rattle.fdr_biphase.specs.declared.decoder.Fitting.TheVariants.{Both, One}
use Rattle.fdr_biphase.specs.Cells.{level_at}
use Rattle.fdr_biphase.specs.Phases.{turns_at, fails_at, phase_bits, later_of, missing_place, chosen_bits, cell_bits}
use Rattle.fdr_biphase.specs.Past.{DecoderPast, decoder_made, decoder_with, answered_bit, ArePhases, waiting_bit, RepresentsDecoder}
use Rattle.fdr_biphase.proofs.PhaseLemmas.{turns_last, fits_after_turn, fits_in_cell, fails_now, fails_kept, fails_within, bits_stay, bits_more}
use Rattle.fdr_biphase.proofs.PhaseLemmas.{ones_of_even, ones_of_odd, bits_of_even, bits_of_odd, none_missing_even, none_missing_odd}

-- the bits of the one phase that fits
bits_of_one : (v : List Bool) (phase : ℕ) → phase ≤ 1 → fails_at v phase ≡ None → IsSome (fails_at v (1 - phase)) → cell_bits v ≡ phase_bits v phase
bits_of_one v zero low fits other = bits_of_even v fits
bits_of_one v (suc zero) low fits other = let first = some_is (fails_at v 0) other in bits_of_odd v first.0 first.1 fits
bits_of_one v (suc (suc phase)) low fits other = absurd (omega arith)

none_missing_one : (v : List Bool) (phase : ℕ) → phase ≤ 1 → fails_at v phase ≡ None → missing_place v ≡ None
none_missing_one v zero low fits = none_missing_even v fits
none_missing_one v (suc zero) low fits = none_missing_odd v fits
none_missing_one v (suc (suc phase)) low fits = absurd (omega arith)

-- no place is missing while a decoder stands
none_missing_of : (v : List Bool) (f : Fitting) → ArePhases f v → missing_place v ≡ None
none_missing_of v Both h = none_missing_even v h.0
none_missing_of v (One phase) h = none_missing_one v phase h.0 h.1

pub none_missing : (d : Decoder) (past : DecoderPast) → RepresentsDecoder d past → missing_place past.levels ≡ None
none_missing d past st = none_missing_of past.levels d.fitting st.phases

few_ones : (b : Bool) → length (cond b (true ∷ []) []) ≤ 1
few_ones true = omega arith
few_ones false = omega arith

one_waits : (f : Fitting) (n : ℕ) → length (waiting_bit f n) ≤ 1
one_waits Both n = few_ones (nat_lt 0 n && (n % 2 == 0))
one_waits (One phase) n = omega arith

-- at most one bit waits
pub all_but_one : (d : Decoder) (past : DecoderPast) → RepresentsDecoder d past
    → (waiting : List Bool) × (cell_bits past.levels ≡ past.bits ++ waiting) × (length waiting ≤ 1)
all_but_one d past st = (waiting_bit d.fitting d.count, st.bits, one_waits d.fitting d.count)

ones_where : (b : Bool) (t : Bool) → t ≡ false → cond (b && t) (true ∷ []) [] ≡ []
ones_where true true misses = absurd (cc)
ones_where true false misses = refl
ones_where false t misses = refl

none_waits : (n : ℕ) → n % 2 ≡ 1 → waiting_bit Both n ≡ []
none_waits n odd =
    ones_where (nat_lt 0 n) (n % 2 == 0) (false_from_ne_true (n % 2 == 0) (λ holds. let e = eqb-true (n % 2) 0 holds in omega (arith, e)))

one_is_waiting : (n : ℕ) → 0 < n → n % 2 ≡ 0 → waiting_bit Both n ≡ true ∷ []
one_is_waiting n some even =
    cond-true (nat_lt 0 n && (n % 2 == 0)) _ _ (and_from (nat_lt 0 n) (n % 2 == 0) (lt-ltb 0 n some) (eq-eqb (n % 2) 0 even))

-- The decoder stood for levels of which there are some, these phases fitted, and this level comes, which turns or doesn't.
pub record Comes (d : Decoder) (past : DecoderPast) (l turns : Bool) (f : Fitting) : Type 0 where
  pub count : d.count ≡ length past.levels
  pub some : 0 < length past.levels
  pub turn : turns_at (past.levels ++ l ∷ []) (length past.levels) ≡ turns
  pub phases : ArePhases f past.levels
  pub bits : cell_bits past.levels ≡ past.bits ++ waiting_bit f d.count

pub comes : (d : Decoder) (past : DecoderPast) (l turns : Bool) (f : Fitting) → RepresentsDecoder d past → (d.count ≡ 0 → ⊥) → not (beq l d.last) ≡ turns
    → d.fitting ≡ f → Comes d past l turns f
comes d past l turns f st some is fitted =
    let some' : 0 < length past.levels = omega (arith, st.count) in
    record {
      count = st.count;
      some = some';
      turn = turns_last past.levels l some' ∙ ap (λ b. not (beq l b)) (sym (st.last some')) ∙ is;
      phases = subst (λ f. ArePhases f past.levels) fitted st.phases;
      bits = subst (λ f. cell_bits past.levels ≡ past.bits ++ waiting_bit f d.count) fitted st.bits;
    }

stands_after : (d : Decoder) (past : DecoderPast) (l : Bool) (answer : Option Bool) (f : Fitting) (e : Bool) → d.count ≡ length past.levels
    → ArePhases f (past.levels ++ l ∷ []) → cell_bits (past.levels ++ l ∷ []) ≡ (past.bits ++ answered_bit answer) ++ waiting_bit f (d.count + 1)
    → RepresentsDecoder (record { count = d.count + 1; last = l; fitting = f; ended = e }) (decoder_with past l answer)
stands_after d past l answer f e count phases bits = record {
  count = omega (arith, count, length-append past.levels (l ∷ []));
  last = λ some.
      let before : length (past.levels ++ l ∷ []) - 1 ≡ length past.levels = omega (arith, length-append past.levels (l ∷ [])) in
      sym (ap (level_at (past.levels ++ l ∷ [])) before ∙ get_or-append_seam past.levels l [] false);
  phases = phases;
  bits = bits;
}

-- the first level says nothing
first_phases : (f : Fitting) (v : List Bool) (l : Bool) → length v ≡ 0 → ArePhases f v → ArePhases f (v ++ l ∷ [])
unfolding fails_at
first_phases f (x ∷ v) l none h = absurd (omega arith)
first_phases Both [] l none h = (refl, refl)
first_phases (One phase) [] l none h = absurd (cc (h.2))

first_bits : (v : List Bool) (l : Bool) → length v ≡ 0 → cell_bits (v ++ l ∷ []) ≡ cell_bits v
unfolding fails_at phase_bits cell_bits
first_bits [] l none = refl
first_bits (x ∷ v) l none = absurd (omega arith)

waits_at_first : (f : Fitting) (n : ℕ) → n ≡ 0 → waiting_bit f n ≡ waiting_bit f (n + 1)
waits_at_first Both n is = ap (waiting_bit Both) is ∙ sym (ap (λ k. waiting_bit Both (k + 1)) is)
waits_at_first (One phase) n is = refl

pub after_first : (d : Decoder) (past : DecoderPast) (l e : Bool) → RepresentsDecoder d past → d.count ≡ 0
    → RepresentsDecoder (record { count = d.count + 1; last = l; fitting = d.fitting; ended = e }) (decoder_with past l None)
after_first d past l e st first =
    let none : length past.levels ≡ 0 = sym st.count ∙ first in
    stands_after d past l None d.fitting e st.count
    (first_phases d.fitting past.levels l none st.phases)
    (first_bits past.levels l none ∙ st.bits
    ∙ ap (λ bits. bits ++ waiting_bit d.fitting d.count) (sym (append-nil past.bits))
    ∙ ap (λ w. (past.bits ++ []) ++ w) (waits_at_first d.fitting d.count first))

-- where all levels alternate, and go on to
turn_bits : (d : Decoder) (past : DecoderPast) (l : Bool) (answer : Option Bool) → Comes d past l true Both → answer ≡ then_some (d.count % 2 == 0) true
    → fails_at (past.levels ++ l ∷ []) 0 ≡ None
    → cell_bits (past.levels ++ l ∷ []) ≡ (past.bits ++ answered_bit answer) ++ waiting_bit Both (d.count + 1)
turn_bits d past l answer h is fits =
    let v = past.levels in
    let w = v ++ l ∷ [] in
    let n = d.count in
    let count = h.count in
    let some = h.some in
    ⊎_elim
    (λ holds.
    let even : n % 2 ≡ 0 = eqb-true (n % 2) 0 holds in
    let waits : waiting_bit Both n ≡ true ∷ [] = one_is_waiting n (omega arith) even in
    let rests : waiting_bit Both (n + 1) ≡ [] = none_waits (n + 1) (omega arith) in
    let given : answer ≡ Some true = is ∙ ap (λ b. then_some b true) holds in
    bits_of_even w fits ∙ bits_stay v l 0 (omega arith) (omega arith) ∙ sym (bits_of_even v h.phases.0) ∙ h.bits
    ∙ ap (λ bits. past.bits ++ bits) waits
    ∙ sym (append-nil (past.bits ++ true ∷ []))
    ∙ ap (λ o. (past.bits ++ answered_bit o) ++ []) (sym given)
    ∙ ap (λ bits. (past.bits ++ answered_bit answer) ++ bits) (sym rests))
    (λ misses.
    let uneven = eqb-false (n % 2) 0 misses in
    let odd : n % 2 ≡ 1 = omega (arith, uneven) in
    let waits : waiting_bit Both n ≡ [] = none_waits n odd in
    let rests : waiting_bit Both (n + 1) ≡ true ∷ [] = one_is_waiting (n + 1) (omega arith) (omega arith) in
    let given : answer ≡ None = is ∙ ap (λ b. then_some b true) misses in
    bits_of_even w fits ∙ bits_more v l 0 (omega arith) (omega arith)
    ∙ ap (λ t. phase_bits v 0 ++ t ∷ []) h.turn
    ∙ ap (λ bits. bits ++ true ∷ []) (sym (bits_of_even v h.phases.0) ∙ h.bits ∙ ap (λ bits. past.bits ++ bits) waits)
    ∙ ap (λ o. (past.bits ++ answered_bit o) ++ true ∷ []) (sym given)
    ∙ ap (λ bits. (past.bits ++ answered_bit answer) ++ bits) (sym rests))
    (cases_Bool (n % 2 == 0))

pub after_turn : (d : Decoder) (past : DecoderPast) (l : Bool) (answer : Option Bool) (e : Bool) → Comes d past l true Both → d.fitting ≡ Both
    → answer ≡ then_some (d.count % 2 == 0) true
    → RepresentsDecoder (record { count = d.count + 1; last = l; fitting = d.fitting; ended = e }) (decoder_with past l answer)
after_turn d past l answer e h fitted is =
    let even = fits_after_turn past.levels l 0 h.some h.phases.0 h.turn in
    let odd = fits_after_turn past.levels l 1 h.some h.phases.1 h.turn in
    subst (λ f. RepresentsDecoder (record { count = d.count + 1; last = l; fitting = f; ended = e }) (decoder_with past l answer)) (sym fitted)
    (stands_after d past l answer Both e h.count (even, odd) (turn_bits d past l answer h is even))

-- while both phases fit, all bits of phase 1 were answered
answered_of_odd : (d : Decoder) (past : DecoderPast) (l turns : Bool) → Comes d past l turns Both → d.count % 2 ≡ 0 → past.bits ≡ phase_bits past.levels 1
answered_of_odd d past l turns h even =
    let v = past.levels in
    let count = h.count in
    let some = h.some in
    let n = (length v - 1) / 2 in
    let half : length v / 2 ≡ n + 1 = omega arith in
    append_cancel_right past.bits (phase_bits v 1) (true ∷ [])
    (ap (λ bits. past.bits ++ bits) (sym (one_is_waiting d.count (omega arith) even))
    ∙ sym h.bits ∙ bits_of_even v h.phases.0 ∙ ones_of_even v h.phases.0 h.phases.1
    ∙ ap (λ k. replicate k true) half ∙ sym (replicate_more n true)
    ∙ ap (λ bits. bits ++ true ∷ []) (sym (ones_of_odd v h.phases.0 h.phases.1)))

is_some_from : (o : Option ℕ) (x : ℕ) → o ≡ Some x → IsSome o
is_some_from o x is = subst IsSome (sym is) refl

-- where a phase fails first, the other one is left
pub after_first_failure : (d : Decoder) (past : DecoderPast) (l e : Bool) → Comes d past l false Both
    → RepresentsDecoder (record { count = d.count + 1; last = l; fitting = One ((d.count + 1) % 2); ended = e }) (decoder_with past l (Some false))
after_first_failure d past l e h =
    let v = past.levels in
    let w = v ++ l ∷ [] in
    let n = d.count in
    let count = h.count in
    let some = h.some in
    let New : ℕ → Type 0 = λ phase.
    RepresentsDecoder (record { count = d.count + 1; last = l; fitting = One phase; ended = e }) (decoder_with past l (Some false)) in
    ⊎_elim
    (λ holds.
    let even : n % 2 ≡ 0 = eqb-true (n % 2) 0 holds in
    let left : 1 ≡ (n + 1) % 2 = omega arith in
    let fails = fails_now v l 0 some h.phases.0 (omega arith) h.turn in
    let fits = fits_in_cell v l 1 some h.phases.1 (λ bad. omega arith) in
    subst New left (stands_after d past l (Some false) (One 1) e count (omega arith, fits, is_some_from _ _ fails)
    (bits_of_odd w _ fails fits ∙ bits_more v l 1 (omega arith) (omega arith)
    ∙ ap (λ t. phase_bits v 1 ++ t ∷ []) h.turn
    ∙ ap (λ bits. bits ++ false ∷ []) (sym (answered_of_odd d past l false h even))
    ∙ sym (append-nil (past.bits ++ false ∷ [])))))
    (λ misses.
    let uneven = eqb-false (n % 2) 0 misses in
    let odd : n % 2 ≡ 1 = omega (arith, uneven) in
    let left : 0 ≡ (n + 1) % 2 = omega arith in
    let fails = fails_now v l 1 some h.phases.1 (omega arith) h.turn in
    let fits = fits_in_cell v l 0 some h.phases.0 (λ bad. omega arith) in
    subst New left (stands_after d past l (Some false) (One 0) e count (omega arith, fits, is_some_from _ _ fails)
    (bits_of_even w fits ∙ bits_more v l 0 (omega arith) (omega arith)
    ∙ ap (λ t. phase_bits v 0 ++ t ∷ []) h.turn
    ∙ ap (λ bits. bits ++ false ∷ []) (sym (bits_of_even v h.phases.0) ∙ h.bits ∙ ap (λ bits. past.bits ++ bits) (none_waits n odd) ∙ append-nil past.bits)
    ∙ sym (append-nil (past.bits ++ false ∷ [])))))
    (cases_Bool (n % 2 == 0))

-- the other phase stays failed
other_failed : (v : List Bool) (l : Bool) (phase : ℕ) → 0 < length v → IsSome (fails_at v phase) → IsSome (fails_at (v ++ l ∷ []) phase)
other_failed v l phase some failed =
    let first = some_is (fails_at v phase) failed in
    is_some_from _ first.0 (fails_kept v l phase first.0 some first.1)

one_bits : (d : Decoder) (past : DecoderPast) (l turns : Bool) (phase : ℕ) → Comes d past l turns (One phase) → phase_bits past.levels phase ≡ past.bits
one_bits d past l turns phase h = sym (bits_of_one past.levels phase h.phases.0 h.phases.1 h.phases.2) ∙ h.bits ∙ append-nil past.bits

-- the middle of a cell gives its bit
pub after_middle : (d : Decoder) (past : DecoderPast) (l turns : Bool) (phase : ℕ) (e : Bool) → Comes d past l turns (One phase) → d.fitting ≡ One phase
    → (d.count % 2 ≡ phase → ⊥)
    → RepresentsDecoder (record { count = d.count + 1; last = l; fitting = d.fitting; ended = e }) (decoder_with past l (Some turns))
after_middle d past l turns phase e h fitted inside =
    let v = past.levels in
    let w = v ++ l ∷ [] in
    let count = h.count in
    let some = h.some in
    let low = h.phases.0 in
    let fits = fits_in_cell v l phase some h.phases.1 (λ bad. inside (omega arith)) in
    let other = other_failed v l (1 - phase) some h.phases.2 in
    subst (λ f. RepresentsDecoder (record { count = d.count + 1; last = l; fitting = f; ended = e }) (decoder_with past l (Some turns))) (sym fitted)
    (stands_after d past l (Some turns) (One phase) e count (low, fits, other)
    (bits_of_one w phase low fits other ∙ bits_more v l phase (omega arith) (omega arith)
    ∙ ap (λ t. phase_bits v phase ++ t ∷ []) h.turn
    ∙ ap (λ bits. bits ++ turns ∷ []) (one_bits d past l turns phase h)
    ∙ sym (append-nil (past.bits ++ turns ∷ []))))

-- where a cell begins no bit is told
pub after_begin : (d : Decoder) (past : DecoderPast) (l : Bool) (phase : ℕ) (e : Bool) → Comes d past l true (One phase) → d.fitting ≡ One phase
    → d.count % 2 ≡ phase
    → RepresentsDecoder (record { count = d.count + 1; last = l; fitting = d.fitting; ended = e }) (decoder_with past l None)
after_begin d past l phase e h fitted here =
    let v = past.levels in
    let w = v ++ l ∷ [] in
    let count = h.count in
    let some = h.some in
    let low = h.phases.0 in
    let fits = fits_after_turn v l phase some h.phases.1 h.turn in
    let other = other_failed v l (1 - phase) some h.phases.2 in
    subst (λ f. RepresentsDecoder (record { count = d.count + 1; last = l; fitting = f; ended = e }) (decoder_with past l None)) (sym fitted)
    (stands_after d past l None (One phase) e count (low, fits, other)
    (bits_of_one w phase low fits other ∙ bits_stay v l phase (omega arith) (omega arith)
    ∙ one_bits d past l true phase h
    ∙ sym (append-nil past.bits) ∙ sym (append-nil (past.bits ++ []))))

-- Where neither phase fits any more, the place and the bits stay, however the levels go on.
pub failed_for_good : (v more : List Bool) (phase m : ℕ) → fails_at v phase ≡ Some m → fails_at (v ++ more) phase ≡ Some m
failed_for_good v [] phase m is = ap (λ w. fails_at w phase) (append-nil v) ∙ is
failed_for_good v (l ∷ more) phase m is =
    let within = fails_within v phase m is in
    ap (λ w. fails_at w phase) (sym (append_assoc v (l ∷ []) more))
    ∙ failed_for_good (v ++ l ∷ []) more phase m (fails_kept v l phase m (omega (arith, within.0, within.1)) is)

failed_at_this : (v : List Bool) (l : Bool) (more : List Bool) (phase m : ℕ) → fails_at (v ++ l ∷ []) phase ≡ Some m → fails_at (v ++ l ∷ more) phase ≡ Some m
failed_at_this v l more phase m is = ap (λ w. fails_at w phase) (sym (append_assoc v (l ∷ []) more)) ∙ failed_for_good (v ++ l ∷ []) more phase m is

missing_from : (w : List Bool) (phase a b : ℕ) → phase ≤ 1 → fails_at w phase ≡ Some a → fails_at w (1 - phase) ≡ Some b → b < a → missing_place w ≡ Some a
unfolding missing_place
missing_from w zero a b low is other later =
    let most : max a b ≡ a = omega arith in
    ap (λ o. later_of o (fails_at w 1)) is ∙ ap (later_of (Some a)) other ∙ ap (λ m. Some m) most
missing_from w (suc zero) a b low is other later =
    let most : max b a ≡ a = omega arith in
    ap (λ o. later_of o (fails_at w 1)) other ∙ ap (later_of (Some b)) is ∙ ap (λ m. Some m) most
missing_from w (suc (suc phase)) a b low is other later = absurd (omega arith)

bits_to : (w : List Bool) (phase a b : ℕ) → phase ≤ 1 → fails_at w phase ≡ Some a → fails_at w (1 - phase) ≡ Some b → b < a
    → cell_bits w ≡ phase_bits (take a w) (a % 2)
unfolding cell_bits
bits_to w zero a b low is other later =
    let most : max a b ≡ a = omega arith in
    ap (λ o. chosen_bits w o (fails_at w 1)) is ∙ ap (chosen_bits w (Some a)) other ∙ ap (λ m. phase_bits (take m w) (m % 2)) most
bits_to w (suc zero) a b low is other later =
    let most : max b a ≡ a = omega arith in
    ap (λ o. chosen_bits w o (fails_at w 1)) other ∙ ap (chosen_bits w (Some b)) is ∙ ap (λ m. phase_bits (take m w) (m % 2)) most
bits_to w (suc (suc phase)) a b low is other later = absurd (omega arith)

pub after_missing : (d : Decoder) (past : DecoderPast) (l : Bool) (phase : ℕ) (more : List Bool) → Comes d past l false (One phase) → d.count % 2 ≡ phase
    → (missing_place (past.levels ++ l ∷ more) ≡ Some d.count) × (cell_bits (past.levels ++ l ∷ more) ≡ past.bits)
after_missing d past l phase more h here =
    let v = past.levels in
    let w = v ++ l ∷ more in
    let n = length v in
    let count = h.count in
    let low = h.phases.0 in
    let parity : n % 2 ≡ phase = omega arith in
    let last = failed_at_this v l more phase n (fails_now v l phase h.some h.phases.1 parity h.turn) in
    let first = some_is (fails_at v (1 - phase)) h.phases.2 in
    let earlier : first.0 < n = (fails_within v (1 - phase) first.0 first.1).1 in
    let other = failed_at_this v l more (1 - phase) first.0 (fails_kept v l (1 - phase) first.0 h.some first.1) in (
      missing_from w phase n first.0 low last other earlier ∙ ap (λ m. Some m) (sym count),
      bits_to w phase n first.0 low last other earlier
          ∙ ap (λ u. phase_bits u (n % 2)) (take-append_seam v (l ∷ more))
          ∙ ap (phase_bits v) parity
          ∙ one_bits d past l false phase h,
    )

-- a decoder that was made
pub stands_made : RepresentsDecoder (record { count = 0; last = false; fitting = Both; ended = false }) decoder_made
unfolding fails_at phase_bits cell_bits
stands_made = record {
  count = refl;
  last = λ some. absurd (omega arith);
  phases = (refl, refl);
  bits = refl;
}
