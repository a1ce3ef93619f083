-- Bits that stay, however the levels go on.
use Rattle.std.proofs.Common.{◌≡◌, ◌⊎◌, inl, inr, ⊎_elim, ℕ, ◌%◌, ◌≤◌, Bool, true, false, List, [], ◌∷◌, ◌++◌, length, Option, Some, None, refl, sym}
use Rattle.std.proofs.Common.{ap, ◌∙◌, arith, append_assoc, append-nil}
use Rattle.std.specs.Prelude.{not, max, ◌==◌, eqb}
use Rattle.std.specs.Bool.{beq, then_some}
use Rattle.std.proofs.lemmas.Bool.{cases_Bool, eqb-true, eqb-false}
use Rattle.std.proofs.lemmas.List.{take-append-le}
use Rattle.fdr_biphase.specs.declared.decoder.Decoder.{Decoder}
use Rattle.fdr_biphase.specs.declared.decoder.Fitting.{Fitting}
use Rattle.fdr_biphase.specs.declared.decoder.Fitting.TheVariants.{Both, One}
use Rattle.fdr_biphase.specs.Phases.{fails_at, phase_bits, later_of, missing_place, chosen_bits, cell_bits}
use Rattle.fdr_biphase.specs.Past.{DecoderPast, decoder_with, answered_bit, waiting_bit, RepresentsDecoder}
use Rattle.fdr_biphase.proofs.PhaseLemmas.{fails_within}
use Rattle.fdr_biphase.proofs.Standing.{comes, after_first, after_turn, after_first_failure, after_middle, after_begin, after_missing, failed_for_good}

-- where both phases fail
both_fail : (a b : Option ℕ) (at : ℕ) → later_of a b ≡ Some at → (x : ℕ) × (y : ℕ) × (a ≡ Some x) × (b ≡ Some y)
both_fail None b at is = absurd (cc)
both_fail (Some x) None at is = absurd (cc)
both_fail (Some x) (Some y) at is = (x, y, refl, refl)

pub missing_stays : (levels more : List Bool) (at : ℕ) → missing_place levels ≡ Some at → missing_place (levels ++ more) ≡ Some at
unfolding missing_place
missing_stays v more at is =
    let h = both_fail (fails_at v 0) (fails_at v 1) at is in
    ap (λ o. later_of o (fails_at (v ++ more) 1)) (failed_for_good v more 0 h.0 h.2 ∙ sym h.2)
    ∙ ap (later_of (fails_at v 0)) (failed_for_good v more 1 h.1 h.3 ∙ sym h.3)
    ∙ is

pub bits_before_missing : (levels more : List Bool) (at : ℕ) → missing_place levels ≡ Some at → cell_bits (levels ++ more) ≡ cell_bits levels
unfolding missing_place cell_bits
bits_before_missing v more at is =
    let h = both_fail (fails_at v 0) (fails_at v 1) at is in
    let a = fails_within v 0 h.0 h.2 in
    let b = fails_within v 1 h.1 h.3 in
    let m = max h.0 h.1 in
    let within : m ≤ length v = omega (arith, a.1, b.1) in
    ap (λ o. chosen_bits (v ++ more) o (fails_at (v ++ more) 1)) (failed_for_good v more 0 h.0 h.2)
    ∙ ap (chosen_bits (v ++ more) (Some h.0)) (failed_for_good v more 1 h.1 h.3)
    ∙ ap (λ w. phase_bits w (m % 2)) (take-append-le m v more within)
    ∙ sym (ap (λ o. chosen_bits v o (fails_at v 1)) h.2 ∙ ap (chosen_bits v (Some h.0)) h.3)

-- a decoder goes on, or all bits were answered
Goes : Decoder → DecoderPast → Bool → Type 0
Goes d past l =
    ((d' : Decoder) × (answer : Option Bool) × RepresentsDecoder d' (decoder_with past l answer))
    ⊎ ((more : List Bool) → cell_bits (past.levels ++ l ∷ more) ≡ past.bits)

goes_by : (d : Decoder) (past : DecoderPast) (l turns : Bool) (f : Fitting) → RepresentsDecoder d past → (d.count ≡ 0 → ⊥) → not (beq l d.last) ≡ turns
    → d.fitting ≡ f → Goes d past l
unfolding Goes
goes_by d past l true Both st some is fitted =
    let answer = then_some (d.count % 2 == 0) true in
    inl (_, answer, after_turn d past l answer false (comes d past l true Both st some is fitted) fitted refl)
goes_by d past l false Both st some is fitted = inl (_, Some false, after_first_failure d past l false (comes d past l false Both st some is fitted))
goes_by d past l true (One phase) st some is fitted =
    let h = comes d past l true (One phase) st some is fitted in
    ⊎_elim
    (λ here. inl (_, None, after_begin d past l phase false h fitted (eqb-true (d.count % 2) phase here)))
    (λ inside. inl (_, Some true, after_middle d past l true phase false h fitted (eqb-false (d.count % 2) phase inside)))
    (cases_Bool (eqb (d.count % 2) phase))
goes_by d past l false (One phase) st some is fitted =
    let h = comes d past l false (One phase) st some is fitted in
    ⊎_elim
    (λ here. inr (λ more. (after_missing d past l phase more h (eqb-true (d.count % 2) phase here)).1))
    (λ inside. inl (_, Some false, after_middle d past l false phase false h fitted (eqb-false (d.count % 2) phase inside)))
    (cases_Bool (eqb (d.count % 2) phase))

goes : (d : Decoder) (past : DecoderPast) (l : Bool) → RepresentsDecoder d past → Goes d past l
unfolding Goes
goes d past l st =
    ⊎_elim
    (λ first. inl (_, None, after_first d past l false st (eqb-true d.count 0 first)))
    (λ later. goes_by d past l _ d.fitting st (eqb-false d.count 0 later) refl refl)
    (cases_Bool (eqb d.count 0))

pub answers_stay : (d : Decoder) (past : DecoderPast) (more : List Bool) → RepresentsDecoder d past
    → (next : List Bool) × (cell_bits (past.levels ++ more) ≡ past.bits ++ next)
unfolding Goes
answers_stay d past [] st = (waiting_bit d.fitting d.count, ap cell_bits (append-nil past.levels) ∙ st.bits)
answers_stay d past (l ∷ more) st =
    ⊎_elim
    (λ on. let rest = answers_stay on.0 (decoder_with past l on.1) more on.2 in
    (answered_bit on.1 ++ rest.0, ap cell_bits (sym (append_assoc past.levels (l ∷ []) more)) ∙ rest.1 ∙ append_assoc past.bits (answered_bit on.1) rest.0))
    (λ all. ([], all more ∙ sym (append-nil past.bits)))
    (goes d past l st)
