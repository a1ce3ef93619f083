-- The rate of a parameter, part by part.
use Rattle.std.proofs.Common.{◌≡◌, ℕ, ◌<◌, ◌≤◌, ◌==◌, ◌&&◌, not, Bool, false, List, Some, None, option_map, ap, sym, ◌∙◌, arith}
use Rattle.std.proofs.lemmas.Option.{cond_some}
use Rattle.fdr_table.specs.Rows.{ParamRow, PlaceRow}
use Rattle.fdr_table.specs.declared.fault.TableFault.TheVariants as fault
use Rattle.fdr_check.specs.Soundness.{has_part}
use Rattle.fdr_check.specs.Faults.{count_of, off_rate, rate_of}
use Rattle.fdr_check.specs.Walks.{off_rate_at}
use Rattle.fdr_check.proofs.Ranges.{find_first, find_no}

pub rate_found : (w : ℕ) (places : List PlaceRow) (n : ℕ) (p : ParamRow) (part counted row rate : ℕ) → 1 ≤ part → part < 5 → rate ≡ p.rate → row ≡ p.row
    → off_rate_at w places n p.rate part ≡ Some counted → ((k : ℕ) → 1 ≤ k → k < part → (has_part places n k && not (count_of w places n k == p.rate)) ≡ false)
    → Some (row, fault.Rate rate counted) ≡ rate_of w places n p
unfolding rate_of off_rate
rate_found w places n p part counted row rate low high rate_is row_is off none =
    let t : ℕ → Bool = λ k. has_part places n k && not (count_of w places n k == p.rate) in
    let both = cond_some (t part) (count_of w places n part) counted off in
    let first = find_first t 1 4 part low (omega arith) both.0 none in
    ap (λ r. Some (r, fault.Rate rate counted)) row_is
    ∙ ap (λ r. Some (p.row, fault.Rate r counted)) rate_is
    ∙ ap (λ k. Some (p.row, fault.Rate p.rate k)) (sym both.1)
    ∙ sym (ap (option_map (λ k. (p.row, fault.Rate p.rate (count_of w places n k)))) first)

pub no_rate : (w : ℕ) (places : List PlaceRow) (n : ℕ) (p : ParamRow)
    → ((k : ℕ) → 1 ≤ k → k < 5 → (has_part places n k && not (count_of w places n k == p.rate)) ≡ false) → None ≡ rate_of w places n p
unfolding rate_of off_rate
no_rate w places n p none =
    let t : ℕ → Bool = λ k. has_part places n k && not (count_of w places n k == p.rate) in
    sym (ap (option_map (λ k. (p.row, fault.Rate p.rate (count_of w places n k)))) (find_no t 1 4 (λ x low high. none x low (omega arith))))
