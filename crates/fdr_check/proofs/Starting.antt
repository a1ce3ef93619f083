-- Where the occurrences of a place begin.
use Rattle.std.proofs.Common.{◌≡◌, ℕ, ◌+◌, ◌*◌, ◌/◌, ◌%◌, ◌<◌, true, ◌==◌, ap, ◌∙◌, arith}
use Rattle.std.proofs.lemmas.Bool.{and_from, and_parts, eq-eqb, eqb-true}
use Rattle.fdr_table.specs.Rows.{PlaceRow}
use Rattle.fdr_check.specs.Occurrences.{occurs, begins_at}

pub begins_in : (w slot low : ℕ) (p : PlaceRow) → low + 1 ≡ p.lsb → low < 12 → occurs w p slot ≡ true → begins_at w (12 * slot + low) p ≡ true
unfolding begins_at
begins_in w slot low p e l here =
    let bit : (12 * slot + low) % 12 + 1 ≡ p.lsb = omega arith in
    let at : (12 * slot + low) / 12 ≡ slot = omega arith in
    and_from ((12 * slot + low) % 12 + 1 == p.lsb) (occurs w p ((12 * slot + low) / 12)) (eq-eqb _ _ bit) (ap (occurs w p) at ∙ here)

-- a place begins at its lowest bit
pub begins_low : (w x : ℕ) (p : PlaceRow) → begins_at w x p ≡ true → x % 12 + 1 ≡ p.lsb
unfolding begins_at
begins_low w x p h = eqb-true _ _ (and_parts (x % 12 + 1 == p.lsb) (occurs w p (x / 12)) h).0

-- in a slot that it occurs in
pub begins_slot : (w x : ℕ) (p : PlaceRow) → begins_at w x p ≡ true → occurs w p (x / 12) ≡ true
unfolding begins_at
begins_slot w x p h = (and_parts (x % 12 + 1 == p.lsb) (occurs w p (x / 12)) h).1
