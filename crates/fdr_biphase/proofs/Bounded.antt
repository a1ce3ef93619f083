-- Tests of each number below a bound, which compute.
use Rattle.std.proofs.Common.{ℕ, ◌≡◌, zero, suc, ◌<◌, Bool, true, ◌&&◌, T, subst, ⊎_elim, arith}
use Rattle.std.proofs.lemmas.Bool.{cases_lt}
use lib.Ieee.Fits.{and_l, and_r}

-- a test of each number below n
abbrev pub test_below : (ℕ → Bool) → ℕ → Bool
test_below p zero = true
test_below p (suc n) = p n && test_below p n

pub each_below : (p : ℕ → Bool) (n : ℕ) → T (test_below p n) → (i : ℕ) → i < n → T (p i)
each_below p zero h i low = absurd (omega arith)
each_below p (suc n) h i low =
    ⊎_elim (λ below. each_below p n (and_r (p n) _ h) i below) (λ from. let e : n ≡ i = omega arith in subst (λ x. T (p x)) e (and_l _ _ h)) (cases_lt i n)
