-- What every allowed number of words is.
use Rattle.std.proofs.Common.{◌≡◌, ℕ, ◌+◌, ◌*◌, ◌≤◌, ◌^◌, ◌⊎◌, ⊎_elim, refl, sym, subst, w32, arith}
use Rattle.std.specs.Int.{trailing_zeros}
use Rattle.std.specs.Int.Count.{count_trailing_zeros}
use Rattle.std.proofs.lemmas.Bool.Decides.{nat_tests}
use Rattle.fdr_frame.specs.WordCount.{IsWordCount}

-- one of the five
pub word_count_cases : (w : ℕ) → IsWordCount w → (w ≡ 64) ⊎ ((w ≡ 128) ⊎ ((w ≡ 256) ⊎ ((w ≡ 512) ⊎ (w ≡ 1024))))
word_count_cases w h = grind (arith, nat_tests)

pub word_count_bounds : (w : ℕ) → IsWordCount w → (64 ≤ w) × (w ≤ 1024)
word_count_bounds w h =
    let cases = word_count_cases w h in
    (omega arith, omega arith)

-- the power of two that it is
pub record IsPower (w : ℕ) : Type 0 where
  pub shift : ℕ
  pub zeros : trailing_zeros w32 w ≡ shift
  pub high : shift ≤ 10
  pub power : w ≡ 2 ^ shift
  pub four : 4 * w ≡ 2 ^ (shift + 2)

power_64 : IsPower 64
unfolding count_trailing_zeros
power_64 = record { shift = 6; zeros = refl; high = omega arith; power = refl; four = refl }

power_128 : IsPower 128
unfolding count_trailing_zeros
power_128 = record { shift = 7; zeros = refl; high = omega arith; power = refl; four = refl }

power_256 : IsPower 256
unfolding count_trailing_zeros
power_256 = record { shift = 8; zeros = refl; high = omega arith; power = refl; four = refl }

power_512 : IsPower 512
unfolding count_trailing_zeros
power_512 = record { shift = 9; zeros = refl; high = omega arith; power = refl; four = refl }

power_1024 : IsPower 1024
unfolding count_trailing_zeros
power_1024 = record { shift = 10; zeros = refl; high = omega arith; power = refl; four = refl }

pub word_count_power : (w : ℕ) → IsWordCount w → IsPower w
word_count_power w h =
    ⊎_elim (λ e. subst IsPower (sym e) power_64)
    (⊎_elim (λ e. subst IsPower (sym e) power_128)
    (⊎_elim (λ e. subst IsPower (sym e) power_256)
    (⊎_elim (λ e. subst IsPower (sym e) power_512) (λ e. subst IsPower (sym e) power_1024))))
    (word_count_cases w h)
