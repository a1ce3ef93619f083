-- Words that are 0.
use Rattle.std.proofs.Common.{◌≡◌, ℕ, zero, suc, ◌*◌, ◌/◌, ◌%◌, ◌∷◌, Some, None, replicate, refl, ap, ◌∙◌, arith}
use Rattle.fdr_stream.specs.Packing.{unpaired, whole_bytes}

-- their bytes are 0
pub zero_bytes : (n : ℕ) → whole_bytes (replicate n 0) ≡ replicate (3 * n / 2) 0
unfolding whole_bytes
zero_bytes zero = refl
zero_bytes (suc zero) = refl
zero_bytes (suc (suc n)) =
    let more : suc (suc (suc (3 * n / 2))) ≡ 3 * suc (suc n) / 2 = omega arith in
    ap (λ bytes. 0 ∷ 0 ∷ 0 ∷ bytes) (zero_bytes n) ∙ ap (λ m. replicate m 0) more

-- four bits wait where there is an odd number of them
pub zero_waits : (n : ℕ) → n % 2 ≡ 1 → Some 0 ≡ unpaired (replicate n 0)
unfolding unpaired
zero_waits zero odd = absurd (omega arith)
zero_waits (suc zero) odd = refl
zero_waits (suc (suc n)) odd = zero_waits n (omega arith)

pub none_waits : (n : ℕ) → (n % 2 ≡ 1 → ⊥) → None ≡ unpaired (replicate n 0)
unfolding unpaired
none_waits zero even = refl
none_waits (suc zero) even = absurd (even refl)
none_waits (suc (suc n)) even = none_waits n (λ odd. even (omega arith))
