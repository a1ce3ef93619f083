-- What is there and what isn't, and tests that fail.
use Rattle.std.proofs.Common.{◌≡◌, ◌⊎◌, inl, inr, ⊎_elim, ℕ, ◌<◌, ◌≤◌, Bool, false, Option, Some, None, refl}
use Rattle.std.specs.Prelude.{IsSome, IsTrue, ◌↔◌}
use Rattle.std.specs.Option.{option_map}
use Rattle.std.proofs.lemmas.Bool.{iff_false, cases_lt}

pub option_map_none : {X Y : Type 0} (f : X → Y) (o : Option X) → option_map f o ≡ None → o ≡ None
option_map_none f None none = refl
option_map_none f (Some x) none = absurd (cc)

pub some_or_none : {X : Type 0} (o : Option X) → (o ≡ None) ⊎ ((x : X) × (o ≡ Some x))
some_or_none None = inl refl
some_or_none (Some x) = inr (x, refl)

pub some_is : {X : Type 0} (o : Option X) → IsSome o → (x : X) × (o ≡ Some x)
some_is None some = absurd (cc)
some_is (Some x) some = (x, refl)

-- a test of whether a number is above another failed
pub not_below : (b : Bool) (n x : ℕ) → (IsTrue b ↔ (n < x)) → b ≡ false → x ≤ n
not_below b n x says missed = ⊎_elim (λ lt. absurd (iff_false says missed lt)) (λ ge. ge) (cases_lt n x)
