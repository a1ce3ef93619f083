-- When an image is too small.
use Rattle.std.proofs.Common.{◌≡◌, ⊎_elim, ℕ, ◌<◌, ◌≤◌, true, List, Some, refl, arith}
use Rattle.std.specs.Prelude.{nat_lt, slice_index}
use Rattle.std.proofs.lemmas.Bool.{cases_eq, cases_lt, cases_Bool}
use Rattle.std.proofs.lemmas.Bool.Decides.{nat_tests}
use Rattle.fdr_slot.specs.Limits.{in_limits}
use Rattle.fdr_slot.specs.Places.{image_size}
use Rattle.fdr_slot.specs.Headers.{has_magic, header_of, image_fault}
use Rattle.fdr_slot.proofs.HeaderLemmas.{image_fault_closed, image_fault_magic, image_fault_geometry, image_fault_short, image_fault_none}
use Rattle.fdr_slot.specs.declared.image.ImageFault.TheVariants as fault

pub small_fault : (bytes : List ℕ) (size : ℕ) → size < 64 → image_fault bytes size ≡ Some fault.Small
unfolding image_fault
small_fault bytes size small =
    let test : nat_lt size 64 ≡ true = grind (arith, nat_tests) in
    rw test refl

-- a length that has room for a header isn't too small
pub not_small : (bytes : List ℕ) (size : ℕ) → 64 ≤ size → image_fault bytes size ≡ Some fault.Small → ⊥
not_small bytes size whole is = ⊎_elim
    (λ gate. ⊎_elim
    (λ magic. ⊎_elim
    (λ limits. ⊎_elim
    (λ few. let found = image_fault_short bytes size whole gate magic limits few in absurd (cc))
    (λ enough. let found = image_fault_none bytes size whole gate magic limits enough in absurd (cc))
    (cases_lt size (image_size (header_of bytes))))
    (λ outside. let found = image_fault_geometry bytes size whole gate magic outside in absurd (cc))
    (cases_Bool (in_limits (header_of bytes))))
    (λ other. let found = image_fault_magic bytes size whole gate other in absurd (cc))
    (cases_Bool (has_magic bytes)))
    (λ closed. let found = image_fault_closed bytes size whole closed in absurd (cc))
    (cases_eq (slice_index bytes 0) 0x5a)
