-- The limits of an image without a fault, and what it has from its next number on.
use Rattle.std.proofs.Common.{◌≡◌, ⊎_elim, ℕ, Bool, true, false, List, [], ◌∷◌, length, take, Some, None, refl, arith}
use Rattle.std.specs.Prelude.{if◌then◌else◌, nat_lt, not}
use Rattle.std.proofs.lemmas.Bool.{cases_Bool}
use Rattle.fdr_slot.specs.Headers.{has_magic, has_open_gate}
use Rattle.fdr_slot.specs.Limits.{IsInLimits, in_limits}
use Rattle.fdr_slot.specs.Places.{image_size}
use Rattle.fdr_slot.specs.declared.image.ImageFault.TheVariants as fault
use Rattle.fdr_slot.proofs.HeaderLemmas.{in_limits-is}
use Rattle.fdr_slot.specs.Headers.{image_fault}
use Rattle.fdr_recover.specs.ImageHeader.{image_fault_of, header_in}
use Rattle.fdr_recover.specs.Payloads.{run_in}
use Rattle.fdr_recorder.specs.NewBlocks.{next_in}
use Rattle.fdr_pair.specs.Brought.{blocks_not_below}
use Rattle.fdr_pair.proofs.BroughtRuns.{missing_count}

-- ---- limits

faulty : (short gate magic limits long : Bool) → limits ≡ false → (if short then Some fault.Small
    else if not gate then Some fault.Closed
    else if not magic then Some fault.Magic
    else if not limits then Some fault.Geometry
    else if long then Some fault.Short
    else None) ≡ None → ⊥
faulty true gate magic limits long outside none = cc
faulty false false magic limits long outside none = cc
faulty false true false limits long outside none = cc
faulty false true true true long outside none = absurd (cc)
faulty false true true false long outside none = cc

-- the header of an image without a fault is in limits
pub limits_in : (image : List ℕ) → image_fault_of image ≡ None → IsInLimits (header_in image)
unfolding image_fault
limits_in image none = ⊎_elim
    (λ (within : in_limits (header_in image) ≡ true). in_limits-is (header_in image) within)
    (λ (outside : in_limits (header_in image) ≡ false). absurd (faulty (nat_lt (length image) 64) (has_open_gate (take 64 image))
    (has_magic (take 64 image)) (in_limits (header_in image)) (nat_lt (length image) (image_size (header_in image))) outside none))
    (cases_Bool (in_limits (header_in image)))

-- ---- what a side is brought

no_length : {A : Type 0} (xs : List A) → length xs ≡ 0 → xs ≡ []
no_length [] is = refl
no_length (x ∷ xs) is = absurd (omega (arith, is))

-- an image has no block of its own from its next number on
pub brought_nothing : (image : List ℕ) → IsInLimits (header_in image) → blocks_not_below (next_in image) (run_in image) ≡ []
brought_nothing image limits =
    let same = missing_count (header_in image) image image limits (λ far. omega (arith, far)) (omega arith) in
    no_length (blocks_not_below (next_in image) (run_in image)) (omega (arith, same))
