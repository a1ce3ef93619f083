-- Levels that are all turned.
use Rattle.std.proofs.Common.{◌≡◌, ℕ, ◌+◌, ◌-◌, ◌*◌, ◌/◌, ◌%◌, ◌<◌, Bool, true, false, List, length, take, map, Option, Some, None, refl, ap, ◌∙◌, arith}
use Rattle.std.specs.Prelude.{not, ◌==◌, ◌&&◌, max}
use Rattle.std.specs.Bool.{beq}
use Rattle.std.specs.List.{range_with_len, find}
use Rattle.std.proofs.lemmas.List.{take-map, length-map, get_or-map}
use Rattle.fdr_lists.proofs.Ranges.{map-range-agree}
use Rattle.fdr_biphase.specs.Cells.{level_at}
use Rattle.fdr_biphase.specs.Phases.{turns_at, fails_at, phase_bits, later_of, missing_place, chosen_bits, cell_bits}
use Rattle.fdr_biphase.proofs.Finding.{find-agree}

both_turned : (a b : Bool) → not (beq (not a) (not b)) ≡ not (beq a b)
both_turned true true = refl
both_turned true false = refl
both_turned false true = refl
both_turned false false = refl

turns-turned : (v : List Bool) (p : ℕ) → p < length v → turns_at (map not v) p ≡ turns_at v p
turns-turned v p within =
    ap (λ b. not (beq b (level_at (map not v) (p - 1)))) (get_or-map not v p false false within)
    ∙ ap (λ b. not (beq (not (level_at v p)) b)) (get_or-map not v (p - 1) false false (omega arith))
    ∙ both_turned (level_at v p) (level_at v (p - 1))

fails-turned : (v : List Bool) (phase : ℕ) → fails_at (map not v) phase ≡ fails_at v phase
unfolding fails_at
fails-turned v phase =
    let test : List Bool → ℕ → Bool = λ v p. (p % 2 == phase) && not (turns_at v p) in
    ap (λ n. find (test (map not v)) (range_with_len 1 (n - 1))) (length-map v not)
    ∙ find-agree (test (map not v)) (test v) 1 (length v - 1) (λ p low high. ap (λ t. (p % 2 == phase) && not t) (turns-turned v p (omega arith)))

bits-turned : (v : List Bool) (phase : ℕ) → phase_bits (map not v) phase ≡ phase_bits v phase
unfolding phase_bits
bits-turned v phase =
    ap (λ n. map (λ i. turns_at (map not v) (2 * i + phase + 1)) (range_with_len 0 ((n - phase) / 2))) (length-map v not)
    ∙ map-range-agree (λ i. turns_at (map not v) (2 * i + phase + 1)) (λ i. turns_at v (2 * i + phase + 1)) 0 ((length v - phase) / 2)
    (λ i low high. turns-turned v (2 * i + phase + 1) (omega arith))

chosen-turned : (v : List Bool) (a b : Option ℕ) → chosen_bits (map not v) a b ≡ chosen_bits v a b
chosen-turned v None b = bits-turned v 0
chosen-turned v (Some a) None = bits-turned v 1
chosen-turned v (Some a) (Some b) = ap (λ w. phase_bits w (max a b % 2)) (take-map not (max a b) v) ∙ bits-turned (take (max a b) v) (max a b % 2)

pub same_bits_turned : (v : List Bool) → cell_bits (map not v) ≡ cell_bits v
unfolding cell_bits
same_bits_turned v =
    ap (λ o. chosen_bits (map not v) o (fails_at (map not v) 1)) (fails-turned v 0)
    ∙ ap (chosen_bits (map not v) (fails_at v 0)) (fails-turned v 1)
    ∙ chosen-turned v (fails_at v 0) (fails_at v 1)

pub same_missing_turned : (v : List Bool) → missing_place (map not v) ≡ missing_place v
unfolding missing_place
same_missing_turned v = ap (λ o. later_of o (fails_at (map not v) 1)) (fails-turned v 0) ∙ ap (later_of (fails_at v 0)) (fails-turned v 1)
