-- Sizes of values out of texts that are ready.
use Rattle.std.proofs.Common.{◌≡◌, ℕ, ◌/◌, ◌%◌, ◌^◌, ◌<◌, ◌++◌, List, Some, codes, length, get_or, map, append_assoc, ap, sym, ◌∙◌, zero-add, arith}
use Rattle.std.specs.Fmt.{decimal}
use Rattle.std.specs.List.{range_with_len, slice_get}
use Rattle.std.proofs.lemmas.List.FromFn.{get_or-map-range_with_len}
use Rattle.std.proofs.lemmas.Option.{get_or_from_slice_get, slice_get_within}
use Rattle.fdr_listing.specs.Text.{fraction_text, size_text}
use Rattle.fdr_listing.specs.Numbers.{ReadyFractions, ready_fractions, fraction_end}

-- a whole part, and after it a fraction with the line's end
pub size_made : (whole end : List ℕ) (n d : ℕ) → whole ≡ decimal (n / 10 ^ d) → end ≡ fraction_end d (n % 10 ^ d)
    → whole ++ end ≡ size_text n d ++ codes "\n"
unfolding size_text fraction_end
size_made whole end n d whole_is end_is =
    ap (λ xs. xs ++ end) whole_is ∙ ap (λ xs. decimal (n / 10 ^ d) ++ xs) end_is
    ∙ sym (append_assoc (decimal (n / 10 ^ d)) (fraction_text (n % 10 ^ d) d) (codes "\n"))

-- the text of a number that is among ready ones
pub ready_text : (f : ℕ → List ℕ) (texts : List (List ℕ)) (count n : ℕ) (text : List ℕ) → texts ≡ map f (range_with_len 0 count) → n < count
    → text ≡ get_or texts n text → text ≡ f n
ready_text f texts count n text ready within at =
    at ∙ ap (λ (ys : List (List ℕ)). get_or ys n text) ready ∙ get_or-map-range_with_len f 0 count n n text within (zero-add n)

-- the fractions that are found for a number of digits are those of that number
pub ready_for : (all : List ReadyFractions) (d : ℕ) (found : ReadyFractions) → all ≡ map ready_fractions (range_with_len 0 4)
    → slice_get all d ≡ Some found → found ≡ ready_fractions d
ready_for all d found ready at =
    let long : length all ≡ 4 = ap length ready in
    let within : d < 4 = omega (arith, long, slice_get_within all d found at) in
    sym (get_or_from_slice_get all d found found at) ∙ ap (λ (ys : List ReadyFractions). get_or ys d found) ready
    ∙ get_or-map-range_with_len ready_fractions 0 4 d d found within (zero-add d)
