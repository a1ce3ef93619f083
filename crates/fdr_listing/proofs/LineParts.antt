-- Lines out of their parts.
use Rattle.std.proofs.Common.{◌≡◌, ◌∙◌, ap, sym, ℕ, ◌-◌, ◌<◌, ◌==◌, false, List, [], ◌∷◌, ◌++◌, codes, length, replicate, append_assoc, arith}
use Rattle.std.specs.Prelude.{ℤ}
use Rattle.std.specs.Fmt.{decimal}
use Rattle.std.proofs.lemmas.Bool.{cond-false}
use Rattle.std.proofs.lemmas.Bool.Decides.{nat_tests}
use Rattle.fdr_listing.specs.Text.{fraction_text, row_line_text, value_text}

some_digits : (d : ℕ) → 0 < d → (d == 0) ≡ false
some_digits d some = grind (arith, nat_tests)

-- a point, zeros and the digits of a number
pub fraction_made : (line point padded all digits : List ℕ) (n d width : ℕ) → 0 < d → point ≡ line ++ 46 ∷ [] → width ≡ d - length (decimal n)
    → padded ≡ point ++ replicate width 48 → digits ≡ decimal n → all ≡ padded ++ digits → all ≡ line ++ fraction_text n d
unfolding fraction_text
fraction_made line point padded all digits n d width some point_is width_is padded_is digits_is all_is =
    let front : List ℕ = replicate (d - length (decimal n)) 48 in
    all_is ∙ ap (λ (xs : List ℕ). padded ++ xs) digits_is
    ∙ ap (λ (xs : List ℕ). xs ++ decimal n) (padded_is ∙ ap (λ k. point ++ replicate k 48) width_is ∙ ap (λ (xs : List ℕ). xs ++ front) point_is)
    ∙ append_assoc (line ++ 46 ∷ []) front (decimal n) ∙ append_assoc line (46 ∷ []) (front ++ decimal n)
    ∙ sym (ap (λ (xs : List ℕ). line ++ xs) (cond-false _ [] (46 ∷ (front ++ decimal n)) (some_digits d some)))

-- what a row begins with, its place, the name and the end with the value
pub row_made : (buffer three all start place name a b e : List ℕ) (v : ℤ) (d : ℕ) → a ≡ start → b ≡ place → e ≡ name
    → three ≡ ((buffer ++ a) ++ b) ++ e → all ≡ ((three ++ codes ",") ++ value_text v d) ++ codes "\n"
    → all ≡ buffer ++ row_line_text start place name v d
unfolding row_line_text
row_made buffer three all start place name a b e v d a_is b_is e_is three_is all_is =
    rw (all_is, three_is, a_is, b_is, e_is) (simp append_assoc)
