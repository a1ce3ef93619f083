-- A row's line out of texts that are ready is its line.
use Rattle.std.proofs.Common.{◌≡◌, ℕ, ℤ, List, ◌++◌, codes, decimal, append_assoc}
use Rattle.fdr_listing.specs.Text.{row_start_text, row_place_text, row_line_text, row_text, value_text}

joined : (r c m s w n v e : List ℕ) → (r ++ c) ++ (m ++ s ++ m ++ w ++ m) ++ n ++ m ++ v ++ e ≡ r ++ c ++ m ++ s ++ m ++ w ++ m ++ n ++ m ++ v ++ e
joined r c m s w n v e = simp append_assoc

pub row_line_is_row : (counter subframe word param : ℕ) (value : ℤ) (start place name : List ℕ) (d : ℕ)
    → start ≡ row_start_text counter → place ≡ row_place_text subframe word
    → row_line_text start place name value d
    ≡ row_text (record { counter = counter; subframe = subframe; word = word; param = param; value = value }) name d
unfolding row_line_text row_text row_start_text row_place_text
row_line_is_row counter subframe word param value start place name d starts places =
    rw (starts, places)
    (joined (codes "row,") (decimal counter) (codes ",") (decimal subframe) (decimal word) name (value_text value d) (codes "\n"))
