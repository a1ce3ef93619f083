-- The one form of the words after the program's name.
use Rattle.std.specs.Prelude.{ℕ, Bool, false, ◌&&◌, List, [], ◌∷◌, codes, bytes_eq}
use Rattle.fdr_words.specs.Words.{is_plain}

-- the words `record TABLE FIRST SECOND` with these three paths
abbrev pub pair_words : List ℕ → List ℕ → List ℕ → List (List ℕ)
pair_words table first second = codes "record" ∷ table ∷ first ∷ second ∷ []

-- whether words are of the form `record TABLE FIRST SECOND`: these four and no others, and no path is empty or begins with `-`
abbrev pub fits_pair_form : List (List ℕ) → Bool
fits_pair_form (command ∷ table ∷ first ∷ second ∷ []) =
    bytes_eq command (codes "record") && is_plain table && is_plain first && is_plain second
fits_pair_form words = false
