-- Texts that are ready before the rows come.
use Rattle.std.specs.Prelude.{ℕ, ◌+◌, ◌/◌, ◌%◌, List}
use Rattle.fdr_listing.specs.Text.{row_place_text}

-- the text of place n in a frame, where places are numbered through, 1,024 for each subframe
abbrev pub place_text : ℕ → List ℕ
place_text n = row_place_text (n / 1024 + 1) (n % 1024 + 1)
