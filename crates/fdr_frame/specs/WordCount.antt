-- How many words a subframe may have.
use Rattle.std.specs.Prelude.{ℕ, Bool, ◌==◌, ◌||◌, IsTrue}

-- whether a subframe may have w words: 64, 128, 256, 512 or 1024
abbrev pub is_word_count : ℕ → Bool
is_word_count w = (w == 64) || (w == 128) || (w == 256) || (w == 512) || (w == 1024)

-- A subframe may have w words: 64, 128, 256, 512 or 1024.
abbrev pub IsWordCount : ℕ → Type 0
IsWordCount w = IsTrue (is_word_count w)
