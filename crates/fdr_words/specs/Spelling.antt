-- How an option is written, and where it may not be put.
use Rattle.std.specs.Prelude.{ℕ, Bool, false, true, List, [], ◌∷◌, ◌++◌, codes}
use Rattle.fdr_words.specs.Words.{Word, plain, named, given, wrong, word_meaning}
use Rattle.fdr_words.specs.declared.uses.OptionName.{OptionName}
use Rattle.fdr_words.specs.declared.uses.OptionName.TheVariants as name

-- the name of an option, as it is written
abbrev pub option_word : OptionName → List ℕ
option_word name.Slots = codes "--slots"
option_word name.Payload = codes "--payload"
option_word name.Seed = codes "--seed"
option_word name.Frames = codes "--frames"

-- how an option is written: it and its value are two words, or one
pub data Spelling : Type 0 where
  two_words : Spelling
  one_word : Spelling

-- the words that give an option its value: `--NAME VALUE` or `--NAME=VALUE`
abbrev pub option_args : Spelling → OptionName → List ℕ → List (List ℕ)
option_args two_words option value = option_word option ∷ value ∷ []
option_args one_word option value = (option_word option ++ codes "=" ++ value) ∷ []

-- whether a word is `--NAME`, so that the next word is its value
abbrev pub is_option_name : Word → Bool
is_option_name plain = false
is_option_name (named option) = true
is_option_name (given option value) = false
is_option_name wrong = false

-- whether the last of the words is `--NAME`, so that a word put after them is the option's value
abbrev pub ends_in_option_name : List (List ℕ) → Bool
ends_in_option_name [] = false
ends_in_option_name (word ∷ []) = is_option_name (word_meaning word)
ends_in_option_name (word ∷ next ∷ rest) = ends_in_option_name (next ∷ rest)
