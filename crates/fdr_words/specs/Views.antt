-- What the program's arguments and uses stand for.
use Rattle.std.specs.Prelude.{List, [], ◌∷◌, ℕ}
use Rattle.std.specs.Option.{option_map}
use Rattle.fdr_words.specs.Words.{Word, plain, named, given, wrong, Uses}
use Rattle.fdr_words.specs.declared.uses.PlainWords.{PlainWords}
use Rattle.fdr_words.specs.declared.uses.PlainWords.TheVariants as words
use Rattle.fdr_words.specs.declared.uses.Word.{Word as Kind}
use Rattle.fdr_words.specs.declared.uses.Word.TheVariants as kind
use Rattle.fdr_words.specs.declared.uses.Uses.{Uses as Found}

-- what the program's meaning of a word stands for
abbrev pub word_view : Kind → Word
word_view kind.Plain = plain
word_view (kind.Named option) = named option
word_view (kind.Given option value) = given option value.now
word_view kind.Wrong = wrong

-- the plain words that the program's ones stand for
abbrev pub plain_view : PlainWords → List (List ℕ)
plain_view words.None = []
plain_view (words.One first) = first.now ∷ []
plain_view (words.Two first second) = first.now ∷ second.now ∷ []
plain_view (words.Three first second third) = first.now ∷ second.now ∷ third.now ∷ []

-- what the program's finding of words stands for
abbrev pub uses_view : Found → Uses
uses_view u = record {
  plain = plain_view u.plain;
  slots = option_map (λ value. value.now) u.slots;
  payload = option_map (λ value. value.now) u.payload;
  seed = option_map (λ value. value.now) u.seed;
  frames = option_map (λ value. value.now) u.frames;
}
