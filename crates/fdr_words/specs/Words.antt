-- What the arguments after the program's name give: the arguments of the form itself, and the values of options.
use Rattle.std.specs.Prelude.{ℕ, Bool, false, not, ◌==◌, ◌&&◌, nat_le, nat_lt, if◌then◌else◌, List, [], ◌∷◌, length, take, drop, codes, bytes_eq, Option, Some}
use Rattle.std.specs.Prelude.{None, is_none}
use Rattle.std.specs.Option.{option_and_then, option_map_or}
use Rattle.fdr_table.specs.Fields.{number_in}
use Rattle.fdr_words.specs.declared.uses.OptionName.{OptionName}
use Rattle.fdr_words.specs.declared.uses.OptionName.TheVariants as name

-- whether a word is plain: neither empty nor one that begins with `-`
abbrev pub is_plain : List ℕ → Bool
is_plain [] = false
is_plain (byte ∷ rest) = not (byte == 45)

-- what a word is: plain, an option whose value is the next word, an option with its value after `=`, or wrong
pub data Word : Type 0 where
  plain : Word
  named : (option : OptionName) → Word
  given : (option : OptionName) (value : List ℕ) → Word
  wrong : Word

-- what follows a prefix of a word, where something does
unfoldable pub value_after : List ℕ → List ℕ → Option (List ℕ)
value_after prefix word =
    if bytes_eq (take (length prefix) word) prefix && nat_lt (length prefix) (length word) then Some (drop (length prefix) word) else None

-- what this word is: plain, `--NAME`, or `--NAME=VALUE` with a value that isn't empty; any other word is wrong
unfoldable pub word_meaning : List ℕ → Word
word_meaning word =
    if is_plain word then plain
    else if bytes_eq word (codes "--slots") then named name.Slots
    else if bytes_eq word (codes "--payload") then named name.Payload
    else if bytes_eq word (codes "--seed") then named name.Seed
    else if bytes_eq word (codes "--frames") then named name.Frames
    else option_map_or (λ value. given name.Slots value) (value_after (codes "--slots=") word)
    (option_map_or (λ value. given name.Payload value) (value_after (codes "--payload=") word)
    (option_map_or (λ value. given name.Seed value) (value_after (codes "--seed=") word)
    (option_map_or (λ value. given name.Frames value) (value_after (codes "--frames=") word) wrong)))

-- what words give: the plain words in order, and the value that each of the four options is given
pub record Uses : Type 0 where
  pub plain : List (List ℕ)
  pub slots : Option (List ℕ)
  pub payload : Option (List ℕ)
  pub seed : Option (List ℕ)
  pub frames : Option (List ℕ)

-- what no words give
abbrev pub no_uses : Uses
no_uses = record { plain = []; slots = None; payload = None; seed = None; frames = None }

-- what words give with one more plain word in front; no form has more than three
abbrev pub with_plain : List ℕ → Uses → Option Uses
with_plain word u =
    if nat_lt (length u.plain) 3
    then Some (record { plain = word ∷ u.plain; slots = u.slots; payload = u.payload; seed = u.seed; frames = u.frames }) else None

-- what words give with this value of an option; none may be given twice
abbrev pub with_value : OptionName → List ℕ → Uses → Option Uses
with_value name.Slots value u =
    if is_none u.slots then Some (record { plain = u.plain; slots = Some value; payload = u.payload; seed = u.seed; frames = u.frames }) else None
with_value name.Payload value u =
    if is_none u.payload then Some (record { plain = u.plain; slots = u.slots; payload = Some value; seed = u.seed; frames = u.frames }) else None
with_value name.Seed value u =
    if is_none u.seed then Some (record { plain = u.plain; slots = u.slots; payload = u.payload; seed = Some value; frames = u.frames }) else None
with_value name.Frames value u =
    if is_none u.frames then Some (record { plain = u.plain; slots = u.slots; payload = u.payload; seed = u.seed; frames = Some value }) else None

-- what a word and all after it give, by what the word is, the next word, what all after the word gives, and what all after the
-- next word gives
abbrev pub followed : List ℕ → Word → Option (List ℕ) → Option Uses → Option Uses → Option Uses
followed word plain next after_word after_next = option_and_then (with_plain word) after_word
followed word (given option value) next after_word after_next = option_and_then (with_value option value) after_word
followed word (named option) None after_word after_next = None
followed word (named option) (Some value) after_word after_next = if is_plain value then option_and_then (with_value option value) after_next else None
followed word wrong next after_word after_next = None

-- how many words the longest forms have, 7: three plain words, and two options of two words each
abbrev pub most_form_args : ℕ
most_form_args = 7

-- what the words give, where each has its place; none where one hasn't
abbrev pub uses_of : List (List ℕ) → Option Uses
uses_of [] = Some no_uses
uses_of (word ∷ []) = followed word (word_meaning word) None (Some no_uses) None
uses_of (word ∷ next ∷ rest) = followed word (word_meaning word) (Some next) (uses_of (next ∷ rest)) (uses_of rest)

-- the value of an option: a number of 1 to 10 digits, where it is `low` to `high`
unfoldable pub value_in : ℕ → ℕ → List ℕ → Option ℕ
value_in low high value = if nat_le (length value) 10 then number_in low high value else None
