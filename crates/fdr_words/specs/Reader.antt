-- The command that clap reads the arguments as, and which arguments it is given.
use Rattle.std.specs.Prelude.{ℕ, Bool, false, true, List, [], codes, Some}
use Rattle.std.specs.List.{cons_option, list_all}
use Rattle.clap.specs.Simple.{App, new_app, new_rule, on_top, with_rule, matches_of}
use Rattle.clap.specs.Walk.{Row, Rule, first_of}
use Rattle.clap.specs.Kinds.{Kinds}
use Rattle.clap.specs.Faults.{fault_of}
use Rattle.fdr_words.specs.Words.{Uses, Word, plain, named, given, wrong, word_meaning}

-- whether a word may be in a form: it isn't wrong
abbrev pub has_meaning : Word → Bool
has_meaning plain = true
has_meaning (named option) = true
has_meaning (given option value) = true
has_meaning wrong = false

-- whether each of the words may be in a form
abbrev pub are_known : List (List ℕ) → Bool
are_known args = list_all (λ word. has_meaning (word_meaning word)) args

-- the rule of an option `--NAME` that takes one value, as `clap` has it
abbrev pub long_option : List ℕ → Rule
long_option id = record (new_rule id) { long = Some id }

-- the command that `clap` reads the words as: of three plain words and four options, with no flags of `clap`'s own
abbrev pub reader : App
reader =
    with_rule (with_rule (with_rule (with_rule (with_rule (with_rule (with_rule
    (on_top (λ s. record s { no_binary_name = true; disable_help_flag = true; disable_version_flag = true }) (new_app (codes "fdr")))
    (new_rule (codes "command"))) (new_rule (codes "path"))) (new_rule (codes "image")))
    (long_option (codes "slots"))) (long_option (codes "payload"))) (long_option (codes "seed"))) (long_option (codes "frames"))

-- the kinds of error that `clap` may give at the words
unfoldable pub reader_faults : List (List ℕ) → Kinds
reader_faults args = fault_of reader args

-- what `clap` finds in the words, where it gives no error
unfoldable pub reader_rows : List (List ℕ) → List Row
reader_rows args = matches_of reader args

-- what words give, by what `clap` finds in them
abbrev pub uses_in : List Row → Uses
uses_in rows = record {
  plain = cons_option (first_of (codes "command") rows) (cons_option (first_of (codes "path") rows) (cons_option (first_of (codes "image") rows) []));
  slots = first_of (codes "slots") rows;
  payload = first_of (codes "payload") rows;
  seed = first_of (codes "seed") rows;
  frames = first_of (codes "frames") rows;
}
