-- What clap makes of one argument, of a command whose arguments each take one value, once.
use Rattle.std.proofs.Common.{◌≡◌, ◌∙◌, ◌+◌, ◌++◌, ◌==◌, ◌&&◌, ap, ap₂, refl, ℕ, Bool, true, false, codes, List, [], ◌∷◌, Option, Some, None, length, min}
use Rattle.std.proofs.Common.{nat_lt, append-nil}
use Rattle.std.specs.Prelude.{if◌then◌else◌, bytes_eq}
use Rattle.std.specs.Option.{option_and_then, option_map_or}
use Rattle.std.specs.List.{fold}
use Rattle.std.proofs.lemmas.Bool.{not-true, or_parts}
use Rattle.std.proofs.lemmas.Slice.Eq.{bytes_eq-Decides}
use Rattle.clap.specs.Lexer.{long_of, short_of, usize_max}
use Rattle.clap.specs.Kinds.{Kinds, or_else}
use Rattle.clap.specs.Walk.{Held, Row, Rule, Step, Text, Waiting, Walk, after_flag, after_step, arg_by_id, arg_by_index, arg_by_long, at_row, has_row, idle}
use Rattle.clap.specs.Walk.{is_pending}
use Rattle.clap.specs.Walk.{long_met, long_or_other, more_values, next, option, option_word, pushed, settled, short_or_plain, subcommand_met}
use Rattle.clap.specs.Walk.{subcommand_or_other}
use Rattle.clap.specs.Walk.{takes_values, to_positional, trailing, used, used_by_id, value, walked, with_values, without, word_met}
use Rattle.clap.specs.Simple.{Shape}
use Rattle.clap.specs.Faults.{bundle_fault, flag_word_fault, long_fault, option_fault, other_fault, positional_fault, react_fault, settle_fault, step_fault}
use Rattle.clap.specs.Faults.{stray_fault, turn_fault, use_fault, walk_fault, word_fault}
use Rattle.clap.specs.declared.builder.action.ArgAction.TheVariants.{Set}
use Rattle.clap.specs.declared.builder.value_parser.ValueParser.TheVariants as vp
use Rattle.clap.specs.declared.builder.value_parser.Reading.TheVariants as reading
use Rattle.clap.specs.declared.error.kind.ErrorKind.TheVariants as kind
use Rattle.clap.specs.declared.parser.matches.ValueSource.TheVariants.{CommandLine}
use Rattle.fdr_words.specs.Words.{is_plain}

-- an argument that takes one value, once
abbrev pub ruled : Text → Option Text → Option ℕ → Rule
ruled id long index = record {
  id = id;
  long = long;
  aliases = [];
  short = None;
  short_aliases = [];
  index = index;
  action = Some Set;
  range = Some (record { start_inclusive = 1; end_inclusive = 1 });
  value_names = 0;
  defaults = [];
  missing = [];
  trailing_var_arg = false;
  parser = Some vp.String;
  ignore_case = false;
  required = false;
  is_simple = true;
  is_free = true;
}

-- a command that is built, with these arguments
abbrev pub shaped : List Rule → Shape
shaped c = record {
  name = codes "fdr";
  aliases = [];
  rules = c;
  is_plain = true;
  is_leaf = true;
  no_binary_name = true;
  disable_help_flag = true;
  disable_help_subcommand = true;
  disable_version_flag = true;
  propagate_version = false;
  has_version = false;
  has_long_version = false;
  args_override_self = false;
  arg_required_else_help = false;
  subcommand_required = false;
  subcommand_negates_reqs = false;
  is_built = true;
}

-- between two arguments, where no option waits for its value, and where one does
abbrev pub standing : Held → ℕ → Walk
standing h p = record { held = h; waiting = idle; position = p; is_trailing = false; stopped = None }

abbrev pub awaiting : Text → Held → ℕ → Walk
awaiting id h p = record { held = h; waiting = option id; position = p; is_trailing = false; stopped = None }

abbrev pub holding : List Row → Text → List Text → ℕ → Held
holding rows id values skip = record { rows = rows; pending = Some (id, values); skip = skip }

abbrev pub free_held : List Row → ℕ → Held
free_held rows skip = record { rows = rows; pending = None; skip = skip }

abbrev pub row_with : Text → Text → Row
row_with id v = record { id = id; values = v ∷ []; count = None; source = Some CommandLine; reading = reading.AsWritten }

-- the rows, where nothing failed
abbrev pub unless : Kinds → List Row → Option (List Row)
unless [] rows = Some rows
unless (k ∷ ks) rows = None

abbrev pub passing : Kinds → Option (List Row) → Option (List Row)
passing [] o = o
passing (k ∷ ks) o = None

-- the rows of what is held, once it is settled
abbrev pub settled_out : List Rule → Held → Option (List Row)
settled_out c h = unless (settle_fault c false h) (settled c h).rows

-- the rows at the end of the arguments
unfoldable pub ended : List Rule → Walk → List Text → Option (List Row)
ended c w args =
    let end = (fold (walked c []) w args).held in
    unless (or_else (walk_fault (shaped c) [] w args) (settle_fault c false end)) (settled c end).rows

abbrev pub put_row : List Row → Text → Text → Option (List Row)
put_row rows id v = if has_row id rows then None else Some (rows ++ row_with id v ∷ [])

-- ---- kinds

or_else_none : (ks : Kinds) → or_else ks [] ≡ ks
or_else_none [] = refl
or_else_none (k ∷ ks) = refl

unless_next : (turn more end : Kinds) (rows : List Row)
    → unless (or_else (or_else turn more) end) rows ≡ passing turn (unless (or_else more end) rows)
unless_next [] more end rows = refl
unless_next (k ∷ ks) more end rows = refl

pub passing_none : (ks : Kinds) → passing ks None ≡ None
passing_none [] = refl
passing_none (k ∷ ks) = refl

pub passing_then : (ks : Kinds) (rows : List Row) (f : List Row → Option (List Row)) → passing ks (f rows) ≡ option_and_then f (unless ks rows)
passing_then [] rows f = refl
passing_then (k ∷ ks) rows f = refl

pub passing_both : (a b : Kinds) (o : Option (List Row)) → passing (or_else a b) o ≡ passing a (passing b o)
passing_both [] b o = refl
passing_both (k ∷ ks) b o = refl

-- ---- what the arguments look like

record IsValueWord (word : Text) : Type 0 where
  dashes : bytes_eq word (45 ∷ 45 ∷ []) ≡ false
  long : long_of word ≡ None
  short : short_of word ≡ None

value_word : (word : Text) → is_plain word ≡ true → IsValueWord word
value_word [] e = cc
value_word (b ∷ rest) e =
    let other : (b == 45) ≡ false = not-true (b == 45) e in
    record { dashes = rw other refl; long = rw other refl; short = rw other refl }

pub record IsLongWord (word name : Text) (v : Option Text) : Type 0 where
  pub dashes : bytes_eq word (45 ∷ 45 ∷ []) ≡ false
  pub long : long_of word ≡ Some (name, v)

-- ---- one argument

module _ (c : List Rule) where
  pub ended_none : (w : Walk) → ended c w [] ≡ settled_out c w.held
  unfolding ended walk_fault
  ended_none w = refl

  ended_step : (w : Walk) (word : Text) (rest : List Text)
      → ended c w (word ∷ rest) ≡ passing (turn_fault (shaped c) [] w word) (ended c (walked c [] w word) rest)
  unfolding ended walk_fault
  ended_step w word rest =
      unless_next (turn_fault (shaped c) [] w word) (walk_fault (shaped c) [] (walked c [] w word) rest)
      (settle_fault c false (fold (walked c []) (walked c [] w word) rest).held) (settled c (fold (walked c []) (walked c [] w word) rest).held).rows

  ended_as : (w v : Walk) (word : Text) (rest : List Text) (turn : Kinds) → turn_fault (shaped c) [] w word ≡ turn → walked c [] w word ≡ v
      → ended c w (word ∷ rest) ≡ passing turn (ended c v rest)
  ended_as w v word rest turn fault walk = ended_step w word rest ∙ ap₂ (λ ks x. passing ks (ended c x rest)) fault walk

  -- ---- an argument of the form

  plain_met : (word : Text) (h : Held) (p : ℕ) → IsValueWord word → word_met c [] false idle p word h ≡ (h, value)
  plain_met word h p is = rw (is.dashes, is.long, is.short) refl

  plain_passes : (word : Text) (h : Held) → IsValueWord word → word_fault (shaped c) [] false idle word h ≡ []
  plain_passes word h is = rw (is.dashes, is.long, is.short) refl

  never_both : {A : Type 0} (b : Bool) (x y : A) → (if b && false then x else y) ≡ y
  never_both true x y = refl
  never_both false x y = refl

  turn_at : (word : Text) (h : Held) (p : ℕ) (o : Option Rule) → IsValueWord word → arg_by_index c p ≡ o
      → turn_fault (shaped c) [] (standing h p) word ≡ option_map_or (λ (a : Rule). positional_fault c false a h) o (stray_fault (shaped c))
  turn_at word h p o is at =
      ap₂ (λ (ks : Kinds) (m : Held × Step). or_else ks (step_fault (shaped c) p m.0 m.1)) (plain_passes word h is) (plain_met word h p is)
      ∙ ap (λ (o : Option Rule). option_map_or (λ (a : Rule). positional_fault c false a h) o (stray_fault (shaped c))) at

  plain_turn : (word : Text) (h : Held) (p : ℕ) (id : Text) → IsValueWord word → arg_by_index c p ≡ Some (ruled id None (Some p))
      → turn_fault (shaped c) [] (standing h p) word ≡ settle_fault c false h
  plain_turn word h p id is at =
      turn_at word h p (Some (ruled id None (Some p))) is at ∙ never_both (is_pending (ruled id None (Some p)) h.pending) [] (settle_fault c false h)

  plain_walk : (word : Text) (h : Held) (p q : ℕ) (id : Text) → IsValueWord word → arg_by_index c p ≡ Some (ruled id None (Some p)) → min (p + 1) usize_max ≡ q
      → walked c [] (standing h p) word ≡ standing (holding (settled c h).rows id (word ∷ []) h.skip) q
  unfolding walked
  plain_walk word h p q id is at past =
      ap (λ (m : Held × Step). after_step c word (standing h p) m.0 m.1) (plain_met word h p is)
      ∙ ap (λ (o : Option Rule). to_positional c o word (standing h p) h) at
      ∙ ap₂ (λ (k : Held) (n : ℕ). standing (pushed id word k) n) (never_both (is_pending (ruled id None (Some p)) h.pending) h (settled c h)) past

  -- a plain argument, where a place is left
  pub plain_step : (word : Text) (rest : List Text) (h : Held) (p q : ℕ) (id : Text) → is_plain word ≡ true → arg_by_index c p ≡ Some (ruled id None (Some p))
      → min (p + 1) usize_max ≡ q
      → ended c (standing h p) (word ∷ rest) ≡ option_and_then (λ rows. ended c (standing (holding rows id (word ∷ []) h.skip) q) rest) (settled_out c h)
  plain_step word rest h p q id is at past =
      ended_as (standing h p) (standing (holding (settled c h).rows id (word ∷ []) h.skip) q) word rest (settle_fault c false h)
      (plain_turn word h p id (value_word word is) at) (plain_walk word h p q id (value_word word is) at past)
      ∙ passing_then (settle_fault c false h) (settled c h).rows (λ rows. ended c (standing (holding rows id (word ∷ []) h.skip) q) rest)

  -- a plain argument, where none is left
  pub stray_step : (word : Text) (rest : List Text) (h : Held) (p : ℕ) → is_plain word ≡ true → arg_by_index c p ≡ None
      → ended c (standing h p) (word ∷ rest) ≡ None
  stray_step word rest h p is none =
      ended_step (standing h p) word rest
      ∙ ap (λ ks. passing ks (ended c (walked c [] (standing h p) word) rest)) (turn_at word h p None (value_word word is) none)

  -- ---- an option's argument

  long_met_as : (waiting : Waiting) (word name : Text) (v : Option Text) (a : Rule) (h : Held) (p : ℕ) → subcommand_met [] waiting word ≡ None
      → IsLongWord word name v
      → arg_by_long c name ≡ Some a → word_met c [] false waiting p word h ≡ after_flag c waiting word (long_met c (Some a) v h).0 (long_met c (Some a) v h).1
  long_met_as waiting word name v a h p quiet is found =
      ap (λ (o : Option Text). subcommand_or_other c o waiting p word h) quiet
      ∙ ap (λ (b : Bool). if b then (h, trailing p) else long_or_other c waiting word (long_of word) h) is.dashes
      ∙ ap (λ (o : Option (Text × Option Text)). long_or_other c waiting word o h) is.long
      ∙ ap (λ (o : Option Rule). after_flag c waiting word (long_met c o v h).0 (long_met c o v h).1) found

  long_passes : (waiting : Waiting) (word name : Text) (v : Option Text) (a : Rule) (h : Held) → subcommand_met [] waiting word ≡ None → IsLongWord word name v
      → arg_by_long c name ≡ Some a → word_fault (shaped c) [] false waiting word h ≡ long_fault c false (Some a) v h
  long_passes waiting word name v a h quiet is found =
      ap (λ (o : Option Text). other_fault (shaped c) o word h) quiet
      ∙ ap (λ (b : Bool). if b then [] else flag_word_fault c false (long_of word) word h) is.dashes
      ∙ ap (λ (o : Option (Text × Option Text)). flag_word_fault c false o word h) is.long
      ∙ ap (λ (o : Option Rule). long_fault c false o v h) found

  given_turn : (word name v id : Text) (l : Option Text) (h : Held) (p : ℕ) → IsLongWord word name (Some v) → arg_by_long c name ≡ Some (ruled id l None)
      → turn_fault (shaped c) [] (standing h p) word ≡ or_else (settle_fault c false h) (use_fault false (ruled id l None) (v ∷ []) (settled c h).rows)
  given_turn word name v id l h p is found =
      ap₂ (λ (ks : Kinds) (m : Held × Step). or_else ks (step_fault (shaped c) p m.0 m.1))
      (long_passes idle word name (Some v) (ruled id l None) h refl is found)
      (long_met_as idle word name (Some v) (ruled id l None) h p refl is found)
      ∙ or_else_none (or_else (settle_fault c false h) (use_fault false (ruled id l None) (v ∷ []) (settled c h).rows))

  given_walk : (word name v id : Text) (l : Option Text) (h : Held) (p : ℕ) → IsLongWord word name (Some v) → arg_by_long c name ≡ Some (ruled id l None)
      → walked c [] (standing h p) word ≡ standing (free_held (used (ruled id l None) (v ∷ []) (settled c h).rows) h.skip) p
  unfolding walked
  given_walk word name v id l h p is found =
      ap (λ (m : Held × Step). after_step c word (standing h p) m.0 m.1) (long_met_as idle word name (Some v) (ruled id l None) h p refl is found)

  -- an option with its value
  pub given_step : (word name v id : Text) (l : Option Text) (rest : List Text) (h : Held) (p : ℕ) → IsLongWord word name (Some v)
      → arg_by_long c name ≡ Some (ruled id l None)
      → ended c (standing h p) (word ∷ rest) ≡ option_and_then (λ rows. passing (use_fault false (ruled id l None) (v ∷ []) rows)
      (ended c (standing (free_held (used (ruled id l None) (v ∷ []) rows) h.skip) p) rest)) (settled_out c h)
  given_step word name v id l rest h p is found =
      let a = ruled id l None in
      ended_as (standing h p) (standing (free_held (used a (v ∷ []) (settled c h).rows) h.skip) p) word rest
      (or_else (settle_fault c false h) (use_fault false a (v ∷ []) (settled c h).rows))
      (given_turn word name v id l h p is found) (given_walk word name v id l h p is found)
      ∙ passing_both (settle_fault c false h) (use_fault false a (v ∷ []) (settled c h).rows)
      (ended c (standing (free_held (used a (v ∷ []) (settled c h).rows) h.skip) p) rest)
      ∙ passing_then (settle_fault c false h) (settled c h).rows
      (λ rows. passing (use_fault false a (v ∷ []) rows) (ended c (standing (free_held (used a (v ∷ []) rows) h.skip) p) rest))

  named_turn : (word name id : Text) (l : Option Text) (h : Held) (p : ℕ) → IsLongWord word name None → arg_by_long c name ≡ Some (ruled id l None)
      → turn_fault (shaped c) [] (standing h p) word ≡ settle_fault c false h
  named_turn word name id l h p is found =
      ap₂ (λ (ks : Kinds) (m : Held × Step). or_else ks (step_fault (shaped c) p m.0 m.1)) (long_passes idle word name None (ruled id l None) h refl is found)
      (long_met_as idle word name None (ruled id l None) h p refl is found)
      ∙ or_else_none (settle_fault c false h)

  named_walk : (word name id : Text) (l : Option Text) (h : Held) (p : ℕ) → IsLongWord word name None → arg_by_long c name ≡ Some (ruled id l None)
      → walked c [] (standing h p) word ≡ awaiting id (holding (settled c h).rows id [] h.skip) p
  unfolding walked
  named_walk word name id l h p is found =
      ap (λ (m : Held × Step). after_step c word (standing h p) m.0 m.1) (long_met_as idle word name None (ruled id l None) h p refl is found)

  -- an option whose value is the next argument
  pub named_step : (word name id : Text) (l : Option Text) (rest : List Text) (h : Held) (p : ℕ) → IsLongWord word name None
      → arg_by_long c name ≡ Some (ruled id l None)
      → ended c (standing h p) (word ∷ rest) ≡ option_and_then (λ rows. ended c (awaiting id (holding rows id [] h.skip) p) rest) (settled_out c h)
  named_step word name id l rest h p is found =
      ended_as (standing h p) (awaiting id (holding (settled c h).rows id [] h.skip) p) word rest (settle_fault c false h)
      (named_turn word name id l h p is found) (named_walk word name id l h p is found)
      ∙ passing_then (settle_fault c false h) (settled c h).rows (λ rows. ended c (awaiting id (holding rows id [] h.skip) p) rest)

  -- ---- the argument after an option

  value_met : (word id : Text) (h : Held) (p : ℕ) (a : Rule) → IsValueWord word → arg_by_id c id ≡ Some a
      → word_met c [] false (option id) p word h ≡ ((option_word (Some a) id word h).0, next (option_word (Some a) id word h).1)
  value_met word id h p a is known =
      ap (λ (b : Bool). if b then (h, trailing p) else long_or_other c (option id) word (long_of word) h) is.dashes
      ∙ ap (λ (o : Option (Text × Option Text)). long_or_other c (option id) word o h) is.long
      ∙ ap (λ (o : Option Text). short_or_plain c (option id) word o h) is.short
      ∙ ap (λ (o : Option Rule). ((option_word o id word h).0, next (option_word o id word h).1)) known

  value_passes : (word id : Text) (h : Held) → IsValueWord word → word_fault (shaped c) [] false (option id) word h ≡ []
  value_passes word id h is =
      ap (λ (b : Bool). if b then [] else flag_word_fault c false (long_of word) word h) is.dashes
      ∙ ap (λ (o : Option (Text × Option Text)). flag_word_fault c false o word h) is.long
      ∙ ap (λ (o : Option Text). option_map_or (λ flags. bundle_fault c false flags h) o []) is.short

  one_pending : (id word : Text) (b : Bool) → b ≡ true → nat_lt (if b then length (word ∷ []) else 0) 1 ≡ false
  one_pending id word true e = refl
  one_pending id word false e = cc

  value_walk : (word id : Text) (l : Option Text) (i : Option ℕ) (rows : List Row) (skip p : ℕ) → IsValueWord word → arg_by_id c id ≡ Some (ruled id l i)
      → walked c [] (awaiting id (holding rows id [] skip) p) word ≡ standing (holding rows id (word ∷ []) skip) p
  unfolding walked
  value_walk word id l i rows skip p is known =
      ap (λ (m : Held × Step). after_step c word (awaiting id (holding rows id [] skip) p) m.0 m.1)
      (value_met word id (holding rows id [] skip) p (ruled id l i) is known)
      ∙ ap (λ (b : Bool). after_step c word (awaiting id (holding rows id [] skip) p) (holding rows id (word ∷ []) skip) (next (if b then option id else idle)))
      (one_pending id word (bytes_eq id id) ((bytes_eq-Decides id id).1 refl))

  pub value_step : (word id : Text) (rest : List Text) (l : Option Text) (i : Option ℕ) (rows : List Row) (skip p : ℕ) → is_plain word ≡ true
      → arg_by_id c id ≡ Some (ruled id l i)
      → ended c (awaiting id (holding rows id [] skip) p) (word ∷ rest) ≡ ended c (standing (holding rows id (word ∷ []) skip) p) rest
  value_step word id rest l i rows skip p is known =
      ended_as (awaiting id (holding rows id [] skip) p) (standing (holding rows id (word ∷ []) skip) p) word rest []
      (ap₂ (λ (ks : Kinds) (m : Held × Step). or_else ks (step_fault (shaped c) p m.0 m.1))
      (value_passes word id (holding rows id [] skip) (value_word word is))
      (value_met word id (holding rows id [] skip) p (ruled id l i) (value_word word is) known))
      (value_walk word id l i rows skip p (value_word word is) known)

  -- an option with no value fails once it is settled
  unsettled : (id : Text) (l : Option Text) (i : Option ℕ) (rows : List Row) (skip : ℕ) → arg_by_id c id ≡ Some (ruled id l i)
      → settle_fault c false (holding rows id [] skip) ≡ kind.InvalidValue ∷ []
  unsettled id l i rows skip known = ap (λ (o : Option Rule). option_map_or (λ (a : Rule). use_fault false a [] rows) o []) known

  pub no_value : (id : Text) (l : Option Text) (i : Option ℕ) (rows : List Row) (skip p : ℕ) → arg_by_id c id ≡ Some (ruled id l i)
      → ended c (awaiting id (holding rows id [] skip) p) [] ≡ None
  no_value id l i rows skip p known =
      ended_none (awaiting id (holding rows id [] skip) p)
      ∙ ap (λ ks. unless ks (settled c (holding rows id [] skip)).rows) (unsettled id l i rows skip known)

  option_settles : (a : Rule) (v : Option Text) (h : Held) → takes_values a ≡ true → settle_fault c false h ≡ kind.InvalidValue ∷ []
      → (more : Kinds) (o : Option (List Row)) → passing (or_else (long_fault c false (Some a) v h) more) o ≡ None
  option_settles a (Some v) h takes e more o =
      ap (λ (b : Bool). passing (or_else (if b then option_fault c false a (Some v) h else kind.TooManyValues ∷ []) more) o) takes
      ∙ ap (λ ks. passing (or_else (or_else ks (use_fault false a (v ∷ []) (settled c h).rows)) more) o) e
  option_settles a None h takes e more o =
      ap (λ (b : Bool). passing (or_else (if b then option_fault c false a None h else react_fault c false a [] h) more) o) takes
      ∙ ap (λ ks. passing (or_else ks more) o) e

  pub option_for_value : (word name id d : Text) (v : Option Text) (rest : List Text) (l m : Option Text) (i : Option ℕ) (rows : List Row) (skip p : ℕ)
      → IsLongWord word name v → arg_by_long c name ≡ Some (ruled d m None) → arg_by_id c id ≡ Some (ruled id l i)
      → ended c (awaiting id (holding rows id [] skip) p) (word ∷ rest) ≡ None
  option_for_value word name id d v rest l m i rows skip p is found known =
      let h = holding rows id [] skip in
      let w = awaiting id h p in
      ended_step w word rest
      ∙ ap (λ (ks : Kinds). passing
      (or_else ks (step_fault (shaped c) p (word_met c [] false (option id) p word h).0 (word_met c [] false (option id) p word h).1))
      (ended c (walked c [] w word) rest)) (long_passes (option id) word name v (ruled d m None) h refl is found)
      ∙ option_settles (ruled d m None) v h refl (unsettled id l i rows skip known)
      (step_fault (shaped c) p (word_met c [] false (option id) p word h).0 (word_met c [] false (option id) p word h).1) (ended c (walked c [] w word) rest)

-- ---- one use

row_free : (id : Text) (change : Row → List Row) (more rows : List Row) → has_row id rows ≡ false → at_row id change more rows ≡ rows ++ more
row_free id change more [] none = refl
row_free id change more (r ∷ rows) none =
    let parts = or_parts (bytes_eq r.id id) (has_row id rows) none in
    here (bytes_eq r.id id) parts.0 (row_free id change more rows parts.1)
  where
    here : (b : Bool) → b ≡ false → at_row id change more rows ≡ rows ++ more
        → (if b then change r ++ rows else r ∷ at_row id change more rows) ≡ r ∷ (rows ++ more)
    here true e same = cc
    here false e same = ap (λ xs. r ∷ xs) same

used_is : (id v : Text) (l : Option Text) (i : Option ℕ) (rows : List Row) → has_row id rows ≡ false
    → used (ruled id l i) (v ∷ []) rows ≡ rows ++ row_with id v ∷ []
used_is id v l i rows none =
    let same : without id rows ≡ rows = row_free id (λ _. []) [] rows none ∙ append-nil rows in
    ap (λ xs. with_values id reading.AsWritten CommandLine (v ∷ []) xs) same ∙ row_free id (more_values CommandLine (v ∷ [])) (row_with id v ∷ []) rows none

-- a use with one value, of an argument that takes one
pub use_is : (id v : Text) (l : Option Text) (i : Option ℕ) (rows : List Row) (f : List Row → Option (List Row))
    → passing (use_fault false (ruled id l i) (v ∷ []) rows) (f (used (ruled id l i) (v ∷ []) rows)) ≡ option_and_then f (put_row rows id v)
use_is id v l i rows f = go (has_row id rows) (used (ruled id l i) (v ∷ []) rows) (λ e. used_is id v l i rows e)
  where
    go : (b : Bool) (xs : List Row) → (b ≡ false → xs ≡ rows ++ row_with id v ∷ [])
        → passing (or_else (if b && true then kind.ArgumentConflict ∷ [] else []) []) (f xs)
        ≡ option_and_then f (if b then None else Some (rows ++ row_with id v ∷ []))
    go true xs e = refl
    go false xs e = ap f (e refl)

-- what is held with one value
pub holding_out : (c : List Rule) (id v : Text) (l : Option Text) (i : Option ℕ) (rows : List Row) (skip : ℕ) → arg_by_id c id ≡ Some (ruled id l i)
    → settled_out c (holding rows id (v ∷ []) skip) ≡ put_row rows id v
holding_out c id v l i rows skip known =
    ap (λ (o : Option Rule). unless (option_map_or (λ (a : Rule). use_fault false a (v ∷ []) rows) o []) (used_by_id o (v ∷ []) rows)) known
    ∙ as_passing (use_fault false (ruled id l i) (v ∷ []) rows) (used (ruled id l i) (v ∷ []) rows)
    ∙ use_is id v l i rows (λ xs. Some xs) ∙ some_again (put_row rows id v)
  where
    as_passing : (ks : Kinds) (xs : List Row) → unless ks xs ≡ passing ks (Some xs)
    as_passing [] xs = refl
    as_passing (k ∷ ks) xs = refl

    some_again : (o : Option (List Row)) → option_and_then (λ xs. Some xs) o ≡ o
    some_again None = refl
    some_again (Some xs) = refl
