-- What clap answers at the arguments, by what they give.
use Rattle.std.proofs.Common.{◌≡◌, ◌∙◌, ◌++◌, ◌&&◌, ◌||◌, ap, ap₂, subst, sym, refl, Bool, true, false, not, codes, map, List, [], ◌∷◌, Option, Some, None}
use Rattle.std.proofs.Common.{Result, append_assoc, append-nil}
use Rattle.std.specs.Prelude.{if◌then◌else◌, bytes_eq, slice_get}
use Rattle.std.specs.Option.{option_and_then, option_map}
use Rattle.std.specs.List.{cons_option, find, fold, list_all}
use Rattle.std.proofs.lemmas.List.Folds.{list_any-append}
use Rattle.clap.specs.Kinds.{FailsBy, IsAmong, Kinds, or_else}
use Rattle.clap.specs.Walk.{Row, Rule, Text, default_rows, first_of, finished, has_row, is_empty, nothing_held, reading_by, rows_of, settled, walk, walk_from}
use Rattle.clap.specs.Walk.{with_default}
use Rattle.clap.specs.Matches.{found_of}
use Rattle.clap.specs.Simple.{App, HasMatchesOf}
use Rattle.clap.specs.Faults.{check_fault, default_fault, defaults_fault, fault_of, given_default_fault, is_simple_and_free, level_fault, settle_fault}
use Rattle.clap.specs.Faults.{walk_fault}
use Rattle.clap.specs.declared.error.Error.{Error}
use Rattle.clap.specs.declared.error.kind.ErrorKind.{ErrorKind}
use Rattle.clap.specs.declared.parser.matches.ArgMatches.{ArgMatches}
use Rattle.clap.proofs.FaultLemmas.{leaf_fault}
use Rattle.fdr_words.specs.declared.uses.OptionName.{OptionName}
use Rattle.fdr_words.specs.Words.{Uses, Word, plain, named, given, wrong, followed, is_plain, no_uses, with_plain, with_value, word_meaning, uses_of}
use Rattle.fdr_words.specs.Reader.{are_known, has_meaning, reader, reader_faults, reader_rows, uses_in}
use Rattle.fdr_words.proofs.Placed.{Values, are_distinct, first, gathered, has_place, placed, uses_at, uses_placed, value_at}
use Rattle.fdr_words.proofs.ClapSteps.{ended, row_with, shaped, standing, unless}
use Rattle.fdr_words.proofs.ClapWalk.{put_in_turn, rules, walks_from_start}

-- ---- values put in turn are all there, where no place comes twice

abbrev rows_for : Values → List Row
rows_for xs = map (λ x. row_with x.0 x.1) xs

abbrev are_free : List Row → Values → Bool
are_free rows xs = list_all (λ x. not (has_row x.0 rows)) xs

free_after : (rows : List Row) (id v : Text) (xs : Values) → are_free (rows ++ row_with id v ∷ []) xs ≡ (are_free rows xs && not (has_place id xs))
free_after rows id v [] = refl
free_after rows id v (x ∷ xs) =
    ap₂ (λ (a b : Bool). not a && b) (list_any-append (λ (r : Row). bytes_eq r.id x.0) rows (row_with id v ∷ [])) (free_after rows id v xs)
    ∙ regrouped (has_row x.0 rows) (bytes_eq id x.0) (are_free rows xs) (has_place id xs)
  where
    regrouped : (a b c d : Bool) → (not (a || (b || false)) && (c && not d)) ≡ ((not a && c) && not (b || d))
    regrouped true b c d = refl
    regrouped false true true d = refl
    regrouped false true false d = refl
    regrouped false false c d = refl

in_turn : (xs : Values) (rows : List Row) → put_in_turn xs rows ≡ (if are_free rows xs && are_distinct xs then Some (rows ++ rows_for xs) else None)
in_turn [] rows = ap (λ rs. Some rs) (sym (append-nil rows))
in_turn (x ∷ xs) rows =
    one (has_row x.0 rows) (in_turn xs (rows ++ row_with x.0 x.1 ∷ []))
    ∙ ap (λ b. if has_row x.0 rows then None else (if b && are_distinct xs then Some ((rows ++ row_with x.0 x.1 ∷ []) ++ rows_for xs) else None))
    (free_after rows x.0 x.1 xs)
    ∙ ap (λ rs. if has_row x.0 rows then None else (if (are_free rows xs && not (has_place x.0 xs)) && are_distinct xs then Some rs else None))
    (append_assoc rows (row_with x.0 x.1 ∷ []) (rows_for xs))
    ∙ regrouped (has_row x.0 rows) (are_free rows xs) (has_place x.0 xs) (are_distinct xs) (rows ++ rows_for (x ∷ xs))
  where
    one : (b : Bool) → put_in_turn xs (rows ++ row_with x.0 x.1 ∷ [])
        ≡ (if are_free (rows ++ row_with x.0 x.1 ∷ []) xs && are_distinct xs then Some ((rows ++ row_with x.0 x.1 ∷ []) ++ rows_for xs) else None)
        → option_and_then (put_in_turn xs) (if b then None else Some (rows ++ row_with x.0 x.1 ∷ []))
        ≡ (if b then None else
        (if are_free (rows ++ row_with x.0 x.1 ∷ []) xs && are_distinct xs then Some ((rows ++ row_with x.0 x.1 ∷ []) ++ rows_for xs) else None))
    one true e = refl
    one false e = e

    regrouped : (a b c d : Bool) (rs : List Row) → (if a then None else (if (b && not c) && d then Some rs else None))
        ≡ (if (not a && b) && (not c && d) then Some rs else None)
    regrouped true b c d rs = refl
    regrouped false true true d rs = refl
    regrouped false true false d rs = refl
    regrouped false false c d rs = refl

-- ---- the uses that rows hold

first_is : (id : Text) (xs : Values) → first_of id (rows_for xs) ≡ value_at id xs
first_is id [] = refl
first_is id (x ∷ xs) = go (bytes_eq x.0 id) (first_is id xs)
  where
    go : (b : Bool) → first_of id (rows_for xs) ≡ value_at id xs
        → option_and_then (λ (r : Row). slice_get r.values 0)
        (if b then Some (row_with x.0 x.1) else find (λ (r : Row). bytes_eq r.id id) (rows_for xs))
        ≡ (if b then Some x.1 else value_at id xs)
    go true e = refl
    go false e = e

-- uses with these values
abbrev with_fields : Option Text → Option Text → Option Text → Option Text → Option Text → Option Text → Option Text → Uses
with_fields a b c s p d f = record { plain = cons_option a (cons_option b (cons_option c [])); slots = s; payload = p; seed = d; frames = f }

uses_are : (xs : Values) → uses_in (rows_for xs) ≡ uses_at xs
uses_are xs = λ i. with_fields (first_is (codes "command") xs i) (first_is (codes "path") xs i) (first_is (codes "image") xs i) (first_is (codes "slots") xs i)
    (first_is (codes "payload") xs i) (first_is (codes "seed") xs i) (first_is (codes "frames") xs i)

turned_uses : (xs : Values) → option_map uses_in (put_in_turn xs []) ≡ gathered xs
turned_uses xs =
    ap (option_map uses_in) (in_turn xs [] ∙ ap (λ b. if b && are_distinct xs then Some (rows_for xs) else None) (all_free xs)) ∙ go (are_distinct xs)
  where
    all_free : (ys : Values) → are_free [] ys ≡ true
    all_free [] = refl
    all_free (y ∷ ys) = all_free ys

    go : (b : Bool) → option_map uses_in (if b then Some (rows_for xs) else None) ≡ (if b then Some (uses_at xs) else None)
    go true = ap (λ u. Some u) (uses_are xs)
    go false = refl

ended_uses : (args : List Text) → are_known args ≡ true
    → option_map uses_in (ended rules (standing nothing_held 1) args) ≡ uses_of args
ended_uses args known = ap (option_map uses_in) (walks_from_start args known) ∙ go (placed args first) ∙ sym (uses_placed args)
  where
    go : (o : Option Values) → option_map uses_in (option_and_then (λ xs. put_in_turn xs []) o) ≡ option_and_then gathered o
    go None = refl
    go (Some xs) = turned_uses xs

-- ---- what comes after the arguments fails nowhere

abbrev HaveNoDefaults : List Rule → Type 0
HaveNoDefaults [] = Unit {0}
HaveNoDefaults (a ∷ c) = (a.defaults ≡ []) × HaveNoDefaults c

default_kept : (a : Rule) (rows : List Row) → a.defaults ≡ [] → with_default rows a ≡ rows
default_kept a rows none = ap (λ d. if has_row a.id rows then rows else default_rows a.id (reading_by a) d rows) none ∙ go (has_row a.id rows)
  where
    go : (b : Bool) → (if b then rows else rows) ≡ rows
    go true = refl
    go false = refl

default_passes : (a : Rule) (rows : List Row) → a.defaults ≡ [] → default_fault rows a ≡ []
default_passes a rows none = ap (λ d. if has_row a.id rows || is_empty d then [] else given_default_fault a d) none ∙ go (has_row a.id rows)
  where
    go : (b : Bool) → (if b || true then [] else given_default_fault a []) ≡ []
    go true = refl
    go false = refl

defaults_pass : (c : List Rule) (rows : List Row) → HaveNoDefaults c → defaults_fault rows c ≡ []
unfolding defaults_fault
defaults_pass [] rows h = refl
defaults_pass (a ∷ c) rows h =
    ap₂ or_else (default_passes a rows h.0) (ap (λ rs. defaults_fault rs c) (default_kept a rows h.0) ∙ defaults_pass c rows h.1)

defaults_keep : (c : List Rule) (rows : List Row) → HaveNoDefaults c → fold with_default rows c ≡ rows
defaults_keep [] rows h = refl
defaults_keep (a ∷ c) rows h = ap (λ rs. fold with_default rs c) (default_kept a rows h.0) ∙ defaults_keep c rows h.1

walk_alone : (w s d k : Kinds) (m r : List Row) → d ≡ [] → k ≡ [] → m ≡ r → unless (or_else w (or_else s (or_else d k))) m ≡ unless (or_else w s) r
walk_alone (x ∷ xs) s d k m r d_none k_none same = refl
walk_alone [] (x ∷ xs) d k m r d_none k_none same = refl
walk_alone [] [] d k m r d_none k_none same = ap₂ (λ x y. unless (or_else x y) m) d_none k_none ∙ ap (λ rs. Some rs) same

no_defaults : HaveNoDefaults rules
no_defaults = (refl, (refl, (refl, (refl, (refl, (refl, (refl, tt)))))))

none_missing : (rows : List Row) → check_fault (shaped rules) rows false ≡ []
none_missing rows = refl

level_ended : (args : List Text) → unless (level_fault (shaped rules) [] nothing_held args false []) (finished rules (walk rules [] nothing_held args).held)
    ≡ ended rules (standing nothing_held 1) args
unfolding ended
level_ended args =
    let end = (walk rules [] nothing_held args).held in
    walk_alone (walk_fault (shaped rules) [] (walk_from nothing_held) args) (settle_fault rules false end) (defaults_fault (settled rules end).rows rules)
    (check_fault (shaped rules) (finished rules end) false) (finished rules end) (settled rules end).rows
    (defaults_pass rules (settled rules end).rows no_defaults) (none_missing (finished rules end)) (defaults_keep rules (settled rules end).rows no_defaults)

reader_ended : (args : List Text) → unless (reader_faults args) (reader_rows args) ≡ ended rules (standing nothing_held 1) args
unfolding reader_faults reader_rows
reader_ended args =
    let leaf : App = record { top = shaped rules; subs = [] } in
    ap (λ (ks : Kinds). unless ks (finished rules (walk rules [] nothing_held args).held)) (leaf_fault leaf nothing_held args refl) ∙ level_ended args

-- ---- the laws

reader_uses : (args : List Text) → are_known args ≡ true
    → option_map uses_in (unless (reader_faults args) (reader_rows args)) ≡ uses_of args
reader_uses args known = ap (option_map uses_in) (reader_ended args) ∙ ended_uses args known

-- where clap takes the arguments, their uses are those of its rows
pub taken_uses : (args : List Text) (rows : List Row) → are_known args ≡ true → reader_faults args ≡ []
    → rows ≡ reader_rows args → uses_of args ≡ Some (uses_in rows)
taken_uses args rows known none same =
    sym (reader_uses args known) ∙ ap (λ ks. option_map uses_in (unless ks (reader_rows args))) none ∙ ap (λ rs. Some (uses_in rs)) (sym same)

-- where clap refuses them for what they are, they give nothing
pub refused_uses : (args : List Text) (k : ErrorKind) → are_known args ≡ true → IsAmong k (reader_faults args)
    → uses_of args ≡ None
refused_uses args k known among = sym (reader_uses args known) ∙ go (reader_faults args) among
  where
    go : (ks : Kinds) → IsAmong k ks → option_map uses_in (unless ks (reader_rows args)) ≡ None
    go [] h = absurd h
    go (x ∷ xs) h = refl

-- the same of a command that is the reader
pub reader_fails : {T : Type 0} (a : App) (args : List Text) (r : Result T Error) → a ≡ reader → (is_simple_and_free a ≡ true → FailsBy (fault_of a args) r)
    → FailsBy (reader_faults args) r
unfolding reader_faults
reader_fails {T = T} a args r same fails = subst (λ (b : App). is_simple_and_free b ≡ true → FailsBy (fault_of b args) r) same fails refl

pub reader_matches : (a : App) (args : List Text) (m : ArgMatches) → a ≡ reader → HasMatchesOf a args m → rows_of (found_of m) ≡ reader_rows args
unfolding reader_rows
reader_matches a args m same has = (subst (λ (b : App). HasMatchesOf b args m) same has refl).0

-- ---- an argument that no form has

unknown_named : (o : OptionName) (v : Text) (b : Bool) (after : Option Uses) → (b ≡ true → after ≡ None)
    → (if b then option_and_then (with_value o v) after else None) ≡ None
unknown_named o v true after none = ap (option_and_then (with_value o v)) (none refl)
unknown_named o v false after none = refl

plain_known : (word : Text) → is_plain word ≡ true → word_meaning word ≡ plain
unfolding word_meaning
plain_known word e = rw e refl

unknown_followed : (word : Text) (w : Word) (next : Option Text) (a b : Option Uses) → (has_meaning w ≡ true → a ≡ None)
    → (has_meaning w ≡ true → (v : Text) → next ≡ Some v → is_plain v ≡ true → b ≡ None) → followed word w next a b ≡ None
unknown_followed word plain next a b none more = ap (option_and_then (with_plain word)) (none refl)
unknown_followed word (given o v) next a b none more = ap (option_and_then (with_value o v)) (none refl)
unknown_followed word (named o) None a b none more = refl
unknown_followed word (named o) (Some v) a b none more = unknown_named o v (is_plain v) b (λ e. more refl v refl e)
unknown_followed word wrong next a b none more = refl

unknown_rest : (a b : Bool) → (a && b) ≡ false → a ≡ true → b ≡ false
unknown_rest true b e is = e
unknown_rest false b e is = cc

-- an argument that no form has, somewhere
pub unknown_word : (args : List Text) → are_known args ≡ false → uses_of args ≡ None
unknown_word [] unknown = cc
unknown_word (word ∷ []) unknown =
    unknown_followed word (word_meaning word) None (Some no_uses) None
    (λ known. let no : true ≡ false = unknown_rest (has_meaning (word_meaning word)) true unknown known in cc) (λ known v e is. cc)
unknown_word (word ∷ next ∷ rest) unknown =
    unknown_followed word (word_meaning word) (Some next) (uses_of (next ∷ rest)) (uses_of rest)
    (λ known. unknown_word (next ∷ rest) (unknown_rest (has_meaning (word_meaning word)) (are_known (next ∷ rest)) unknown known))
    (λ known v e is. let same : v ≡ next = cc in
    let next_plain : is_plain next ≡ true = subst (λ w. is_plain w ≡ true) same is in
    let after : (has_meaning (word_meaning next) && are_known rest) ≡ false = unknown_rest (has_meaning (word_meaning word))
    (are_known (next ∷ rest)) unknown known in
    unknown_word rest (unknown_rest (has_meaning (word_meaning next)) (are_known rest) after (ap has_meaning (plain_known next next_plain))))
