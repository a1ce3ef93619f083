-- Where clap takes the arguments, its rows are their values by place; elsewhere it fails.
use Rattle.std.proofs.Common.{◌≡◌, ◌∙◌, ◌++◌, ◌&&◌, ap, ap₂, subst, sym, refl, ℕ, Bool, true, false, codes, List, [], ◌∷◌, Option, Some, None, length, take}
use Rattle.std.proofs.Common.{drop, min, ◌+◌, nat_lt, take-append-drop}
use Rattle.std.specs.Prelude.{if◌then◌else◌, bytes_eq}
use Rattle.std.specs.Option.{option_and_then, option_map_or}
use Rattle.std.proofs.lemmas.Bool.{and_parts, cond_both}
use Rattle.std.proofs.lemmas.Slice.Eq.{bytes_eq-Decides}
use Rattle.clap.specs.Lexer.{usize_max}
use Rattle.clap.specs.Walk.{Held, Row, Rule, Text, arg_by_id, arg_by_index, arg_by_long, nothing_held}
use Rattle.clap.specs.Walk.{used}
use Rattle.clap.specs.Faults.{use_fault}
use Rattle.fdr_words.specs.declared.uses.OptionName.{OptionName}
use Rattle.fdr_words.specs.declared.uses.OptionName.TheVariants as name
use Rattle.fdr_words.specs.Words.{Word, plain, named, given, wrong, is_plain, word_meaning, value_after}
use Rattle.fdr_words.specs.Reader.{are_known, has_meaning}
use Rattle.fdr_words.proofs.Placed.{Position, first, second, third, past, after_position, option_id, Values, with_place, at_position, placed_word, placed}
use Rattle.fdr_words.proofs.UsesSteps.{where_some}
use Rattle.fdr_words.proofs.ClapSteps.{IsLongWord, ruled, standing, holding, free_held, settled_out, ended, put_row, passing, ended_none, plain_step}
use Rattle.fdr_words.proofs.ClapSteps.{stray_step, given_step, named_step, value_step}
use Rattle.fdr_words.proofs.ClapSteps.{no_value, option_for_value, use_is, holding_out}

-- ---- what an argument's meaning says of its text

abbrev IsMeaning : List ℕ → Word → Type 0
IsMeaning word plain = is_plain word ≡ true
IsMeaning word (named o) = IsLongWord word (option_id o) None
IsMeaning word (given o v) = IsLongWord word (option_id o) (Some v)
IsMeaning word wrong = Unit {0}

parts_of : (prefix word v : List ℕ) → value_after prefix word ≡ Some v → word ≡ prefix ++ v
unfolding value_after
parts_of prefix word v e =
    let from = where_some (bytes_eq (take (length prefix) word) prefix && nat_lt (length prefix) (length word)) (drop (length prefix) word) v e in
    let front = (bytes_eq-Decides (take (length prefix) word) prefix).0
    (and_parts (bytes_eq (take (length prefix) word) prefix) (nat_lt (length prefix) (length word)) from.0).0 in
    sym (take-append-drop (length prefix) word) ∙ ap₂ (λ (a b : List ℕ). a ++ b) front from.1

long_word_is : (word text : List ℕ) (o : OptionName) (v : Option (List ℕ)) → word ≡ text → IsLongWord text (option_id o) v → IsLongWord word (option_id o) v
long_word_is word text o v same is = subst (λ w. IsLongWord w (option_id o) v) (sym same) is

meant_after : (o : Option (List ℕ)) (P : Word → Type 0) (f : List ℕ → Word) (w : Word) → ((v : List ℕ) → o ≡ Some v → P (f v)) → P w → P (option_map_or f o w)
meant_after None P f w some none = none
meant_after (Some v) P f w some none = some v refl

abbrev from_frames : List ℕ → Word
from_frames word = option_map_or (λ value. given name.Frames value) (value_after (codes "--frames=") word) wrong

abbrev from_seed : List ℕ → Word
from_seed word = option_map_or (λ value. given name.Seed value) (value_after (codes "--seed=") word) (from_frames word)

abbrev from_payload : List ℕ → Word
from_payload word = option_map_or (λ value. given name.Payload value) (value_after (codes "--payload=") word) (from_seed word)

abbrev from_slots : List ℕ → Word
from_slots word = option_map_or (λ value. given name.Slots value) (value_after (codes "--slots=") word) (from_payload word)

abbrev named_frames : List ℕ → Word
named_frames word = if bytes_eq word (codes "--frames") then named name.Frames else from_slots word

abbrev named_seed : List ℕ → Word
named_seed word = if bytes_eq word (codes "--seed") then named name.Seed else named_frames word

abbrev named_payload : List ℕ → Word
named_payload word = if bytes_eq word (codes "--payload") then named name.Payload else named_seed word

abbrev named_slots : List ℕ → Word
named_slots word = if bytes_eq word (codes "--slots") then named name.Slots else named_payload word

given_is : (word : List ℕ) → IsMeaning word (from_slots word)
given_is word =
    meant_after (value_after (codes "--slots=") word) (IsMeaning word) (λ value. given name.Slots value) (from_payload word)
    (λ v e. long_word_is word (codes "--slots=" ++ v) name.Slots (Some v) (parts_of (codes "--slots=") word v e) (record { dashes = refl; long = refl }))
    (meant_after (value_after (codes "--payload=") word) (IsMeaning word) (λ value. given name.Payload value) (from_seed word)
    (λ v e. long_word_is word (codes "--payload=" ++ v) name.Payload (Some v) (parts_of (codes "--payload=") word v e) (record { dashes = refl; long = refl }))
    (meant_after (value_after (codes "--seed=") word) (IsMeaning word) (λ value. given name.Seed value) (from_frames word)
    (λ v e. long_word_is word (codes "--seed=" ++ v) name.Seed (Some v) (parts_of (codes "--seed=") word v e) (record { dashes = refl; long = refl }))
    (meant_after (value_after (codes "--frames=") word) (IsMeaning word) (λ value. given name.Frames value) wrong
    (λ v e. long_word_is word (codes "--frames=" ++ v) name.Frames (Some v) (parts_of (codes "--frames=") word v e) (record { dashes = refl; long = refl }))
    tt)))

named_is : (word text : List ℕ) (o : OptionName) → bytes_eq word text ≡ true → IsLongWord text (option_id o) None → IsLongWord word (option_id o) None
named_is word text o e is = long_word_is word text o None ((bytes_eq-Decides word text).0 e) is

meaning_is : (word : List ℕ) → IsMeaning word (word_meaning word)
unfolding word_meaning
meaning_is word =
    cond_both (is_plain word) plain (named_slots word) (IsMeaning word) (λ e. e)
    (λ no. cond_both (bytes_eq word (codes "--slots")) (named name.Slots) (named_payload word)
    (IsMeaning word) (λ e. named_is word (codes "--slots") name.Slots e (record { dashes = refl; long = refl }))
    (λ no2. cond_both (bytes_eq word (codes "--payload")) (named name.Payload) (named_seed word) (IsMeaning word)
    (λ e. named_is word (codes "--payload") name.Payload e (record { dashes = refl; long = refl }))
    (λ no3. cond_both (bytes_eq word (codes "--seed")) (named name.Seed) (named_frames word) (IsMeaning word)
    (λ e. named_is word (codes "--seed") name.Seed e (record { dashes = refl; long = refl }))
    (λ no4. cond_both (bytes_eq word (codes "--frames")) (named name.Frames) (from_slots word) (IsMeaning word)
    (λ e. named_is word (codes "--frames") name.Frames e (record { dashes = refl; long = refl })) (λ no5. given_is word)))))

-- ---- the arguments

abbrev option_rule : OptionName → Rule
option_rule o = ruled (option_id o) (Some (option_id o)) None

abbrev pub rules : List Rule
rules =
    ruled (codes "command") None (Some 1) ∷ ruled (codes "path") None (Some 2) ∷ ruled (codes "image") None (Some 3)
    ∷ option_rule name.Slots ∷ option_rule name.Payload ∷ option_rule name.Seed ∷ option_rule name.Frames ∷ []

by_long : (o : OptionName) → arg_by_long rules (option_id o) ≡ Some (option_rule o)
by_long name.Slots = refl
by_long name.Payload = refl
by_long name.Seed = refl
by_long name.Frames = refl

by_id : (o : OptionName) → arg_by_id rules (option_id o) ≡ Some (option_rule o)
by_id name.Slots = refl
by_id name.Payload = refl
by_id name.Seed = refl
by_id name.Frames = refl

abbrev number : Position → ℕ
number first = 1
number second = 2
number third = 3
number past = 4

-- ---- the values in turn

abbrev pub put_in_turn : Values → List Row → Option (List Row)
put_in_turn [] rows = Some rows
put_in_turn (x ∷ xs) rows = option_and_then (put_in_turn xs) (put_row rows x.0 x.1)

abbrev through : Option Values → Option (List Row) → Option (List Row)
through o r = option_and_then (λ xs. option_and_then (put_in_turn xs) r) o

abbrev no_rows : List Row → Option (List Row)
no_rows rows = None

none_of : (r : Option (List Row)) → option_and_then no_rows r ≡ None
none_of None = refl
none_of (Some rows) = refl

none_in_turn : (r : Option (List Row)) → r ≡ option_and_then (put_in_turn []) r
none_in_turn None = refl
none_in_turn (Some rows) = refl

one_in_turn : (id v : List ℕ) (o : Option Values) (r : Option (List Row)) → option_and_then (λ rows. through o (put_row rows id v)) r
    ≡ through (with_place id v o) r
one_in_turn id v None r = none_of r
one_in_turn id v (Some xs) None = refl
one_in_turn id v (Some xs) (Some rows) = refl

rest_in_turn : (o : Option Values) (r : Option (List Row)) → option_and_then (λ rows. through o (Some rows)) r ≡ through o r
rest_in_turn None r = none_of r
rest_in_turn (Some xs) r = refl

-- ---- one argument

abbrev Walks : List Text → (Position → Option Values) → Type 0
Walks args f = (h : Held) (p : Position) → ended rules (standing h (number p)) args ≡ through (f p) (settled_out rules h)

held_walks : (rest : List Text) (f : Position → Option Values) → Walks rest f → (id v : Text) (l : Option Text) (i : Option ℕ)
    → arg_by_id rules id ≡ Some (ruled id l i)
    → (q : Position) (rows : List Row) (skip : ℕ) → ended rules (standing (holding rows id (v ∷ []) skip) (number q)) rest ≡ through (f q) (put_row rows id v)
held_walks rest f walks id v l i known q rows skip =
    walks (holding rows id (v ∷ []) skip) q ∙ ap (through (f q)) (holding_out rules id v l i rows skip known)

one_plain : (word : Text) (rest : List Text) (f : Position → Option Values) → is_plain word ≡ true → Walks rest f → (h : Held) (p q : Position) (id : Text)
    → arg_by_index rules (number p) ≡ Some (ruled id None (Some (number p))) → arg_by_id rules id ≡ Some (ruled id None (Some (number p)))
    → min (number p + 1) usize_max ≡ number q
    → ended rules (standing h (number p)) (word ∷ rest) ≡ through (with_place id word (f q)) (settled_out rules h)
one_plain word rest f is walks h p q id by_index known next =
    plain_step rules word rest h (number p) (number q) id is by_index next
    ∙ (λ j. option_and_then (λ rows. held_walks rest f walks id word None (Some (number p)) known q rows h.skip j) (settled_out rules h))
    ∙ one_in_turn id word (f q) (settled_out rules h)

plain_walks : (word : Text) (rest : List Text) (f : Position → Option Values) → is_plain word ≡ true → Walks rest f
    → (h : Held) (p : Position) → ended rules (standing h (number p)) (word ∷ rest) ≡ through (at_position p word (f (after_position p))) (settled_out rules h)
plain_walks word rest f is walks h first = one_plain word rest f is walks h first second (codes "command") refl refl refl
plain_walks word rest f is walks h second = one_plain word rest f is walks h second third (codes "path") refl refl refl
plain_walks word rest f is walks h third = one_plain word rest f is walks h third past (codes "image") refl refl refl
plain_walks word rest f is walks h past = stray_step rules word rest h 4 is refl

given_one : (o : OptionName) (v : Text) (rest : List Text) (f : Position → Option Values) → Walks rest f → (h : Held) (p : Position) (rows : List Row)
    → passing (use_fault false (option_rule o) (v ∷ []) rows) (ended rules (standing (free_held (used (option_rule o) (v ∷ []) rows) h.skip) (number p)) rest)
    ≡ through (f p) (put_row rows (option_id o) v)
given_one o v rest f walks h p rows =
    use_is (option_id o) v (Some (option_id o)) None rows (λ xs. ended rules (standing (free_held xs h.skip) (number p)) rest)
    ∙ (λ j. option_and_then (λ xs. walks (free_held xs h.skip) p j) (put_row rows (option_id o) v))
    ∙ rest_in_turn (f p) (put_row rows (option_id o) v)

given_walks : (word : Text) (o : OptionName) (v : Text) (rest : List Text) (f : Position → Option Values) → IsLongWord word (option_id o) (Some v)
    → Walks rest f
    → (h : Held) (p : Position) → ended rules (standing h (number p)) (word ∷ rest) ≡ through (with_place (option_id o) v (f p)) (settled_out rules h)
given_walks word o v rest f is walks h p =
    given_step rules word (option_id o) v (option_id o) (Some (option_id o)) rest h (number p) is (by_long o)
    ∙ (λ j. option_and_then (λ rows. given_one o v rest f walks h p rows j) (settled_out rules h)) ∙ one_in_turn (option_id o) v (f p) (settled_out rules h)

named_end : (word : Text) (o : OptionName) → IsLongWord word (option_id o) None → (h : Held) (p : Position)
    → ended rules (standing h (number p)) (word ∷ []) ≡ None
named_end word o is h p =
    named_step rules word (option_id o) (option_id o) (Some (option_id o)) [] h (number p) is (by_long o)
    ∙ (λ j. option_and_then (λ rows. no_value rules (option_id o) (Some (option_id o)) None rows h.skip (number p) (by_id o) j) (settled_out rules h))
    ∙ none_of (settled_out rules h)

named_value : (word v : Text) (o : OptionName) (rest : List Text) (f : Position → Option Values) → IsLongWord word (option_id o) None → is_plain v ≡ true
    → Walks rest f
    → (h : Held) (p : Position) → ended rules (standing h (number p)) (word ∷ v ∷ rest) ≡ through (with_place (option_id o) v (f p)) (settled_out rules h)
named_value word v o rest f is plain_v walks h p =
    named_step rules word (option_id o) (option_id o) (Some (option_id o)) (v ∷ rest) h (number p) is (by_long o)
    ∙ (λ j. option_and_then (λ rows. value_step rules v (option_id o) rest (Some (option_id o)) None rows h.skip (number p) plain_v (by_id o) j)
    (settled_out rules h))
    ∙ (λ j. option_and_then (λ rows. held_walks rest f walks (option_id o) v (Some (option_id o)) None (by_id o) p rows h.skip j) (settled_out rules h))
    ∙ one_in_turn (option_id o) v (f p) (settled_out rules h)

named_option : (word next : Text) (o d : OptionName) (v : Option Text) (rest : List Text) → IsLongWord word (option_id o) None → IsLongWord next (option_id d) v
    → (h : Held) (p : Position) → ended rules (standing h (number p)) (word ∷ next ∷ rest) ≡ None
named_option word next o d v rest is other h p =
    named_step rules word (option_id o) (option_id o) (Some (option_id o)) (next ∷ rest) h (number p) is (by_long o)
    ∙ (λ j. option_and_then (λ rows. option_for_value rules next (option_id d) (option_id o) (option_id d) v rest (Some (option_id o)) (Some (option_id d)) None
    rows h.skip (number p) other (by_long d) (by_id o) j) (settled_out rules h))
    ∙ none_of (settled_out rules h)

-- an option, and the argument after it
named_walks : (word next : Text) (o : OptionName) (m : Word) (rest : List Text) (f : Position → Option Values) → IsLongWord word (option_id o) None
    → IsMeaning next m → has_meaning m ≡ true → (b : Bool) → is_plain next ≡ b → Walks rest f → (h : Held) (p : Position)
    → ended rules (standing h (number p)) (word ∷ next ∷ rest) ≡ through (if b then with_place (option_id o) next (f p) else None) (settled_out rules h)
named_walks word next o m rest f is means known true e walks h p = named_value word next o rest f is e walks h p
named_walks word next o plain rest f is means known false e walks h p = let no : true ≡ false = sym means ∙ e in cc
named_walks word next o (named d) rest f is means known false e walks h p = named_option word next o d None rest is means h p
named_walks word next o (given d v) rest f is means known false e walks h p = named_option word next o d (Some v) rest is means h p
named_walks word next o wrong rest f is means known false e walks h p = cc

-- ---- the arguments

last_walks : (word : Text) (m : Word) → IsMeaning word m → has_meaning m ≡ true → Walks [] (λ q. Some [])
    → Walks (word ∷ []) (λ p. placed_word word m None (λ q. Some []) None p)
last_walks word plain means known walks h p = plain_walks word [] (λ q. Some []) means walks h p
last_walks word (given o v) means known walks h p = given_walks word o v [] (λ q. Some []) means walks h p
last_walks word (named o) means known walks h p = named_end word o means h p
last_walks word wrong means known walks h p = cc

word_walks : (word next : Text) (m : Word) (rest : List Text) (f g : Position → Option Values) → IsMeaning word m → has_meaning m ≡ true
    → has_meaning (word_meaning next) ≡ true → Walks (next ∷ rest) f → Walks rest g
    → Walks (word ∷ next ∷ rest) (λ p. placed_word word m (Some next) f (g p) p)
word_walks word next plain rest f g means known also walks more h p = plain_walks word (next ∷ rest) f means walks h p
word_walks word next (given o v) rest f g means known also walks more h p = given_walks word o v (next ∷ rest) f means walks h p
word_walks word next (named o) rest f g means known also walks more h p =
    named_walks word next o (word_meaning next) rest g means (meaning_is next) also (is_plain next) refl more h p
word_walks word next wrong rest f g means known also walks more h p = cc

nothing_walks : Walks [] (λ q. Some [])
nothing_walks h p = ended_none rules (standing h (number p)) ∙ none_in_turn (settled_out rules h)

walks_placed : (args : List Text) → are_known args ≡ true → Walks args (λ p. placed args p)
walks_placed [] known h p = nothing_walks h p
walks_placed (word ∷ []) known h p =
    let parts = and_parts (has_meaning (word_meaning word)) true known in
    last_walks word (word_meaning word) (meaning_is word) parts.0 nothing_walks h p
walks_placed (word ∷ next ∷ rest) known h p =
    let parts = and_parts (has_meaning (word_meaning word)) (are_known (next ∷ rest)) known in
    let also = and_parts (has_meaning (word_meaning next)) (are_known rest) parts.1 in
    word_walks word next (word_meaning word) rest (λ q. placed (next ∷ rest) q) (λ q. placed rest q) (meaning_is word) parts.0 also.0
    (λ k q. walks_placed (next ∷ rest) parts.1 k q) (λ k q. walks_placed rest also.1 k q) h p

-- from the first argument on
pub walks_from_start : (args : List Text) → are_known args ≡ true
    → ended rules (standing nothing_held 1) args ≡ option_and_then (λ xs. put_in_turn xs []) (placed args first)
walks_from_start args known = walks_placed args known nothing_held first
