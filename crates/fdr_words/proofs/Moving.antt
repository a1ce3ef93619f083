-- Options that are moved, and options that are written in the other way.
use Rattle.std.proofs.lemmas.List.{append_assoc}
use Rattle.std.proofs.Common.{◌≡◌, ◌∙◌, ◌++◌, ◌&&◌, ◌||◌, ap, subst, sym, refl, ℕ, Bool, true, false, List, [], ◌∷◌, Option, Some, None, length, arith}
use Rattle.std.specs.Prelude.{if◌then◌else◌, is_none, nat_le, nat_lt, bytes_eq, codes}
use Rattle.std.specs.Option.{option_and_then, option_map_or}
use Rattle.std.specs.Str.Parse.{starts_with_minus}
use Rattle.fdr_table.specs.Fields.{decimal_of, is_digit, number_in, passing}
use Rattle.fdr_words.specs.declared.uses.OptionName.{OptionName}
use Rattle.fdr_words.specs.declared.uses.OptionName.TheVariants as name
use Rattle.fdr_words.specs.Words.{Word, plain, named, given, wrong, is_plain, word_meaning, value_after, Uses, no_uses, with_plain, with_value, followed}
use Rattle.fdr_words.specs.Words.{uses_of, value_in}
use Rattle.fdr_words.specs.Spelling.{option_word, Spelling, two_words, one_word, option_args, is_option_name, ends_in_option_name}
use Rattle.fdr_slot.specs.Limits.{least_payload_bytes, least_slot_count, most_payload_bytes, most_slot_count}
use Rattle.fdr_words.specs.Forms.{form_with, form_of_uses, form_of, form_of_both, form_of_ring, salvage_by, Form, format_image, drill_image}
use Rattle.fdr_words.specs.Forms.{most_seed, least_drill_frames, most_drill_frames}
use Rattle.fdr_words.proofs.UsesSteps.{given_step, then_some, where_some}

-- ---- the first argument

plain_first : (word : List ℕ) (rest : List (List ℕ)) → word_meaning word ≡ plain → uses_of (word ∷ rest) ≡ option_and_then (with_plain word) (uses_of rest)
plain_first word [] is = ap (λ (w : Word). followed word w None (Some no_uses) None) is
plain_first word (next ∷ rest) is = ap (λ (w : Word). followed word w (Some next) (uses_of (next ∷ rest)) (uses_of rest)) is

wrong_first : (word : List ℕ) (rest : List (List ℕ)) → word_meaning word ≡ wrong → uses_of (word ∷ rest) ≡ None
wrong_first word [] is = ap (λ (w : Word). followed word w None (Some no_uses) None) is
wrong_first word (next ∷ rest) is = ap (λ (w : Word). followed word w (Some next) (uses_of (next ∷ rest)) (uses_of rest)) is

named_first : (word value : List ℕ) (rest : List (List ℕ)) (option : OptionName) → word_meaning word ≡ named option
    → uses_of (word ∷ value ∷ rest) ≡ (if is_plain value then option_and_then (with_value option value) (uses_of rest) else None)
named_first word value rest option is = ap (λ (w : Word). followed word w (Some value) (uses_of (value ∷ rest)) (uses_of rest)) is

-- the first argument, where there is one, is plain
abbrev starts_plain : List (List ℕ) → Bool
starts_plain [] = false
starts_plain (word ∷ rest) = is_plain word

-- an option with no value
bare_first : (word : List ℕ) (rest : List (List ℕ)) (option : OptionName) → word_meaning word ≡ named option → starts_plain rest ≡ false
    → uses_of (word ∷ rest) ≡ None
bare_first word [] option is off = ap (λ (w : Word). followed word w None (Some no_uses) None) is
bare_first word (next ∷ rest) option is off =
    named_first word next rest option is ∙ ap (λ (b : Bool). if b then option_and_then (with_value option next) (uses_of rest) else None) off

-- ---- what two lists of arguments give, with the same arguments in front

-- a relation that another argument in front keeps
record IsKept (R : Option Uses → Option Uses → Type 0) : Type 0 where
  none : R None None
  plain : (word : List ℕ) (a b : Option Uses) → R a b → R (option_and_then (with_plain word) a) (option_and_then (with_plain word) b)
  value : (option : OptionName) (value : List ℕ) (a b : Option Uses) → R a b
      → R (option_and_then (with_value option value) a) (option_and_then (with_value option value) b)

both_are : (R : Option Uses → Option Uses → Type 0) (a b c d : Option Uses) → a ≡ c → b ≡ d → R c d → R a b
both_are R a b c d p q h = subst (λ (x : Option Uses). R x b) (sym p) (subst (λ (x : Option Uses). R c x) (sym q) h)

one_in_front : (R : Option Uses → Option Uses → Type 0) → IsKept R → (xs ys : List (List ℕ)) → R (uses_of xs) (uses_of ys)
    → (word : List ℕ) (w : Word) → word_meaning word ≡ w → is_option_name w ≡ false → R (uses_of (word ∷ xs)) (uses_of (word ∷ ys))
one_in_front R k xs ys h word plain is off =
    both_are R _ _ _ _ (plain_first word xs is) (plain_first word ys is) (k.plain word (uses_of xs) (uses_of ys) h)
one_in_front R k xs ys h word (named option) is off = cc
one_in_front R k xs ys h word (given option value) is off =
    both_are R _ _ _ _ (given_step word xs option value is) (given_step word ys option value is) (k.value option value (uses_of xs) (uses_of ys) h)
one_in_front R k xs ys h word wrong is off = both_are R _ _ _ _ (wrong_first word xs is) (wrong_first word ys is) k.none

-- any argument in front of arguments that are no option's value
any_in_front : (R : Option Uses → Option Uses → Type 0) → IsKept R → (xs ys : List (List ℕ)) → R (uses_of xs) (uses_of ys)
    → starts_plain xs ≡ false → starts_plain ys ≡ false → (word : List ℕ) (w : Word) → word_meaning word ≡ w → R (uses_of (word ∷ xs)) (uses_of (word ∷ ys))
any_in_front R k xs ys h p q word plain is = one_in_front R k xs ys h word plain is refl
any_in_front R k xs ys h p q word (named option) is =
    both_are R _ _ _ _ (bare_first word xs option is p) (bare_first word ys option is q) k.none
any_in_front R k xs ys h p q word (given option value) is = one_in_front R k xs ys h word (given option value) is refl
any_in_front R k xs ys h p q word wrong is = one_in_front R k xs ys h word wrong is refl

followed_both : (R : Option Uses → Option Uses → Type 0) → IsKept R → (word : List ℕ) (w : Word) (next : List ℕ) (a b c d : Option Uses) → R a b → R c d
    → R (followed word w (Some next) a c) (followed word w (Some next) b d)
followed_both R k word plain next a b c d h g = k.plain word a b h
followed_both R k word (given option value) next a b c d h g = k.value option value a b h
followed_both R k word (named option) next a b c d h g = go (is_plain next)
  where
    go : (free : Bool)
        → R (if free then option_and_then (with_value option next) c else None) (if free then option_and_then (with_value option next) d else None)
    go true = k.value option next c d g
    go false = k.none
followed_both R k word wrong next a b c d h g = k.none

-- what holds of the last argument
abbrev OfLast : (List ℕ → Type 0) → List (List ℕ) → Type 0
OfLast P [] = Unit {0}
OfLast P (word ∷ []) = P word
OfLast P (word ∷ next ∷ rest) = OfLast P (next ∷ rest)

of_later : (P : List ℕ → Type 0) (word : List ℕ) (rest : List (List ℕ)) → OfLast P (word ∷ rest) → OfLast P rest
of_later P word [] h = tt
of_later P word (next ∷ rest) h = h

of_each : (P : List ℕ → Type 0) → ((word : List ℕ) → P word) → (before : List (List ℕ)) → OfLast P before
of_each P h [] = tt
of_each P h (word ∷ []) = h word
of_each P h (word ∷ next ∷ rest) = of_each P h (next ∷ rest)

of_no_option : (P : List ℕ → Type 0) → ((word : List ℕ) → is_option_name (word_meaning word) ≡ false → P word) → (before : List (List ℕ))
    → ends_in_option_name before ≡ false → OfLast P before
of_no_option P h [] off = tt
of_no_option P h (word ∷ []) off = h word off
of_no_option P h (word ∷ next ∷ rest) off = of_no_option P h (next ∷ rest) off

all_in_front : (R : Option Uses → Option Uses → Type 0) → IsKept R → (xs ys : List (List ℕ)) → R (uses_of xs) (uses_of ys)
    → (before : List (List ℕ)) → OfLast (λ word. R (uses_of (word ∷ xs)) (uses_of (word ∷ ys))) before → R (uses_of (before ++ xs)) (uses_of (before ++ ys))
all_in_front R k xs ys h [] end = h
all_in_front R k xs ys h (word ∷ []) end = end
all_in_front R k xs ys h (word ∷ next ∷ rest) end =
    let P : List ℕ → Type 0 = λ word. R (uses_of (word ∷ xs)) (uses_of (word ∷ ys)) in
    followed_both R k word (word_meaning word) next (uses_of (next ∷ rest ++ xs)) (uses_of (next ∷ rest ++ ys)) (uses_of (rest ++ xs)) (uses_of (rest ++ ys))
    (all_in_front R k xs ys h (next ∷ rest) end)
    (all_in_front R k xs ys h rest (of_later P next rest end))

-- arguments in front of which the last is no option's name
after_no_option : (R : Option Uses → Option Uses → Type 0) → IsKept R → (xs ys : List (List ℕ)) → R (uses_of xs) (uses_of ys)
    → (before : List (List ℕ)) → ends_in_option_name before ≡ false → R (uses_of (before ++ xs)) (uses_of (before ++ ys))
after_no_option R k xs ys h before off =
    all_in_front R k xs ys h before
    (of_no_option (λ word. R (uses_of (word ∷ xs)) (uses_of (word ∷ ys))) (λ word is. one_in_front R k xs ys h word (word_meaning word) refl is) before off)

-- any arguments in front of arguments that are no option's value
after_any : (R : Option Uses → Option Uses → Type 0) → IsKept R → (xs ys : List (List ℕ)) → R (uses_of xs) (uses_of ys)
    → starts_plain xs ≡ false → starts_plain ys ≡ false → (before : List (List ℕ)) → R (uses_of (before ++ xs)) (uses_of (before ++ ys))
after_any R k xs ys h p q before =
    all_in_front R k xs ys h before
    (of_each (λ word. R (uses_of (word ∷ xs)) (uses_of (word ∷ ys))) (λ word. any_in_front R k xs ys h p q word (word_meaning word) refl) before)

abbrev Same : Option Uses → Option Uses → Type 0
Same a b = a ≡ b

same_kept : IsKept Same
same_kept = record {
  none = refl;
  plain = λ word a b h. ap (option_and_then (with_plain word)) h;
  value = λ option value a b h. ap (option_and_then (with_value option value)) h;
}

-- ---- an option and its value in front

-- the value may be given so: an argument of its own is plain, and one after `=` isn't empty
abbrev is_allowed : Spelling → List ℕ → Bool
is_allowed two_words value = is_plain value
is_allowed one_word [] = false
is_allowed one_word (byte ∷ rest) = true

name_means : (option : OptionName) → word_meaning (option_word option) ≡ named option
unfolding word_meaning
name_means name.Slots = refl
name_means name.Payload = refl
name_means name.Seed = refl
name_means name.Frames = refl

empty_means : (option : OptionName) → word_meaning (option_word option ++ codes "=" ++ []) ≡ wrong
unfolding word_meaning value_after
empty_means name.Slots = refl
empty_means name.Payload = refl
empty_means name.Seed = refl
empty_means name.Frames = refl

value_means : (option : OptionName) (byte : ℕ) (rest : List ℕ) → word_meaning (option_word option ++ codes "=" ++ byte ∷ rest) ≡ given option (byte ∷ rest)
unfolding word_meaning value_after
value_means name.Slots byte rest = grind arith
value_means name.Payload byte rest = grind arith
value_means name.Seed byte rest = grind arith
value_means name.Frames byte rest = grind arith

option_first : (how : Spelling) (option : OptionName) (value : List ℕ) (rest : List (List ℕ))
    → uses_of (option_args how option value ++ rest) ≡ (if is_allowed how value then option_and_then (with_value option value) (uses_of rest) else None)
option_first two_words option value rest = named_first (option_word option) value rest option (name_means option)
option_first one_word option [] rest = wrong_first (option_word option ++ codes "=" ++ []) rest (empty_means option)
option_first one_word option (byte ∷ after) rest =
    given_step (option_word option ++ codes "=" ++ byte ∷ after) rest option (byte ∷ after) (value_means option byte after)

not_plain_first : (how : Spelling) (option : OptionName) (value : List ℕ) (rest : List (List ℕ)) → starts_plain (option_args how option value ++ rest) ≡ false
not_plain_first two_words name.Slots value rest = refl
not_plain_first two_words name.Payload value rest = refl
not_plain_first two_words name.Seed value rest = refl
not_plain_first two_words name.Frames value rest = refl
not_plain_first one_word name.Slots value rest = refl
not_plain_first one_word name.Payload value rest = refl
not_plain_first one_word name.Seed value rest = refl
not_plain_first one_word name.Frames value rest = refl

-- ---- two at once

-- both are tested, in either order
crossed : (b c : Bool) (f g : Uses → Option Uses) (u v both : Uses) → f u ≡ (if c then Some both else None) → g v ≡ (if b then Some both else None)
    → option_and_then f (if b then Some u else None) ≡ option_and_then g (if c then Some v else None)
crossed true true f g u v both p q = p ∙ sym q
crossed true false f g u v both p q = p
crossed false true f g u v both p q = sym q
crossed false false f g u v both p q = refl

-- neither is taken after the other
refused_both : (b : Bool) (f g : Uses → Option Uses) (u v : Uses) → f u ≡ None → g v ≡ None
    → option_and_then f (if b then Some u else None) ≡ option_and_then g (if b then Some v else None)
refused_both true f g u v p q = p ∙ sym q
refused_both false f g u v p q = refl

abbrev give : OptionName → List ℕ → Uses → Uses
give name.Slots value u = record { plain = u.plain; slots = Some value; payload = u.payload; seed = u.seed; frames = u.frames }
give name.Payload value u = record { plain = u.plain; slots = u.slots; payload = Some value; seed = u.seed; frames = u.frames }
give name.Seed value u = record { plain = u.plain; slots = u.slots; payload = u.payload; seed = Some value; frames = u.frames }
give name.Frames value u = record { plain = u.plain; slots = u.slots; payload = u.payload; seed = u.seed; frames = Some value }

abbrev lead : List ℕ → Uses → Uses
lead word u = record { plain = word ∷ u.plain; slots = u.slots; payload = u.payload; seed = u.seed; frames = u.frames }

-- a plain argument and an option
word_and_option : (word : List ℕ) (option : OptionName) (value : List ℕ) (u : Uses)
    → option_and_then (with_value option value) (with_plain word u) ≡ option_and_then (with_plain word) (with_value option value u)
word_and_option word name.Slots value u =
    crossed (nat_lt (length u.plain) 3) (is_none u.slots) (with_value name.Slots value) (with_plain word)
    (lead word u) (give name.Slots value u) (lead word (give name.Slots value u)) refl refl
word_and_option word name.Payload value u =
    crossed (nat_lt (length u.plain) 3) (is_none u.payload) (with_value name.Payload value) (with_plain word)
    (lead word u) (give name.Payload value u) (lead word (give name.Payload value u)) refl refl
word_and_option word name.Seed value u =
    crossed (nat_lt (length u.plain) 3) (is_none u.seed) (with_value name.Seed value) (with_plain word)
    (lead word u) (give name.Seed value u) (lead word (give name.Seed value u)) refl refl
word_and_option word name.Frames value u =
    crossed (nat_lt (length u.plain) 3) (is_none u.frames) (with_value name.Frames value) (with_plain word)
    (lead word u) (give name.Frames value u) (lead word (give name.Frames value u)) refl refl

abbrev AreInAnyOrder : OptionName → OptionName → Type 0
AreInAnyOrder option other = (value other_value : List ℕ) (u : Uses)
    → option_and_then (with_value option value) (with_value other other_value u) ≡ option_and_then (with_value other other_value) (with_value option value u)

-- two options of other names
slots_and_payload : AreInAnyOrder name.Slots name.Payload
slots_and_payload v w u =
    crossed (is_none u.payload) (is_none u.slots) (with_value name.Slots v) (with_value name.Payload w)
    (give name.Payload w u) (give name.Slots v u) (give name.Slots v (give name.Payload w u)) refl refl

slots_and_seed : AreInAnyOrder name.Slots name.Seed
slots_and_seed v w u =
    crossed (is_none u.seed) (is_none u.slots) (with_value name.Slots v) (with_value name.Seed w)
    (give name.Seed w u) (give name.Slots v u) (give name.Slots v (give name.Seed w u)) refl refl

slots_and_frames : AreInAnyOrder name.Slots name.Frames
slots_and_frames v w u =
    crossed (is_none u.frames) (is_none u.slots) (with_value name.Slots v) (with_value name.Frames w)
    (give name.Frames w u) (give name.Slots v u) (give name.Slots v (give name.Frames w u)) refl refl

payload_and_seed : AreInAnyOrder name.Payload name.Seed
payload_and_seed v w u =
    crossed (is_none u.seed) (is_none u.payload) (with_value name.Payload v) (with_value name.Seed w)
    (give name.Seed w u) (give name.Payload v u) (give name.Payload v (give name.Seed w u)) refl refl

payload_and_frames : AreInAnyOrder name.Payload name.Frames
payload_and_frames v w u =
    crossed (is_none u.frames) (is_none u.payload) (with_value name.Payload v) (with_value name.Frames w)
    (give name.Frames w u) (give name.Payload v u) (give name.Payload v (give name.Frames w u)) refl refl

seed_and_frames : AreInAnyOrder name.Seed name.Frames
seed_and_frames v w u =
    crossed (is_none u.frames) (is_none u.seed) (with_value name.Seed v) (with_value name.Frames w)
    (give name.Frames w u) (give name.Seed v u) (give name.Seed v (give name.Frames w u)) refl refl

the_other_way : (option other : OptionName) → AreInAnyOrder option other → AreInAnyOrder other option
the_other_way option other h v w u = sym (h w v u)

-- two options; one that is given twice is refused in either order
options_cross : (option other : OptionName) → AreInAnyOrder option other
options_cross name.Slots name.Slots =
    λ v w u. refused_both (is_none u.slots) (with_value name.Slots v) (with_value name.Slots w) (give name.Slots w u) (give name.Slots v u) refl refl
options_cross name.Payload name.Payload =
    λ v w u. refused_both (is_none u.payload) (with_value name.Payload v) (with_value name.Payload w) (give name.Payload w u) (give name.Payload v u) refl refl
options_cross name.Seed name.Seed =
    λ v w u. refused_both (is_none u.seed) (with_value name.Seed v) (with_value name.Seed w) (give name.Seed w u) (give name.Seed v u) refl refl
options_cross name.Frames name.Frames =
    λ v w u. refused_both (is_none u.frames) (with_value name.Frames v) (with_value name.Frames w) (give name.Frames w u) (give name.Frames v u) refl refl
options_cross name.Slots name.Payload = slots_and_payload
options_cross name.Slots name.Seed = slots_and_seed
options_cross name.Slots name.Frames = slots_and_frames
options_cross name.Payload name.Seed = payload_and_seed
options_cross name.Payload name.Frames = payload_and_frames
options_cross name.Seed name.Frames = seed_and_frames
options_cross name.Payload name.Slots = the_other_way name.Slots name.Payload slots_and_payload
options_cross name.Seed name.Slots = the_other_way name.Slots name.Seed slots_and_seed
options_cross name.Frames name.Slots = the_other_way name.Slots name.Frames slots_and_frames
options_cross name.Seed name.Payload = the_other_way name.Payload name.Seed payload_and_seed
options_cross name.Frames name.Payload = the_other_way name.Payload name.Frames payload_and_frames
options_cross name.Frames name.Seed = the_other_way name.Seed name.Frames seed_and_frames

-- an option that is allowed or not, and what else changes the uses
past_step : (b : Bool) (f g : Uses → Option Uses) → ((u : Uses) → option_and_then f (g u) ≡ option_and_then g (f u)) → (o : Option Uses)
    → (if b then option_and_then f (option_and_then g o) else None) ≡ option_and_then g (if b then option_and_then f o else None)
past_step true f g swap None = refl
past_step true f g swap (Some u) = swap u
past_step false f g swap o = refl

past_both : (b c : Bool) (f g : Uses → Option Uses) → ((u : Uses) → option_and_then f (g u) ≡ option_and_then g (f u)) → (o : Option Uses)
    → (if b then option_and_then f (if c then option_and_then g o else None) else None)
    ≡ (if c then option_and_then g (if b then option_and_then f o else None) else None)
past_both true true f g swap None = refl
past_both true true f g swap (Some u) = swap u
past_both true false f g swap o = refl
past_both false true f g swap o = refl
past_both false false f g swap o = refl

-- ---- the laws

abbrev allowing : Spelling → OptionName → List ℕ → Option Uses → Option Uses
allowing how option value o = if is_allowed how value then option_and_then (with_value option value) o else None

plain_means : (word : List ℕ) → is_plain word ≡ true → word_meaning word ≡ plain
unfolding word_meaning
plain_means word e = rw e refl

past_plain_first : (how : Spelling) (option : OptionName) (value word : List ℕ) (after : List (List ℕ)) → is_plain word ≡ true
    → uses_of (option_args how option value ++ word ∷ after) ≡ uses_of (word ∷ option_args how option value ++ after)
past_plain_first how option value word after e =
    option_first how option value (word ∷ after)
    ∙ ap (allowing how option value) (plain_first word after (plain_means word e))
    ∙ past_step (is_allowed how value) (with_value option value) (with_plain word) (word_and_option word option value) (uses_of after)
    ∙ ap (option_and_then (with_plain word)) (sym (option_first how option value after))
    ∙ sym (plain_first word (option_args how option value ++ after) (plain_means word e))

pub past_a_plain_word : (before after : List (List ℕ)) (word : List ℕ) (how : Spelling) (option : OptionName) (value : List ℕ)
    → ends_in_option_name before ≡ false → is_plain word ≡ true
    → uses_of (before ++ option_args how option value ++ word ∷ after) ≡ uses_of (before ++ word ∷ option_args how option value ++ after)
past_a_plain_word before after word how option value off e =
    let its : List (List ℕ) = option_args how option value in
    ap uses_of (append_assoc before its (word ∷ after))
    ∙ after_no_option Same same_kept (its ++ word ∷ after) (word ∷ its ++ after) (past_plain_first how option value word after e) before off
    ∙ ap uses_of (sym (append_assoc before (word ∷ its) after))

past_option_first : (how how_other : Spelling) (option other : OptionName) (value other_value : List ℕ) (after : List (List ℕ))
    → uses_of (option_args how option value ++ (option_args how_other other other_value ++ after))
    ≡ uses_of (option_args how_other other other_value ++ (option_args how option value ++ after))
past_option_first how how_other option other value other_value after =
    option_first how option value (option_args how_other other other_value ++ after)
    ∙ ap (allowing how option value) (option_first how_other other other_value after)
    ∙ past_both (is_allowed how value) (is_allowed how_other other_value) (with_value option value) (with_value other other_value)
    (options_cross option other value other_value) (uses_of after)
    ∙ ap (allowing how_other other other_value) (sym (option_first how option value after))
    ∙ sym (option_first how_other other other_value (option_args how option value ++ after))

pub past_an_option : (before after : List (List ℕ)) (how how_other : Spelling) (option other : OptionName) (value other_value : List ℕ)
    → uses_of (before ++ option_args how option value ++ option_args how_other other other_value ++ after)
    ≡ uses_of (before ++ option_args how_other other other_value ++ option_args how option value ++ after)
past_an_option before after how how_other option other value other_value =
    let its : List (List ℕ) = option_args how option value in
    let others : List (List ℕ) = option_args how_other other other_value in
    let grouped : (xs ys : List (List ℕ)) → before ++ xs ++ ys ++ after ≡ before ++ (xs ++ (ys ++ after)) =
    λ xs ys. append_assoc (before ++ xs) ys after ∙ append_assoc before xs (ys ++ after) in
    ap uses_of (grouped its others)
    ∙ after_any Same same_kept (its ++ (others ++ after)) (others ++ (its ++ after))
    (past_option_first how how_other option other value other_value after)
    (not_plain_first how option value (others ++ after)) (not_plain_first how_other other other_value (its ++ after)) before
    ∙ ap uses_of (sym (grouped others its))

pub same_form : (xs ys : List (List ℕ)) → uses_of xs ≡ uses_of ys → form_of xs ≡ form_of ys
unfolding form_of
same_form xs ys e = ap (option_and_then form_of_uses) e

-- a value that doesn't begin with `-` is allowed as one argument where it is as two
allowed_both : (value : List ℕ) → starts_with_minus value ≡ false → is_allowed two_words value ≡ is_allowed one_word value
allowed_both [] e = refl
allowed_both (byte ∷ rest) e = rw e refl

pub spelled_either_way : (before after : List (List ℕ)) (option : OptionName) (value : List ℕ) → starts_with_minus value ≡ false
    → uses_of (before ++ option_args two_words option value ++ after) ≡ uses_of (before ++ option_args one_word option value ++ after)
spelled_either_way before after option value e =
    let two : List (List ℕ) = option_args two_words option value in
    let one : List (List ℕ) = option_args one_word option value in
    ap uses_of (append_assoc before two after)
    ∙ after_any Same same_kept (two ++ after) (one ++ after)
    (option_first two_words option value after
    ∙ ap (λ (b : Bool). if b then option_and_then (with_value option value) (uses_of after) else None) (allowed_both value e)
    ∙ sym (option_first one_word option value after))
    (not_plain_first two_words option value after) (not_plain_first one_word option value after) before
    ∙ ap uses_of (sym (append_assoc before one after))

-- ---- a value that begins with `-`

abbrev has_minus : Option (List ℕ) → Bool
has_minus None = false
has_minus (Some value) = starts_with_minus value

-- some value begins with `-`
abbrev is_unfit : Uses → Bool
is_unfit u = has_minus u.slots || has_minus u.payload || has_minus u.seed || has_minus u.frames

abbrev EachUnfit : Option Uses → Type 0
EachUnfit o = (u : Uses) → o ≡ Some u → is_unfit u ≡ true

unfit_plain : (word : List ℕ) (o : Option Uses) → EachUnfit o → EachUnfit (option_and_then (with_plain word) o)
unfit_plain word o h v e =
    let from = then_some (with_plain word) o v e in
    let more = where_some (nat_lt (length from.0.plain) 3) (lead word from.0) v from.2 in
    subst (λ (u : Uses). is_unfit u ≡ true) more.1 (h from.0 from.1)

unfit_given : (option : OptionName) (value : List ℕ) (u v : Uses) → is_unfit u ≡ true → with_value option value u ≡ Some v → is_unfit v ≡ true
unfit_given name.Slots value u v h e = grind arith
unfit_given name.Payload value u v h e = grind arith
unfit_given name.Seed value u v h e = grind arith
unfit_given name.Frames value u v h e = grind arith

unfit_value : (option : OptionName) (value : List ℕ) (o : Option Uses) → EachUnfit o → EachUnfit (option_and_then (with_value option value) o)
unfit_value option value o h v e =
    let from = then_some (with_value option value) o v e in
    unfit_given option value from.0 v (h from.0 from.1) from.2

abbrev BothUnfit : Option Uses → Option Uses → Type 0
BothUnfit a b = EachUnfit a × EachUnfit b

unfit_kept : IsKept BothUnfit
unfit_kept = record {
  none = ((λ u e. cc), (λ u e. cc));
  plain = λ word a b h. (unfit_plain word a h.0, unfit_plain word b h.1);
  value = λ option value a b h. (unfit_value option value a h.0, unfit_value option value b h.1);
}

no_number : (low high : ℕ) (value : List ℕ) → starts_with_minus value ≡ true → value_in low high value ≡ None
unfolding value_in number_in decimal_of
no_number low high [] e = cc
no_number low high (byte ∷ rest) e = grind arith

unfit_now : (option : OptionName) (value : List ℕ) (u v : Uses) → starts_with_minus value ≡ true → with_value option value u ≡ Some v → is_unfit v ≡ true
unfit_now name.Slots value u v h e = grind arith
unfit_now name.Payload value u v h e = grind arith
unfit_now name.Seed value u v h e = grind arith
unfit_now name.Frames value u v h e = grind arith

unfit_option : (how : Spelling) (option : OptionName) (value : List ℕ) (rest : List (List ℕ)) → starts_with_minus value ≡ true
    → EachUnfit (uses_of (option_args how option value ++ rest))
unfit_option how option value rest h = subst EachUnfit (sym (option_first how option value rest)) (go (is_allowed how value))
  where
    go : (b : Bool) → EachUnfit (if b then option_and_then (with_value option value) (uses_of rest) else None)
    go true v e =
        let from = then_some (with_value option value) (uses_of rest) v e in
        unfit_now option value from.0 v h from.2
    go false v e = cc

-- no form has such a value
no_form_of_both : (make : ℕ → ℕ → Form) (low high least most : ℕ) (first second : List ℕ) → (has_minus (Some first) || has_minus (Some second)) ≡ true
    → form_of_both make (value_in low high first) (value_in least most second) ≡ None
no_form_of_both make low high least most first second h = go (starts_with_minus first) (starts_with_minus second) refl refl h
  where
    no_second : (o : Option ℕ) → form_of_both make o None ≡ None
    no_second None = refl
    no_second (Some n) = refl

    go : (p q : Bool) → starts_with_minus first ≡ p → starts_with_minus second ≡ q → (p || q) ≡ true
        → form_of_both make (value_in low high first) (value_in least most second) ≡ None
    go true q e f h = ap (λ (o : Option ℕ). form_of_both make o (value_in least most second)) (no_number low high first e)
    go false true e f h =
        ap (λ (o : Option ℕ). form_of_both make (value_in low high first) o) (no_number least most second f) ∙ no_second (value_in low high first)
    go false false e f h = cc

none_of_either : (b c : Bool) (x y : Option Form) → x ≡ None → y ≡ None → (if b then x else (if c then y else None)) ≡ None
none_of_either true c x y none none_too = none
none_of_either false true x y none none_too = none_too
none_of_either false false x y none none_too = refl

none_of_one : (b : Bool) (x : Option Form) → x ≡ None → (if b then x else None) ≡ None
none_of_one true x none = none
none_of_one false x none = refl

formless_with : (args : List (List ℕ)) (slots payload seed frames : Option (List ℕ))
    → (has_minus slots || has_minus payload || has_minus seed || has_minus frames) ≡ true → form_with args slots payload seed frames ≡ None
formless_with (command ∷ table ∷ image ∷ []) (Some slots) (Some payload) None None h =
    let minus : (has_minus (Some slots) || has_minus (Some payload)) ≡ true = grind arith in
    none_of_either (bytes_eq command (codes "format")) (bytes_eq command (codes "salvage"))
    (form_of_ring (format_image table image) slots payload) (form_of_ring (salvage_by table image) slots payload)
    (no_form_of_both (format_image table image) least_slot_count most_slot_count least_payload_bytes most_payload_bytes slots payload minus)
    (no_form_of_both (salvage_by table image) least_slot_count most_slot_count least_payload_bytes most_payload_bytes slots payload minus)
formless_with (command ∷ table ∷ image ∷ []) None None (Some seed) (Some frames) h =
    none_of_one (bytes_eq command (codes "drill"))
    (form_of_both (drill_image table image) (value_in 0 most_seed seed) (value_in least_drill_frames most_drill_frames frames))
    (no_form_of_both (drill_image table image) 0 most_seed least_drill_frames most_drill_frames seed frames h)
formless_with args slots payload seed frames h = grind arith

formless_uses : (o : Option Uses) → EachUnfit o → option_and_then form_of_uses o ≡ None
formless_uses None h = refl
formless_uses (Some u) h = formless_with u.plain u.slots u.payload u.seed u.frames (h u refl)

formless : (args : List (List ℕ)) → EachUnfit (uses_of args) → form_of args ≡ None
unfolding form_of
formless args h = formless_uses (uses_of args) h

pub one_form_either_way : (before after : List (List ℕ)) (option : OptionName) (value : List ℕ)
    → form_of (before ++ option_args two_words option value ++ after) ≡ form_of (before ++ option_args one_word option value ++ after)
one_form_either_way before after option value = go (starts_with_minus value) refl
  where
    two : List (List ℕ)
    two = option_args two_words option value

    one : List (List ℕ)
    one = option_args one_word option value

    go : (b : Bool) → starts_with_minus value ≡ b → form_of (before ++ two ++ after) ≡ form_of (before ++ one ++ after)
    go false e = same_form (before ++ two ++ after) (before ++ one ++ after) (spelled_either_way before after option value e)
    go true e =
        let both = after_any BothUnfit unfit_kept (two ++ after) (one ++ after)
        (unfit_option two_words option value after e, unfit_option one_word option value after e)
        (not_plain_first two_words option value after) (not_plain_first one_word option value after) before in
        ap form_of (append_assoc before two after)
        ∙ formless (before ++ (two ++ after)) both.0 ∙ sym (formless (before ++ (one ++ after)) both.1)
        ∙ ap form_of (sym (append_assoc before one after))
