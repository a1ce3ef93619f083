-- What the arguments give, one argument at a time.
use Rattle.std.proofs.Common.{◌≡◌, ◌∙◌, ap, subst, sym, refl, ℕ, suc, ◌+◌, ◌-◌, ◌<◌, ◌≤◌, Bool, true, false, List, [], ◌∷◌, Option, Some, None, length, get_or}
use Rattle.std.proofs.Common.{take, drop, map, arith}
use Rattle.std.specs.Prelude.{if◌then◌else◌, is_none, nat_lt}
use Rattle.std.proofs.Math.Seq.{take-length}
use Rattle.std.specs.Option.{option_and_then}
use Rattle.std.proofs.lemmas.Bool.{ltb-true}
use Rattle.fdr_words.specs.declared.uses.OptionName.{OptionName}
use Rattle.fdr_words.specs.declared.uses.OptionName.TheVariants as name
use Rattle.fdr_words.specs.Words.{Word, plain, named, given, wrong, is_plain, word_meaning, Uses, no_uses, with_plain, with_value, followed, most_form_args}
use Rattle.fdr_words.specs.Words.{uses_of}
use Rattle.fdr_words.specs.Forms.{form_with, form_of_uses, form_of}

-- an argument that gives an option its value
pub given_step : (word : List ℕ) (rest : List (List ℕ)) (option : OptionName) (value : List ℕ) → word_meaning word ≡ given option value
    → uses_of (word ∷ rest) ≡ option_and_then (with_value option value) (uses_of rest)
given_step word [] option value is = ap (λ (w : Word). followed word w None (Some no_uses) None) is
given_step word (next ∷ rest) option value is = ap (λ (w : Word). followed word w (Some next) (uses_of (next ∷ rest)) (uses_of rest)) is

-- the same of the first of some arguments
pub given_first : {A : Type 0} (bytes : A → List ℕ) (args : List A) (first : A) (option : OptionName) (value : List ℕ) (u : Uses) → 1 ≤ length args
    → first ≡ get_or args 0 first → word_meaning (bytes first) ≡ given option value → Some u ≡ uses_of (map bytes (take (length args - 1) (drop 1 args)))
    → with_value option value u ≡ uses_of (map bytes args)
given_first bytes [] first option value u some is kind rest = absurd (omega (arith, some))
given_first {A = A} bytes (word ∷ args) first option value u some is kind rest =
    let all : take (length args) args ≡ args = take-length args in
    let count : suc (length args) - 1 ≡ length args = omega arith in
    let after : Some u ≡ uses_of (map bytes args) = rest ∙ ap (λ n. uses_of (map bytes (take n args))) count ∙ ap (λ ws. uses_of (map bytes ws)) all in
    ap (option_and_then (with_value option value)) after
    ∙ sym (given_step (bytes word) (map bytes args) option value (subst (λ (w : A). word_meaning (bytes w) ≡ given option value) is kind))

-- ---- no more arguments than the longest form has

-- the arguments that an option takes
abbrev pub taken : Option (List ℕ) → ℕ
taken None = 0
taken (Some value) = 2

taken_few : (o : Option (List ℕ)) → taken o ≤ 2
taken_few None = omega arith
taken_few (Some value) = omega arith

taken_none : (o : Option (List ℕ)) → is_none o ≡ true → taken o ≡ 0
taken_none None e = refl
taken_none (Some value) e = cc

-- these uses are of n arguments at least
pub record AreOf (n : ℕ) (u : Uses) : Type 0 where
  pub args : n ≤ length u.plain + taken u.slots + taken u.payload + taken u.seed + taken u.frames
  pub few : length u.plain ≤ 3

pub where_some : {A : Type 0} (b : Bool) (x y : A) → (if b then Some x else None) ≡ Some y → (b ≡ true) × (x ≡ y)
where_some true x y e = (refl, cc)
where_some false x y e = cc

pub then_some : {A B : Type 0} (f : A → Option B) (o : Option A) (b : B) → option_and_then f o ≡ Some b → (a : A) × (o ≡ Some a) × (f a ≡ Some b)
then_some f None b e = cc
then_some f (Some a) b e = (a, refl, e)

plain_more : (word : List ℕ) (u v : Uses) (n : ℕ) → AreOf n u → with_plain word u ≡ Some v → AreOf (n + 1) v
plain_more word u v n h e =
    let w : Uses = record { plain = word ∷ u.plain; slots = u.slots; payload = u.payload; seed = u.seed; frames = u.frames } in
    let more = where_some (nat_lt (length u.plain) 3) w v e in
    let room = ltb-true (length u.plain) 3 more.0 in
    subst (AreOf (n + 1)) more.1 (record { args = omega (arith, h.args); few = omega (arith, room) })

value_more : (option : OptionName) (value : List ℕ) (u v : Uses) (n : ℕ) → AreOf n u → with_value option value u ≡ Some v → AreOf (n + 2) v
value_more name.Slots value u v n h e =
    let more = where_some (is_none u.slots) (record { plain = u.plain; slots = Some value; payload = u.payload; seed = u.seed; frames = u.frames }) v e in
    let free = taken_none u.slots more.0 in
    subst (AreOf (n + 2)) more.1 (record { args = omega (arith, h.args, free); few = h.few })
value_more name.Payload value u v n h e =
    let more = where_some (is_none u.payload) (record { plain = u.plain; slots = u.slots; payload = Some value; seed = u.seed; frames = u.frames }) v e in
    let free = taken_none u.payload more.0 in
    subst (AreOf (n + 2)) more.1 (record { args = omega (arith, h.args, free); few = h.few })
value_more name.Seed value u v n h e =
    let more = where_some (is_none u.seed) (record { plain = u.plain; slots = u.slots; payload = u.payload; seed = Some value; frames = u.frames }) v e in
    let free = taken_none u.seed more.0 in
    subst (AreOf (n + 2)) more.1 (record { args = omega (arith, h.args, free); few = h.few })
value_more name.Frames value u v n h e =
    let more = where_some (is_none u.frames) (record { plain = u.plain; slots = u.slots; payload = u.payload; seed = u.seed; frames = Some value }) v e in
    let free = taken_none u.frames more.0 in
    subst (AreOf (n + 2)) more.1 (record { args = omega (arith, h.args, free); few = h.few })

fewer : (m n : ℕ) (u : Uses) → m ≤ n → AreOf n u → AreOf m u
fewer m n u le h = record { args = omega (arith, h.args, le); few = h.few }

abbrev pub Each : ℕ → Option Uses → Type 0
Each n o = (u : Uses) → o ≡ Some u → AreOf n u

-- an option and the argument that is its value
named_words : (option : OptionName) (value : List ℕ) (free : Bool) (after_next : Option Uses) (a b : ℕ) → a ≤ b + 1 → Each b after_next
    → Each (a + 1) (if free then option_and_then (with_value option value) after_next else None)
named_words option value true after_next a b le more v e =
    let from = then_some (with_value option value) after_next v e in
    fewer (a + 1) (b + 2) v (omega (arith, le)) (value_more option value from.0 v b (more from.0 from.1) from.2)
named_words option value false after_next a b le more v e = cc

followed_words : (word : List ℕ) (w : Word) (next : Option (List ℕ)) (after_word after_next : Option Uses) (a b : ℕ) → a ≤ b + 1
    → Each a after_word → Each b after_next → Each (a + 1) (followed word w next after_word after_next)
followed_words word plain next after_word after_next a b le rest more v e =
    let from = then_some (with_plain word) after_word v e in
    plain_more word from.0 v a (rest from.0 from.1) from.2
followed_words word (given option value) next after_word after_next a b le rest more v e =
    let from = then_some (with_value option value) after_word v e in
    fewer (a + 1) (a + 2) v (omega arith) (value_more option value from.0 v a (rest from.0 from.1) from.2)
followed_words word (named option) None after_word after_next a b le rest more v e = cc
followed_words word (named option) (Some value) after_word after_next a b le rest more v e =
    named_words option value (is_plain value) after_next a b le more v e
followed_words word wrong next after_word after_next a b le rest more v e = cc

pub uses_words : (args : List (List ℕ)) → Each (length args) (uses_of args)
uses_words [] u e = let same : no_uses ≡ u = cc in subst (AreOf 0) same (record { args = omega arith; few = omega arith })
uses_words (word ∷ []) u e =
    followed_words word (word_meaning word) None (Some no_uses) None 0 0 (omega arith)
    (λ v h. uses_words [] v h) (λ v h. cc) u e
uses_words (word ∷ next ∷ rest) u e =
    fewer (length (word ∷ next ∷ rest)) (length (next ∷ rest) + 1) u (omega arith)
    (followed_words word (word_meaning word) (Some next) (uses_of (next ∷ rest)) (uses_of rest) (length (next ∷ rest)) (length rest) (omega arith)
    (λ v h. uses_words (next ∷ rest) v h) (λ v h. uses_words rest v h) u e)

-- more arguments than the longest form has are of no form
no_form : (args : List (List ℕ)) (slots payload seed frames : Option (List ℕ)) → length args ≤ 3
    → most_form_args < length args + taken slots + taken payload + taken seed + taken frames → form_with args slots payload seed frames ≡ None
no_form args slots payload seed frames few many = grind arith

formless : (o : Option Uses) (n : ℕ) → Each n o → most_form_args < n → option_and_then form_of_uses o ≡ None
formless None n each many = refl
formless (Some u) n each many =
    let h = each u refl in
    no_form u.plain u.slots u.payload u.seed u.frames h.few (omega (arith, h.args, many))

pub too_many_words : (args : List (List ℕ)) → most_form_args < length args → form_of args ≡ None
too_many_words args many = unfold form_of in formless (uses_of args) (length args) (uses_words args) many
