-- The values of the arguments by the places that they go to, which says what `uses_of` says.
use Rattle.std.proofs.Common.{◌≡◌, ◌∙◌, ◌≤◌, ◌&&◌, ◌||◌, ap, ap₂, subst, sym, refl, ℕ, suc, Bool, true, false, not, is_some, codes, List, [], ◌∷◌, Option}
use Rattle.std.proofs.Common.{Some, None, length, nat_le, nat_lt, arith}
use Rattle.std.specs.Prelude.{if◌then◌else◌, is_none, bytes_eq}
use Rattle.std.specs.Option.{option_and_then, option_map}
use Rattle.std.specs.List.{cons_option, list_any}
use Rattle.std.proofs.lemmas.Bool.{le-leb, lt-leb}
use Rattle.std.proofs.lemmas.Bool.Decides.{nat_tests, same_from_decides}
use Rattle.std.proofs.lemmas.Slice.Eq.{bytes_eq-Decides}
use Rattle.fdr_words.specs.declared.uses.OptionName.{OptionName}
use Rattle.fdr_words.specs.declared.uses.OptionName.TheVariants as name
use Rattle.fdr_words.specs.Words.{Word, plain, named, given, wrong, is_plain, word_meaning, Uses, no_uses, with_plain, with_value, followed, uses_of}
use Rattle.fdr_words.proofs.UsesSteps.{uses_words}

-- which of the plain arguments comes next
pub data Position : Type 0 where
  first : Position
  second : Position
  third : Position
  past : Position

abbrev pub after_position : Position → Position
after_position first = second
after_position second = third
after_position third = past
after_position past = past

abbrev pub position_id : Position → List ℕ
position_id first = codes "command"
position_id second = codes "path"
position_id third = codes "image"
position_id past = []

abbrev pub option_id : OptionName → List ℕ
option_id name.Slots = codes "slots"
option_id name.Payload = codes "payload"
option_id name.Seed = codes "seed"
option_id name.Frames = codes "frames"

-- values with the names of the places that they go to
abbrev pub Values : Type 0
Values = List (List ℕ × List ℕ)

abbrev pub with_place : List ℕ → List ℕ → Option Values → Option Values
with_place id value rest = option_map (λ xs. (id, value) ∷ xs) rest

abbrev pub at_position : Position → List ℕ → Option Values → Option Values
at_position first word rest = with_place (codes "command") word rest
at_position second word rest = with_place (codes "path") word rest
at_position third word rest = with_place (codes "image") word rest
at_position past word rest = None

abbrev pub placed_word : List ℕ → Word → Option (List ℕ) → (Position → Option Values) → Option Values → Position → Option Values
placed_word word plain next after_word after_next p = at_position p word (after_word (after_position p))
placed_word word (given option value) next after_word after_next p = with_place (option_id option) value (after_word p)
placed_word word (named option) None after_word after_next p = None
placed_word word (named option) (Some value) after_word after_next p = if is_plain value then with_place (option_id option) value after_next else None
placed_word word wrong next after_word after_next p = None

abbrev pub placed : List (List ℕ) → Position → Option Values
placed [] p = Some []
placed (word ∷ []) p = placed_word word (word_meaning word) None (λ q. Some []) None p
placed (word ∷ next ∷ rest) p = placed_word word (word_meaning word) (Some next) (λ q. placed (next ∷ rest) q) (placed rest p) p

-- whether a place is among the values', and whether no place is there twice
abbrev pub has_place : List ℕ → Values → Bool
has_place id xs = list_any (λ x. bytes_eq id x.0) xs

abbrev pub are_distinct : Values → Bool
are_distinct [] = true
are_distinct (x ∷ xs) = not (has_place x.0 xs) && are_distinct xs

abbrev pub value_at : List ℕ → Values → Option (List ℕ)
value_at id [] = None
value_at id (x ∷ xs) = if bytes_eq x.0 id then Some x.1 else value_at id xs

abbrev pub uses_at : Values → Uses
uses_at xs = record {
  plain = cons_option (value_at (codes "command") xs) (cons_option (value_at (codes "path") xs) (cons_option (value_at (codes "image") xs) []));
  slots = value_at (codes "slots") xs;
  payload = value_at (codes "payload") xs;
  seed = value_at (codes "seed") xs;
  frames = value_at (codes "frames") xs;
}

abbrev pub gathered : Values → Option Uses
gathered xs = if are_distinct xs then Some (uses_at xs) else None

-- ---- a place is there where it has a value

same_either_way : (a b : List ℕ) → bytes_eq a b ≡ bytes_eq b a
same_either_way a b =
    same_from_decides (bytes_eq a b) (bytes_eq b a) (bytes_eq-Decides a b)
    ((λ e. sym ((bytes_eq-Decides b a).0 e)), (λ e. (bytes_eq-Decides b a).1 (sym e)))

has_value : (id : List ℕ) (xs : Values) → has_place id xs ≡ is_some (value_at id xs)
has_value id [] = refl
has_value id (x ∷ xs) = go (bytes_eq id x.0) (bytes_eq x.0 id) (same_either_way id x.0) (has_value id xs)
  where
    go : (b c : Bool) → b ≡ c → has_place id xs ≡ is_some (value_at id xs)
        → (b || has_place id xs) ≡ is_some (if c then Some x.1 else value_at id xs)
    go true true e h = refl
    go true false e h = cc
    go false true e h = cc
    go false false e h = h

-- ---- the plain arguments' places come in order

abbrev AreLater : Position → Values → Type 0
AreLater first xs = Unit {0}
AreLater second xs = value_at (codes "command") xs ≡ None
AreLater third xs = (value_at (codes "command") xs ≡ None) × (value_at (codes "path") xs ≡ None)
AreLater past xs = (value_at (codes "command") xs ≡ None) × (value_at (codes "path") xs ≡ None) × (value_at (codes "image") xs ≡ None)

later_option : (o : OptionName) (v : List ℕ) (p : Position) (xs : Values) → AreLater p xs → AreLater p ((option_id o, v) ∷ xs)
later_option name.Slots v first xs h = h
later_option name.Slots v second xs h = h
later_option name.Slots v third xs h = h
later_option name.Slots v past xs h = h
later_option name.Payload v first xs h = h
later_option name.Payload v second xs h = h
later_option name.Payload v third xs h = h
later_option name.Payload v past xs h = h
later_option name.Seed v first xs h = h
later_option name.Seed v second xs h = h
later_option name.Seed v third xs h = h
later_option name.Seed v past xs h = h
later_option name.Frames v first xs h = h
later_option name.Frames v second xs h = h
later_option name.Frames v third xs h = h
later_option name.Frames v past xs h = h

later_word : (p : Position) (w : List ℕ) (xs : Values) → AreLater (after_position p) xs → AreLater p ((position_id p, w) ∷ xs)
later_word first w xs h = tt
later_word second w xs h = h.0
later_word third w xs h = (h.0, h.1)
later_word past w xs h = h

mapped : {A B : Type 0} (f : A → B) (o : Option A) (b : B) → option_map f o ≡ Some b → (a : A) × (o ≡ Some a) × (f a ≡ b)
mapped f None b e = cc
mapped f (Some a) b e = (a, refl, cc)

abbrev EachLater : (Position → Option Values) → Type 0
EachLater f = (p : Position) (xs : Values) → f p ≡ Some xs → AreLater p xs

later_cons : (p q : Position) (id v : List ℕ) (o : Option Values) (ys : Values) → with_place id v o ≡ Some ys
    → ((xs : Values) → o ≡ Some xs → AreLater q xs) → ((xs : Values) → AreLater q xs → AreLater p ((id, v) ∷ xs)) → AreLater p ys
later_cons p q id v o ys e each step =
    let from = mapped (λ (xs : Values). (id, v) ∷ xs) o ys e in
    subst (AreLater p) from.2 (step from.0 (each from.0 from.1))

later_at : (p : Position) (w : List ℕ) (o : Option Values) (ys : Values) → at_position p w o ≡ Some ys
    → ((xs : Values) → o ≡ Some xs → AreLater (after_position p) xs) → AreLater p ys
later_at first w o ys e each = tt
later_at second w o ys e each = later_cons second third (codes "path") w o ys e each (λ xs h. later_word second w xs h)
later_at third w o ys e each = later_cons third past (codes "image") w o ys e each (λ xs h. later_word third w xs h)
later_at past w o ys e each = cc

later_named : (option : OptionName) (value : List ℕ) (free : Bool) (o : Option Values) (p : Position) (ys : Values)
    → (if free then with_place (option_id option) value o else None) ≡ Some ys → ((xs : Values) → o ≡ Some xs → AreLater p xs) → AreLater p ys
later_named option value true o p ys e each = later_cons p p (option_id option) value o ys e each (λ xs h. later_option option value p xs h)
later_named option value false o p ys e each = cc

later_placed_word : (word : List ℕ) (w : Word) (next : Option (List ℕ)) (a : Position → Option Values) (b : Option Values) (p : Position) (ys : Values)
    → placed_word word w next a b p ≡ Some ys → EachLater a → ((xs : Values) → b ≡ Some xs → AreLater p xs) → AreLater p ys
later_placed_word word plain next a b p ys e each more = later_at p word (a (after_position p)) ys e (λ xs h. each (after_position p) xs h)
later_placed_word word (given o v) next a b p ys e each more = later_cons p p (option_id o) v (a p) ys e (λ xs h. each p xs h) (λ xs h. later_option o v p xs h)
later_placed_word word (named o) None a b p ys e each more = cc
later_placed_word word (named o) (Some v) a b p ys e each more = later_named o v (is_plain v) b p ys e more
later_placed_word word wrong next a b p ys e each more = cc

later_none : (p : Position) → AreLater p []
later_none first = tt
later_none second = refl
later_none third = (refl, refl)
later_none past = (refl, refl, refl)

later_nil : (p : Position) (ys : Values) → Some [] ≡ Some ys → AreLater p ys
later_nil p ys e = let same : [] ≡ ys = cc in subst (AreLater p) same (later_none p)

later_placed : (args : List (List ℕ)) → EachLater (λ p. placed args p)
later_placed [] p ys e = later_nil p ys e
later_placed (word ∷ []) p ys e =
    later_placed_word word (word_meaning word) None (λ q. Some []) None p ys e (λ q xs h. later_nil q xs h) (λ xs h. cc)
later_placed (word ∷ next ∷ rest) p ys e =
    later_placed_word word (word_meaning word) (Some next) (λ q. placed (next ∷ rest) q) (placed rest p) p ys e
    (λ q xs h. later_placed (next ∷ rest) q xs h) (λ xs h. later_placed rest p xs h)

-- ---- one more value in front

abbrev value_of : OptionName → Uses → Option (List ℕ)
value_of name.Slots u = u.slots
value_of name.Payload u = u.payload
value_of name.Seed u = u.seed
value_of name.Frames u = u.frames

abbrev put_value : OptionName → List ℕ → Uses → Uses
put_value name.Slots v u = record u { slots = Some v }
put_value name.Payload v u = record u { payload = Some v }
put_value name.Seed v u = record u { seed = Some v }
put_value name.Frames v u = record u { frames = Some v }

abbrev put_plain : List ℕ → Uses → Uses
put_plain w u = record u { plain = w ∷ u.plain }

put_is : (o : OptionName) (v : List ℕ) (u : Uses) → with_value o v u ≡ (if is_none (value_of o u) then Some (put_value o v u) else None)
put_is name.Slots v u = refl
put_is name.Payload v u = refl
put_is name.Seed v u = refl
put_is name.Frames v u = refl

value_is : (o : OptionName) (xs : Values) → value_of o (uses_at xs) ≡ value_at (option_id o) xs
value_is name.Slots xs = refl
value_is name.Payload xs = refl
value_is name.Seed xs = refl
value_is name.Frames xs = refl

put_at : (o : OptionName) (v : List ℕ) (xs : Values) → put_value o v (uses_at xs) ≡ uses_at ((option_id o, v) ∷ xs)
put_at name.Slots v xs = refl
put_at name.Payload v xs = refl
put_at name.Seed v xs = refl
put_at name.Frames v xs = refl

put_keeps : (o : OptionName) (v : List ℕ) (u : Uses) → (put_value o v u).plain ≡ u.plain
put_keeps name.Slots v u = refl
put_keeps name.Payload v u = refl
put_keeps name.Seed v u = refl
put_keeps name.Frames v u = refl

none_is : (k : Option (List ℕ)) → is_none k ≡ not (is_some k)
none_is None = refl
none_is (Some x) = refl

joined : (d h : Bool) (f : Uses → Option Uses) (u v : Uses) → f u ≡ (if not h then Some v else None)
    → option_and_then f (if d then Some u else None) ≡ (if not h && d then Some v else None)
joined true true f u v e = e
joined true false f u v e = e
joined false true f u v e = refl
joined false false f u v e = refl

gathered_option : (o : OptionName) (v : List ℕ) (xs : Values) → option_and_then (with_value o v) (gathered xs) ≡ gathered ((option_id o, v) ∷ xs)
gathered_option o v xs =
    let free : is_none (value_of o (uses_at xs)) ≡ not (has_place (option_id o) xs) =
    ap is_none (value_is o xs) ∙ none_is (value_at (option_id o) xs) ∙ ap not (sym (has_value (option_id o) xs)) in
    let one : with_value o v (uses_at xs) ≡ (if not (has_place (option_id o) xs) then Some (uses_at ((option_id o, v) ∷ xs)) else None) =
    put_is o v (uses_at xs) ∙ ap₂ (λ (b : Bool) (u : Uses). if b then Some u else None) free (put_at o v xs) in
    joined (are_distinct xs) (has_place (option_id o) xs) (with_value o v) (uses_at xs) (uses_at ((option_id o, v) ∷ xs)) one

not_there : (id : List ℕ) (xs : Values) → value_at id xs ≡ None → has_place id xs ≡ false
not_there id xs e = has_value id xs ∙ ap is_some e

-- a plain argument in front, at the first place that is free
plain_in_front : (id w : List ℕ) (xs : Values) → value_at id xs ≡ None → put_plain w (uses_at xs) ≡ uses_at ((id, w) ∷ xs)
    → option_map (put_plain w) (gathered xs) ≡ gathered ((id, w) ∷ xs)
plain_in_front id w xs e same = go (are_distinct xs) (has_place id xs) (not_there id xs e)
  where
    go : (d h : Bool) → h ≡ false
        → option_map (put_plain w) (if d then Some (uses_at xs) else None) ≡ (if not h && d then Some (uses_at ((id, w) ∷ xs)) else None)
    go true true f = cc
    go true false f = ap (λ u. Some u) same
    go false true f = refl
    go false false f = refl

gathered_at : (p : Position) (w : List ℕ) (o : Option Values) → ((xs : Values) → o ≡ Some xs → AreLater (after_position p) xs) → (p ≡ past → ⊥)
    → option_map (put_plain w) (option_and_then gathered o) ≡ option_and_then gathered (at_position p w o)
gathered_at first w None later some = refl
gathered_at first w (Some xs) later some =
    let a : value_at (codes "command") xs ≡ None = later xs refl in
    plain_in_front (codes "command") w xs a
    (ap (λ (o : Option (List ℕ)). put_plain w
    (record (uses_at xs) { plain = cons_option o (cons_option (value_at (codes "path") xs) (cons_option (value_at (codes "image") xs) [])) })) a)
gathered_at second w None later some = refl
gathered_at second w (Some xs) later some =
    let h = later xs refl in
    let a : value_at (codes "command") xs ≡ None = h.0 in
    let b : value_at (codes "path") xs ≡ None = h.1 in
    plain_in_front (codes "path") w xs b (two w a b)
  where
    two : (v : List ℕ) → value_at (codes "command") xs ≡ None → value_at (codes "path") xs ≡ None → put_plain v (uses_at xs) ≡ uses_at ((codes "path", v) ∷ xs)
    two v a b = rw (a, b) refl
gathered_at third w None later some = refl
gathered_at third w (Some xs) later some =
    let h = later xs refl in
    let a : value_at (codes "command") xs ≡ None = h.0 in
    let b : value_at (codes "path") xs ≡ None = h.1 in
    let c : value_at (codes "image") xs ≡ None = h.2 in
    plain_in_front (codes "image") w xs c (three w a b c)
  where
    three : (v : List ℕ) → value_at (codes "command") xs ≡ None → value_at (codes "path") xs ≡ None → value_at (codes "image") xs ≡ None
        → put_plain v (uses_at xs) ≡ uses_at ((codes "image", v) ∷ xs)
    three v a b c = rw (a, b, c) refl
gathered_at past w o later some = absurd (some refl)

-- ---- no more plain arguments than there are places left

abbrev room : Position → ℕ
room first = 3
room second = 2
room third = 1
room past = 0

abbrev fitting : Position → Uses → Option Uses
fitting p u = if nat_le (length u.plain) (room p) then Some u else None

one_fewer : (n r : ℕ) (u : Option Uses) → r ≤ 2
    → (if nat_lt n 3 then (if nat_le (suc n) (suc r) then u else None) else None) ≡ (if nat_le n r then u else None)
one_fewer n r u few = grind (arith, nat_tests)

fits_as : (p : Position) (w : List ℕ) (u : Uses) (r : ℕ) → room p ≡ suc r → room (after_position p) ≡ r → r ≤ 2
    → option_and_then (fitting p) (with_plain w u) ≡ option_map (put_plain w) (fitting (after_position p) u)
fits_as p w u r here there few =
    lift (nat_lt (length u.plain) 3)
    ∙ ap (λ k. if nat_lt (length u.plain) 3 then (if nat_le (suc (length u.plain)) k then Some (put_plain w u) else None) else None) here
    ∙ one_fewer (length u.plain) r (Some (put_plain w u)) few
    ∙ ap (λ k. if nat_le (length u.plain) k then Some (put_plain w u) else None) (sym there) ∙ lower (nat_le (length u.plain) (room (after_position p)))
  where
    lift : (b : Bool) → option_and_then (fitting p) (if b then Some (put_plain w u) else None) ≡ (if b then fitting p (put_plain w u) else None)
    lift true = refl
    lift false = refl

    lower : (b : Bool) → (if b then Some (put_plain w u) else None) ≡ option_map (put_plain w) (if b then Some u else None)
    lower true = refl
    lower false = refl

fits_plain : (p : Position) (w : List ℕ) (o : Option Uses) → (p ≡ past → ⊥)
    → option_and_then (fitting p) (option_and_then (with_plain w) o) ≡ option_map (put_plain w) (option_and_then (fitting (after_position p)) o)
fits_plain p w None some = refl
fits_plain first w (Some u) some = fits_as first w u 2 refl refl (omega arith)
fits_plain second w (Some u) some = fits_as second w u 1 refl refl (omega arith)
fits_plain third w (Some u) some = fits_as third w u 0 refl refl (omega arith)
fits_plain past w (Some u) some = absurd (some refl)

none_past : (w : List ℕ) (o : Option Uses) → option_and_then (fitting past) (option_and_then (with_plain w) o) ≡ None
none_past w None = refl
none_past w (Some u) =
    let over : nat_le (suc (length u.plain)) 0 ≡ false = lt-leb (suc (length u.plain)) 0 (omega arith) in
    go (nat_lt (length u.plain) 3) (ap (λ b. if b then Some (put_plain w u) else None) over)
  where
    go : (a : Bool) → fitting past (put_plain w u) ≡ None → option_and_then (fitting past) (if a then Some (put_plain w u) else None) ≡ None
    go true e = e
    go false e = refl

fits_value : (p : Position) (o : OptionName) (v : List ℕ) (a : Option Uses)
    → option_and_then (fitting p) (option_and_then (with_value o v) a) ≡ option_and_then (with_value o v) (option_and_then (fitting p) a)
fits_value p o v None = refl
fits_value p o v (Some u) =
    ap (option_and_then (fitting p)) (put_is o v u) ∙ go (is_none (value_of o u)) (nat_le (length u.plain) (room p)) (fits_put (put_keeps o v u)) (put_is o v u)
  where
    fits_put : (put_value o v u).plain ≡ u.plain → fitting p (put_value o v u) ≡ (if nat_le (length u.plain) (room p) then Some (put_value o v u) else None)
    fits_put e = ap (λ (l : List (List ℕ)). if nat_le (length l) (room p) then Some (put_value o v u) else None) e

    go : (n f : Bool) → fitting p (put_value o v u) ≡ (if f then Some (put_value o v u) else None)
        → with_value o v u ≡ (if n then Some (put_value o v u) else None)
        → option_and_then (fitting p) (if n then Some (put_value o v u) else None) ≡ option_and_then (with_value o v) (if f then Some u else None)
    go true true e is = e ∙ sym is
    go true false e is = e
    go false true e is = sym is
    go false false e is = refl

-- ---- the same uses

gathers_value : (p : Position) (o : OptionName) (v : List ℕ) (a : Option Uses) (b : Option Values)
    → option_and_then (fitting p) a ≡ option_and_then gathered b
    → option_and_then (fitting p) (option_and_then (with_value o v) a) ≡ option_and_then gathered (with_place (option_id o) v b)
gathers_value p o v a b same = fits_value p o v a ∙ ap (option_and_then (with_value o v)) same ∙ go b
  where
    go : (c : Option Values) → option_and_then (with_value o v) (option_and_then gathered c) ≡ option_and_then gathered (with_place (option_id o) v c)
    go None = refl
    go (Some xs) = gathered_option o v xs

gathers_plain : (p : Position) (w : List ℕ) (a : Option Uses) (b : Option Values)
    → option_and_then (fitting (after_position p)) a ≡ option_and_then gathered b
    → ((xs : Values) → b ≡ Some xs → AreLater (after_position p) xs)
    → option_and_then (fitting p) (option_and_then (with_plain w) a) ≡ option_and_then gathered (at_position p w b)
gathers_plain first w a b same later = fits_plain first w a (λ e. cc) ∙ ap (option_map (put_plain w)) same ∙ gathered_at first w b later (λ e. cc)
gathers_plain second w a b same later = fits_plain second w a (λ e. cc) ∙ ap (option_map (put_plain w)) same ∙ gathered_at second w b later (λ e. cc)
gathers_plain third w a b same later = fits_plain third w a (λ e. cc) ∙ ap (option_map (put_plain w)) same ∙ gathered_at third w b later (λ e. cc)
gathers_plain past w a b same later = none_past w a

gathers_named : (option : OptionName) (value : List ℕ) (free : Bool) (p : Position) (a : Option Uses) (b : Option Values)
    → option_and_then (fitting p) a ≡ option_and_then gathered b
    → option_and_then (fitting p) (if free then option_and_then (with_value option value) a else None)
    ≡ option_and_then gathered (if free then with_place (option_id option) value b else None)
gathers_named option value true p a b same = gathers_value p option value a b same
gathers_named option value false p a b same = refl

gathers_word : (word : List ℕ) (w : Word) (next : Option (List ℕ)) (a b : Option Uses) (f : Position → Option Values) (g : Option Values) (p : Position)
    → ((q : Position) → option_and_then (fitting q) a ≡ option_and_then gathered (f q)) → option_and_then (fitting p) b ≡ option_and_then gathered g
    → EachLater f → option_and_then (fitting p) (followed word w next a b) ≡ option_and_then gathered (placed_word word w next f g p)
gathers_word word plain next a b f g p same more later =
    gathers_plain p word a (f (after_position p)) (same (after_position p)) (λ xs h. later (after_position p) xs h)
gathers_word word (given o v) next a b f g p same more later = gathers_value p o v a (f p) (same p)
gathers_word word (named o) None a b f g p same more later = refl
gathers_word word (named o) (Some v) a b f g p same more later = gathers_named o v (is_plain v) p b g more
gathers_word word wrong next a b f g p same more later = refl

nothing_gathered : (p : Position) → option_and_then (fitting p) (Some no_uses) ≡ option_and_then gathered (Some [])
nothing_gathered first = refl
nothing_gathered second = refl
nothing_gathered third = refl
nothing_gathered past = refl

gathers : (args : List (List ℕ)) (p : Position) → option_and_then (fitting p) (uses_of args) ≡ option_and_then gathered (placed args p)
gathers [] p = nothing_gathered p
gathers (word ∷ []) p =
    gathers_word word (word_meaning word) None (Some no_uses) None (λ q. Some []) None p nothing_gathered refl (λ q xs h. later_nil q xs h)
gathers (word ∷ next ∷ rest) p =
    gathers_word word (word_meaning word) (Some next) (uses_of (next ∷ rest)) (uses_of rest) (λ q. placed (next ∷ rest) q) (placed rest p) p
    (λ q. gathers (next ∷ rest) q) (gathers rest p) (λ q xs h. later_placed (next ∷ rest) q xs h)

all_fit : (o : Option Uses) → ((u : Uses) → o ≡ Some u → length u.plain ≤ 3) → o ≡ option_and_then (fitting first) o
all_fit None few = refl
all_fit (Some u) few = go (nat_le (length u.plain) 3) (le-leb (length u.plain) 3 (few u refl))
  where
    go : (b : Bool) → b ≡ true → Some u ≡ (if b then Some u else None)
    go true e = refl
    go false e = cc

-- the uses of the arguments are those of the values, where no place is given twice
pub uses_placed : (args : List (List ℕ)) → uses_of args ≡ option_and_then gathered (placed args first)
uses_placed args = all_fit (uses_of args) (λ u e. (uses_words args u e).few) ∙ gathers args first
