-- The records that a reader gives one after the other are all records of its text.
use Rattle.std.proofs.Common.{◌≡◌, ap, subst, refl, ℕ, zero, suc, ◌+◌, ◌<◌, ◌≤◌, Bool, true, false, List, [], ◌∷◌, ◌++◌, length, Option, Some, None, arith}
use Rattle.std.proofs.Common.{◌∙◌, sym, append-nil, length-append}
use Rattle.std.proofs.lemmas.Bool.{false≢true}
use Rattle.std.specs.Prelude.{if◌then◌else◌, ◌==◌, ◌||◌}
use Rattle.csv.specs.Machine.{Read, next_record, step, ends_at_end, is_end, fields_after, field_after}
use Rattle.csv.specs.Reading.{AreRecords, Reached, records, records_from, records_next, default_config, is_bom, strip_bom}
use Rattle.fdr_table.specs.Reading.{records_of}
use Rattle.csv.specs.declared.parser.Action.{Action}
use Rattle.csv.specs.declared.parser.Action.TheVariants as act
use Rattle.csv.specs.declared.parser.State.{State}
use Rattle.csv.specs.declared.parser.State.TheVariants as st

-- what a byte does within a field: a comma ends the field, and a line's end the record
abbrev field-step : Bool → Bool → Bool → State × Action
field-step comma ends cr =
    if comma then (st.StartField, act.EndField)
    else if ends then ((if cr then st.AfterCr else st.StartRecord), act.EndRecord)
    else (st.InField, act.Copy)

-- after a record's end the text may end
after-field : (comma ends cr : Bool) → is_end (field-step comma ends cr).1 ≡ true → ends_at_end (field-step comma ends cr).0 ≡ false
after-field true ends cr h = absurd (false≢true h)
after-field false true true h = refl
after-field false true false h = refl
after-field false false cr h = absurd (false≢true h)

after-end : (s : State) (c : ℕ) → is_end (step default_config s c).1 ≡ true → ends_at_end (step default_config s c).0 ≡ false
after-end st.StartRecord c h = grind arith
after-end st.StartField c h = grind arith
after-end st.InField c h = after-field (c == 44) ((c == 13) || (c == 10)) (c == 13) h
after-end st.InQuoted c h = grind arith
after-end st.AfterQuote c h = grind arith
after-end st.InEscape c h = grind arith
after-end st.InComment c h = grind arith
after-end st.AfterCr c h = grind arith

abbrev Shrinks : Read → List ℕ → Type 0
Shrinks q xs = (ends_at_end q.1 ≡ false) × (length q.2 ≤ length xs)

at-end : (b : Bool) (fields : List (List ℕ)) (q : Read) → (if b then Some (fields, st.StartRecord, []) else None) ≡ Some q → Shrinks q []
at-end true fields q e =
    let same : (fields, st.StartRecord, []) ≡ q = cc in
    subst (λ (r : Read). Shrinks r []) same (refl, omega arith)
at-end false fields q e = cc

one-byte : (b : Bool) (taken q : Read) (more : Option Read) (rest : List ℕ)
    → (b ≡ true → Shrinks taken rest) → (more ≡ Some q → Shrinks q rest) → (if b then Some taken else more) ≡ Some q → Shrinks q rest
one-byte true taken q more rest f g e =
    let same : taken ≡ q = cc in
    subst (λ (r : Read). Shrinks r rest) same (f refl)
one-byte false taken q more rest f g e = g e

-- a record takes no more than the text, and leaves a state at which the text may end
shrinks : (s : State) (fields : List (List ℕ)) (part xs : List ℕ) (q : Read) → next_record default_config s fields part xs ≡ Some q → Shrinks q xs
unfolding next_record
shrinks s fields part [] q e = at-end (ends_at_end s) (fields ++ (part ∷ [])) q e
shrinks s fields part (c ∷ rest) q e =
    let h = one-byte (is_end (step default_config s c).1) (fields_after (step default_config s c).1 fields part, (step default_config s c).0, rest) q
    (next_record default_config (step default_config s c).0 (fields_after (step default_config s c).1 fields part)
    (field_after (step default_config s c).1 c part) rest)
    rest (λ b. (after-end s c b, omega arith))
    (shrinks (step default_config s c).0 (fields_after (step default_config s c).1 fields part) (field_after (step default_config s c).1 c part) rest q) e in
    (h.0, omega (arith, h.1))

-- a record that begins where the text may end takes a byte at least
takes-byte : (s : State) (xs : List ℕ) (q : Read) → ends_at_end s ≡ false → next_record default_config s [] [] xs ≡ Some q → length q.2 < length xs
unfolding next_record
takes-byte s [] q open_end e =
    let none : (if ends_at_end s then Some ([] ∷ [], st.StartRecord, []) else None) ≡ Some q = e in
    let never = rw open_end at none in cc
takes-byte s (c ∷ rest) q open_end e =
    let h = one-byte (is_end (step default_config s c).1) (fields_after (step default_config s c).1 [] [], (step default_config s c).0, rest) q
    (next_record default_config (step default_config s c).0 (fields_after (step default_config s c).1 [] []) (field_after (step default_config s c).1 c [])
    rest)
    rest (λ b. (after-end s c b, omega arith)) (shrinks _ _ _ rest q) e in
    omega (arith, h.1)

-- the records that a reader has reached are the first of all records, and those of what is left come after them
reached-front : (rows : List (List (List ℕ))) (n : ℕ) (s s2 : State) (xs ys : List ℕ) → ends_at_end s ≡ false
    → Reached default_config s xs rows s2 ys → length xs < n
    → (m : ℕ) × (records_from default_config n s xs ≡ rows ++ records_from default_config (suc m) s2 ys)
unfolding Reached records_from
reached-front rows zero s s2 xs ys open_end r lt = absurd (omega arith)
reached-front [] (suc n) s s2 xs ys open_end r lt = (n, rw (r.0, r.1) refl)
reached-front (row ∷ rows) (suc n) s s2 xs ys open_end r lt =
    let p = r.0 in
    let next = r.1 in
    let small = takes-byte s xs p open_end next in
    let more = reached-front rows n p.1 s2 p.2 ys (shrinks s [] [] xs p next).0 r.3 (omega (arith, small)) in
    (more.0, rw (next, r.2) (ap (λ (rest : List (List (List ℕ))). p.0 ∷ rest) more.1))

pub records-front : (bytes : List ℕ) (rows : List (List (List ℕ))) (s2 : State) (ys : List ℕ)
    → Reached default_config st.StartRecord (strip_bom bytes) rows s2 ys
    → (rest : List (List (List ℕ))) × (records_of bytes ≡ rows ++ rest)
unfolding records_of
records-front bytes rows s2 ys h =
    let front = reached-front rows (length (strip_bom bytes) + 1) st.StartRecord s2 (strip_bom bytes) ys refl h (omega arith) in
    (records_from default_config (suc front.0) s2 ys, front.1)

pub records-are : (xs : List ℕ) (rows : List (List (List ℕ))) → AreRecords default_config st.StartRecord xs rows → rows ≡ records default_config xs
unfolding records_from
records-are xs rows h =
    let front = reached-front rows (length xs + 1) st.StartRecord h.0 xs h.1 refl h.2 (omega arith) in
    sym (front.1 ∙ rw h.3 (append-nil rows))

-- a text has no more records than bytes, and one more
next-few : (more : State → List ℕ → List (List (List ℕ))) (n : ℕ) (o : Option Read) → ((s : State) (xs : List ℕ) → length (more s xs) ≤ n)
    → length (records_next more o) ≤ n + 1
next-few more n None few = omega arith
next-few more n (Some p) few = let rest = few p.1 p.2 in omega (arith, rest)

few-records : (n : ℕ) (s : State) (xs : List ℕ) → length (records_from default_config n s xs) ≤ n
unfolding records_from
few-records zero s xs = omega arith
few-records (suc n) s xs =
    let h = next-few (records_from default_config n) n (next_record default_config s [] [] xs) (few-records n) in
    omega (arith, h)

one-of : (b : Bool) (xs ys : List ℕ) → length xs ≤ length ys → length (if b then xs else ys) ≤ length ys
one-of true xs ys h = h
one-of false xs ys h = omega arith

short : (xs : List ℕ) → length (strip_bom xs) ≤ length xs
unfolding strip_bom
short [] = omega arith
short (a ∷ []) = omega arith
short (a ∷ b ∷ []) = omega arith
short (a ∷ b ∷ c ∷ rest) = one-of (is_bom a b c) rest (a ∷ b ∷ c ∷ rest) (omega arith)

pub record-count : (bytes : List ℕ) → length (records_of bytes) ≤ length bytes + 1
unfolding records_of
record-count bytes =
    let few = few-records (length (strip_bom bytes) + 1) st.StartRecord (strip_bom bytes) in
    let less = short bytes in
    omega (arith, few, less)

-- a reader has reached no more records than there are bytes, and one more
pub front-few : (bytes : List ℕ) (rows : List (List (List ℕ))) (s2 : State) (ys : List ℕ)
    → Reached default_config st.StartRecord (strip_bom bytes) rows s2 ys → length rows ≤ length bytes + 1
front-few bytes rows s2 ys h =
    let front = records-front bytes rows s2 ys h in
    let all = record-count bytes in
    omega (arith, all, ap (length {A = List (List ℕ)}) front.1, length-append rows front.0)
