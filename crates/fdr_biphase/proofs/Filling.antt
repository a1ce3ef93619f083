-- Bytes that are put at the end of what a room has.
use Rattle.std.proofs.Common.{◌≡◌, ℕ, ◌+◌, ◌-◌, ◌*◌, ◌<◌, ◌≤◌, List, [], ◌∷◌, ◌++◌, length, take, drop, set, get_or, refl, sym, ap, ◌∙◌, arith}
use Rattle.std.proofs.Common.{append_assoc, length-append}
use Rattle.std.proofs.lemmas.Grind.{take_at_read, take-set_at}
use Rattle.std.proofs.lemmas.List.{length-take, take-append-drop}
use Rattle.std.proofs.Math.ListN.{length-set}
use Rattle.std.proofs.Math.Seq.{take-add, take-append_seam}
use borrow.Rule.Slice.PartMut.{post_of, put_mid}

-- one more of some bytes
pub next_taken : (before bytes : List ℕ) (i : ℕ) → i < length bytes → (before ++ take i bytes) ++ get_or bytes i 0 ∷ [] ≡ before ++ take (i + 1) bytes
next_taken before bytes i within =
    append_assoc before (take i bytes) (get_or bytes i 0 ∷ []) ∙ ap (λ (xs : List ℕ). before ++ xs) (sym (take_at_read bytes i 0 within).1)

-- two more bytes in a room
pub put_two : (room : List ℕ) (i x y : ℕ) → 2 * i + 2 ≤ length room
    → take (2 * (i + 1)) (set (set room (2 * i) x) (2 * i + 1) y) ≡ take (2 * i) room ++ x ∷ y ∷ []
put_two room i x y within =
    take-set_at (set room (2 * i) x) (2 * i + 1) (2 * (i + 1)) y (omega arith) (omega (arith, length-set {A = ℕ}))
    ∙ ap (λ (xs : List ℕ). xs ++ y ∷ []) (take-set_at room (2 * i) (2 * i + 1) x refl (omega arith))
    ∙ append_assoc (take (2 * i) room) (x ∷ []) (y ∷ [])

pub two_elements : (xs : List ℕ) → length xs ≡ 2 → xs ≡ get_or xs 0 0 ∷ get_or xs 1 0 ∷ []
two_elements (x ∷ y ∷ []) two = refl
two_elements [] two = absurd (omega (arith, two))
two_elements (x ∷ []) two = absurd (omega (arith, two))
two_elements (x ∷ y ∷ z ∷ xs) two = absurd (omega (arith, two))

-- and the rest of them
pub rest_taken : (before bytes : List ℕ) (i : ℕ) → i < length bytes
    → ((before ++ take i bytes) ++ get_or bytes i 0 ∷ []) ++ drop (i + 1) bytes ≡ before ++ bytes
rest_taken before bytes i within =
    ap (λ (xs : List ℕ). xs ++ drop (i + 1) bytes) (next_taken before bytes i within)
    ∙ append_assoc before (take (i + 1) bytes) (drop (i + 1) bytes) ∙ ap (λ (xs : List ℕ). before ++ xs) (take-append-drop (i + 1) bytes)

-- n more of them
pub more_taken : (before bytes : List ℕ) (i n : ℕ) → (before ++ take i bytes) ++ take n (drop i bytes) ≡ before ++ take (i + n) bytes
more_taken before bytes i n =
    append_assoc before (take i bytes) (take n (drop i bytes)) ∙ ap (λ (xs : List ℕ). before ++ xs) (sym (take-add i n bytes))

-- some bytes in place of as many at a place of a room
pub put_at_front : (room part laid : List ℕ) (i n : ℕ) → length part ≡ n → i + n ≤ length room
    → laid ≡ part ++ drop n (take (length room - i) (drop i room)) → take i room ++ part ≡ take (i + n) (put_mid i (length room - i) room laid)
put_at_front room part laid i n long within is =
    let all : length (take i room ++ part) ≡ i + n = omega (arith, length-append (take i room) part, length-take i room) in
    sym (ap (λ (ys : List ℕ). take (i + n) (take i room ++ (ys ++ post_of i (length room - i) room))) is
    ∙ ap (take (i + n)) (ap (λ (ys : List ℕ). take i room ++ ys)
    (append_assoc part (drop n (take (length room - i) (drop i room))) (post_of i (length room - i) room))
    ∙ sym (append_assoc (take i room) part _))
    ∙ ap (λ (k : ℕ). take k ((take i room ++ part) ++ (drop n (take (length room - i) (drop i room)) ++ post_of i (length room - i) room))) (sym all)
    ∙ take-append_seam (take i room ++ part) _)
