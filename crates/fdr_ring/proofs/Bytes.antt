-- Images of which a range is torn.
use Rattle.std.proofs.Common.{◌≡◌, ◌≢◌, ◌⊎◌, ⊎_elim, ℕ, ◌+◌, ◌-◌, ◌<◌, ◌≤◌, true, false, List, [], ◌∷◌, ◌++◌, length, take, drop, get_or}
use Rattle.std.proofs.Common.{refl, sym, ap, ◌∙◌, subst, arith, add-zero, append_assoc, length-append}
use Rattle.std.specs.Prelude.{slice_index, slice_range, nat_eq}
use Rattle.std.proofs.lemmas.Bool.{cases_eq}
use Rattle.std.proofs.lemmas.Bool.Decides.{nat_tests}
use Rattle.std.proofs.lemmas.List.{get_or-take, get_or-drop, take-take, drop-drop, drop-take, drop_more, take-append-drop}
use Rattle.std.proofs.lemmas.List.{get_or-append_right, length-take-le, take_at, drop_at}
use Rattle.fdr_deck.specs.State.{State}
use Rattle.fdr_deck.specs.Disk.{Torn, IsSettled, patched}
use Rattle.fdr_deck.proofs.Torn.{Torn-same, Torn-patched}
use Rattle.fdr_ring.specs.Closing.{IsTurned, Closing, image_with_closed_gate}

-- one tear after another in the same range
pub Torn-then : (at n : ℕ) (old mid new : List ℕ) → Torn at n old mid → Torn at n mid new → Torn at n old new
Torn-then at n old mid new first second = record {
  size = second.size ∙ first.size;
  front = second.front
      ∙ first.front;
  behind = second.behind ∙ first.behind;
}

-- a tear in a range is one in each range around it
pub Torn-within : (at n inner few : ℕ) (old new : List ℕ) → at ≤ inner → inner + few ≤ at + n → Torn inner few old new → Torn at n old new
Torn-within at n inner few old new from to torn = record {
  size = torn.size;
  front = sym (take-take at inner new from) ∙ ap (take at) torn.front ∙ take-take at inner old from;
  behind = later new ∙ ap (drop (at + n - (inner + few))) torn.behind ∙ sym (later old);
}
  where
    whole : inner + few + (at + n - (inner + few)) ≡ at + n
    whole = omega arith

    later : (xs : List ℕ) → drop (at + n) xs ≡ drop (at + n - (inner + few)) (drop (inner + few) xs)
    later xs = sym (drop-drop (at + n - (inner + few)) (inner + few) xs ∙ ap (λ k. drop k xs) whole)

range_take : (s m : ℕ) (xs : List ℕ) → slice_range xs s (s + m) ≡ drop s (take (s + m) xs)
range_take s m xs = let count : s + m - s ≡ m = omega arith in ap (λ k. take k (drop s xs)) count ∙ sym (drop-take s m xs)

-- a range in front of the tear
pub range_front : (at n s m : ℕ) (old new : List ℕ) → s + m ≤ at → Torn at n old new → slice_range new s (s + m) ≡ slice_range old s (s + m)
range_front at n s m old new within torn =
    let part : take (s + m) new ≡ take (s + m) old = sym (take-take (s + m) at new within) ∙ ap (take (s + m)) torn.front
    ∙ take-take (s + m) at old within in
    range_take s m new ∙ ap (drop s) part ∙ sym (range_take s m old)

-- and one after it
pub range_behind : (at n s m : ℕ) (old new : List ℕ) → at + n ≤ s → Torn at n old new
    → slice_range new s (s + m) ≡ slice_range old s (s + m)
range_behind at n s m old new within torn =
    let whole : at + n + (s - (at + n)) ≡ s = omega arith in
    let later : (xs : List ℕ) → drop s xs ≡ drop (s - (at + n)) (drop (at + n) xs) =
    λ xs. sym (drop-drop (s - (at + n)) (at + n) xs ∙ ap (λ k. drop k xs) whole) in
    ap (take (s + m - s)) (later new ∙ ap (drop (s - (at + n))) torn.behind ∙ sym (later old))

pub range_outside : (at n s m : ℕ) (old new : List ℕ) → (s + m ≤ at) ⊎ (at + n ≤ s) → Torn at n old new
    → slice_range new s (s + m) ≡ slice_range old s (s + m)
range_outside at n s m old new apart torn = ⊎_elim (λ front. range_front at n s m old new front torn)
    (λ behind. range_behind at n s m old new behind torn) apart

-- a byte in front of the tear
pub byte_front : (at n s : ℕ) (old new : List ℕ) → s < at → Torn at n old new → slice_index new s ≡ slice_index old s
byte_front at n s old new less torn = sym (get_or-take at new s 0 less) ∙ ap (λ (l : List ℕ). get_or l s 0) torn.front
    ∙ get_or-take at old s 0 less

-- the first byte of a range
pub range_first : (s m : ℕ) (xs : List ℕ) → 0 < m → slice_index (slice_range xs s (s + m)) 0 ≡ slice_index xs s
range_first s m xs some =
    get_or-take (s + m - s) (drop s xs) 0 0 (omega arith) ∙ get_or-drop s xs 0 0 ∙ ap (λ k. get_or xs k 0) (add-zero s)

-- the byte that was read
pub byte_read : (at : ℕ) (held buf : List ℕ) → buf ≡ slice_range held at (at + length buf) → 0 < length buf
    → slice_index held at ≡ slice_index buf 0
byte_read at held buf read some = sym (range_first at (length buf) held some) ∙ ap (λ (l : List ℕ). slice_index l 0) (sym read)

around_byte : (at : ℕ) (xs : List ℕ) → at < length xs → xs ≡ take at xs ++ (get_or xs at 0 ∷ drop (at + 1) xs)
around_byte at xs within = sym (take-append-drop at xs) ∙ ap (λ r. take at xs ++ r) (drop_more xs at 0 within)

-- a torn byte is as it is
pub torn_byte : (at : ℕ) (old new : List ℕ) (b : ℕ) → at < length old → Torn at 1 old new → slice_index new at ≡ b
    → new ≡ patched at (b ∷ []) old
torn_byte at old new b within torn is =
    around_byte at new (omega (arith, torn.size)) ∙ ap (λ x. take at new ++ (x ∷ drop (at + 1) new)) is
    ∙ ap (λ x. x ++ (b ∷ drop (at + 1) new)) torn.front ∙ ap (λ x. take at old ++ (b ∷ x)) torn.behind

pub patched_same : (at : ℕ) (old : List ℕ) → at < length old → patched at (slice_index old at ∷ []) old ≡ old
patched_same at old within = sym (around_byte at old within)

pub torn_byte_same : (at : ℕ) (old new : List ℕ) → at < length old → Torn at 1 old new → slice_index new at ≡ slice_index old at → new ≡ old
torn_byte_same at old new within torn is = torn_byte at old new (slice_index old at) within torn is ∙ patched_same at old within

-- the first bytes, in front of the tear
pub take_front : (at n few : ℕ) (old new : List ℕ) → few ≤ at → Torn at n old new → take few new ≡ take few old
take_front at n few old new within torn = sym (take-take few at new within) ∙ ap (take few) torn.front ∙ take-take few at old within

-- nothing turned, and nothing torn
pub IsTurned-here : (at : ℕ) (old new : List ℕ) → new ≡ old → IsTurned at old new
IsTurned-here at old new same = record { torn = subst (Torn at 1 old) (sym same) (Torn-same at 1 old); same = λ closed. same }

pub Torn-of-same : (at n : ℕ) (old new : List ℕ) → new ≡ old → Torn at n old new
Torn-of-same at n old new same = subst (Torn at n old) (sym same) (Torn-same at n old)

-- a gate that is shut
pub shut_open : (at : ℕ) (old : List ℕ) → slice_index old at ≡ 0x5a → image_with_closed_gate at old ≡ patched at (0 ∷ []) old
shut_open at old is = let test : nat_eq (slice_index old at) 0x5a ≡ true = grind (arith, nat_tests) in rw test refl

pub shut_closed : (at : ℕ) (old : List ℕ) → slice_index old at ≢ 0x5a → image_with_closed_gate at old ≡ old
shut_closed at old closed = let test : nat_eq (slice_index old at) 0x5a ≡ false = grind (arith, nat_tests) in rw test refl

-- the byte that was written
pub patched_byte : (at b : ℕ) (old : List ℕ) → at ≤ length old → slice_index (patched at (b ∷ []) old) at ≡ b
patched_byte at b old within =
    let none : at - at ≡ 0 = omega arith in
    get_or-append_right (take at old) (b ∷ drop (at + 1) old) at at 0 (length-take-le at old within) (omega arith)
    ∙ ap (λ k. get_or (b ∷ drop (at + 1) old) k 0) none

pub shut_turned : (at : ℕ) (old : List ℕ) → at < length old → IsTurned at old (image_with_closed_gate at old)
shut_turned at old within = ⊎_elim
    (λ is. let shut_is = shut_open at old is in
    record {
      torn = subst (Torn at 1 old) (sym shut_is) (Torn-patched at (0 ∷ []) old (omega arith));
      same = λ closed. absurd (closed is);
    })
    (λ closed. IsTurned-here at old (image_with_closed_gate at old) (shut_closed at old closed))
    (cases_eq (slice_index old at) 0x5a)

pub shut_gate : (at : ℕ) (old : List ℕ) → at < length old → slice_index (image_with_closed_gate at old) at ≢ 0x5a
shut_gate at old within open_gate = ⊎_elim
    (λ is. let first : slice_index (image_with_closed_gate at old) at ≡ 0 =
    ap (λ (l : List ℕ). slice_index l at) (shut_open at old is) ∙ patched_byte at 0 old (omega arith) in
    absurd (omega (arith, first, open_gate)))
    (λ closed. absurd (closed (sym (ap (λ (l : List ℕ). slice_index l at) (shut_closed at old closed)) ∙ open_gate)))
    (cases_eq (slice_index old at) 0x5a)

-- one write, or two that meet
pub patched_append : (at : ℕ) (xs ys old : List ℕ) → at ≤ length old
    → patched at (xs ++ ys) old ≡ patched (at + length xs) ys (patched at xs old)
patched_append at xs ys old within =
    let rest : List ℕ = drop (at + length xs) old in
    let front : List ℕ = take at old ++ xs in
    let long : length front ≡ at + length xs = omega (arith, length-append (take at old) xs, length-take-le at old within) in
    let whole : patched at xs old ≡ front ++ rest = sym (append_assoc (take at old) xs rest) in
    let start : take (at + length xs) (patched at xs old) ≡ front =
    ap (take (at + length xs)) whole ∙ take_at front rest (at + length xs) long in
    let later : drop (at + length xs) (patched at xs old) ≡ rest =
    ap (drop (at + length xs)) whole ∙ drop_at front rest (at + length xs) long in
    let sum : at + length xs + length ys ≡ at + length (xs ++ ys) = omega (arith, length-append xs ys) in
    let behind : drop (at + length xs + length ys) (patched at xs old) ≡ drop (at + length (xs ++ ys)) old =
    sym (drop-drop (length ys) (at + length xs) (patched at xs old)) ∙ ap (drop (length ys)) later
    ∙ drop-drop (length ys) (at + length xs) old ∙ ap (λ k. drop k old) sum in
    ap (λ l. take at old ++ l) (append_assoc xs ys (drop (at + length (xs ++ ys)) old))
    ∙ sym (append_assoc (take at old) xs (ys ++ drop (at + length (xs ++ ys)) old))
    ∙ ap (λ l. l ++ (ys ++ drop (at + length (xs ++ ys)) old)) (sym start)
    ∙ ap (λ l. take (at + length xs) (patched at xs old) ++ (ys ++ l)) (sym behind)

-- a gate of a disk that was settled
pub Closing-settled : (at : ℕ) (entry : State) (image : List ℕ) → IsSettled entry → Closing at entry image → IsTurned at entry.held image
Closing-settled at entry image settled closing =
    let is : closing.from ≡ entry.held = settled closing.from closing.left in
    record { torn = subst (λ l. Torn at 1 l image) is closing.torn; same = λ closed. closing.same closed ∙ is }

pub Closing-here : (at : ℕ) (entry : State) (image : List ℕ) → entry.may_leave image → Closing at entry image
Closing-here at entry image leaves = record { from = image; left = leaves; torn = Torn-same at 1 image; same = λ closed. refl }

-- one more tear of the gate, which the disk held open
pub Closing-more : (at : ℕ) (entry : State) (mid image : List ℕ) → slice_index entry.held at ≡ 0x5a → Closing at entry mid
    → Torn at 1 mid image → Closing at entry image
Closing-more at entry mid image is closing torn = record {
  from = closing.from;
  left = closing.left;
  torn = Torn-then at 1 closing.from mid image closing.torn torn;
  same = λ closed. absurd (closed is);
}
