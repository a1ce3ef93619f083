-- Overlaps, place by place.
use Rattle.std.proofs.Common.{◌≡◌, ℕ, ◌+◌, ◌*◌, ◌<◌, ◌≤◌, Bool, true, false, ◌||◌, ◌&&◌, List, [], ◌∷◌, ◌++◌, Option, Some, None, option_map, length, get_or}
use Rattle.std.proofs.Common.{take, map, is_some, refl, subst, ap, sym, ◌∙◌, arith}
use Rattle.std.specs.List.{find, list_any, range_with_len, enumerate_from, All}
use Rattle.std.proofs.lemmas.List.{take_more, take_all}
use Rattle.std.proofs.lemmas.List.Folds.{list_any-append}
use Rattle.std.proofs.lemmas.List.Elements.{All-head, All-tail}
use Rattle.std.proofs.lemmas.Bool.{false_from_ne_true, both_ways}
use Rattle.fdr_table.specs.Rows.{PlaceRow}
use Rattle.fdr_table.specs.Reading.{first_some}
use Rattle.fdr_table.specs.declared.fault.TableFault.{TableFault}
use Rattle.fdr_check.specs.Occurrences.{frame_bits}
use Rattle.fdr_check.specs.Soundness.{covers}
use Rattle.fdr_check.specs.Faults.{overlap_at, first_shared, overlap_with, overlap_among}
use Rattle.fdr_check.specs.Walks.{is_marked, AreMarks}
use Rattle.fdr_check.proofs.Searches.{find_agree, first_some_none, first_some_more, first_some_here, first_at_last}
use Rattle.fdr_lists.proofs.Ranges.{All-range}
use Rattle.fdr_check.proofs.Ranges.{fails_from_find, find_no}
use Rattle.std.proofs.Math.Bool.{or-false}

whole_superframe : (w : ℕ) → 16 * frame_bits w ≡ 768 * w
whole_superframe w = omega arith

-- a place's own marks tell which bits another shares with it
pub shared_by_marks : (w : ℕ) (p q : PlaceRow) (marks : List ℕ) → AreMarks w (q ∷ []) marks
    → find (λ b. covers w p b && is_marked marks b) (range_with_len 0 (768 * w)) ≡ first_shared w p q
unfolding first_shared
shared_by_marks w p q marks are =
    let mine : ℕ → Bool = λ b. covers w p b && is_marked marks b in
    let both : ℕ → Bool = λ b. covers w p b && covers w q b in
    find_agree mine both (range_with_len 0 (768 * w)) (All-range (λ b. mine b ≡ both b) 0 (768 * w)
    (λ b low high. ap (λ m. covers w p b && m) (are.each b (omega arith) ∙ or-false (covers w q b))))
    ∙ ap (λ n. find (λ b. covers w p b && covers w q b) (range_with_len 0 n)) (sym (whole_superframe w))

pub marks_push : (w : ℕ) (places : List PlaceRow) (p : PlaceRow) (old new : List ℕ) → AreMarks w places old → length new ≡ length old
    → ((b : ℕ) → b < 768 * w → is_marked new b ≡ (is_marked old b || covers w p b)) → AreMarks w (places ++ p ∷ []) new
marks_push w places p old new are len more = record {
  length = len ∙ are.length;
  each = λ b l. more b l ∙ ap (λ m. m || covers w p b) (are.each b l)
      ∙ ap (λ m. list_any (λ (x : PlaceRow). covers w x b) places || m) (sym (or-false (covers w p b)))
      ∙ sym (list_any-append (λ (x : PlaceRow). covers w x b) places (p ∷ []));
}

pub overlap_with_more : (w : ℕ) (above : List PlaceRow) (q : PlaceRow) (i : ℕ) (d : PlaceRow) → i < length above → overlap_with w (take i above) q ≡ None
    → first_shared w (get_or above i d) q ≡ None → overlap_with w (take (i + 1) above) q ≡ None
unfolding overlap_with
overlap_with_more w above q i d l none e =
    let f : PlaceRow → Option (ℕ × TableFault) = λ p. option_map (λ b. (q.row, overlap_at w p q b)) (first_shared w p q) in
    let p = get_or above i d in
    first_some_more f above i d l none (ap (option_map (λ b. (q.row, overlap_at w p q b))) e)

pub overlap_with_here : (w : ℕ) (above : List PlaceRow) (q : PlaceRow) (i : ℕ) (d : PlaceRow) (b : ℕ) → i < length above
    → overlap_with w (take i above) q ≡ None → first_shared w (get_or above i d) q ≡ Some b
    → overlap_with w above q ≡ Some (q.row, overlap_at w (get_or above i d) q b)
unfolding overlap_with
overlap_with_here w above q i d b l none e =
    let f : PlaceRow → Option (ℕ × TableFault) = λ p. option_map (λ b. (q.row, overlap_at w p q b)) (first_shared w p q) in
    let p = get_or above i d in
    first_some_here f above i d (q.row, overlap_at w p q b) l none (ap (option_map (λ b. (q.row, overlap_at w p q b))) e)

pub overlap_with_no_place : (w : ℕ) (q : PlaceRow) → overlap_with w [] q ≡ None
unfolding overlap_with
overlap_with_no_place w q = refl

overlap_with_cons : (w : ℕ) (p : PlaceRow) (above : List PlaceRow) (q : PlaceRow) → first_shared w p q ≡ None → overlap_with w above q ≡ None
    → overlap_with w (p ∷ above) q ≡ None
unfolding overlap_with
overlap_with_cons w p above q e none =
    let f : PlaceRow → Option (ℕ × TableFault) = λ p. option_map (λ b. (q.row, overlap_at w p q b)) (first_shared w p q) in
    first_some_none (f p) (map f above) (ap (option_map (λ b. (q.row, overlap_at w p q b))) e) ∙ none

pub no_overlap_with : (w : ℕ) (above : List PlaceRow) (q : PlaceRow) → All (λ (p : PlaceRow). first_shared w p q ≡ None) above → overlap_with w above q ≡ None
no_overlap_with w [] q all = overlap_with_no_place w q
no_overlap_with w (p ∷ above) q all =
    let P : PlaceRow → Type 0 = λ p. first_shared w p q ≡ None in
    overlap_with_cons w p above q (All-head P p above all) (no_overlap_with w above q (All-tail P p above all))

-- a bit of the one that neither of the others has
neither : (q p rest : Bool) → (q && (p || rest)) ≡ false → ((p && q) ≡ false) × ((q && rest) ≡ false)
neither false false rest none = (refl, refl)
neither false true rest none = (refl, refl)
neither true false rest none = (refl, none)
neither true true rest none = absurd (cc)

first_unshared : (w : ℕ) (p : PlaceRow) (above : List PlaceRow) (q : PlaceRow)
    → ((b : ℕ) → b < 768 * w → (covers w q b && (covers w p b || list_any (λ (x : PlaceRow). covers w x b) above)) ≡ false) → first_shared w p q ≡ None
unfolding first_shared
first_unshared w p above q h =
    find_no (λ b. covers w p b && covers w q b) 0 (16 * frame_bits w) (λ b low high.
    (neither (covers w q b) (covers w p b) (list_any (λ (x : PlaceRow). covers w x b) above) (h b (omega (arith, whole_superframe w)))).0)

unshared : (w : ℕ) (above : List PlaceRow) (q : PlaceRow) → ((b : ℕ) → b < 768 * w → (covers w q b && list_any (λ (p : PlaceRow). covers w p b) above) ≡ false)
    → overlap_with w above q ≡ None
unshared w [] q h = overlap_with_no_place w q
unshared w (p ∷ above) q h = overlap_with_cons w p above q (first_unshared w p above q h)
    (unshared w above q (λ b l. (neither (covers w q b) (covers w p b) (list_any (λ (p : PlaceRow). covers w p b) above) (h b l)).1))

-- unmarked bits are shared with no place above
pub none_by_marks : (w : ℕ) (above : List PlaceRow) (q : PlaceRow) (marks : List ℕ)
    → ((b : ℕ) → b < 768 * w → is_marked marks b ≡ list_any (λ (p : PlaceRow). covers w p b) above)
    → find (λ b. covers w q b && is_marked marks b) (range_with_len 0 (768 * w)) ≡ None → overlap_with w above q ≡ None
none_by_marks w above q marks each none =
    unshared w above q (λ b l. false_from_ne_true (covers w q b && list_any (λ (p : PlaceRow). covers w p b) above) (λ h.
    both_ways (covers w q b && is_marked marks b) (fails_from_find (λ b. covers w q b && is_marked marks b) 0 (768 * w) b none (omega arith) (omega arith))
    (ap (λ m. covers w q b && m) (each b l) ∙ h)))

pub overlap_found : (w : ℕ) (above : List PlaceRow) (q : PlaceRow) (i : ℕ) (p : PlaceRow) (b row : ℕ) (f : TableFault) → i < length above → p ≡ get_or above i p
    → overlap_with w (take i above) q ≡ None → first_shared w p q ≡ Some b → row ≡ q.row → f ≡ overlap_at w p q b → Some (row, f) ≡ overlap_with w above q
overlap_found w above q i p b row f l is none shared row_is f_is =
    let here : first_shared w (get_or above i p) q ≡ Some b = ap (λ x. first_shared w x q) (sym is) ∙ shared in
    ap (λ r. Some (r, f)) row_is ∙ ap (λ g. Some (q.row, g)) (f_is ∙ ap (λ x. overlap_at w x q b) is)
    ∙ sym (overlap_with_here w above q i p b l none here)

pub overlap_not_yet : (w : ℕ) (above : List PlaceRow) (q : PlaceRow) (i : ℕ) (p : PlaceRow) → i < length above → p ≡ get_or above i p
    → overlap_with w (take i above) q ≡ None → first_shared w p q ≡ None → overlap_with w (take (i + 1) above) q ≡ None
overlap_not_yet w above q i p l is none e =
    overlap_with_more w above q i p l none (ap (λ x. first_shared w x q) (sym is) ∙ e)

pub none_of : {X : Type 0} (o : Option X) → is_some o ≡ false → o ≡ None
none_of None h = refl
none_of (Some x) h = absurd (cc)

-- the fault of a place, by its index
abbrev pub overlap_by_index : ℕ → List PlaceRow → ℕ × PlaceRow → Option (ℕ × TableFault)
overlap_by_index w places e = overlap_with w (take e.0 places) e.1

pub overlap_among_found : (w : ℕ) (places : List PlaceRow) (i : ℕ) (q : PlaceRow) (o : Option (ℕ × TableFault)) → i < length places → q ≡ get_or places i q
    → first_some (map (overlap_by_index w places) (enumerate_from 0 (take i places))) ≡ None → o ≡ overlap_with w (take i places) q → is_some o ≡ true
    → o ≡ overlap_among w places
unfolding overlap_among
overlap_among_found w places i q None l is none e some = absurd (cc)
overlap_among_found w places i q (Some f) l is none e some = sym (first_at_last (overlap_by_index w places) places i q f l is none (sym e))

pub no_overlap_among : (w : ℕ) (places : List PlaceRow) (i : ℕ) → length places ≤ i
    → first_some (map (overlap_by_index w places) (enumerate_from 0 (take i places))) ≡ None → None ≡ overlap_among w places
unfolding overlap_among
no_overlap_among w places i all none =
    sym (ap (λ ps. first_some (map (overlap_by_index w places) (enumerate_from 0 ps))) (sym (take_all i places all)) ∙ none)

pub marks_next : (w : ℕ) (places : List PlaceRow) (i : ℕ) (p : PlaceRow) (old new : List ℕ) → i < length places → p ≡ get_or places i p
    → AreMarks w (take i places) old → length new ≡ length old → ((b : ℕ) → b < 768 * w → is_marked new b ≡ (is_marked old b || covers w p b))
    → AreMarks w (take (i + 1) places) new
marks_next w places i p old new l is are len more =
    let e : take (i + 1) places ≡ take i places ++ p ∷ [] = take_more places i p l ∙ ap (λ x. take i places ++ x ∷ []) (sym is) in
    subst (λ ps. AreMarks w ps new) (sym e) (marks_push w (take i places) p old new are len more)
