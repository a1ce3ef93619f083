-- Searches through the parameters, by index.
use Rattle.std.proofs.Common.{◌≡◌, ℕ, ◌<◌, ◌≤◌, not, Bool, true, false, List, [], ◌∷◌, ◌++◌, Option, Some, None, is_some, option_map, length, get_or}
use Rattle.std.proofs.Common.{take, map, refl, ap, sym, ◌∙◌}
use Rattle.std.specs.List.{find, enumerate_from}
use Rattle.std.proofs.lemmas.List.{take_all}
use Rattle.fdr_table.specs.Reading.{first_some}
use Rattle.fdr_table.specs.Rows.{ParamRow, PlaceRow, TableRows}
use Rattle.fdr_table.specs.declared.fault.TableFault.{TableFault}
use Rattle.fdr_table.specs.declared.fault.TableFault.TheVariants as fault
use Rattle.fdr_check.specs.Faults.{has_parts, parts_fault, rate_of, rate_fault}
use Rattle.fdr_check.specs.Groups.{places_of, grouped}
use Rattle.fdr_check.proofs.Searches.{first_some_none, first_some_some, first_at_last, find_at_last}
use Rattle.fdr_check.proofs.Overlapping.{none_of}
use Rattle.fdr_check.proofs.Grouping.{group_at, has_parts_of, rate_of_own}

-- a parameter that its parts don't make up, and its fault
abbrev pub is_incomplete : List PlaceRow → ℕ × ParamRow → Bool
is_incomplete places e = not (has_parts places e.0 e.1)

abbrev pub incomplete_row : ℕ × ParamRow → ℕ × TableFault
incomplete_row e = (e.1.row, fault.Parts)

pub parts_here : (t : TableRows) (groups : List (List PlaceRow)) (i : ℕ) (p : ParamRow) (g : List PlaceRow) (has : Bool)
    → groups ≡ grouped t.places (length t.params) → i < length t.params → g ≡ get_or groups i g → has ≡ has_parts g i p
    → is_incomplete t.places (i, p) ≡ not has
parts_here t groups i p g has are l read same =
    let own : g ≡ places_of t.places i = group_at t.places (length t.params) i groups g are l read in
    ap not (sym (same ∙ ap (λ ps. has_parts ps i p) own ∙ has_parts_of t.places i p))

pub parts_found : (t : TableRows) (params : List ParamRow) (i : ℕ) (p : ParamRow) (row : ℕ) → params ≡ t.params → i < length params → p ≡ get_or params i p
    → find (is_incomplete t.places) (enumerate_from 0 (take i params)) ≡ None → is_incomplete t.places (i, p) ≡ true → row ≡ p.row
    → Some (row, fault.Parts) ≡ parts_fault t
unfolding parts_fault
parts_found t params i p row same l is none lacks row_is =
    let found = find_at_last (is_incomplete t.places) params i p l is none lacks in
    ap (λ r. Some (r, fault.Parts)) row_is
    ∙ sym (ap (option_map incomplete_row) (ap (λ ps. find (is_incomplete t.places) (enumerate_from 0 ps)) (sym same) ∙ found))

pub parts_none : (t : TableRows) (params : List ParamRow) (i : ℕ) → params ≡ t.params → length params ≤ i
    → find (is_incomplete t.places) (enumerate_from 0 (take i params)) ≡ None → None ≡ parts_fault t
unfolding parts_fault
parts_none t params i same all none =
    sym (ap (option_map incomplete_row) (ap (λ ps. find (is_incomplete t.places) (enumerate_from 0 ps)) (sym same ∙ sym (take_all i params all)) ∙ none))

-- the fault of a parameter's rate
abbrev pub rate_row_of : TableRows → ℕ × ParamRow → Option (ℕ × TableFault)
rate_row_of t e = rate_of t.frame.words t.places e.0 e.1

pub rate_here : (t : TableRows) (groups : List (List PlaceRow)) (i : ℕ) (p : ParamRow) (g ps : List PlaceRow) (w : ℕ) (o : Option (ℕ × TableFault))
    → w ≡ t.frame.words → groups ≡ grouped t.places (length t.params) → i < length t.params → g ≡ get_or groups i g → ps ≡ g → o ≡ rate_of w ps i p
    → rate_row_of t (i, p) ≡ o
rate_here t groups i p g ps w o words are l read same_places fault_is =
    let own : ps ≡ places_of t.places i = same_places ∙ group_at t.places (length t.params) i groups g are l read in
    sym (fault_is ∙ ap (λ k. rate_of k ps i p) words ∙ ap (λ xs. rate_of t.frame.words xs i p) own ∙ rate_of_own t.frame.words t.places i p)

pub rate_is_found : (t : TableRows) (params : List ParamRow) (i : ℕ) (p : ParamRow) (o : Option (ℕ × TableFault)) → params ≡ t.params → i < length params
    → p ≡ get_or params i p → first_some (map (rate_row_of t) (enumerate_from 0 (take i params))) ≡ None → rate_row_of t (i, p) ≡ o → is_some o ≡ true
    → o ≡ rate_fault t
unfolding rate_fault
rate_is_found t params i p None same l is none here some = absurd (cc)
rate_is_found t params i p (Some r) same l is none here some =
    sym (ap (λ ps. first_some (map (rate_row_of t) (enumerate_from 0 ps))) (sym same) ∙ first_at_last (rate_row_of t) params i p r l is none here)

pub rate_none : (t : TableRows) (params : List ParamRow) (i : ℕ) → params ≡ t.params → length params ≤ i
    → first_some (map (rate_row_of t) (enumerate_from 0 (take i params))) ≡ None → None ≡ rate_fault t
unfolding rate_fault
rate_none t params i same all none =
    sym (ap (λ ps. first_some (map (rate_row_of t) (enumerate_from 0 ps))) (sym same ∙ sym (take_all i params all)) ∙ none)

-- the first of several answers, where this one is it, or isn't
pub first_some_now : {A : Type 0} (o r : Option A) (rest : List (Option A)) → r ≡ o → is_some r ≡ true → r ≡ first_some (o ∷ rest)
first_some_now o None rest e h = absurd (cc)
first_some_now o (Some a) rest e h = sym (first_some_some o a rest (sym e))

pub first_some_on : {A : Type 0} (o r : Option A) (rest : List (Option A)) → r ≡ o → is_some r ≡ false → first_some (o ∷ rest) ≡ first_some rest
first_some_on o r rest e h = first_some_none o rest (sym e ∙ none_of r h)

-- the same over two runs of answers
pub first_some_front : {A : Type 0} (os rest : List (Option A)) (r : Option A) → r ≡ first_some os → is_some r ≡ true → r ≡ first_some (os ++ rest)
first_some_front [] rest None e h = absurd (cc)
first_some_front [] rest (Some a) e h = absurd (cc)
first_some_front (None ∷ os) rest r e h = first_some_front os rest r e h
first_some_front (Some a ∷ os) rest r e h = e

pub first_some_back : {A : Type 0} (os rest : List (Option A)) (r : Option A) → r ≡ first_some os → is_some r ≡ false
    → first_some (os ++ rest) ≡ first_some rest
first_some_back [] rest r e h = refl
first_some_back (None ∷ os) rest r e h = first_some_back os rest r e h
first_some_back (Some a ∷ os) rest None e h = absurd (cc)
first_some_back (Some a ∷ os) rest (Some b) e h = absurd (cc)
