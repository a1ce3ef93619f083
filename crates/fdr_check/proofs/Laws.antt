-- A table whose rows are in their ranges has no fault exactly where it is sound.
use Rattle.std.proofs.Common.{◌≡◌, ◌≢◌, ℕ, ◌+◌, ◌*◌, ◌≤◌, ◌==◌, ◌&&◌, not, nat_le, nat_lt, Bool, true, false, List, [], ◌∷◌, Some, None, option_map, length}
use Rattle.std.proofs.Common.{get_or, subst, ap, sym, ◌∙◌, arith}
use Rattle.std.specs.List.{range_with_len, filter, find, list_all, enumerate_from, slice_get, sum_by, All, AllPairs}
use Rattle.std.proofs.lemmas.List.Elements.{All-weaker}
use Rattle.std.proofs.lemmas.List.Folds.{Any-from_list_any}
use Rattle.std.proofs.lemmas.Bool.{and_parts, and_from, eq-eqb, eqb-true, eqb-false, ne_eqb, ltb-false, le-ltb, le-leb, leb-true, both_ways, true_from_ne_false}
use Rattle.std.proofs.lemmas.Bool.{false_from_ne_true, not-false, not_from_true, cond-false}
use Rattle.fdr_frame.specs.Slots.{is_counter}
use Rattle.fdr_table.specs.Rows.{FrameRow, ParamRow, PlaceRow, TableRows}
use Rattle.fdr_table.specs.Ranges.{IsPlaceInRange, IsInRange}
use Rattle.fdr_table.specs.declared.fault.TableFault.TheVariants as fault
use Rattle.fdr_check.specs.Occurrences.{is_part, part_width, occurrences, occurs}
use Rattle.fdr_check.specs.Soundness.{has_part, HasParts, HasRate, IsOffCounter, ShareNoBit, IsSound, most_superframe_parts}
use Rattle.fdr_check.specs.Faults.{RowFault, first_place, place_fault, sync_fault, meets_counter, counter_fault, overlap_fault, last_part, has_parts}
use Rattle.fdr_check.specs.Faults.{parts_fault, count_of, off_rate, rate_of, rate_fault, many_fault, table_fault}
use Rattle.fdr_check.proofs.Searches.{first_some_none, first_some_parts}
use Rattle.fdr_check.proofs.Ranges.{fails_from_find, find_no}
use Rattle.fdr_check.proofs.Meeting.{any_in_range, any_from_range}
use Rattle.fdr_check.proofs.Enumerating.{is_incomplete, incomplete_row, rate_row_of}
use Rattle.fdr_check.proofs.Sounding.{all_fail, none_found, all_none, none_of_all, at_index, from_index, apart_from, none_apart, parts_up_to}
use Rattle.fdr_check.proofs.Sounding.{last_low, kept_pass, pass_kept, pass_each}
use Rattle.fdr_lists.proofs.Searches.{cond_none}
use Rattle.fdr_lists.proofs.Ranges.{list_all-range}
use Rattle.fdr_lists.proofs.Options.{option_map_none}

-- the first two, of words
words_from : (t : TableRows) → place_fault t ≡ None → (t.frame.cword ≤ t.frame.words) × All (λ (p : PlaceRow). p.word ≤ t.frame.words) t.places
unfolding place_fault
words_from t none =
    let test : PlaceRow → Bool = λ p. nat_lt t.frame.words p.word in
    let parts = cond_none (nat_lt t.frame.words t.frame.cword) (0, fault.Place) (first_place test fault.Place t.places) none in (
      ltb-false _ _ parts.0,
      All-weaker (λ (p : PlaceRow). test p ≡ false) (λ (p : PlaceRow). p.word ≤ t.frame.words) (λ p h. ltb-false _ _ h) t.places
          (all_fail test t.places (option_map_none (λ (p : PlaceRow). (p.row, fault.Place)) (find test t.places) parts.1)),
    )

words_none : (t : TableRows) → t.frame.cword ≤ t.frame.words → All (λ (p : PlaceRow). p.word ≤ t.frame.words) t.places → place_fault t ≡ None
unfolding place_fault
words_none t cword words =
    let test : PlaceRow → Bool = λ p. nat_lt t.frame.words p.word in
    cond-false (nat_lt t.frame.words t.frame.cword) (Some (0, fault.Place)) (first_place test fault.Place t.places) (le-ltb _ _ cword)
    ∙ ap (option_map (λ (p : PlaceRow). (p.row, fault.Place))) (none_found test t.places
    (All-weaker (λ (p : PlaceRow). p.word ≤ t.frame.words) (λ (p : PlaceRow). test p ≡ false) (λ p h. le-ltb _ _ h) t.places words))

sync_from : (t : TableRows) → sync_fault t ≡ None → All (λ (p : PlaceRow). p.word ≢ 1) t.places
unfolding sync_fault
sync_from t none =
    let test : PlaceRow → Bool = λ p. p.word == 1 in
    All-weaker (λ (p : PlaceRow). test p ≡ false) (λ (p : PlaceRow). p.word ≢ 1) (λ p h. eqb-false _ _ h) t.places
    (all_fail test t.places (option_map_none (λ (p : PlaceRow). (p.row, fault.OnSync)) (find test t.places) none))

sync_none : (t : TableRows) → All (λ (p : PlaceRow). p.word ≢ 1) t.places → sync_fault t ≡ None
unfolding sync_fault
sync_none t all =
    let test : PlaceRow → Bool = λ p. p.word == 1 in
    ap (option_map (λ (p : PlaceRow). (p.row, fault.OnSync))) (none_found test t.places
    (All-weaker (λ (p : PlaceRow). p.word ≢ 1) (λ (p : PlaceRow). test p ≡ false) (λ p h. ne_eqb _ _ h) t.places all))

off_counter : (f : FrameRow) (p : PlaceRow) → meets_counter f p ≡ false → IsOffCounter f p
unfolding meets_counter
off_counter f p h = λ k l here counter.
    let t : ℕ → Bool = λ k. occurs f.words p k && is_counter f.words f.cword f.csub k in
    both_ways (meets_counter f p) h (any_from_range t (64 * f.words) k l (and_from (occurs f.words p k) (is_counter f.words f.cword f.csub k) here counter))

meets_not : (f : FrameRow) (p : PlaceRow) → IsOffCounter f p → meets_counter f p ≡ false
unfolding meets_counter
meets_not f p off = false_from_ne_true (meets_counter f p) (λ h.
    let t : ℕ → Bool = λ k. occurs f.words p k && is_counter f.words f.cword f.csub k in
    let found = any_in_range t 0 (64 * f.words) h in
    let parts = and_parts (occurs f.words p found.0) (is_counter f.words f.cword f.csub found.0) found.3 in
    off found.0 (omega (arith, found.2)) parts.0 parts.1)

counter_from : (t : TableRows) → counter_fault t ≡ None → All (IsOffCounter t.frame) t.places
unfolding counter_fault
counter_from t none =
    All-weaker (λ p. meets_counter t.frame p ≡ false) (IsOffCounter t.frame) (off_counter t.frame) t.places
    (all_fail (meets_counter t.frame) t.places (option_map_none (λ (p : PlaceRow). (p.row, fault.OnCounter)) (find (meets_counter t.frame) t.places) none))

counter_none : (t : TableRows) → All (IsOffCounter t.frame) t.places → counter_fault t ≡ None
unfolding counter_fault
counter_none t all =
    ap (option_map (λ (p : PlaceRow). (p.row, fault.OnCounter))) (none_found (meets_counter t.frame) t.places
    (All-weaker (IsOffCounter t.frame) (λ p. meets_counter t.frame p ≡ false) (meets_not t.frame) t.places all))

-- the parts of a parameter
parts_hold : (places : List PlaceRow) (n : ℕ) (p : ParamRow) → has_parts places n p ≡ true → HasParts places n p
unfolding has_parts
parts_hold places n p h =
    let last = last_part places n in
    let own : PlaceRow → Bool = λ l. l.param == n in
    let same : PlaceRow → Bool = λ l. l.width == part_width places n l.part in
    let some = nat_le 1 last in
    let all = list_all (has_part places n) (range_with_len 1 last) in
    let widths = list_all same (filter own places) in
    let three = and_parts ((some && all) && widths) (p.width == sum_by (part_width places n) (range_with_len 1 last)) h in
    let two = and_parts (some && all) widths three.0 in
    let one = and_parts some all two.0 in
    record {
      count = last;
      not_empty = leb-true _ _ one.0;
      numbers = parts_up_to places n;
      none_missing = λ part low high. pass_each (has_part places n) 1 last part one.1 low (omega arith);
      widths = λ k d l e. eqb-true _ _ (kept_pass same own places two.1 k d l (eq-eqb _ _ e));
      whole = eqb-true _ _ three.1;
    }

last_is : (places : List PlaceRow) (n : ℕ) (p : ParamRow) (h : HasParts places n p) → last_part places n ≡ h.count
last_is places n p h =
    let low : last_part places n ≤ h.count = last_low places n h.count h.numbers in
    let there = Any-from_list_any (is_part n h.count) places (h.none_missing h.count h.not_empty (omega arith)) in
    let parts = and_parts (there.1.param == n) (there.1.part == h.count) there.4 in
    let bound : get_or places there.0 there.1 ≡ there.1 → there.1.part ≤ last_part places n = λ e.
    subst (λ (l : PlaceRow). l.param ≡ n → l.part ≤ last_part places n) e (parts_up_to places n there.0 there.1 there.2) (eqb-true _ _ parts.0) in
    let high : h.count ≤ last_part places n = omega (arith, bound there.3, eqb-true there.1.part h.count parts.1) in
    omega arith

holds_parts : (places : List PlaceRow) (n : ℕ) (p : ParamRow) → HasParts places n p → has_parts places n p ≡ true
unfolding has_parts
holds_parts places n p h =
    let last = last_part places n in
    let e = last_is places n p h in
    let own : PlaceRow → Bool = λ l. l.param == n in
    let same : PlaceRow → Bool = λ l. l.width == part_width places n l.part in
    let some = nat_le 1 last in
    let all = list_all (has_part places n) (range_with_len 1 last) in
    let widths = list_all same (filter own places) in
    and_from ((some && all) && widths) (p.width == sum_by (part_width places n) (range_with_len 1 last))
    (and_from (some && all) widths
    (and_from some all (le-leb _ _ (omega (arith, e, h.not_empty)))
    (list_all-range (has_part places n) 1 last (λ part low high. h.none_missing part low (omega (arith, e, high)))))
    (pass_kept same own places (λ k d l mine. eq-eqb _ _ (h.widths k d l (eqb-true _ _ mine)))))
    (eq-eqb _ _ (h.whole ∙ ap (λ k. sum_by (part_width places n) (range_with_len 1 k)) (sym e)))

parts_from : (t : TableRows) → parts_fault t ≡ None → (n : ℕ) (p : ParamRow) → slice_get t.params n ≡ Some p → HasParts t.places n p
unfolding parts_fault
parts_from t none n p at =
    let all = all_fail (is_incomplete t.places) (enumerate_from 0 t.params)
    (option_map_none incomplete_row (find (is_incomplete t.places) (enumerate_from 0 t.params)) none) in
    let k : 0 + n ≡ n = omega arith in
    let here : is_incomplete t.places (n, p) ≡ false =
    subst (λ j. is_incomplete t.places (j, p) ≡ false) k (at_index (λ e. is_incomplete t.places e ≡ false) 0 t.params n p all at) in
    parts_hold t.places n p (not-false (has_parts t.places n p) here)

parts_no_fault : (t : TableRows) → ((n : ℕ) (p : ParamRow) → slice_get t.params n ≡ Some p → HasParts t.places n p) → parts_fault t ≡ None
unfolding parts_fault
parts_no_fault t holds =
    let each : (n : ℕ) (p : ParamRow) → slice_get t.params n ≡ Some p → is_incomplete t.places (0 + n, p) ≡ false = λ n p at.
    let k : n ≡ 0 + n = omega arith in
    subst (λ j. is_incomplete t.places (j, p) ≡ false) k (not_from_true (has_parts t.places n p) (holds_parts t.places n p (holds n p at))) in
    ap (option_map incomplete_row) (none_found (is_incomplete t.places) (enumerate_from 0 t.params)
    (from_index (λ e. is_incomplete t.places e ≡ false) 0 t.params each))

-- the rates
rate_holds : (w : ℕ) (places : List PlaceRow) (n : ℕ) (p : ParamRow) → All IsPlaceInRange places → rate_of w places n p ≡ None → HasRate w places n p
unfolding rate_of off_rate
rate_holds w places n p in_range none = λ part some.
    let t : ℕ → Bool = λ k. has_part places n k && not (count_of w places n k == p.rate) in
    let off = option_map_none (λ k. (p.row, fault.Rate p.rate (count_of w places n k))) (find t (range_with_len 1 4)) none in
    let there = Any-from_list_any (is_part n part) places some in
    let parts = and_parts (there.1.param == n) (there.1.part == part) there.4 in
    let place : IsPlaceInRange there.1 = subst IsPlaceInRange there.3 (in_range there.0 there.1 there.2) in
    let e = eqb-true there.1.part part parts.1 in
    let fails : t part ≡ false = fails_from_find t 1 4 part off (omega (arith, e, place.part_low)) (omega (arith, e, place.part_high)) in
    eqb-true (count_of w places n part) p.rate (true_from_ne_false (count_of w places n part == p.rate) (λ wrong.
    both_ways (t part) fails (and_from (has_part places n part) (not (count_of w places n part == p.rate)) some (ap not wrong))))

holds_rate : (w : ℕ) (places : List PlaceRow) (n : ℕ) (p : ParamRow) → HasRate w places n p → rate_of w places n p ≡ None
unfolding rate_of off_rate
holds_rate w places n p rate =
    let t : ℕ → Bool = λ k. has_part places n k && not (count_of w places n k == p.rate) in
    ap (option_map (λ k. (p.row, fault.Rate p.rate (count_of w places n k)))) (find_no t 1 4 (λ part low high.
    false_from_ne_true (t part) (λ h.
    let parts = and_parts (has_part places n part) (not (count_of w places n part == p.rate)) h in
    both_ways (not (count_of w places n part == p.rate)) (not_from_true (count_of w places n part == p.rate) (eq-eqb _ _ (rate part parts.0))) parts.1)))

rates_from : (t : TableRows) → All IsPlaceInRange t.places → rate_fault t ≡ None → (n : ℕ) (p : ParamRow) → slice_get t.params n ≡ Some p
    → HasRate t.frame.words t.places n p
unfolding rate_fault
rates_from t in_range none n p at =
    let all = all_none (rate_row_of t) (enumerate_from 0 t.params) none in
    let k : 0 + n ≡ n = omega arith in
    rate_holds t.frame.words t.places n p in_range (subst (λ j. rate_row_of t (j, p) ≡ None) k (at_index (λ e. rate_row_of t e ≡ None) 0 t.params n p all at))

rates_no_fault : (t : TableRows) → ((n : ℕ) (p : ParamRow) → slice_get t.params n ≡ Some p → HasRate t.frame.words t.places n p) → rate_fault t ≡ None
unfolding rate_fault
rates_no_fault t holds =
    let each : (n : ℕ) (p : ParamRow) → slice_get t.params n ≡ Some p → rate_row_of t (0 + n, p) ≡ None = λ n p at.
    let k : n ≡ 0 + n = omega arith in
    subst (λ j. rate_row_of t (j, p) ≡ None) k (holds_rate t.frame.words t.places n p (holds n p at)) in
    none_of_all (rate_row_of t) (enumerate_from 0 t.params) (from_index (λ e. rate_row_of t e ≡ None) 0 t.params each)

few_from : (t : TableRows) → many_fault t ≡ None → length (occurrences t.frame.words t.places) ≤ most_superframe_parts
unfolding many_fault
few_from t none = ltb-false _ _ (cond_none (nat_lt most_superframe_parts (length (occurrences t.frame.words t.places))) (t.rows, fault.TooMany) None none).0

few_none : (t : TableRows) → length (occurrences t.frame.words t.places) ≤ most_superframe_parts → many_fault t ≡ None
unfolding many_fault
few_none t few = cond-false (nat_lt most_superframe_parts (length (occurrences t.frame.words t.places))) (Some (t.rows, fault.TooMany)) None (le-ltb _ _ few)

overlap_from : (t : TableRows) → overlap_fault t ≡ None → AllPairs (ShareNoBit t.frame.words) t.places
unfolding overlap_fault
overlap_from t none = apart_from t.frame.words t.places none

overlap_none : (t : TableRows) → AllPairs (ShareNoBit t.frame.words) t.places → overlap_fault t ≡ None
unfolding overlap_fault
overlap_none t pairs = none_apart t.frame.words t.places pairs

-- a table with no fault is sound
pub sound_from : (t : TableRows) → IsInRange t → table_fault t ≡ None → IsSound t
unfolding table_fault
sound_from t in_range none =
    let h1 = first_some_parts (place_fault t) (sync_fault t ∷ counter_fault t ∷ overlap_fault t ∷ parts_fault t ∷ rate_fault t ∷ many_fault t ∷ []) none in
    let h2 = first_some_parts (sync_fault t) (counter_fault t ∷ overlap_fault t ∷ parts_fault t ∷ rate_fault t ∷ many_fault t ∷ []) h1.1 in
    let h3 = first_some_parts (counter_fault t) (overlap_fault t ∷ parts_fault t ∷ rate_fault t ∷ many_fault t ∷ []) h2.1 in
    let h4 = first_some_parts (overlap_fault t) (parts_fault t ∷ rate_fault t ∷ many_fault t ∷ []) h3.1 in
    let h5 = first_some_parts (parts_fault t) (rate_fault t ∷ many_fault t ∷ []) h4.1 in
    let h6 = first_some_parts (rate_fault t) (many_fault t ∷ []) h5.1 in
    let h7 = first_some_parts (many_fault t) [] h6.1 in
    record {
      cword = (words_from t h1.0).0;
      words = (words_from t h1.0).1;
      sync = sync_from t h2.0;
      counter = counter_from t h3.0;
      apart = overlap_from t h4.0;
      parts = parts_from t h5.0;
      rates = rates_from t in_range.places h6.0;
      within_superframe = few_from t h7.0;
    }

-- and a sound table has none
pub no_fault_from : (t : TableRows) → IsSound t → table_fault t ≡ None
unfolding table_fault
no_fault_from t sound =
    let o4 : List RowFault = parts_fault t ∷ rate_fault t ∷ many_fault t ∷ [] in
    first_some_none (place_fault t) (sync_fault t ∷ counter_fault t ∷ overlap_fault t ∷ o4) (words_none t sound.cword sound.words)
    ∙ first_some_none (sync_fault t) (counter_fault t ∷ overlap_fault t ∷ o4) (sync_none t sound.sync)
    ∙ first_some_none (counter_fault t) (overlap_fault t ∷ o4) (counter_none t sound.counter)
    ∙ first_some_none (overlap_fault t) o4 (overlap_none t sound.apart)
    ∙ first_some_none (parts_fault t) (rate_fault t ∷ many_fault t ∷ []) (parts_no_fault t sound.parts)
    ∙ first_some_none (rate_fault t) (many_fault t ∷ []) (rates_no_fault t sound.rates)
    ∙ first_some_none (many_fault t) [] (few_none t sound.within_superframe)
