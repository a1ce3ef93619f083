-- The places of a parameter, apart from the others.
use Rattle.std.proofs.Common.{◌≡◌, ℕ, ◌+◌, ◌<◌, ◌==◌, ◌&&◌, not, nat_le, Bool, true, false, cond, List, [], ◌∷◌, ◌++◌, Option, Some, None, option_map}
use Rattle.std.proofs.Common.{⊎_elim, length, get_or, set, take, max, inl, inr, refl, ap, sym, ◌∙◌, zero-add, arith}
use Rattle.std.specs.List.{range_with_len, filter, find, list_all, sum_by, fold}
use Rattle.std.specs.Option.{option_map_or}
use Rattle.std.proofs.lemmas.List.{length-set, get_or-set_same, get_or-set_other, append-nil}
use Rattle.std.proofs.lemmas.List.Elements.{filter_more}
use Rattle.std.proofs.lemmas.List.FromFn.{fill_by_all, get_or-map-range_with_len, length-map-range_with_len, map-range_with_len_more}
use Rattle.std.proofs.lemmas.Map.Views.{any-filter_same}
use Rattle.std.proofs.lemmas.Bool.{cases_Bool, false_from_ne_true, both_ways, cases_eq, and_parts, eq-eqb, ne_eqb}
use Rattle.fdr_table.specs.Rows.{ParamRow, PlaceRow}
use Rattle.fdr_table.specs.declared.fault.TableFault.{TableFault}
use Rattle.fdr_table.specs.declared.fault.TableFault.TheVariants as fault
use Rattle.fdr_check.specs.Occurrences.{is_part, part_width, part_occurrences, occurrences}
use Rattle.fdr_check.specs.Soundness.{has_part}
use Rattle.fdr_check.specs.Faults.{last_part, has_parts, count_of, off_rate, rate_of}
use Rattle.fdr_check.specs.Groups.{places_of, grouped}
use Rattle.fdr_check.proofs.Searches.{find_agree}
use Rattle.fdr_lists.proofs.Sums.{sum_by_same}
use Rattle.fdr_lists.proofs.Filters.{list_all_same, filter_of_filter}

places_more : (places : List PlaceRow) (n i : ℕ) (p : PlaceRow) → i < length places → p ≡ get_or places i p
    → places_of (take (i + 1) places) n ≡ places_of (take i places) n ++ cond (p.param == n) (p ∷ []) []
places_more places n i p l is =
    filter_more (λ (x : PlaceRow). x.param == n) places i p l
    ∙ ap (λ (x : PlaceRow). places_of (take i places) n ++ cond (x.param == n) (x ∷ []) []) (sym is)

pub length_grouped : (places : List PlaceRow) (count : ℕ) → length (grouped places count) ≡ count
length_grouped places count = length-map-range_with_len (places_of places) 0 count

-- one more place in its group
pub grouped_step : (places : List PlaceRow) (count i : ℕ) (p : PlaceRow) (groups : List (List PlaceRow)) (old new : List PlaceRow) → i < length places
    → p ≡ get_or places i p → p.param < count → groups ≡ grouped (take i places) count → old ≡ get_or groups p.param old → new ≡ old ++ p ∷ []
    → set groups p.param new ≡ grouped (take (i + 1) places) count
grouped_step places count i p groups old new l is within so_far read more =
    let f = places_of (take i places) in
    let len : length groups ≡ count = ap length so_far ∙ length_grouped (take i places) count in
    let had : old ≡ f p.param = read ∙ ap (λ gs. get_or gs p.param old) so_far ∙ get_or-map-range_with_len f 0 count p.param p.param old within (omega arith) in
    fill_by_all (places_of (take (i + 1) places)) (set groups p.param new) count [] (length-set groups p.param new ∙ len)
    (λ k below. elim (cases_eq k p.param) [
      | inl e ↦
          ap (λ j. get_or (set groups p.param new) j []) e ∙ get_or-set_same groups p.param new [] (omega (arith, len))
          ∙ more ∙ ap (λ xs. xs ++ p ∷ []) had
          ∙ ap (λ b. f p.param ++ cond b (p ∷ []) []) (sym (eq-eqb p.param p.param refl))
          ∙ sym (places_more places p.param i p l is) ∙ ap (places_of (take (i + 1) places)) (sym e)
      | inr apart ↦
          get_or-set_other groups p.param k new [] apart
          ∙ ap (λ gs. get_or gs k []) so_far ∙ get_or-map-range_with_len f 0 count k k [] below (omega arith)
          ∙ sym (append-nil (f k)) ∙ ap (λ b. f k ++ cond b (p ∷ []) []) (sym (ne_eqb p.param k (λ e. apart (sym e))))
          ∙ sym (places_more places k i p l is)
    ])

pub group_at : (places : List PlaceRow) (count n : ℕ) (groups : List (List PlaceRow)) (g : List PlaceRow) → groups ≡ grouped places count → n < count
    → g ≡ get_or groups n g → g ≡ places_of places n
group_at places count n groups g are within read =
    read ∙ ap (λ gs. get_or gs n g) are ∙ get_or-map-range_with_len (places_of places) 0 count n n g within (omega arith)

find_kept : {X : Type 0} (t f : X → Bool) (xs : List X) → ((x : X) → t x ≡ true → f x ≡ true) → find t (filter f xs) ≡ find t xs
find_kept t f [] h = refl
find_kept t f (x ∷ xs) h = ⊎_elim
    (λ (kept : f x ≡ true). rw (kept, find_kept t f xs h) refl)
    (λ (out : f x ≡ false). rw (out, find_kept t f xs h, false_from_ne_true (t x) (λ yes. both_ways (f x) out (h x yes))) refl)
    (cases_Bool (f x))

is_of : (n part : ℕ) (p : PlaceRow) → is_part n part p ≡ true → (p.param == n) ≡ true
is_of n part p h = (and_parts (p.param == n) (p.part == part) h).0

itself : (n : ℕ) (p : PlaceRow) → (p.param == n) ≡ true → (p.param == n) ≡ true
itself n p h = h

has_part_of : (places : List PlaceRow) (n part : ℕ) → has_part (places_of places n) n part ≡ has_part places n part
has_part_of places n part = any-filter_same (is_part n part) (λ (p : PlaceRow). p.param == n) true (is_of n part) places

pub part_width_of : (places : List PlaceRow) (n part : ℕ) → part_width (places_of places n) n part ≡ part_width places n part
unfolding part_width
part_width_of places n part =
    ap (λ o. option_map_or (λ (p : PlaceRow). p.width) o 0) (find_kept (is_part n part) (λ (p : PlaceRow). p.param == n) places (is_of n part))

pub part_occurrences_of : (w : ℕ) (places : List PlaceRow) (n part : ℕ) → part_occurrences w (places_of places n) n part ≡ part_occurrences w places n part
unfolding part_occurrences
part_occurrences_of w places n part =
    ap (occurrences w) (filter_of_filter (is_part n part) (λ (p : PlaceRow). p.param == n) (is_of n part) places)

twice : (places : List PlaceRow) (n : ℕ) → places_of (places_of places n) n ≡ places_of places n
twice places n = filter_of_filter (λ (p : PlaceRow). p.param == n) (λ (p : PlaceRow). p.param == n) (itself n) places

last_part_of : (places : List PlaceRow) (n : ℕ) → last_part (places_of places n) n ≡ last_part places n
unfolding last_part
last_part_of places n = ap (fold (λ m (p : PlaceRow). max m p.part) 0) (twice places n)

-- a parameter's parts may be looked for among its own places
pub has_parts_of : (places : List PlaceRow) (n : ℕ) (p : ParamRow) → has_parts (places_of places n) n p ≡ has_parts places n p
unfolding has_parts
has_parts_of places n p =
    let own = places_of places n in
    let last = last_part places n in
    ap (λ k. ((nat_le 1 k && list_all (has_part own n) (range_with_len 1 k)) && list_all (λ (l : PlaceRow). l.width == part_width own n l.part)
    (places_of own n)) && (p.width == sum_by (part_width own n) (range_with_len 1 k))) (last_part_of places n)
    ∙ ap (λ b. ((nat_le 1 last && b) && list_all (λ (l : PlaceRow). l.width == part_width own n l.part) (places_of own n)) &&
    (p.width == sum_by (part_width own n) (range_with_len 1 last)))
    (list_all_same (has_part own n) (has_part places n) (range_with_len 1 last) (has_part_of places n))
    ∙ ap (λ xs. ((nat_le 1 last && list_all (has_part places n) (range_with_len 1 last)) && list_all (λ (l : PlaceRow). l.width == part_width own n l.part) xs)
    && (p.width == sum_by (part_width own n) (range_with_len 1 last))) (twice places n)
    ∙ ap (λ b. ((nat_le 1 last && list_all (has_part places n) (range_with_len 1 last)) && b) && (p.width == sum_by (part_width own n) (range_with_len 1 last)))
    (list_all_same (λ (l : PlaceRow). l.width == part_width own n l.part) (λ (l : PlaceRow). l.width == part_width places n l.part) own
    (λ l. ap (λ k. l.width == k) (part_width_of places n l.part)))
    ∙ ap (λ k. ((nat_le 1 last && list_all (has_part places n) (range_with_len 1 last)) && list_all (λ (l : PlaceRow). l.width == part_width places n l.part)
    own) && (p.width == k)) (sum_by_same (part_width own n) (part_width places n) (range_with_len 1 last) (part_width_of places n))

abbrev rate_row : ParamRow → (ℕ → ℕ) → ℕ → ℕ × TableFault
rate_row p f part = (p.row, fault.Rate p.rate (f part))

counted_same : (o : Option ℕ) (f g : ℕ → ℕ) (p : ParamRow) → ((part : ℕ) → f part ≡ g part) → option_map (rate_row p f) o ≡ option_map (rate_row p g) o
counted_same None f g p h = refl
counted_same (Some part) f g p h = ap (λ k. Some (p.row, fault.Rate p.rate k)) (h part)

count_of_own : (w : ℕ) (places : List PlaceRow) (n part : ℕ) → count_of w (places_of places n) n part ≡ count_of w places n part
count_of_own w places n part = ap length (part_occurrences_of w places n part)

-- and its rates
pub rate_of_own : (w : ℕ) (places : List PlaceRow) (n : ℕ) (p : ParamRow) → rate_of w (places_of places n) n p ≡ rate_of w places n p
unfolding rate_of off_rate
rate_of_own w places n p =
    let own = places_of places n in
    let each : (part : ℕ) → (has_part own n part && not (count_of w own n part == p.rate))
    ≡ (has_part places n part && not (count_of w places n part == p.rate)) =
    λ part. ap (λ b. b && not (count_of w own n part == p.rate)) (has_part_of places n part)
    ∙ ap (λ k. has_part places n part && not (k == p.rate)) (count_of_own w places n part) in
    let same = find_agree (λ part. has_part own n part && not (count_of w own n part == p.rate))
    (λ part. has_part places n part && not (count_of w places n part == p.rate)) (range_with_len 1 4) (λ k d l. each (get_or (range_with_len 1 4) k d)) in
    ap (option_map (λ part. (p.row, fault.Rate p.rate (count_of w own n part)))) same
    ∙ counted_same (find (λ part. has_part places n part && not (count_of w places n part == p.rate)) (range_with_len 1 4)) (λ part. count_of w own n part)
    (λ part. count_of w places n part) p (count_of_own w places n)

-- one more group with no place
pub group_more : (n : ℕ) (old new : List (List PlaceRow)) → old ≡ grouped [] n → new ≡ old ++ [] ∷ [] → new ≡ grouped [] (n + 1)
group_more n old new so_far more =
    more ∙ ap (λ gs. gs ++ [] ∷ []) so_far ∙ sym (map-range_with_len_more (places_of []) 0 n n (zero-add n))
