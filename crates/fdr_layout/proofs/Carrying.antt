-- The parts of a parameter, by the bits at which their occurrences begin.
use Rattle.std.proofs.Common.{◌≡◌, ℕ, ◌+◌, ◌-◌, ◌*◌, ◌<◌, ◌≤◌, ◌==◌, List, [], ◌∷◌, ◌++◌, Option, Some, None, map, length, get_or, take, refl}
use Rattle.std.proofs.Common.{sym, ap, subst, ◌∙◌}
use Rattle.std.proofs.Common.{eqb-true, arith}
use Rattle.std.specs.Option.{option_to_list, option_map}
use Rattle.std.specs.List.{All, filter, filter_map, cons_option, range_with_len, sum_by}
use Rattle.std.proofs.lemmas.Bool.{and_parts}
use Rattle.std.proofs.lemmas.List.{map-append, append_assoc, take_more, length-map}
use Rattle.std.proofs.lemmas.List.Elements.{All-head, All-tail, All-filter, All-map, filter_passes, filter_map-append}
use Rattle.std.proofs.lemmas.Option.{slice_get_past}
use Rattle.fdr_lists.proofs.Pieces.{All-flat_map-range}
use Rattle.fdr_table.specs.Rows.{PlaceRow}
use Rattle.fdr_table.specs.Ranges.{IsPlaceInRange}
use Rattle.fdr_check.specs.Occurrences.{frame_bits, is_part, begins_at, Occurrence, occurrences_at, occurrences, part_occurrences, part_bits, part_width}
use Rattle.fdr_check.specs.Occurrences.{shift_of}
use Rattle.fdr_check.proofs.Ranges.{sum_more}
use Rattle.fdr_check.proofs.Starting.{begins_low}
use Rattle.fdr_layout.specs.Ranges.{LieInWord}
use Rattle.fdr_layout.specs.Samples.{Carrier, carrier_of, Part, part_at}
use Rattle.fdr_layout.specs.SlotParts.{SlotPart, parts_of_sample}

-- the places of each part of the parameter have one width
abbrev pub HaveOneWidth : List PlaceRow → ℕ → Type 0
HaveOneWidth places n = All (λ (l : PlaceRow). l.param ≡ n → l.width ≡ part_width places n l.part) places

carrier_places : (places : List PlaceRow) (n part : ℕ) → HaveOneWidth places n
    → All (λ (l : PlaceRow). l.width ≡ part_width places n part) (filter (is_part n part) places)
carrier_places places n part widths = λ k d l.
    let t = is_part n part in
    let own = filter_passes t places k d l in
    let p = get_or (filter t places) k d in
    let both = and_parts (p.param == n) (p.part == part) own in
    let width = All-filter t (λ (x : PlaceRow). x.param ≡ n → x.width ≡ part_width places n x.part) places widths k d l in
    width (eqb-true p.param n both.0) ∙ ap (part_width places n) (eqb-true p.part part both.1)

part_widths : (w : ℕ) (places : List PlaceRow) (n part : ℕ) → HaveOneWidth places n
    → All (λ (o : Occurrence). o.width ≡ part_width places n part) (part_occurrences w places n part)
unfolding part_occurrences occurrences
part_widths w places n part widths =
    let ps = filter (is_part n part) places in
    let P : Occurrence → Type 0 = λ o. o.width ≡ part_width places n part in
    All-flat_map-range P (occurrences_at w ps) 0 (16 * frame_bits w)
    (λ x low high. All-map P (λ (p : PlaceRow). record { at = x; width = p.width }) (filter (begins_at w x) ps)
    (All-filter (begins_at w x) (λ (p : PlaceRow). p.width ≡ part_width places n part) ps (carrier_places places n part widths)))

part_lie : (w : ℕ) (places : List PlaceRow) (n part : ℕ) → w ≤ 1024 → All IsPlaceInRange places
    → All (λ (o : Occurrence). LieInWord o.at o.width) (part_occurrences w places n part)
unfolding part_occurrences occurrences
part_lie w places n part few in_range =
    let ps = filter (is_part n part) places in
    let P : Occurrence → Type 0 = λ o. LieInWord o.at o.width in
    let own : All IsPlaceInRange ps = All-filter (is_part n part) IsPlaceInRange places in_range in
    All-flat_map-range P (occurrences_at w ps) 0 (16 * frame_bits w)
    (λ x low high. All-map P (λ (p : PlaceRow). record { at = x; width = p.width }) (filter (begins_at w x) ps)
    (λ k d l.
    let p = get_or (filter (begins_at w x) ps) k d in
    let range : IsPlaceInRange p = All-filter (begins_at w x) IsPlaceInRange ps own k d l in
    let bit = begins_low w x p (filter_passes (begins_at w x) ps k d l) in
    record {
      within = omega (arith, high, few);
      not_empty = range.width_low;
      bits = omega (arith, bit, range.bits);
    }))

pub part_within : (w : ℕ) (places : List PlaceRow) (n part : ℕ) → All (λ (o : Occurrence). o.at < 768 * w) (part_occurrences w places n part)
unfolding part_occurrences occurrences
part_within w places n part =
    let ps = filter (is_part n part) places in
    let P : Occurrence → Type 0 = λ o. o.at < 768 * w in
    All-flat_map-range P (occurrences_at w ps) 0 (16 * frame_bits w)
    (λ x low high. All-map P (λ (p : PlaceRow). record { at = x; width = p.width }) (filter (begins_at w x) ps) (λ k d l. omega (arith, high)))

-- each occurrence of one width, by its bit
by_bit : (os : List Occurrence) (width : ℕ) → All (λ (o : Occurrence). o.width ≡ width) os
    → map (λ x. record { at = x; width = width }) (map (λ (o : Occurrence). o.at) os) ≡ os
by_bit [] width all = refl
by_bit (o ∷ os) width all =
    let same = All-head (λ (o : Occurrence). o.width ≡ width) o os all in
    let one : ℕ → Occurrence = λ n. record { at = o.at; width = n } in
    ap (λ n. one n ∷ map (λ x. record { at = x; width = width }) (map (λ (o : Occurrence). o.at) os)) (sym same)
    ∙ ap (λ xs. o ∷ xs) (by_bit os width (All-tail (λ (o : Occurrence). o.width ≡ width) o os all))

-- the bits of a part lie in words
pub bits_lie : (w : ℕ) (places : List PlaceRow) (n part width : ℕ) (bits : List ℕ) → w ≤ 1024 → All IsPlaceInRange places → HaveOneWidth places n
    → bits ≡ part_bits w places n part → width ≡ part_width places n part → All (λ x. LieInWord x width) bits
unfolding part_bits
bits_lie w places n part width bits few in_range widths are width_is =
    let os = part_occurrences w places n part in
    let lie = part_lie w places n part few in_range in
    let one = part_widths w places n part widths in
    subst (All (λ x. LieInWord x width)) (sym are)
    (All-map (λ x. LieInWord x width) (λ (o : Occurrence). o.at) os
    (λ k d l. subst (LieInWord (get_or os k d).at) (one k d l ∙ sym width_is) (lie k d l)))

-- a carrier of these bits
pub carrier_is : (w : ℕ) (places : List PlaceRow) (n part width shift : ℕ) (bits : List ℕ) → HaveOneWidth places n → bits ≡ part_bits w places n part
    → width ≡ part_width places n part → shift ≡ shift_of places n part
    → record { occurrences = map (λ x. record { at = x; width = width }) bits; shift = shift } ≡ carrier_of w places n part
unfolding part_bits
carrier_is w places n part width shift bits widths are width_is shift_is =
    let made : List Occurrence → ℕ → Carrier = λ os s. record { occurrences = os; shift = s } in
    let occurs : map (λ x. record { at = x; width = width }) bits ≡ part_occurrences w places n part =
    ap (map (λ x. record { at = x; width = width })) are
    ∙ ap (λ m. map (λ x. record { at = x; width = m }) (map (λ (o : Occurrence). o.at) (part_occurrences w places n part))) width_is
    ∙ by_bit (part_occurrences w places n part) (part_width places n part) (part_widths w places n part widths) in
    ap (λ os. made os shift) occurs ∙ ap (made (part_occurrences w places n part)) shift_is

pub first_shift : (places : List PlaceRow) (n : ℕ) → 0 ≡ shift_of places n 1
unfolding shift_of
first_shift places n = refl

pub next_shift : (places : List PlaceRow) (n part shift width : ℕ) → 1 ≤ part → shift ≡ shift_of places n part → width ≡ part_width places n part
    → shift + width ≡ shift_of places n (part + 1)
unfolding shift_of
next_shift places n part shift width low shift_is width_is =
    let f = part_width places n in
    let more : part + 1 - 1 ≡ part - 1 + 1 = omega arith in
    let at : 1 + (part - 1) ≡ part = omega arith in
    ap (λ s. s + width) shift_is ∙ ap (λ x. sum_by f (range_with_len 1 (part - 1)) + x) (width_is ∙ ap f (sym at))
    ∙ sym (ap (λ k. sum_by f (range_with_len 1 k)) more ∙ sum_more f 1 (part - 1))

-- ---- the parts of a sample

option_is : {Y : Type 0} (o : Option Y) → cons_option o [] ≡ option_to_list o
option_is None = refl
option_is (Some y) = refl

pub no_part : (bits : List ℕ) (width shift i : ℕ) → length bits ≤ i
    → part_at i (record { occurrences = map (λ x. record { at = x; width = width }) bits; shift = shift }) ≡ None
no_part bits width shift i past =
    let made : ℕ → Occurrence = λ x. record { at = x; width = width } in
    let long = length-map bits made in
    ap (option_map (λ (o : Occurrence). record { at = o.at; width = o.width; shift = shift })) (slice_get_past (map made bits) i (omega arith))

pub parts_more : (n i : ℕ) (carriers : List Carrier) (k : ℕ) (c : Carrier) (before old new : List SlotPart) → k < length carriers → c ≡ get_or carriers k c
    → old ≡ before ++ parts_of_sample n (filter_map (part_at i) (take k carriers)) → new ≡ old ++ parts_of_sample n (option_to_list (part_at i c))
    → new ≡ before ++ parts_of_sample n (filter_map (part_at i) (take (k + 1) carriers))
parts_more n i carriers k c before old new l is so_far more =
    let f : Part → SlotPart = λ p. record { sample = n; part = p } in
    let h = part_at i in
    let front = filter_map h (take k carriers) in
    more ∙ ap (λ xs. xs ++ map f (option_to_list (h c))) so_far ∙ append_assoc before (map f front) (map f (option_to_list (h c)))
    ∙ ap (λ xs. before ++ xs)
    (sym (map-append f front (option_to_list (h c)))
    ∙ ap (λ xs. map f (front ++ xs)) (sym (option_is (h c)) ∙ ap (λ x. cons_option (h x) []) is)
    ∙ ap (map f) (sym (ap (filter_map h) (take_more carriers k c l) ∙ filter_map-append h (take k carriers) (get_or carriers k c ∷ []))))
