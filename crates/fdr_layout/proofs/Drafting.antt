-- Samples added to a draft one by one.
use Rattle.std.proofs.Common.{◌≡◌, ℕ, ◌+◌, ◌-◌, ◌<◌, ◌≤◌, ◌==◌, List, [], ◌∷◌, ◌++◌, Option, Some, map, length, get_or, take, drop, refl, sym, ap}
use Rattle.std.proofs.Common.{◌∙◌, zero-add}
use Rattle.std.proofs.Common.{zero, suc, arith}
use Rattle.std.specs.List.{enumerate_from, flat_map, filter_map, range_with_len, slice_get}
use Rattle.std.proofs.lemmas.List.{append-nil, append_assoc, length-append, length-map, map_push, take-append-le, take_all, drop_at}
use Rattle.std.proofs.lemmas.List.Concat.{flat_map-append}
use Rattle.std.proofs.lemmas.List.FromFn.{map-range_with_len_more}
use Rattle.std.proofs.lemmas.List.Elements.{All-filter}
use Rattle.fdr_lists.proofs.Filters.{filter_map_fewer}
use Rattle.fdr_lists.proofs.Ranges.{map-range-agree}
use Rattle.fdr_lists.proofs.Numbered.{enumerate_from_push}
use Rattle.fdr_lists.proofs.Sums.{sum_by_same}
use Rattle.fdr_table.specs.Rows.{ParamRow, PlaceRow, TableRows}
use Rattle.fdr_check.specs.Groups.{places_of}
use Rattle.fdr_check.specs.Occurrences.{Occurrence, part_occurrences, part_width, shift_of}
use Rattle.fdr_check.specs.Soundness.{IsSound}
use Rattle.fdr_check.proofs.Grouping.{part_width_of, part_occurrences_of}
use Rattle.fdr_layout.specs.declared.parts.Sample.{Sample as ListedSample}
use Rattle.fdr_layout.specs.Samples.{Carrier, carrier_of, Part, part_at, parts_of, Sample, samples_of, samples, last_at}
use Rattle.fdr_layout.specs.SlotParts.{SlotPart, parts_of_sample, parts_among, plain_parts}
use Rattle.fdr_layout.specs.Drafts.{listed, part_starts, AreDrafted}
use Rattle.fdr_layout.proofs.Carrying.{HaveOneWidth}
use Rattle.fdr_layout.proofs.Few.{length_samples_of, samples_few}
use Rattle.fdr_layout.proofs.Lists.{enumerate_from_step}
use Rattle.fdr_layout.proofs.Steps.{parts_of_carriers}

pub plain_again : (n : ℕ) (parts : List Part) → plain_parts (parts_of_sample n parts) ≡ parts
plain_again n [] = refl
plain_again n (p ∷ ps) = ap (λ xs. p ∷ xs) (plain_again n ps)

pub length-enumerate : {X : Type 0} (a : ℕ) (xs : List X) → length (enumerate_from a xs) ≡ length xs
length-enumerate a [] = refl
length-enumerate a (x ∷ xs) = ap suc (length-enumerate (a + 1) xs)

pub draft_length : (ss : List Sample) (list : List ListedSample) (lasts : List ℕ) (parts : List SlotPart) (starts : List ℕ)
    → AreDrafted ss list lasts parts starts
    → length list ≡ length ss
draft_length ss list lasts parts starts is =
    ap length is.each ∙ length-map (enumerate_from 0 ss) listed ∙ length-enumerate 0 ss

pub draft_none : (list : List ListedSample) (lasts : List ℕ) (parts : List SlotPart) (starts : List ℕ) → list ≡ [] → lasts ≡ [] → parts ≡ []
    → starts ≡ 0 ∷ [] → AreDrafted [] list lasts parts starts
unfolding parts_among
draft_none list lasts parts starts no_list no_lasts no_parts one = record { each = no_list; ends = no_lasts; pieces = no_parts; begins = one }

pub no_parts : length (parts_among []) ≡ 0
unfolding parts_among
no_parts = refl

pub parts_among_push : (ss : List Sample) (s : Sample) → parts_among (ss ++ s ∷ []) ≡ parts_among ss ++ parts_of_sample (length ss) s.parts
unfolding parts_among
parts_among_push ss s =
    let f : ℕ × Sample → List SlotPart = λ e. parts_of_sample e.0 e.1.parts in
    ap (flat_map f) (enumerate_from_push 0 ss s) ∙ flat_map-append f (enumerate_from 0 ss) ((0 + length ss, s) ∷ [])
    ∙ ap (λ xs. flat_map f (enumerate_from 0 ss) ++ xs) (append-nil (parts_of_sample (0 + length ss) s.parts))
    ∙ ap (λ n. flat_map f (enumerate_from 0 ss) ++ parts_of_sample n s.parts) (zero-add (length ss))

starts_push : (ss : List Sample) (s : Sample) → part_starts (ss ++ s ∷ []) ≡ part_starts ss ++ length (parts_among (ss ++ s ∷ [])) ∷ []
starts_push ss s =
    let all = ss ++ s ∷ [] in
    let g : ℕ → ℕ = λ k. length (parts_among (take k all)) in
    let n = length ss in
    let long : length all ≡ n + 1 = length-append ss (s ∷ []) in
    ap (λ k. map g (range_with_len 0 (k + 1))) long
    ∙ map-range_with_len_more g 0 (n + 1) (n + 1) (zero-add (n + 1))
    ∙ ap (λ xs. xs ++ g (n + 1) ∷ []) (map-range-agree g (λ k. length (parts_among (take k ss))) 0 (n + 1)
    (λ k low high. ap (λ xs. length (parts_among xs)) (take-append-le k ss (s ∷ []) (omega (arith, high)))))
    ∙ ap (λ xs. part_starts ss ++ length (parts_among xs) ∷ []) (take_all (n + 1) all (omega (arith, long)))

-- one more sample
pub draft_more : (ss : List Sample) (s : Sample) (number : ℕ) (list list2 : List ListedSample) (lasts lasts2 : List ℕ) (parts parts2 : List SlotPart)
    (starts starts2 : List ℕ) → AreDrafted ss list lasts parts starts → number ≡ length list → list2 ≡ list ++ listed (number, s) ∷ []
    → lasts2 ≡ lasts ++ last_at s.parts ∷ [] → parts2 ≡ parts ++ parts_of_sample number s.parts → starts2 ≡ starts ++ length parts2 ∷ []
    → AreDrafted (ss ++ s ∷ []) list2 lasts2 parts2 starts2
draft_more ss s number list list2 lasts lasts2 parts parts2 starts starts2 is number_is listed_is last_is pieces_are start_is =
    let at : number ≡ length ss = number_is ∙ draft_length ss list lasts parts starts is in
    let all : parts2 ≡ parts_among (ss ++ s ∷ []) =
    pieces_are ∙ ap (λ xs. xs ++ parts_of_sample number s.parts) is.pieces ∙ ap (λ n. parts_among ss ++ parts_of_sample n s.parts) at
    ∙ sym (parts_among_push ss s) in
    record {
      each = listed_is ∙ ap (λ xs. xs ++ listed (number, s) ∷ []) is.each
          ∙ ap (λ n. map listed (enumerate_from 0 ss) ++ listed (n, s) ∷ []) (at ∙ sym (zero-add (length ss)))
          ∙ sym (ap (map listed) (enumerate_from_push 0 ss s) ∙ map_push listed (enumerate_from 0 ss) (0 + length ss, s));
      ends = last_is ∙ ap (λ xs. xs ++ last_at s.parts ∷ []) is.ends ∙ sym (map_push (λ (x : Sample). last_at x.parts) ss s);
      pieces = all;
      begins = start_is ∙ ap (λ xs. xs ++ length parts2 ∷ []) is.begins ∙ ap (λ xs. part_starts ss ++ length xs ∷ []) all ∙ sym (starts_push ss s);
    }

-- the parts that were added
pub added_parts : (n : ℕ) (own : List Part) (old new now : List SlotPart) (start : ℕ) → new ≡ old ++ parts_of_sample n own → start ≡ length old
    → now ≡ drop start new → plain_parts now ≡ own
added_parts n own old new now start more at is =
    ap plain_parts (is ∙ ap (drop start) more ∙ drop_at old (parts_of_sample n own) start (sym at)) ∙ plain_again n own

pub added_few : (n : ℕ) (h : Carrier → Option Part) (carriers : List Carrier) (old new : List SlotPart) → new ≡ old ++ parts_of_sample n (filter_map h carriers)
    → length new ≤ length old + length carriers
added_few n h carriers old new more =
    let own = filter_map h carriers in
    let made : Part → SlotPart = λ p. record { sample = n; part = p } in
    let long : length (map made own) ≡ length own = length-map own made in
    omega (arith, ap length more, length-append old (parts_of_sample n own), long, filter_map_fewer h carriers)

pub push_long : {X : Type 0} (old new : List X) (x : X) → new ≡ old ++ x ∷ [] → length new ≡ length old + 1
push_long old new x more = ap length more ∙ length-append old (x ∷ [])

-- ---- the samples of a parameter

pub no_samples_of : (w : ℕ) (places : List PlaceRow) (n : ℕ) (ss : List Sample) → ss ++ samples_of w places n 0 ≡ ss
unfolding samples_of
no_samples_of w places n ss = append-nil ss

pub samples_of_more : (w : ℕ) (places : List PlaceRow) (n i : ℕ) (carriers : List Carrier) (ss : List Sample)
    → carriers ≡ map (carrier_of w places n) (range_with_len 1 4)
    → (ss ++ samples_of w places n i) ++ record { param = n; index = i; parts = filter_map (part_at i) carriers } ∷ [] ≡ ss ++ samples_of w places n (i + 1)
unfolding samples_of
samples_of_more w places n i carriers ss four =
    let made : List Part → Sample = λ ps. record { param = n; index = i; parts = ps } in
    let f : ℕ → Sample = λ j. record { param = n; index = j; parts = parts_of w places n j } in
    let own : filter_map (part_at i) carriers ≡ parts_of w places n i = ap (filter_map (part_at i)) four ∙ parts_of_carriers w places n i in
    append_assoc ss (map f (range_with_len 0 i)) (made (filter_map (part_at i) carriers) ∷ [])
    ∙ ap (λ ps. ss ++ (map f (range_with_len 0 i) ++ made ps ∷ [])) own
    ∙ ap (λ xs. ss ++ xs) (sym (map-range_with_len_more f 0 i i (zero-add i)))

-- ---- by the parameter's own places

shift_of_own : (places : List PlaceRow) (n part : ℕ) → shift_of (places_of places n) n part ≡ shift_of places n part
unfolding shift_of
shift_of_own places n part = sum_by_same (part_width (places_of places n) n) (part_width places n) (range_with_len 1 (part - 1)) (part_width_of places n)

carrier_of_own : (w : ℕ) (places : List PlaceRow) (n part : ℕ) → carrier_of w (places_of places n) n part ≡ carrier_of w places n part
carrier_of_own w places n part =
    let made : List Occurrence → ℕ → Carrier = λ os s. record { occurrences = os; shift = s } in
    ap (λ os. made os (shift_of (places_of places n) n part)) (part_occurrences_of w places n part)
    ∙ ap (made (part_occurrences w places n part)) (shift_of_own places n part)

parts_of_own : (w : ℕ) (places : List PlaceRow) (n i : ℕ) → parts_of w (places_of places n) n i ≡ parts_of w places n i
parts_of_own w places n i =
    sym (parts_of_carriers w (places_of places n) n i)
    ∙ ap (filter_map (part_at i)) (map-range-agree (carrier_of w (places_of places n) n) (carrier_of w places n) 1 4
    (λ part low high. carrier_of_own w places n part))
    ∙ parts_of_carriers w places n i

pub samples_of_own : (w : ℕ) (places : List PlaceRow) (n rate : ℕ) → samples_of w (places_of places n) n rate ≡ samples_of w places n rate
unfolding samples_of
samples_of_own w places n rate =
    let made : ℕ → List Part → Sample = λ i ps. record { param = n; index = i; parts = ps } in
    map-range-agree (λ i. made i (parts_of w (places_of places n) n i)) (λ i. made i (parts_of w places n i)) 0 rate (λ i low high. ap (made i)
    (parts_of_own w places n i))

pub own_width : (t : TableRows) (n : ℕ) (p : ParamRow) → IsSound t → slice_get t.params n ≡ Some p → HaveOneWidth (places_of t.places n) n
own_width t n p sound at = λ k d l own.
    let own_places = places_of t.places n in
    let width = All-filter (λ (x : PlaceRow). x.param == n) (λ (x : PlaceRow). x.param ≡ n → x.width ≡ part_width t.places n x.part) t.places
    (sound.parts n p at).widths k d l own in
    width ∙ sym (part_width_of t.places n (get_or own_places k d).part)

-- ---- all parameters

abbrev pub samples_at : TableRows → ℕ × ParamRow → List Sample
samples_at t e = samples_of t.frame.words t.places e.0 e.1.rate

-- the samples of the first parameters
abbrev pub samples_before : TableRows → ℕ → List Sample
samples_before t i = flat_map (samples_at t) (enumerate_from 0 (take i t.params))

pub all_samples : (t : TableRows) (i : ℕ) → length t.params ≤ i → samples_before t i ≡ samples t
unfolding samples
all_samples t i past = ap (λ ps. flat_map (samples_at t) (enumerate_from 0 ps)) (take_all i t.params past)

pub samples_next : (t : TableRows) (i : ℕ) (p : ParamRow) → i < length t.params → p ≡ get_or t.params i p
    → samples_before t (i + 1) ≡ samples_before t i ++ samples_of t.frame.words t.places i p.rate
samples_next t i p l is =
    sym (enumerate_from_step (samples_at t) t.params i p (samples_before t i) (samples_before t i ++ samples_at t (i, p)) l is refl refl)

front_few : {X A : Type 0} (f : ℕ × X → List A) (a k : ℕ) (xs : List X)
    → length (flat_map f (enumerate_from a (take k xs))) ≤ length (flat_map f (enumerate_from a xs))
front_few f a zero xs = omega arith
front_few f a (suc k) [] = omega arith
front_few f a (suc k) (x ∷ xs) =
    omega (
      arith,
      length-append (f (a, x)) (flat_map f (enumerate_from (a + 1) (take k xs))),
      length-append (f (a, x)) (flat_map f (enumerate_from (a + 1) xs)),
      front_few f (a + 1) k xs,
    )

-- there is room for the samples of one more parameter
pub room_for_next : (t : TableRows) (i : ℕ) (p : ParamRow) → IsSound t → i < length t.params → p ≡ get_or t.params i p
    → length (samples_before t i) + p.rate ≤ 262144
room_for_next t i p sound l is =
    let all : length (samples_before t (length t.params)) ≡ length (samples t) = ap length (all_samples t (length t.params) (omega arith)) in
    let whole : take (length t.params) t.params ≡ t.params = take_all (length t.params) t.params (omega arith) in
    let front = front_few (samples_at t) 0 (i + 1) t.params in
    let same : length (flat_map (samples_at t) (enumerate_from 0 t.params)) ≡ length (samples t) =
    ap (λ ps. length (flat_map (samples_at t) (enumerate_from 0 ps))) (sym whole) ∙ all in
    omega (
      arith,
      same,
      front,
      ap length (samples_next t i p l is),
      length-append (samples_before t i) (samples_of t.frame.words t.places i p.rate),
      length_samples_of t.frame.words t.places i p.rate,
      samples_few t sound,
    )
