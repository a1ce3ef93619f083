-- The samples of a sound table.
use Rattle.std.proofs.Common.{◌≡◌, ℕ, zero, suc, ◌+◌, ◌-◌, ◌*◌, ◌<◌, ◌≤◌, ◌⊎◌, ⊎_elim, Bool, true, eqb, eqb-true, List, [], ◌∷◌, length, get_or}
use Rattle.std.proofs.Common.{Option, Some, None, refl, sym, ap, ◌∙◌, subst, arith}
use Rattle.std.specs.Prelude.{All, Contains, filter, sum_by, slice_get, option_map}
use Rattle.std.specs.List.{filter_map, list_any, range_with_len, enumerate_from}
use Rattle.std.proofs.lemmas.Bool.{cases_Bool, cases_lt, and_parts}
use Rattle.std.proofs.lemmas.Option.{slice_get-get_or, slice_get_within, get_or_from_slice_get}
use Rattle.std.proofs.lemmas.List.Elements.{All-map, All-weaker, All-filter, All-contains, All-contains_itself, filter_passes}
use Rattle.std.proofs.lemmas.List.Sums.{sum_by_push}
use Rattle.fdr_table.specs.Ranges.{IsParamInRange, IsPlaceInRange, IsInRange}
use Rattle.fdr_table.specs.Rows.{ParamRow, PlaceRow, TableRows}
use Rattle.fdr_check.specs.Occurrences.{frame_bits, begins_at, Occurrence, occurrences_at, occurrences, is_part, part_occurrences, part_width, shift_of}
use Rattle.fdr_check.specs.Soundness.{has_part, HasParts, HasRate, IsSound}
use Rattle.fdr_layout.specs.Samples.{Part, carrier_of, part_at, parts_of, Sample, samples_of, samples, ending_in}
use Rattle.fdr_layout.proofs.ByLastPart.{ending_at}
use Rattle.fdr_recon.specs.Kept.{FillUp, IsSampleOf}
use Rattle.fdr_lists.proofs.Ranges.{range_more, All-range}
use Rattle.fdr_lists.proofs.Numbered.{numbered_stand}
use Rattle.fdr_lists.proofs.Options.{some_or_none}
use Rattle.fdr_lists.proofs.Pieces.{All-flat_map, All-flat_map-range}

-- ---- where occurrences come from

-- The occurrence is that of one of these places.
pub record IsOccurrence (w : ℕ) (places : List PlaceRow) (o : Occurrence) : Type 0 where
  pub place : PlaceRow
  pub among : Contains places place
  pub begins : begins_at w o.at place ≡ true
  pub width : o.width ≡ place.width
  pub within : o.at < 16 * frame_bits w

pub occurrences_come : (w : ℕ) (places : List PlaceRow) → All (IsOccurrence w places) (occurrences w places)
unfolding occurrences
occurrences_come w places =
    All-flat_map-range (IsOccurrence w places) (occurrences_at w places) 0 (16 * frame_bits w) (λ x low high.
    let begins = filter_passes (begins_at w x) places in
    let among = All-filter (begins_at w x) (Contains places) places (All-contains_itself places) in
    All-map (IsOccurrence w places) (λ (p : PlaceRow). record { at = x; width = p.width }) (filter (begins_at w x) places)
    (λ k d l. record {
      place = get_or (filter (begins_at w x) places) k d;
      among = among k d l;
      begins = begins k d l;
      width = refl;
      within = omega arith;
    }))

-- The occurrence is that of a place which carries this part of the parameter with this index.
pub record IsPartOccurrence (w : ℕ) (places : List PlaceRow) (n part : ℕ) (o : Occurrence) : Type 0 where
  pub place : PlaceRow
  pub among : Contains places place
  pub param : place.param ≡ n
  pub number : place.part ≡ part
  pub begins : begins_at w o.at place ≡ true
  pub width : o.width ≡ place.width
  pub within : o.at < 16 * frame_bits w

pub part_occurrences_come : (w : ℕ) (places : List PlaceRow) (n part : ℕ) → All (IsPartOccurrence w places n part) (part_occurrences w places n part)
unfolding part_occurrences
part_occurrences_come w places n part =
    let carried = filter (is_part n part) places in
    All-weaker (IsOccurrence w carried) (IsPartOccurrence w places n part) (λ o from.
    let carries = All-contains (λ (p : PlaceRow). is_part n part p ≡ true) carried from.place (filter_passes (is_part n part) places) from.among in
    let both = and_parts (eqb from.place.param n) (eqb from.place.part part) carries in
    record {
      place = from.place;
      among = All-contains (Contains places) carried from.place (All-filter (is_part n part) (Contains places) places (All-contains_itself places)) from.among;
      param = eqb-true from.place.param n both.0;
      number = eqb-true from.place.part part both.1;
      begins = from.begins;
      width = from.width;
      within = from.within;
    }) (occurrences w carried) (occurrences_come w carried)

-- what a test finds in a list
filter_found : {X : Type 0} (p : X → Bool) (xs : List X) → list_any p xs ≡ true → (x : X) × Contains xs x × (p x ≡ true)
filter_found p [] any = absurd (cc)
filter_found p (x ∷ xs) any =
    ⊎_elim
    (λ (yes : p x ≡ true). (x, (0, omega arith, refl), yes))
    (λ no.
    let rest : list_any p xs ≡ true = rw no at any in
    let found = filter_found p xs rest in
    (found.0, (suc found.1.0, omega (arith, found.1.1), found.1.2), found.2))
    (cases_Bool (p x))

-- a part that is there has a place
part_has_place : (places : List PlaceRow) (n part : ℕ) → has_part places n part ≡ true → (p : PlaceRow) × Contains places p × (p.part ≡ part)
part_has_place places n part there =
    let found = filter_found (is_part n part) places there in
    (found.0, found.1, eqb-true found.0.part part (and_parts (eqb found.0.param n) (eqb found.0.part part) found.2).1)

-- ---- the parts of a sample

shift_more : (places : List PlaceRow) (n a : ℕ) → 1 ≤ a → shift_of places n a + part_width places n a ≡ shift_of places n (a + 1)
unfolding shift_of
shift_more places n a some =
    let last : 1 + (a - 1) ≡ a = omega arith in
    let next : a + 1 - 1 ≡ a - 1 + 1 = omega arith in
    ap (λ k. sum_by (part_width places n) (range_with_len 1 (a - 1)) + part_width places n k) (sym last)
    ∙ sym (sum_by_push (part_width places n) (range_with_len 1 (a - 1)) (1 + (a - 1)))
    ∙ ap (sum_by (part_width places n)) (sym (range_more 1 (a - 1)))
    ∙ ap (λ k. sum_by (part_width places n) (range_with_len 1 k)) (sym next)

shift_first : (places : List PlaceRow) (n : ℕ) → shift_of places n 1 ≡ 0
unfolding shift_of
shift_first places n = refl

shift_whole : (places : List PlaceRow) (n count width : ℕ) → width ≡ sum_by (part_width places n) (range_with_len 1 count)
    → shift_of places n (count + 1) ≡ width
unfolding shift_of
shift_whole places n count width whole =
    let last : count + 1 - 1 ≡ count = omega arith in
    ap (λ k. sum_by (part_width places n) (range_with_len 1 k)) last ∙ sym whole

slice_get_is : {X : Type 0} (xs : List X) (i : ℕ) → (slice_get xs i ≡ None) ⊎ ((x : X) × (slice_get xs i ≡ Some x))
slice_get_is xs i = some_or_none (slice_get xs i)

module _ (t : TableRows) (n : ℕ) (p : ParamRow) (range : IsInRange t) (has : HasParts t.places n p) (rate : HasRate t.frame.words t.places n p) where
  -- at most four parts
  few_parts : has.count ≤ 4
  few_parts =
      let place = part_has_place t.places n has.count (has.none_missing has.count has.not_empty (omega arith)) in
      let fits = All-contains IsPlaceInRange t.places place.0 range.places place.1 in
      omega (arith, fits.part_high, place.2)

  -- each part up to the last has its occurrence, of its own width
  part_there : (i part : ℕ) → i < p.rate → 1 ≤ part → part ≤ has.count →
      (at : ℕ) × (part_at i (carrier_of t.frame.words t.places n part) ≡ Some
      (record { at = at; width = part_width t.places n part; shift = shift_of t.places n part }))
  part_there i part early low high =
      let os = part_occurrences t.frame.words t.places n part in
      let count : length os ≡ p.rate = rate part (has.none_missing part low high) in
      let o = get_or os i (record { at = 0; width = 0 }) in
      let read : slice_get os i ≡ Some o = slice_get-get_or os i (record { at = 0; width = 0 }) (omega arith) in
      let from = part_occurrences_come t.frame.words t.places n part i (record { at = 0; width = 0 }) (omega arith) in
      let width : from.place.width ≡ part_width t.places n from.place.part =
      All-contains (λ (l : PlaceRow). l.param ≡ n → l.width ≡ part_width t.places n l.part) t.places from.place has.widths from.among from.param in
      let of : ℕ → Part = λ k. record { at = o.at; width = k; shift = shift_of t.places n part } in (
        o.at,
        ap (option_map (λ (o : Occurrence). record { at = o.at; width = o.width; shift = shift_of t.places n part })) read
            ∙ ap (λ k. Some (of k)) (from.width ∙ width ∙ ap (part_width t.places n) from.number),
      )

  -- and no part after it has any
  part_missing : (i part : ℕ) → has.count < part → part_at i (carrier_of t.frame.words t.places n part) ≡ None
  part_missing i part above =
      let os = part_occurrences t.frame.words t.places n part in
      ⊎_elim
      (λ (none : slice_get os i ≡ None). ap (option_map (λ (o : Occurrence). record { at = o.at; width = o.width; shift = shift_of t.places n part })) none)
      (λ (found : (o : Occurrence) × (slice_get os i ≡ Some o)).
      let from = part_occurrences_come t.frame.words t.places n part i found.0 (slice_get_within os i found.0 found.1) in
      let below : from.place.part ≤ has.count = All-contains (λ (l : PlaceRow). l.param ≡ n → l.part ≤ has.count)
      t.places from.place has.numbers from.among from.param in
      absurd (omega (arith, below, from.number)))
      (slice_get_is os i)

  abbrev part_of_sample : ℕ → ℕ → Option Part
  part_of_sample i part = part_at i (carrier_of t.frame.words t.places n part)

  none_left : (i a m : ℕ) → has.count < a → filter_map (part_of_sample i) (range_with_len a m) ≡ []
  none_left i a zero above = refl
  none_left i a (suc m) above = rw (part_missing i a above) (none_left i (a + 1) m (omega arith))

  -- the parts from number a on have the bits from that part's lowest on
  fill_from : (i a m : ℕ) → i < p.rate → 1 ≤ a → a ≤ has.count + 1 → a + m ≡ 5
      → FillUp (shift_of t.places n a) p.width (filter_map (part_of_sample i) (range_with_len a m))
  fill_from i a zero early low high end =
      let last : a ≡ has.count + 1 = omega (arith, few_parts) in
      ap (shift_of t.places n) last ∙ shift_whole t.places n has.count p.width has.whole
  fill_from i a (suc m) early low high end =
      ⊎_elim
      (λ (past : has.count < a).
      let last : a ≡ has.count + 1 = omega arith in
      let ends : shift_of t.places n a ≡ p.width = ap (shift_of t.places n) last ∙ shift_whole t.places n has.count p.width has.whole in
      subst (FillUp (shift_of t.places n a) p.width) (sym (none_left i a (suc m) past)) ends)
      (λ (within : a ≤ has.count).
      let there = part_there i a early low within in
      let rest = fill_from i (a + 1) m early (omega arith) (omega arith) (omega arith) in
      let above : FillUp (shift_of t.places n a + part_width t.places n a) p.width (filter_map (part_of_sample i) (range_with_len (a + 1) m)) =
      subst (λ k. FillUp k p.width (filter_map (part_of_sample i) (range_with_len (a + 1) m))) (sym (shift_more t.places n a low)) rest in
      rw there.1 (refl, above))
      (cases_lt has.count a)

  sample_fills : (i : ℕ) → i < p.rate → FillUp 0 p.width (parts_of t.frame.words t.places n i)
  unfolding parts_of
  sample_fills i early =
      subst (λ k. FillUp k p.width (filter_map (part_of_sample i) (range_with_len 1 4))) (shift_first t.places n)
      (fill_from i 1 4 early (omega arith) (omega arith) refl)

-- ---- all samples

-- The sample is the one of its parameter with its number.
pub record IsMade (t : TableRows) (s : Sample) : Type 0 where
  pub param : ParamRow
  pub is : slice_get t.params s.param ≡ Some param
  pub early : s.index < param.rate
  pub parts : s.parts ≡ parts_of t.frame.words t.places s.param s.index

samples_of_made : (t : TableRows) (n : ℕ) (p : ParamRow) → slice_get t.params n ≡ Some p → All (IsMade t) (samples_of t.frame.words t.places n p.rate)
unfolding samples_of
samples_of_made t n p is =
    All-map (IsMade t) (λ i. record { param = n; index = i; parts = parts_of t.frame.words t.places n i }) (range_with_len 0 p.rate)
    (All-range (λ i. IsMade t (record { param = n; index = i; parts = parts_of t.frame.words t.places n i })) 0 p.rate
    (λ i low high. record { param = p; is = is; early = omega arith; parts = refl }))

pub samples_made : (t : TableRows) → All (IsMade t) (samples t)
unfolding samples
samples_made t =
    All-flat_map (IsMade t) (λ (e : ℕ × ParamRow). samples_of t.frame.words t.places e.0 e.1.rate) (enumerate_from 0 t.params)
    (All-weaker (λ (e : ℕ × ParamRow). slice_get t.params e.0 ≡ Some e.1)
    (λ (e : ℕ × ParamRow). All (IsMade t) (samples_of t.frame.words t.places e.0 e.1.rate))
    (λ e is. samples_of_made t e.0 e.1 is) (enumerate_from 0 t.params) (numbered_stand t.params))

made_is_sample : (t : TableRows) (s : Sample) → IsInRange t → IsSound t → IsMade t s → IsSampleOf t.params s
made_is_sample t s range sound made =
    let p = made.param in
    let fits : IsParamInRange p = subst IsParamInRange (get_or_from_slice_get t.params s.param p p made.is)
    (range.params s.param p (slice_get_within t.params s.param p made.is)) in
    record {
      param = p;
      found = made.is;
      narrow = omega (arith, fits.lsb_low, fits.bits);
      parts = subst (FillUp 0 p.width) (sym made.parts) (sample_fills t s.param p range (sound.parts s.param p made.is) (sound.rates s.param p made.is)
          s.index made.early);
    }

-- each sample of a sound table has all bits of its raw value
pub samples_sound : (t : TableRows) → IsInRange t → IsSound t → All (IsSampleOf t.params) (samples t)
samples_sound t range sound = All-weaker (IsMade t) (IsSampleOf t.params) (λ s made. made_is_sample t s range sound made) (samples t) (samples_made t)

-- also those that end in a cycle
pub ending_in_sound : (t : TableRows) (cycle : ℕ) → IsInRange t → IsSound t → All (IsSampleOf t.params) (ending_in t cycle)
unfolding ending_in
ending_in_sound t cycle range sound =
    All-flat_map-range (IsSampleOf t.params) (ending_at (samples t)) (frame_bits t.frame.words * cycle) (frame_bits t.frame.words)
    (λ x low high. All-filter _ (IsSampleOf t.params) (samples t) (samples_sound t range sound))
