-- The occurrences of a sound table's places share no bit and are in words of data, so its samples can be read back from their frames.
use Rattle.std.proofs.Common.{◌≡◌, ℕ, ◌%◌, ◌<◌, ◌⊎◌, inl, inr, ⊎_elim, List, Option, Some, None, get_or, refl, sym, ap, ◌∙◌, subst, arith, ◌≢◌, ◌+◌, ◌*◌}
use Rattle.std.proofs.Common.{◌/◌, ◌≤◌, true, false, eqb, eqb-true}
use Rattle.std.specs.Prelude.{All, AllPairs, Contains, slice_get, option_map, ◌&&◌, nat_le, nat_lt, filter}
use Rattle.std.specs.List.{range_with_len, enumerate_from}
use Rattle.std.proofs.lemmas.Bool.{cases_eq, and_from, and_parts, le-leb, lt-ltb, leb-true, ne_eqb, cases_lt, cases_Bool, cond-false, false_from_ne_true}
use Rattle.std.proofs.lemmas.Option.{same_Some}
use Rattle.std.proofs.lemmas.List.Elements.{All-map, All-weaker, All-contains, All-contains_itself, All-filter, filter_passes}
use Rattle.std.proofs.Math.Nat.{mod-eq_of_lt}
use Rattle.fdr_table.specs.Ranges.{IsParamInRange, IsInRange, IsPlaceInRange}
use Rattle.fdr_table.specs.Rows.{ParamRow, TableRows, PlaceRow}
use Rattle.fdr_layout.specs.SlotParts.{SlotPart, parts_of_sample, parts_among, all_parts}
use Rattle.fdr_check.specs.Occurrences.{Occurrence, part_occurrences, shift_of, frame_bits, is_on_word, occurs, begins_at, occurrences_at, occurrences}
use Rattle.fdr_check.specs.Occurrences.{is_part}
use Rattle.fdr_check.specs.Soundness.{IsSound, covers, ShareNoBit, IsOffCounter}
use Rattle.fdr_layout.specs.Samples.{Part, part_at, carrier_of, parts_of, Sample, samples_of, samples}
use Rattle.fdr_recon.specs.Kept.{IsSampleOf}
use Rattle.fdr_recon.proofs.FilledValues.{filled_pieces}
use Rattle.fdr_recon.proofs.SoundSamples.{IsPartOccurrence, part_occurrences_come, IsMade, samples_made, samples_sound}
use Rattle.fdr_readout.proofs.Recordable.{IsPlaced, AreApart, AreWhole, IsRecordable}
use Rattle.fdr_readout.proofs.PairLists.{All-at, same_place_or_related, AllPairs-weaker, AllPairs-map, AllPairs-flat_map, AllPairs_range, AllPairs_enumerate}
use Rattle.fdr_readout.proofs.PairLists.{All_filter_map, same_or_related}
use Rattle.fdr_lists.proofs.Numbered.{numbered_stand}
use Rattle.fdr_lists.proofs.Pieces.{All-flat_map}
use Rattle.std.proofs.lemmas.List.Kept.{AllPairs-filter}
use Rattle.fdr_frame.specs.declared.SlotKind.TheVariants.{Plain}
use Rattle.fdr_frame.specs.Slots.{is_sync, is_counter, kind_of, word_of}
use Rattle.fdr_lists.proofs.Ranges.{All-range}

-- where a place begins
begins_parts : (w x : ℕ) (p : PlaceRow) → begins_at w x p ≡ true → (x % 12 + 1 ≡ p.lsb) × (occurs w p (x / 12) ≡ true)
unfolding begins_at
begins_parts w x p begins =
    let both = and_parts (eqb (x % 12 + 1) p.lsb) (occurs w p (x / 12)) begins in
    (eqb-true (x % 12 + 1) p.lsb both.0, both.1)

-- a place that begins at bit x takes each of its bits
covers_from : (w x b : ℕ) (p : PlaceRow) → IsPlaceInRange p → begins_at w x p ≡ true → x ≤ b → b < x + p.width → covers w p b ≡ true
covers_from w x b p fits begins low high =
    let at = begins_parts w x p begins in
    let lsb = at.0 in
    let bits = fits.bits in
    let word : b / 12 ≡ x / 12 = omega arith in
    and_from (occurs w p (b / 12) && nat_le p.lsb (b % 12 + 1)) (nat_lt (b % 12 + 1) (p.lsb + p.width))
    (and_from _ _ (ap (occurs w p) word ∙ at.1) (le-leb _ _ (omega arith))) (lt-ltb _ _ (omega arith))

-- some bits share none with others
abbrev pub BitsApart : ℕ → ℕ → ℕ → ℕ → Type 0
BitsApart x n y m = (x + n ≤ y) ⊎ (y + m ≤ x)

-- places that share no bit begin apart
apart_by_bits : (w x y : ℕ) (p q : PlaceRow) → IsPlaceInRange p → IsPlaceInRange q → x < 16 * frame_bits w → y < 16 * frame_bits w →
    begins_at w x p ≡ true → begins_at w y q ≡ true → ShareNoBit w p q → BitsApart x p.width y q.width
apart_by_bits w x y p q fits_p fits_q within_x within_y at_x at_y apart =
    let some_p = fits_p.width_low in
    let some_q = fits_q.width_low in
    ⊎_elim (λ (over : y < x + p.width). ⊎_elim (λ (under : x < y + q.width). absurd (⊎_elim
    (λ (less : x < y). apart y within_y (covers_from w x y p fits_p at_x (omega arith) over) (covers_from w y y q fits_q at_y (omega arith) (omega arith)))
    (λ (more : y ≤ x). apart x within_x (covers_from w x x p fits_p at_x (omega arith) (omega arith)) (covers_from w y x q fits_q at_y more under))
    (cases_lt x y))) (λ past. inr past) (cases_lt x (y + q.width))) (λ past. inl past) (cases_lt y (x + p.width))

-- a place begins in a word once
apart_by_words : (w x y : ℕ) (p : PlaceRow) → IsPlaceInRange p → x < y → begins_at w x p ≡ true → begins_at w y p ≡ true → x + p.width ≤ y
apart_by_words w x y p fits less at_x at_y =
    omega (arith, (begins_parts w x p at_x).0, (begins_parts w y p at_y).0, fits.bits, fits.lsb_low)

-- two of a table's places are the same or share no bit
pub same_or_share_none : (w : ℕ) (places : List PlaceRow) (p q : PlaceRow) → AllPairs (ShareNoBit w) places → Contains places p → Contains places q
    → (q ≡ p) ⊎ ShareNoBit w p q
same_or_share_none w places p q apart at_p at_q =
    same_or_related (ShareNoBit w) places p q (λ u v none b within at_v at_u. none b within at_u at_v) apart at_p at_q

-- ---- the occurrences of one part

abbrev pub OccurrencesApart : Occurrence → Occurrence → Type 0
OccurrencesApart o e = BitsApart o.at o.width e.at e.width

module _ (w : ℕ) (places : List PlaceRow) (fits : All IsPlaceInRange places) (apart : AllPairs (ShareNoBit w) places) where
  made_at : ℕ → PlaceRow → Occurrence
  made_at x p = record { at = x; width = p.width }

  -- what is known of the places that begin at a bit
  fit_at : (x : ℕ) → All IsPlaceInRange (filter (begins_at w x) places)
  fit_at x = All-filter (begins_at w x) IsPlaceInRange places fits

  among_at : (x : ℕ) → All (Contains places) (filter (begins_at w x) places)
  among_at x = All-filter (begins_at w x) (Contains places) places (All-contains_itself places)

  -- those that begin at one bit
  apart_at : (x : ℕ) → x < 16 * frame_bits w → AllPairs OccurrencesApart (occurrences_at w places x)
  unfolding made_at
  apart_at x within =
      let here = filter (begins_at w x) places in
      AllPairs-map OccurrencesApart (made_at x) here
      (λ i j d before late.
      apart_by_bits w x x (get_or here i d) (get_or here j d) (fit_at x i d (omega arith)) (fit_at x j d late) within within
      (filter_passes (begins_at w x) places i d (omega arith)) (filter_passes (begins_at w x) places j d late)
      (AllPairs-filter (ShareNoBit w) (begins_at w x) places apart i j d before late))

  -- and those that begin at two
  apart_between : (x y : ℕ) → x < y → y < 16 * frame_bits w → All (λ o. All (OccurrencesApart o) (occurrences_at w places y)) (occurrences_at w places x)
  unfolding made_at
  apart_between x y less within =
      let first = filter (begins_at w x) places in
      let second = filter (begins_at w y) places in
      All-map (λ o. All (OccurrencesApart o) (occurrences_at w places y)) (made_at x) first
      (λ i d early. All-map (OccurrencesApart (made_at x (get_or first i d))) (made_at y) second
      (λ j e late.
      let p = get_or first i d in
      let q = get_or second j e in
      let at_x = filter_passes (begins_at w x) places i d early in
      let at_y = filter_passes (begins_at w y) places j e late in
      ⊎_elim
      (λ (same : q ≡ p). inl (apart_by_words w x y p (fit_at x i d early) less at_x (subst (λ (r : PlaceRow). begins_at w y r ≡ true) same at_y)))
      (λ (none : ShareNoBit w p q). apart_by_bits w x y p q (fit_at x i d early) (fit_at y j e late) (omega arith) within at_x at_y none)
      (same_or_share_none w places p q apart (among_at x i d early) (among_at y j e late))))

  pub occurrences_apart : AllPairs OccurrencesApart (occurrences w places)
  unfolding occurrences
  occurrences_apart =
      AllPairs-flat_map OccurrencesApart (occurrences_at w places) (range_with_len 0 (16 * frame_bits w))
      (All-range (λ x. AllPairs OccurrencesApart (occurrences_at w places x)) 0 (16 * frame_bits w) (λ x low high. apart_at x (omega arith)))
      (AllPairs_range (λ x y. All (λ o. All (OccurrencesApart o) (occurrences_at w places y)) (occurrences_at w places x)) 0 (16 * frame_bits w)
      (λ x y low less high. apart_between x y less (omega arith)))

-- the occurrences of a part of a sound table
pub part_occurrences_apart : (t : TableRows) (n part : ℕ) → IsInRange t → IsSound t → AllPairs OccurrencesApart (part_occurrences t.frame.words t.places n part)
unfolding part_occurrences
part_occurrences_apart t n part range sound =
    occurrences_apart t.frame.words (filter (is_part n part) t.places) (All-filter (is_part n part) IsPlaceInRange t.places range.places)
    (AllPairs-filter (ShareNoBit t.frame.words) (is_part n part) t.places sound.apart)

-- occurrences of two parts
pub parts_apart : (t : TableRows) (n m part other : ℕ) (o e : Occurrence) → IsInRange t → IsSound t → IsPartOccurrence t.frame.words t.places n part o
    → IsPartOccurrence t.frame.words t.places m other e →
    ((n ≡ m) → (part ≡ other) → ⊥) → OccurrencesApart o e
parts_apart t n m part other o e range sound first second differ =
    let p = first.place in
    let q = second.place in
    let fits_p = All-contains IsPlaceInRange t.places p range.places first.among in
    let fits_q = All-contains IsPlaceInRange t.places q range.places second.among in
    let none : ShareNoBit t.frame.words p q = ⊎_elim
    (λ (same : q ≡ p). absurd (differ (sym first.param ∙ ap (λ (r : PlaceRow). r.param) (sym same) ∙ second.param)
    (sym first.number ∙ ap (λ (r : PlaceRow). r.part) (sym same) ∙ second.number)))
    (λ none. none)
    (same_or_share_none t.frame.words t.places p q sound.apart first.among second.among) in
    rw (first.width, second.width)
    (apart_by_bits t.frame.words o.at e.at p q fits_p fits_q first.within second.within first.begins second.begins none)

-- ---- words of data

on_word_from : (p : PlaceRow) (v : ℕ) → is_on_word p v ≡ true → p.word ≤ v
on_word_from p v on = ⊎_elim
    (λ (once : eqb p.step 0 ≡ true). let is = eqb-true v p.word (rw once at on) in omega arith)
    (λ (steps : eqb p.step 0 ≡ false). leb-true p.word v (and_parts _ _ (rw steps at on)).0)
    (cases_Bool (eqb p.step 0))

-- an occurrence lies in one word of the superframe
pub lies_in_word : (t : TableRows) (n part : ℕ) (o : Occurrence) → IsInRange t → IsPartOccurrence t.frame.words t.places n part o
    → (o.at % 12 + o.width ≤ 12) × (o.at / 12 < 64 * t.frame.words)
lies_in_word t n part o range from =
    let fits = All-contains IsPlaceInRange t.places from.place range.places from.among in
    let lsb = (begins_parts t.frame.words o.at from.place from.begins).0 in
    (omega (arith, lsb, fits.bits, from.width, from.within), omega (arith, lsb, fits.bits, from.width, from.within))

-- which has neither a sync word nor the counter
pub stands_in_data : (t : TableRows) (n part : ℕ) (o : Occurrence) → IsInRange t → IsSound t → IsPartOccurrence t.frame.words t.places n part o →
    kind_of t.frame.words t.frame.cword t.frame.csub (o.at / 12) ≡ Plain
stands_in_data t n part o range sound from =
    let w = t.frame.words in
    let k = o.at / 12 in
    let p = from.place in
    let occurs = (begins_parts w o.at p from.begins).1 in
    let on : is_on_word p (word_of w k) ≡ true = (and_parts _ _ occurs).1 in
    let low = on_word_from p (word_of w k) on in
    let some = (All-contains IsPlaceInRange t.places p range.places from.among).word_low in
    let first = All-contains (λ (p : PlaceRow). p.word ≢ 1) t.places p sound.sync from.among in
    let not_sync : is_sync w k ≡ false = ne_eqb (word_of w k) 1 (λ e. first (omega arith)) in
    let slot = (lies_in_word t n part o range from).1 in
    let off = All-contains (IsOffCounter t.frame) t.places p sound.counter from.among in
    let not_counter : is_counter w t.frame.cword t.frame.csub k ≡ false =
    false_from_ne_true (is_counter w t.frame.cword t.frame.csub k) (λ yes. off k slot occurs yes) in
    cond-false _ _ _ not_sync ∙ cond-false _ _ _ not_counter

-- ---- the numbers of samples

abbrev AreOthers : Sample → Sample → Type 0
AreOthers s r = (s.param ≡ r.param) → (s.index ≡ r.index) → ⊥

others_of_param : (t : TableRows) (n rate : ℕ) → AllPairs AreOthers (samples_of t.frame.words t.places n rate)
unfolding samples_of
others_of_param t n rate =
    AllPairs-map AreOthers (λ i. record { param = n; index = i; parts = parts_of t.frame.words t.places n i }) (range_with_len 0 rate)
    (AllPairs_range (λ i j. (n ≡ n) → (i ≡ j) → ⊥) 0 rate (λ i j low less high same index. omega arith))

samples_of_param : (t : TableRows) (n rate : ℕ) → All (λ (s : Sample). s.param ≡ n) (samples_of t.frame.words t.places n rate)
unfolding samples_of
samples_of_param t n rate =
    All-map (λ (s : Sample). s.param ≡ n) (λ i. record { param = n; index = i; parts = parts_of t.frame.words t.places n i }) (range_with_len 0 rate)
    (λ k d l. refl)

-- no two samples are of one parameter and index
samples_differ : (t : TableRows) → AllPairs AreOthers (samples t)
unfolding samples
samples_differ t =
    let f : ℕ × ParamRow → List Sample = λ e. samples_of t.frame.words t.places e.0 e.1.rate in
    AllPairs-flat_map AreOthers f (enumerate_from 0 t.params)
    (λ k d l. others_of_param t (get_or (enumerate_from 0 t.params) k d).0 (get_or (enumerate_from 0 t.params) k d).1.rate)
    (AllPairs-weaker (λ (e e' : ℕ × ParamRow). e.0 < e'.0) (λ (e e' : ℕ × ParamRow). All (λ s. All (AreOthers s) (f e')) (f e)) (enumerate_from 0 t.params)
    (λ e e' less. λ i d early. λ j b late. λ param index.
    let first = samples_of_param t e.0 e.1.rate i d early in
    let second = samples_of_param t e'.0 e'.1.rate j b late in
    omega arith)
    (AllPairs_enumerate 0 t.params))

same_number : (t : TableRows) (k l : ℕ) (s r : Sample) → slice_get (samples t) k ≡ Some s → slice_get (samples t) l ≡ Some r → s.param ≡ r.param
    → s.index ≡ r.index → k ≡ l
same_number t k l s r at_k at_l param index =
    ⊎_elim (λ same. same) (λ (others : AreOthers s r). absurd (others param index))
    (same_place_or_related AreOthers (samples t) k l s r (λ u v others p i. others (sym p) (sym i)) (samples_differ t) at_k at_l)

-- ---- where the parts come from

-- The part is that of a sample with its number, at the occurrence with the sample's index.
pub record IsFrom (t : TableRows) (a : SlotPart) : Type 0 where
  pub sample : Sample
  pub stands : slice_get (samples t) a.sample ≡ Some sample
  pub number : ℕ
  pub occurrence : Occurrence
  pub read : slice_get (part_occurrences t.frame.words t.places sample.param number) sample.index ≡ Some occurrence
  pub is : a.part ≡ record { at = occurrence.at; width = occurrence.width; shift = shift_of t.places sample.param number }

mapped : {X Y : Type 0} (f : X → Y) (o : Option X) (y : Y) → option_map f o ≡ Some y → (x : X) × (o ≡ Some x) × (y ≡ f x)
mapped f None y e = absurd (cc)
mapped f (Some x) y e = (x, refl, sym (same_Some (f x) y e))

parts_from : (t : TableRows) (n : ℕ) (s : Sample) → slice_get (samples t) n ≡ Some s → IsMade t s → All (IsFrom t) (parts_of_sample n s.parts)
unfolding parts_of
parts_from t n s stands made =
    let w = t.frame.words in
    let h : ℕ → Option Part = λ part. part_at s.index (carrier_of w t.places s.param part) in
    All-map (IsFrom t) (λ (p : Part). record { sample = n; part = p }) s.parts
    (rw made.parts (All_filter_map (λ (p : Part). IsFrom t (record { sample = n; part = p })) h (range_with_len 1 4)
    (λ k d l. λ p is.
    let part = get_or (range_with_len 1 4) k d in
    let found = mapped (λ (o : Occurrence). record { at = o.at; width = o.width; shift = shift_of t.places s.param part })
    (slice_get (part_occurrences w t.places s.param part) s.index) p is in
    record {
      sample = s;
      stands = stands;
      number = part;
      occurrence = found.0;
      read = found.1;
      is = found.2;
    })))

all_from : (t : TableRows) → All (IsFrom t) (all_parts t)
unfolding parts_among
all_from t =
    All-flat_map (IsFrom t) (λ (e : ℕ × Sample). parts_of_sample e.0 e.1.parts) (enumerate_from 0 (samples t))
    (All-weaker (λ (e : ℕ × Sample). slice_get (samples t) e.0 ≡ Some e.1) (λ (e : ℕ × Sample). All (IsFrom t) (parts_of_sample e.0 e.1.parts))
    (λ e stands. parts_from t e.0 e.1 stands (All-at (IsMade t) (samples t) e.0 e.1 (samples_made t) stands))
    (enumerate_from 0 (samples t)) (numbered_stand (samples t)))

from_place : (t : TableRows) (a : SlotPart) (from : IsFrom t a) → IsPartOccurrence t.frame.words t.places from.sample.param from.number from.occurrence
from_place t a from =
    All-at (IsPartOccurrence t.frame.words t.places from.sample.param from.number) (part_occurrences t.frame.words t.places from.sample.param from.number)
    from.sample.index from.occurrence (part_occurrences_come t.frame.words t.places from.sample.param from.number) from.read

-- ---- parts share no bit

apart_from : (t : TableRows) (a b : SlotPart) (first : IsFrom t a) (second : IsFrom t b) → OccurrencesApart first.occurrence second.occurrence → AreApart a b
apart_from t a b first second apart = rw (first.is, second.is) apart

turned : (o e : Occurrence) → OccurrencesApart o e → OccurrencesApart e o
turned o e apart = ⊎_elim (λ below. inr below) (λ above. inl above) apart

-- parts of one number of one parameter are those of two samples that are apart, or the same
same_part : (t : TableRows) (a b : SlotPart) → IsInRange t → IsSound t → (first : IsFrom t a) (second : IsFrom t b) →
    first.sample.param ≡ second.sample.param → first.number ≡ second.number → (b ≡ a) ⊎ AreApart a b
same_part t a b range sound first second param number =
    let w = t.frame.words in
    let s = first.sample in
    let r = second.sample in
    let os = part_occurrences w t.places s.param first.number in
    let pairs = part_occurrences_apart t s.param first.number range sound in
    let read : slice_get os r.index ≡ Some second.occurrence = rw (param, number) second.read in
    ⊎_elim
    (λ (index : s.index ≡ r.index).
    let numbers = same_number t a.sample b.sample s r first.stands second.stands param index in
    let same : first.occurrence ≡ second.occurrence = same_Some first.occurrence second.occurrence (sym first.read ∙ ap (slice_get os) index ∙ read) in
    let part : a.part ≡ b.part = rw (first.is, second.is, same, param, number) refl in
    let pair : ℕ → Part → SlotPart = λ n p. record { sample = n; part = p } in
    inl (sym (ap (λ n. pair n a.part) numbers ∙ ap (pair b.sample) part)))
    (λ apart. inr (apart_from t a b first second apart))
    (same_place_or_related OccurrencesApart os s.index r.index first.occurrence second.occurrence turned pairs first.read read)

-- two parts are the same or share no bit
parts_same_or_apart : (t : TableRows) (a b : SlotPart) → IsInRange t → IsSound t → Contains (all_parts t) a → Contains (all_parts t) b → (b ≡ a) ⊎ AreApart a b
parts_same_or_apart t a b range sound at_a at_b =
    let first = All-contains (IsFrom t) (all_parts t) a (all_from t) at_a in
    let second = All-contains (IsFrom t) (all_parts t) b (all_from t) at_b in
    let differ = λ (others : (first.sample.param ≡ second.sample.param) → (first.number ≡ second.number) → ⊥).
    apart_from t a b first second
    (parts_apart t _ _ _ _ first.occurrence second.occurrence range sound (from_place t a first) (from_place t b second) others) in
    ⊎_elim
    (λ (param : first.sample.param ≡ second.sample.param). ⊎_elim
    (λ (number : first.number ≡ second.number). same_part t a b range sound first second param number)
    (λ others. inr (differ (λ _ number. others number)))
    (cases_eq first.number second.number))
    (λ others. inr (differ (λ param _. others param)))
    (cases_eq first.sample.param second.sample.param)

-- ---- all of it

part_is_placed : (t : TableRows) (a : SlotPart) → IsInRange t → IsSound t → IsFrom t a → IsPlaced t.frame a.part
part_is_placed t a range sound from =
    let place = from_place t a from in
    let word = lies_in_word t from.sample.param from.number from.occurrence range place in
    rw from.is (record {
      within = word.0;
      slot = word.1;
      plain = stands_in_data t from.sample.param from.number from.occurrence range sound place;
    })

samples_whole : (t : TableRows) (n : ℕ) (s : Sample) → IsInRange t → IsSound t → slice_get (samples t) n ≡ Some s
    → (p : ParamRow) × (slice_get t.params s.param ≡ Some p) × AreWhole p s.parts
samples_whole t n s range sound stands =
    let h = All-at (IsSampleOf t.params) (samples t) n s (samples_sound t range sound) stands in
    (h.param, h.found, λ raw small. omega (arith, filled_pieces raw 0 h.param.width s.parts h.parts, mod-eq_of_lt small))

-- the samples of a sound table can be read back from their frames
pub sound_recordable : (t : TableRows) → IsInRange t → IsSound t → IsRecordable t
sound_recordable t range sound = record {
  words = range.frame.words;
  cword_low = range.frame.cword_low;
  cword_high = sound.cword;
  csub_low = range.frame.csub_low;
  csub_high = range.frame.csub_high;
  placed = All-weaker (IsFrom t) (λ (a : SlotPart). IsPlaced t.frame a.part) (λ a from. part_is_placed t a range sound from) (all_parts t) (all_from t);
  apart = λ a b at_a at_b. parts_same_or_apart t a b range sound at_a at_b;
  whole = λ n s stands. samples_whole t n s range sound stands;
  telling = λ n p got. (All-at IsParamInRange t.params n p range.params got).tells_width;
}
