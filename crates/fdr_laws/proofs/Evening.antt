-- The distances of a parameter's samples.
use Rattle.std.proofs.Common.{◌≡◌, ⊎_elim, ℕ, zero, suc, ◌+◌, ◌-◌, ◌*◌, ◌/◌, ◌<◌, ◌≤◌, Bool, true, List, [], ◌∷◌, map, Option, Some, None, refl, sym, ap, ◌∙◌}
use Rattle.std.proofs.Common.{arith}
use Rattle.std.specs.Prelude.{◌↔◌, ◌==◌, IsTrue, fold, min, option_map, slice_get, filter_map}
use Rattle.std.specs.Option.{option_map_or}
use Rattle.std.specs.List.{cons_option, list_all, range_with_len}
use Rattle.std.proofs.lemmas.Bool.{and_parts, cases_lt, eqb-true, eq-eqb}
use Rattle.std.proofs.lemmas.Nat.{mul-le}
use Rattle.fdr_lists.proofs.Ranges.{list_all-range}
use Rattle.fdr_bus.specs.declared.BusRecord.{BusRecord}
use Rattle.fdr_table.specs.Rows.{ParamRow, PlaceRow, TableRows}
use Rattle.fdr_check.specs.Occurrences.{Occurrence, part_occurrences}
use Rattle.fdr_check.specs.Report.{sample_slots, least, first_slot, is_even}
use Rattle.fdr_layout.specs.Samples.{Part, carrier_of, part_at, parts_of, first_at}
use Rattle.fdr_sampler.specs.Held.{first_part_slot, held_word, raw_of_held, raw_value, source_of}
use Rattle.fdr_laws.specs.Evenly.{IsEvenlySampled, sample_at, sampling_slot}

-- ---- the slot of the earliest part

map_option : {B C : Type 0} (g : B → C) (o : Option B) (ys : List B) → map g (cons_option o ys) ≡ cons_option (option_map g o) (map g ys)
map_option g None ys = refl
map_option g (Some y) ys = refl

map_kept : {A B C : Type 0} (g : B → C) (h : A → Option B) (xs : List A) → map g (filter_map h xs) ≡ filter_map (λ x. option_map g (h x)) xs
map_kept g h [] = refl
map_kept g h (x ∷ xs) = map_option g (h x) (filter_map h xs) ∙ ap (cons_option (option_map g (h x))) (map_kept g h xs)

kept_agree : {A B : Type 0} (f g : A → Option B) (xs : List A) → ((x : A) → f x ≡ g x) → filter_map f xs ≡ filter_map g xs
kept_agree f g [] same = refl
kept_agree f g (x ∷ xs) same = ap (λ o. cons_option o (filter_map f xs)) (same x) ∙ ap (cons_option (g x)) (kept_agree f g xs same)

slot_of_option : (shift : ℕ) (o : Option Occurrence)
    → option_map (λ (p : Part). p.at / 12) (option_map (λ (x : Occurrence). record { at = x.at; width = x.width; shift = shift }) o)
    ≡ option_map (λ (x : Occurrence). x.at / 12) o
slot_of_option shift None = refl
slot_of_option shift (Some o) = refl

slots_of_parts : (w : ℕ) (places : List PlaceRow) (n i : ℕ) → map (λ (p : Part). p.at / 12) (parts_of w places n i) ≡ sample_slots w places n i
unfolding parts_of sample_slots
slots_of_parts w places n i =
    map_kept (λ (p : Part). p.at / 12) (λ part. part_at i (carrier_of w places n part)) (range_with_len 1 4)
    ∙ kept_agree (λ part. option_map (λ (p : Part). p.at / 12) (part_at i (carrier_of w places n part)))
    (λ part. option_map (λ (o : Occurrence). o.at / 12) (slice_get (part_occurrences w places n part) i)) (range_with_len 1 4)
    (λ part. slot_of_option (carrier_of w places n part).shift (slice_get (part_occurrences w places n part) i))

least_slot : (a : ℕ) (parts : List Part) → fold (λ at (q : Part). min at q.at) a parts / 12 ≡ fold min (a / 12) (map (λ (p : Part). p.at / 12) parts)
least_slot a [] = refl
least_slot a (q ∷ parts) =
    let lower : min a q.at / 12 ≡ min (a / 12) (q.at / 12) = omega arith in
    least_slot (min a q.at) parts ∙ ap (λ k. fold min k (map (λ (p : Part). p.at / 12) parts)) lower

first_of : (parts : List Part) → first_at parts / 12 ≡ least (map (λ (p : Part). p.at / 12) parts)
unfolding first_at
first_of [] = refl
first_of (p ∷ parts) = least_slot p.at parts

first_slot_is : (t : TableRows) (n i : ℕ) → first_part_slot (sample_at t n i) ≡ first_slot t.frame.words t.places n i
first_slot_is t n i = first_of (parts_of t.frame.words t.places n i) ∙ ap least (slots_of_parts t.frame.words t.places n i)

-- ---- numbers at equal distances

all_at : (p : ℕ → Bool) (a n : ℕ) → list_all p (range_with_len a n) ≡ true → (e : ℕ) → a ≤ e → e < a + n → p e ≡ true
all_at p a zero all e low high = absurd (omega arith)
all_at p a (suc n) all e low high =
    let parts = and_parts (p a) (list_all p (range_with_len (a + 1) n)) all in
    ⊎_elim
    (λ (later : a < e). all_at p (a + 1) n parts.1 e (omega arith) (omega arith))
    (λ (here : e ≤ a). let is : a ≡ e = omega arith in ap p (sym is) ∙ parts.0)
    (cases_lt a e)

-- a difference, multiplied
times_less : (r x y : ℕ) → y ≤ x → r * (x - y) + r * y ≡ r * x
times_less r x y low =
    let d = x - y in
    let whole : x ≡ d + y = omega arith in
    let sum : r * d + r * y ≡ r * (d + y) = omega arith in
    sum ∙ ap (λ k. r * k) (sym whole)

module _ (f : ℕ → ℕ) (w rate : ℕ) (some_words : 0 < w) (some_rate : 0 < rate) where
  straight : list_all (λ i. rate * (f i - f 0) == i * (64 * w)) (range_with_len 0 rate) ≡ true → (i : ℕ) → i < rate → rate * f i ≡ rate * f 0 + i * (64 * w)
  straight all zero early = omega arith
  straight all (suc i) early =
      let test : rate * (f (suc i) - f 0) ≡ suc i * (64 * w) = eqb-true _ _ (all_at _ 0 rate all (suc i) (omega arith) (omega arith)) in
      let positive : 1 * (64 * w) ≤ suc i * (64 * w) = mul-le 1 (64 * w) (suc i) (64 * w) (omega arith) (omega arith) in
      ⊎_elim
      (λ (below : f (suc i) < f 0).
      let none : f (suc i) - f 0 ≡ 0 = omega arith in
      let nothing : rate * (f (suc i) - f 0) ≡ 0 = ap (λ k. rate * k) none ∙ omega arith in
      absurd (omega (arith, test, positive, nothing)))
      (λ (above : f 0 ≤ f (suc i)). omega (arith, test, times_less rate (f (suc i)) (f 0) above))
      (cases_lt (f (suc i)) (f 0))

  straight_back : ((i : ℕ) → i < rate → rate * f i ≡ rate * f 0 + i * (64 * w))
      → list_all (λ i. rate * (f i - f 0) == i * (64 * w)) (range_with_len 0 rate) ≡ true
  straight_back lin = list_all-range (λ i. rate * (f i - f 0) == i * (64 * w)) 0 rate (λ i low high.
      let here = lin i (omega arith) in
      ⊎_elim
      (λ (below : f i < f 0).
      let less : rate * (f i + 1) ≤ rate * f 0 = mul-le rate (f i + 1) rate (f 0) (omega arith) (omega arith) in
      let next : rate * (f i + 1) ≡ rate * f i + rate = omega arith in
      absurd (omega (arith, less, next, here, some_rate)))
      (λ (above : f 0 ≤ f i). eq-eqb _ _ (omega (arith, here, times_less rate (f i) (f 0) above)))
      (cases_lt (f i) (f 0)))

  within_of : ((i : ℕ) → i < rate → rate * f i ≡ rate * f 0 + i * (64 * w)) → (j i : ℕ) → i + 1 < rate
      → rate * (64 * w * j + f (i + 1)) ≡ rate * (64 * w * j + f i) + 64 * w
  within_of lin j i early =
      let one = lin i (omega arith) in
      let two = lin (i + 1) early in
      let left : rate * (64 * w * j + f (i + 1)) ≡ rate * (64 * w * j) + rate * f (i + 1) = omega arith in
      let right : rate * (64 * w * j + f i) ≡ rate * (64 * w * j) + rate * f i = omega arith in
      let next : (i + 1) * (64 * w) ≡ i * (64 * w) + 64 * w = omega arith in
      omega (arith, one, two, left, right, next)

  across_of : ((i : ℕ) → i < rate → rate * f i ≡ rate * f 0 + i * (64 * w)) → (j : ℕ)
      → rate * (64 * w * (j + 1) + f 0) ≡ rate * (64 * w * j + f (rate - 1)) + 64 * w
  across_of lin j =
      let last = lin (rate - 1) (omega arith) in
      let left : rate * (64 * w * (j + 1) + f 0) ≡ rate * (64 * w * j) + rate * (64 * w) + rate * f 0 = omega arith in
      let right : rate * (64 * w * j + f (rate - 1)) ≡ rate * (64 * w * j) + rate * f (rate - 1) = omega arith in
      let one : rate ≡ (rate - 1) + 1 = omega arith in
      let all : rate * (64 * w) ≡ (rate - 1) * (64 * w) + 64 * w = ap (λ k. k * (64 * w)) one ∙ omega arith in
      omega (arith, last, left, right, all)

  straight_from : ((j i : ℕ) → i + 1 < rate → rate * (64 * w * j + f (i + 1)) ≡ rate * (64 * w * j + f i) + 64 * w)
      → (i : ℕ) → i < rate → rate * f i ≡ rate * f 0 + i * (64 * w)
  straight_from within zero early = omega arith
  straight_from within (suc i) early =
      let before = straight_from within i (omega arith) in
      let one : i + 1 ≡ suc i = omega arith in
      let step = within 0 i (omega arith) in
      let left : rate * (64 * w * 0 + f (i + 1)) ≡ rate * f (suc i) = ap (λ k. rate * k) (let z : 64 * w * 0 + f (i + 1) ≡ f (i + 1) = omega arith in z)
      ∙ ap (λ k. rate * f k) one in
      let right : rate * (64 * w * 0 + f i) ≡ rate * f i = ap (λ k. rate * k) (let z : 64 * w * 0 + f i ≡ f i = omega arith in z) in
      let next : suc i * (64 * w) ≡ i * (64 * w) + 64 * w = omega arith in
      omega (arith, before, step, left, right, next)

even_where : (t : TableRows) (n rate : ℕ) → 0 < t.frame.words → 0 < rate → is_even t.frame.words t.places n rate ≡ true → IsEvenlySampled t n rate
unfolding is_even
even_where t n rate some positive even =
    let w = t.frame.words in
    let f = first_slot w t.places n in
    let same = first_slot_is t n in
    let lin = straight f w rate some positive even in
    record {
      within = λ j i early. ap (λ k. rate * (64 * w * j + k)) (same (i + 1)) ∙ within_of f w rate some positive lin j i early
          ∙ ap (λ k. rate * (64 * w * j + k) + 64 * w) (sym (same i));
      across = λ j. ap (λ k. rate * (64 * w * (j + 1) + k)) (same 0) ∙ across_of f w rate some positive lin j
          ∙ ap (λ k. rate * (64 * w * j + k) + 64 * w) (sym (same (rate - 1)));
    }

evenly_is_even : (t : TableRows) (n rate : ℕ) → 0 < t.frame.words → 0 < rate → IsEvenlySampled t n rate → is_even t.frame.words t.places n rate ≡ true
unfolding is_even
evenly_is_even t n rate some positive evenly =
    let w = t.frame.words in
    let f = first_slot w t.places n in
    let same = first_slot_is t n in
    straight_back f w rate some positive (straight_from f w rate some positive (λ j i early.
    ap (λ k. rate * (64 * w * j + k)) (sym (same (i + 1))) ∙ evenly.within j i early ∙ ap (λ k. rate * (64 * w * j + k) + 64 * w) (same i)))

pub even_is : (t : TableRows) (n rate : ℕ) → 0 < t.frame.words → 0 < rate → IsTrue (is_even t.frame.words t.places n rate) ↔ IsEvenlySampled t n rate
even_is t n rate some positive = (even_where t n rate some positive, evenly_is_even t n rate some positive)

pub taken_at : (t : TableRows) (records : List BusRecord) (n j i : ℕ) (p : ParamRow) → slice_get t.params n ≡ Some p
    → raw_value t records (64 * t.frame.words * j) (sample_at t n i)
    ≡ raw_of_held t.frame.words (source_of p) (sampling_slot t n j i) (held_word t.frame.words (source_of p) records (sampling_slot t n j i))
unfolding raw_value
taken_at t records n j i p is =
    let w = t.frame.words in
    let k = sampling_slot t n j i in
    ap (λ o. option_map_or (λ (x : ParamRow). raw_of_held w (source_of x) k (held_word w (source_of x) records k)) o 0) is
