-- The good records at the front of a list of records.
use Rattle.std.proofs.Common.{◌≡◌, ◌≤◌, ◌<◌, ◌⊎◌, inl, inr, ⊎_elim, ℕ, true, false, List, [], ◌∷◌, ◌++◌, length, refl, sym, ap, ◌∙◌, arith}
use Rattle.std.proofs.lemmas.Bool.{cases_Bool, cases_lt}
use Rattle.std.proofs.lemmas.List.{append-nil}
use Rattle.fdr_bus.specs.declared.BusRecord.{BusRecord}
use Rattle.fdr_bus.specs.Records.{record_of, is_good, is_end, good_from, time_after, has_end}

-- a record that isn't good ends the list
pub good_from_bad : (before : ℕ) (bytes : List ℕ) (rest : List (List ℕ)) → is_good before bytes ≡ false → good_from before (bytes ∷ rest) ≡ []
good_from_bad before bytes rest bad = rw bad refl

pub good_from_end : (before : ℕ) (bytes : List ℕ) (rest : List (List ℕ)) → is_good before bytes ≡ true → is_end (record_of bytes) ≡ true
    → good_from before (bytes ∷ rest) ≡ record_of bytes ∷ []
good_from_end before bytes rest good ends = rw (good, ends) refl

pub good_from_more : (before : ℕ) (bytes : List ℕ) (rest : List (List ℕ)) → is_good before bytes ≡ true → is_end (record_of bytes) ≡ false
    → good_from before (bytes ∷ rest) ≡ record_of bytes ∷ good_from (record_of bytes).time rest
good_from_more before bytes rest good goes_on = rw (good, goes_on) refl

-- one record by itself
pub good_from_one : (before : ℕ) (bytes : List ℕ) → is_good before bytes ≡ true → good_from before (bytes ∷ []) ≡ record_of bytes ∷ []
good_from_one before bytes good =
    ⊎_elim (λ ends. good_from_end before bytes [] good ends) (λ goes_on. good_from_more before bytes [] good goes_on) (cases_Bool (is_end (record_of bytes)))

-- the three things that the first record may be
unfoldable pub First : ℕ → List ℕ → Type 0
First before bytes = (is_good before bytes ≡ false)
    ⊎ (((is_good before bytes ≡ true) × (is_end (record_of bytes) ≡ true)) ⊎ ((is_good before bytes ≡ true) × (is_end (record_of bytes) ≡ false)))

pub first_cases : (before : ℕ) (bytes : List ℕ) → First before bytes
unfolding First
first_cases before bytes =
    ⊎_elim (λ good. inr (⊎_elim (λ ends. inl (good, ends)) (λ goes_on. inr (good, goes_on)) (cases_Bool (is_end (record_of bytes))))) (λ bad. inl bad)
    (cases_Bool (is_good before bytes))

pub length-good_from : (before : ℕ) (xs : List (List ℕ)) → length (good_from before xs) ≤ length xs
unfolding First
length-good_from before [] = omega arith
length-good_from before (bytes ∷ rest) = elim (first_cases before bytes) [
  | inl bad ↦ omega (arith, ap length (good_from_bad before bytes rest bad))
  | inr (inl last) ↦ omega (arith, ap length (good_from_end before bytes rest last.0 last.1))
  | inr (inr more) ↦ omega (arith, ap length (good_from_more before bytes rest more.0 more.1), length-good_from (record_of bytes).time rest)
]

-- records that follow good ones, with no end among them
pub good_from-append : (before : ℕ) (xs ys : List (List ℕ)) → has_end (good_from before xs) ≡ false → length (good_from before xs) ≡ length xs
    → good_from before (xs ++ ys) ≡ good_from before xs ++ good_from (time_after before (good_from before xs)) ys
unfolding First
good_from-append before [] ys unended full = refl
good_from-append before (bytes ∷ rest) ys unended full = elim (first_cases before bytes) [
  | inl bad ↦ absurd (omega (arith, ap length (good_from_bad before bytes rest bad)))
  | inr (inl last) ↦ (let h = rw (last.0, last.1) at unended in absurd (cc))
  | inr (inr more) ↦ (let here = good_from_more before bytes rest more.0 more.1 in
      let unended_rest = rw (more.0, more.1) at unended in
      let full_rest : length (good_from (record_of bytes).time rest) ≡ length rest = omega (arith, ap length here) in
      rw (more.0, more.1) (ap (λ good. record_of bytes ∷ good) (good_from-append (record_of bytes).time rest ys unended_rest full_rest)))
]

-- nothing after an end record counts
pub good_from-ended : (before : ℕ) (xs ys : List (List ℕ)) → has_end (good_from before xs) ≡ true → good_from before (xs ++ ys) ≡ good_from before xs
unfolding First
good_from-ended before [] ys ended = absurd (cc)
good_from-ended before (bytes ∷ rest) ys ended = elim (first_cases before bytes) [
  | inl bad ↦ (let h = rw bad at ended in absurd (cc))
  | inr (inl last) ↦ rw (last.0, last.1) refl
  | inr (inr more) ↦ (let ended_rest = rw (more.0, more.1) at ended in
      rw (more.0, more.1) (ap (λ good. record_of bytes ∷ good) (good_from-ended (record_of bytes).time rest ys ended_rest)))
]

-- nothing after a bad record counts
pub good_from-stopped : (before : ℕ) (xs ys : List (List ℕ)) → length (good_from before xs) < length xs → good_from before (xs ++ ys) ≡ good_from before xs
unfolding First
good_from-stopped before [] ys fewer = absurd (omega arith)
good_from-stopped before (bytes ∷ rest) ys fewer = elim (first_cases before bytes) [
  | inl bad ↦ rw bad refl
  | inr (inl last) ↦ rw (last.0, last.1) refl
  | inr (inr more) ↦ (let here = good_from_more before bytes rest more.0 more.1 in
      let fewer_rest : length (good_from (record_of bytes).time rest) < length rest = omega (arith, ap length here) in
      rw (more.0, more.1) (ap (λ good. record_of bytes ∷ good) (good_from-stopped (record_of bytes).time rest ys fewer_rest)))
]

-- records that follow can only add good ones
pub good_from-grows : (before : ℕ) (xs ys : List (List ℕ)) → (later : List BusRecord) × (good_from before (xs ++ ys) ≡ good_from before xs ++ later)
good_from-grows before xs ys = ⊎_elim
    (λ ended. ([], good_from-ended before xs ys ended ∙ sym (append-nil (good_from before xs))))
    (λ unended. ⊎_elim
    (λ fewer. ([], good_from-stopped before xs ys fewer ∙ sym (append-nil (good_from before xs))))
    (λ all. let full : length (good_from before xs) ≡ length xs = omega (arith, length-good_from before xs) in
    (good_from (time_after before (good_from before xs)) ys, good_from-append before xs ys unended full))
    (cases_lt (length (good_from before xs)) (length xs)))
    (cases_Bool (has_end (good_from before xs)))
