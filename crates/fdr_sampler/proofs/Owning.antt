-- The parameter of each sample.
use Rattle.std.proofs.Common.{◌≡◌, ℕ, ◌+◌, ◌<◌, List, [], ◌∷◌, ◌++◌, length, get_or, take, map, refl, sym, ap, ◌∙◌, append_assoc}
use Rattle.std.specs.List.{enumerate_from, flat_map, range_with_len}
use Rattle.std.proofs.lemmas.List.{append-nil}
use Rattle.std.proofs.lemmas.List.Concat.{flat_map-append}
use Rattle.std.proofs.lemmas.List.FromFn.{map-range_with_len_more}
use Rattle.fdr_table.specs.Rows.{ParamRow, PlaceRow, TableRows}
use Rattle.fdr_layout.specs.Samples.{parts_of, Sample, samples_of, samples}
use Rattle.fdr_check.proofs.Stretches.{enumerate_from_more}
use Rattle.fdr_layout.proofs.Flats.{map-flat_map}
use Rattle.fdr_sampler.specs.Kept.{owners_of}

-- ---- the list that the code makes

pub no_owners : owners_of [] ≡ []
unfolding owners_of
no_owners = refl

-- once more
pub owner_more : (n i : ℕ) (before : List ℕ) → (before ++ map (λ _. n) (range_with_len 0 i)) ++ n ∷ [] ≡ before ++ map (λ _. n) (range_with_len 0 (i + 1))
owner_more n i before =
    append_assoc before (map (λ _. n) (range_with_len 0 i)) (n ∷ [])
    ∙ ap (λ xs. before ++ xs) (sym (map-range_with_len_more (λ _. n) 0 i (0 + i) refl))

-- a further parameter
pub owners_more : (params : List ParamRow) (i : ℕ) (p : ParamRow) (rate : ℕ) → i < length params → p ≡ get_or params i p → rate ≡ p.rate
    → owners_of (take i params) ++ map (λ _. i) (range_with_len 0 rate) ≡ owners_of (take (i + 1) params)
unfolding owners_of
owners_more params i p rate l is same =
    let f : ℕ × ParamRow → List ℕ = λ e. map (λ _. e.0) (range_with_len 0 e.1.rate) in
    let before = enumerate_from 0 (take i params) in
    ap (λ r. flat_map f before ++ map (λ _. i) (range_with_len 0 r)) same
    ∙ ap (λ xs. flat_map f before ++ xs) (sym (append-nil (f (i, p))))
    ∙ sym (flat_map-append f before ((i, p) ∷ []))
    ∙ ap (λ (q : ParamRow). flat_map f (before ++ (i, q) ∷ [])) is
    ∙ sym (ap (flat_map f) (enumerate_from_more params i p l))

-- ---- of the samples

flat_agree : {A B : Type 0} (f g : A → List B) (xs : List A) → ((x : A) → f x ≡ g x) → flat_map f xs ≡ flat_map g xs
flat_agree f g [] same = refl
flat_agree f g (x ∷ xs) same = ap (λ ys. ys ++ flat_map f xs) (same x) ∙ ap (λ ys. g x ++ ys) (flat_agree f g xs same)

made_params : (w : ℕ) (places : List PlaceRow) (n : ℕ) (ks : List ℕ)
    → map (λ (s : Sample). s.param) (map (λ i. record { param = n; index = i; parts = parts_of w places n i }) ks) ≡ map (λ _. n) ks
made_params w places n [] = refl
made_params w places n (k ∷ ks) = ap (λ xs. n ∷ xs) (made_params w places n ks)

own_params : (w : ℕ) (places : List PlaceRow) (n rate : ℕ)
    → map (λ (s : Sample). s.param) (samples_of w places n rate) ≡ map (λ _. n) (range_with_len 0 rate)
unfolding samples_of
own_params w places n rate = made_params w places n (range_with_len 0 rate)

-- each sample has its parameter there
pub owners_are : (t : TableRows) → owners_of t.params ≡ map (λ (s : Sample). s.param) (samples t)
unfolding owners_of samples
owners_are t =
    let param : Sample → ℕ = λ s. s.param in
    let of : ℕ × ParamRow → List Sample = λ e. samples_of t.frame.words t.places e.0 e.1.rate in
    sym (map-flat_map param of (enumerate_from 0 t.params)
    ∙ flat_agree (λ e. map param (of e)) (λ (e : ℕ × ParamRow). map (λ _. e.0) (range_with_len 0 e.1.rate)) (enumerate_from 0 t.params)
    (λ e. own_params t.frame.words t.places e.0 e.1.rate))
