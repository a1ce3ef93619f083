-- The accepted frames up to a place of the search.
use Rattle.std.proofs.Common.{◌≡◌, ℕ, ◌+◌, ◌*◌, ◌<◌, ◌≤◌, Bool, true, false, ◌&&◌, eqb, ltb, List, [], ◌∷◌, ◌++◌, ap, sym, refl, ◌∙◌, append_assoc}
use Rattle.std.proofs.Common.{inl, inr, ◌⊎◌, arith}
use Rattle.std.specs.Prelude.{All, filter, nat_le, ◌==◌}
use Rattle.std.specs.List.{list_any}
use Rattle.std.proofs.lemmas.List.Elements.{All-cons, All-head, All-tail, All-append, filter-append}
use Rattle.std.proofs.lemmas.List.Folds.{list_any_none, list_any-append}
use Rattle.std.proofs.lemmas.Bool.Decides.{nat_tests}
use Rattle.std.proofs.Math.Nat.{eq-or-lt_of_le}
use Rattle.fdr_sync.specs.Frames.{IsFirstFrameFrom}
use Rattle.fdr_sync.specs.Accepted.{accepted_from, accepted_frames}
use Rattle.fdr_sync.proofs.ChoiceLemmas.{accepted_first}
use Rattle.fdr_sync.proofs.AcceptedLemmas.{accepted_behind}
use Rattle.fdr_lists.proofs.Filters.{filter_none}
use Rattle.std.proofs.Math.Bool.{or-false, or-true}
use Rattle.std.proofs.lemmas.Bool.{le-leb, lt-leb, ne_eqb, eq-eqb, lt-ltb, le-ltb, and_from, and_left, and_right}

-- xs are the accepted frames that end at bit `free` or before it: none, or the last of them ends there.
pub record SoFar (b : List ℕ) (w free : ℕ) (xs : List ℕ) : Type 0 where
  pub all : accepted_frames b w ≡ xs ++ accepted_from b w free
  pub before : All (λ x. x + 48 * w ≤ free) xs
  pub last : (free ≡ 0) ⊎ ((0 < free) × (list_any (λ x. x + 48 * w == free) xs ≡ true))

pub SoFar-none : (b : List ℕ) (w : ℕ) → SoFar b w 0 []
SoFar-none b w = record { all = refl; before = λ k d h. absurd (omega arith); last = inl refl }

pub filter_all : (p : ℕ → Bool) (xs : List ℕ) → All (λ x. p x ≡ true) xs → filter p xs ≡ xs
filter_all p [] h = refl
filter_all p (x ∷ xs) h =
    let head = All-head (λ x. p x ≡ true) x xs h in
    let tail = filter_all p xs (All-tail (λ x. p x ≡ true) x xs h) in
    grind (arith, nat_tests)

-- those of some numbers up to one of them, where those before it are less and those behind it more
pub filter_to : (xs ys : List ℕ) (a : ℕ) → All (λ x. x ≤ a) xs → All (λ y. a < y) ys → filter (λ x. nat_le x a) (xs ++ a ∷ ys) ≡ xs ++ a ∷ []
filter_to xs ys a early late =
    let rest = filter_none (λ x. nat_le x a) ys (λ k d l. lt-leb _ a (late k d l)) in
    let front = filter_all (λ x. nat_le x a) xs (λ k d l. le-leb _ a (early k d l)) in
    filter-append (λ x. nat_le x a) xs (a ∷ ys) ∙ rw (front, le-leb a a (omega arith), rest) refl

module _ (b : List ℕ) (w free p : ℕ) (xs : List ℕ) (some : 0 < w) (so_far : SoFar b w free xs) (next : IsFirstFrameFrom b w free p) where
  -- the next frame, and those after it
  pub all_split : accepted_frames b w ≡ (xs ++ p ∷ []) ++ accepted_from b w (p + 48 * w)
  all_split = so_far.all ∙ ap (λ (ys : List ℕ). xs ++ ys) (accepted_first b w free p some next)
      ∙ sym (append_assoc xs (p ∷ []) (accepted_from b w (p + 48 * w)))

  -- the accepted frames up to the next one
  pub accepted_to_next : filter (λ x. nat_le x p) (accepted_frames b w) ≡ xs ++ p ∷ []
  accepted_to_next =
      let behind = next.behind in
      ap (filter (λ x. nat_le x p)) (all_split ∙ append_assoc xs (p ∷ []) (accepted_from b w (p + 48 * w)))
      ∙ filter_to xs (accepted_from b w (p + 48 * w)) p (λ k d h. omega (arith, so_far.before k d h)) (λ k d h. omega (arith, accepted_behind b w _ k d h))

  none_ends_at : (ys : List ℕ) → All (λ x. x + 48 * w ≡ p → ⊥) ys → list_any (λ x. eqb (x + 48 * w) p) ys ≡ false
  none_ends_at ys h = list_any_none (λ x. eqb (x + 48 * w) p) ys (λ k d i. ne_eqb _ p (h k d i))

  -- it does where the next frame begins at the end of the last one
  adjacent_before : list_any (λ x. eqb (x + 48 * w) p) xs ≡ (ltb 0 free && eqb p free)
  adjacent_before =
      elim (eq-or-lt_of_le next.behind) [
        | inl e ↦ elim so_far.last [
          | inl none ↦ none_ends_at xs (λ k d h e2. omega (arith, so_far.before k d h)) ∙ sym (and_left (ltb 0 free) (eqb p free) (le-ltb 0 free (omega arith)))
          | inr last ↦ ap (λ q. list_any (λ x. eqb (x + 48 * w) q) xs) (sym e) ∙ last.1
              ∙ sym (and_from (ltb 0 free) (eqb p free) (lt-ltb 0 free last.0) (eq-eqb p free (sym e)))
        ]
        | inr h ↦ none_ends_at xs (λ k d i e. omega (arith, so_far.before k d i)) ∙ sym (and_right (ltb 0 free) (eqb p free) (ne_eqb p free (λ e. omega arith)))
      ]

  -- whether another frame ends where the next one begins
  pub adjacent_next : list_any (λ x. x + 48 * w == p) (accepted_frames b w) ≡ (ltb 0 free && eqb p free)
  adjacent_next =
      let after = none_ends_at (p ∷ accepted_from b w (p + 48 * w)) (All-cons (λ x. x + 48 * w ≡ p → ⊥) p _ (λ e. omega arith)
      (λ k d h e. omega (arith, accepted_behind b w (p + 48 * w) k d h))) in
      rw (so_far.all, accepted_first b w free p some next) (list_any-append (λ x. eqb (x + 48 * w) p) xs _ ∙ rw after (or-false _) ∙ adjacent_before)

  pub so_far_next : SoFar b w (p + 48 * w) (xs ++ p ∷ [])
  so_far_next =
      let behind = next.behind in
      record {
        all = all_split;
        before = All-append (λ x. x + 48 * w ≤ p + 48 * w) xs (p ∷ []) (λ k d h. omega (arith, so_far.before k d h))
            (All-cons (λ x. x + 48 * w ≤ p + 48 * w) p [] (omega arith) (λ k d h. absurd (omega arith)));
        last = inr (omega arith, list_any-append _ xs (p ∷ []) ∙ rw (eq-eqb (p + 48 * w) (p + 48 * w) refl) (or-true _));
      }
