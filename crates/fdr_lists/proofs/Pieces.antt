-- What holds of the elements of each piece holds of those of all pieces one after another.
use Rattle.std.proofs.Common.{ℕ, ◌+◌, ◌<◌, ◌≤◌, List, [], ◌∷◌}
use Rattle.std.specs.List.{All, flat_map, range_with_len}
use Rattle.std.proofs.lemmas.List.Elements.{All-nil, All-head, All-tail, All-append}
use Rattle.fdr_lists.proofs.Ranges.{All-range}

pub All-flat_map : {X A : Type 0} (P : A → Type 0) (f : X → List A) (xs : List X) → All (λ x. All P (f x)) xs → All P (flat_map f xs)
All-flat_map P f [] each = All-nil P
All-flat_map P f (x ∷ xs) each =
    All-append P (f x) (flat_map f xs) (All-head (λ y. All P (f y)) x xs each)
    (All-flat_map P f xs (All-tail (λ y. All P (f y)) x xs each))

-- the pieces are those of numbers in a row
pub All-flat_map-range : {A : Type 0} (P : A → Type 0) (f : ℕ → List A) (a n : ℕ) → ((x : ℕ) → a ≤ x → x < a + n → All P (f x))
    → All P (flat_map f (range_with_len a n))
All-flat_map-range P f a n each = All-flat_map P f (range_with_len a n) (All-range (λ x. All P (f x)) a n each)
