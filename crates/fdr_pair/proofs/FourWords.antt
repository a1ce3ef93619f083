-- The bytes of four words.
use Rattle.std.proofs.Common.{◌≡◌, ℕ, ◌<◌, ◌≤◌, List, [], ◌∷◌, length, map, get_or, arith}

-- words that are these four have the bytes of these four
pub four_words : {A : Type 0} (bytes : A → List ℕ) (words : List A) (a b c d : A) (command table first second : List ℕ)
    → 4 ≤ length words → length words < 5 → a ≡ get_or words 0 a → b ≡ get_or words 1 b → c ≡ get_or words 2 c → d ≡ get_or words 3 d
    → bytes a ≡ command → bytes b ≡ table → bytes c ≡ first → bytes d ≡ second → map bytes words ≡ command ∷ table ∷ first ∷ second ∷ []
four_words bytes [] a b c d command table first second some few ia ib ic id ea eb ec ed = absurd (omega (arith, some))
four_words bytes (w ∷ []) a b c d command table first second some few ia ib ic id ea eb ec ed = absurd (omega (arith, some))
four_words bytes (w ∷ x ∷ []) a b c d command table first second some few ia ib ic id ea eb ec ed = absurd (omega (arith, some))
four_words bytes (w ∷ x ∷ y ∷ []) a b c d command table first second some few ia ib ic id ea eb ec ed = absurd (omega (arith, some))
four_words bytes (w ∷ x ∷ y ∷ z ∷ []) a b c d command table first second some few ia ib ic id ea eb ec ed = cc
four_words bytes (w ∷ x ∷ y ∷ z ∷ more ∷ rest) a b c d command table first second some few ia ib ic id ea eb ec ed = absurd (omega (arith, few))
