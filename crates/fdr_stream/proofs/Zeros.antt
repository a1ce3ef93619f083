-- Words that are 0, and are packed at once.
use Rattle.std.proofs.Common.{◌≡◌, ℕ, zero, suc, ◌+◌, ◌<◌, ◌∷◌, ◌++◌, map, replicate, refl, sym, ap, ◌∙◌, arith}
use Rattle.std.specs.List.{range_with_len}
use Rattle.std.proofs.lemmas.List.{map-append}
use Rattle.fdr_check.proofs.Stretches.{range_append}
use Rattle.fdr_sampler.specs.SlotWord.{slot_word}
use Rattle.fdr_stream.specs.Past.{StreamPast, words_to}

zeros_from : (f : ℕ → ℕ) (a n : ℕ) → ((j : ℕ) → j < n → f (a + j) ≡ 0) → map f (range_with_len a n) ≡ replicate n 0
zeros_from f a zero each = refl
zeros_from f a (suc n) each =
    let here : a + 0 ≡ a = omega arith in
    ap (λ xs. f a ∷ xs)
    (zeros_from f (a + 1) n (λ j l. let there : a + suc j ≡ a + 1 + j = omega arith in ap f (sym there) ∙ each (suc j) (omega arith)))
    ∙ ap (λ x. x ∷ replicate n 0) (ap f (sym here) ∙ each 0 (omega arith))

-- the words up to a slot, where the last n of them are 0
pub words_to-zeros : (past : StreamPast) (d n : ℕ) → ((j : ℕ) → j < n → slot_word past.table past.records (d + j) ≡ 0)
    → words_to past (d + n) ≡ words_to past d ++ replicate n 0
words_to-zeros past d n each =
    let f = slot_word past.table past.records in
    let first : 0 + d ≡ d = omega arith in
    ap (map f) (range_append 0 d n) ∙ map-append f (range_with_len 0 d) (range_with_len (0 + d) n)
    ∙ ap (λ a. words_to past d ++ map f (range_with_len a n)) first ∙ ap (λ ws. words_to past d ++ ws) (zeros_from f d n each)
