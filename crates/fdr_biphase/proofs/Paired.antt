-- What a decoder stands for after the 64 levels of a word, of which each two are a whole cell.
use Rattle.std.proofs.Common.{◌≡◌, ℕ, zero, suc, ◌+◌, ◌*◌, ◌%◌, ◌<◌, ◌≤◌, Bool, true, List, [], ◌∷◌, ◌++◌, length, map}
use Rattle.std.proofs.Common.{Some, None, sym, ap, ◌∙◌, subst, arith, append_assoc, append-nil}
use Rattle.std.specs.Prelude.{not}
use Rattle.std.specs.Bool.{beq}
use Rattle.std.specs.List.{range_with_len}
use Rattle.std.proofs.lemmas.List.FromFn.{map-range_with_len_more}
use Rattle.fdr_biphase.specs.declared.decoder.Decoder.{Decoder}
use Rattle.fdr_biphase.specs.declared.decoder.Fitting.TheVariants.{One}
use Rattle.fdr_biphase.specs.Phases.{fails_at}
use Rattle.fdr_biphase.specs.Past.{DecoderPast, decoder_with, ArePhases, RepresentsDecoder}
use Rattle.fdr_biphase.proofs.Standing.{comes, after_middle, after_begin}

some_fitted : (v : List Bool) (phase : ℕ) → ArePhases (One phase) v → length v ≡ 0 → ⊥
unfolding fails_at
some_fitted [] phase h none = absurd (cc (h.2))
some_fitted (x ∷ v) phase h none = absurd (omega arith)

some_came : (d : Decoder) (past : DecoderPast) (phase : ℕ) → RepresentsDecoder d past → d.fitting ≡ One phase → d.count ≡ 0 → ⊥
some_came d past phase st fitted none = some_fitted past.levels phase (subst (λ f. ArePhases f past.levels) fitted st.phases) (omega (arith, st.count, none))

-- a decoder after one more level
abbrev pub after : Decoder → ℕ → Bool → Decoder
after d count level = record { count = count; last = level; fitting = d.fitting; ended = d.ended }

begins : (d : Decoder) (past : DecoderPast) (phase : ℕ) (l : Bool) → RepresentsDecoder d past → d.fitting ≡ One phase → d.count % 2 ≡ phase
    → not (beq l d.last) ≡ true → RepresentsDecoder (after d (d.count + 1) l) (decoder_with past l None)
begins d past phase l st fitted here turns =
    after_begin d past l phase d.ended (comes d past l true (One phase) st (some_came d past phase st fitted) turns fitted) fitted here

goes_on : (d : Decoder) (past : DecoderPast) (phase : ℕ) (l t : Bool) → RepresentsDecoder d past → d.fitting ≡ One phase → (d.count % 2 ≡ phase → ⊥)
    → not (beq l d.last) ≡ t → RepresentsDecoder (after d (d.count + 1) l) (decoder_with past l (Some t))
goes_on d past phase l t st fitted inside turns =
    after_middle d past l t phase d.ended (comes d past l t (One phase) st (some_came d past phase st fitted) turns fitted) fitted inside

-- two more levels, and a bit more
abbrev pub with_two : DecoderPast → Bool → Bool → Bool → DecoderPast
with_two past a b bit = record { levels = (past.levels ++ a ∷ []) ++ b ∷ []; bits = past.bits ++ bit ∷ [] }

fitted_low : (d : Decoder) (past : DecoderPast) (phase : ℕ) → RepresentsDecoder d past → d.fitting ≡ One phase → phase ≤ 1
fitted_low d past phase st fitted = let h = subst (λ f. ArePhases f past.levels) fitted st.phases in h.0

whole_cell : (d : Decoder) (past : DecoderPast) (phase : ℕ) (a b t : Bool) → RepresentsDecoder d past → d.fitting ≡ One phase → d.count % 2 ≡ phase
    → not (beq a d.last) ≡ true → not (beq b a) ≡ t → RepresentsDecoder (after d (d.count + 1 + 1) b) (with_two past a b t)
whole_cell d past phase a b t st fitted here first second =
    let mid = begins d past phase a st fitted here first in
    rw append-nil at (goes_on (after d (d.count + 1) a) (decoder_with past a None) phase b t mid fitted (λ bad. omega arith) second)

between_cells : (d : Decoder) (past : DecoderPast) (phase : ℕ) (a b t : Bool) → RepresentsDecoder d past → d.fitting ≡ One phase → (d.count % 2 ≡ phase → ⊥)
    → not (beq a d.last) ≡ t → not (beq b a) ≡ true → RepresentsDecoder (after d (d.count + 1 + 1) b) (with_two past a b t)
between_cells d past phase a b t st fitted inside first second =
    let low = fitted_low d past phase st fitted in
    let mid = goes_on d past phase a t st fitted inside first in
    let now : (d.count + 1) % 2 ≡ phase = grind (arith, low, inside) in
    rw append-nil at (begins (after d (d.count + 1) a) (decoder_with past a (Some t)) phase b mid fitted now second)

-- the level before a place of a word, and whether the level turns there
abbrev pub before_place : Bool → (ℕ → Bool) → ℕ → Bool
before_place last levels zero = last
before_place last levels (suc p) = levels p

abbrev pub turn : Bool → (ℕ → Bool) → ℕ → Bool
turn last levels p = not (beq (levels p) (before_place last levels p))

at_next : (last : Bool) (levels : ℕ → Bool) (p : ℕ) → not (beq (levels (p + 1)) (levels p)) ≡ turn last levels (p + 1)
at_next last levels p = let e : suc p ≡ p + 1 = omega arith in ap (λ (b : Bool). not (beq (levels (p + 1)) b)) (ap (before_place last levels) e)

-- the decoder stands for so many whole pairs of levels more
abbrev pub StandsAt : Decoder → DecoderPast → (ℕ → Bool) → (ℕ → Bool) → ℕ → Type 0
StandsAt d past levels bits n =
    RepresentsDecoder (after d (d.count + 2 * n) (before_place d.last levels (2 * n)))
    (record { levels = past.levels ++ map levels (range_with_len 0 (2 * n)); bits = past.bits ++ map bits (range_with_len 0 n) })

two_levels : (v : List Bool) (levels : ℕ → Bool) (n : ℕ)
    → ((v ++ map levels (range_with_len 0 (2 * n))) ++ levels (2 * n) ∷ []) ++ levels (2 * n + 1) ∷ [] ≡ v ++ map levels (range_with_len 0 (2 * (n + 1)))
two_levels v levels n =
    let twice : 2 * n + 1 + 1 ≡ 2 * (n + 1) = omega arith in
    ap (λ (xs : List Bool). xs ++ levels (2 * n + 1) ∷ []) (append_assoc v (map levels (range_with_len 0 (2 * n))) (levels (2 * n) ∷ [])
    ∙ ap (λ (xs : List Bool). v ++ xs) (sym (map-range_with_len_more levels 0 (2 * n) (2 * n) (omega arith))))
    ∙ append_assoc v (map levels (range_with_len 0 (2 * n + 1))) (levels (2 * n + 1) ∷ [])
    ∙ ap (λ (xs : List Bool). v ++ xs) (sym (map-range_with_len_more levels 0 (2 * n + 1) (2 * n + 1) (omega arith)))
    ∙ ap (λ (k : ℕ). v ++ map levels (range_with_len 0 k)) twice

one_bit : (v : List Bool) (bits : ℕ → Bool) (n : ℕ) → (v ++ map bits (range_with_len 0 n)) ++ bits n ∷ [] ≡ v ++ map bits (range_with_len 0 (n + 1))
one_bit v bits n =
    append_assoc v (map bits (range_with_len 0 n)) (bits n ∷ []) ∙ ap (λ (xs : List Bool). v ++ xs) (sym (map-range_with_len_more bits 0 n n (omega arith)))

next_pair : (d : Decoder) (past : DecoderPast) (levels bits : ℕ → Bool) (n : ℕ)
    → RepresentsDecoder (after d (d.count + 2 * n + 1 + 1) (levels (2 * n + 1)))
    (with_two (record { levels = past.levels ++ map levels (range_with_len 0 (2 * n)); bits = past.bits ++ map bits (range_with_len 0 n) })
    (levels (2 * n)) (levels (2 * n + 1)) (bits n)) → StandsAt d past levels bits (n + 1)
next_pair d past levels bits n st =
    let twice : suc (2 * n + 1) ≡ 2 * (n + 1) = omega arith in
    let count : d.count + 2 * n + 1 + 1 ≡ d.count + 2 * (n + 1) = omega arith in
    let last : levels (2 * n + 1) ≡ before_place d.last levels (2 * (n + 1)) = ap (before_place d.last levels) twice in
    subst (λ (xs : List Bool). RepresentsDecoder (after d (d.count + 2 * (n + 1)) (before_place d.last levels (2 * (n + 1))))
    (record { levels = past.levels ++ map levels (range_with_len 0 (2 * (n + 1))); bits = xs })) (one_bit past.bits bits n)
    (subst (λ (xs : List Bool). RepresentsDecoder (after d (d.count + 2 * (n + 1)) (before_place d.last levels (2 * (n + 1))))
    (record { levels = xs; bits = (past.bits ++ map bits (range_with_len 0 n)) ++ bits n ∷ [] })) (two_levels past.levels levels n)
    (subst (λ (k : ℕ). RepresentsDecoder (after d k (before_place d.last levels (2 * (n + 1))))
    (with_two (record { levels = past.levels ++ map levels (range_with_len 0 (2 * n)); bits = past.bits ++ map bits (range_with_len 0 n) })
    (levels (2 * n)) (levels (2 * n + 1)) (bits n))) count
    (subst (λ (l : Bool). RepresentsDecoder (after d (d.count + 2 * n + 1 + 1) l)
    (with_two (record { levels = past.levels ++ map levels (range_with_len 0 (2 * n)); bits = past.bits ++ map bits (range_with_len 0 n) })
    (levels (2 * n)) (levels (2 * n + 1)) (bits n))) last st)))

no_pairs : (d : Decoder) (past : DecoderPast) (levels bits : ℕ → Bool) → RepresentsDecoder d past → StandsAt d past levels bits 0
no_pairs d past levels bits st =
    let count : d.count + 0 ≡ d.count = omega arith in
    subst (λ (k : ℕ). RepresentsDecoder (after d k d.last) (record { levels = past.levels ++ []; bits = past.bits ++ [] })) (sym count)
    (subst (λ (xs : List Bool). RepresentsDecoder d (record { levels = xs; bits = past.bits ++ [] })) (sym (append-nil past.levels))
    (subst (λ (xs : List Bool). RepresentsDecoder d (record { levels = past.levels; bits = xs })) (sym (append-nil past.bits)) st))

pub pairs : (d : Decoder) (past : DecoderPast) (levels bits : ℕ → Bool) (m : ℕ) → RepresentsDecoder d past
    → ((n : ℕ) → n < m → StandsAt d past levels bits n → StandsAt d past levels bits (n + 1)) → (n : ℕ) → n ≤ m → StandsAt d past levels bits n
pairs d past levels bits m st step zero within = no_pairs d past levels bits st
pairs d past levels bits m st step (suc n) within =
    let e : n + 1 ≡ suc n = omega arith in
    subst (StandsAt d past levels bits) e (step n (omega arith) (pairs d past levels bits m st step n (omega arith)))

-- where a cell begins with the word
pub cells_whole : (d : Decoder) (past : DecoderPast) (phase : ℕ) (levels bits : ℕ → Bool) (m : ℕ) → RepresentsDecoder d past → d.fitting ≡ One phase
    → d.count % 2 ≡ phase → ((n : ℕ) → n < m → turn d.last levels (2 * n) ≡ true) → ((n : ℕ) → n < m → turn d.last levels (2 * n + 1) ≡ bits n)
    → StandsAt d past levels bits m
cells_whole d past phase levels bits m st fitted here begin middle =
    pairs d past levels bits m st (λ n low had. next_pair d past levels bits n
    (whole_cell (after d (d.count + 2 * n) (before_place d.last levels (2 * n))) _ phase (levels (2 * n)) (levels (2 * n + 1)) (bits n) had fitted (omega arith)
    (begin n low) (at_next d.last levels (2 * n) ∙ middle n low))) m (omega arith)

-- where it ends with the first level of the word
pub cells_between : (d : Decoder) (past : DecoderPast) (phase : ℕ) (levels bits : ℕ → Bool) (m : ℕ) → RepresentsDecoder d past → d.fitting ≡ One phase
    → (d.count % 2 ≡ phase → ⊥) → ((n : ℕ) → n < m → turn d.last levels (2 * n) ≡ bits n) → ((n : ℕ) → n < m → turn d.last levels (2 * n + 1) ≡ true)
    → StandsAt d past levels bits m
cells_between d past phase levels bits m st fitted inside middle begin =
    pairs d past levels bits m st (λ n low had. next_pair d past levels bits n
    (between_cells (after d (d.count + 2 * n) (before_place d.last levels (2 * n))) _ phase (levels (2 * n)) (levels (2 * n + 1)) (bits n) had fitted
    (λ bad. inside (omega arith)) (middle n low) (at_next d.last levels (2 * n) ∙ begin n low))) m (omega arith)
