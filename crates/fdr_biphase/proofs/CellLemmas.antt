-- The cells of bits are the only levels that meet the rule.
use Rattle.std.proofs.Common.{◌≡◌, ◌≢◌, ℕ, zero, suc, ◌+◌, ◌*◌, ◌<◌, Bool, true, false, List, [], ◌∷◌, ◌++◌, length, get_or, refl, sym, ap, ◌∙◌, arith}
use Rattle.std.specs.Prelude.{not, ◌↔◌}
use Rattle.std.specs.Bool.{beq}
use Rattle.fdr_biphase.specs.Cells.{Cells, level_at, level_before, cell_end, cells_of, level_after}

pub length-cells : (first : Bool) (bits : List Bool) → length (cells_of first bits) ≡ 2 * length bits
unfolding cells_of
length-cells first [] = refl
length-cells first (bit ∷ bits) = omega (arith, length-cells (cell_end first bit) bits)

twice : (i : ℕ) → 2 * suc i ≡ suc (suc (2 * i))
twice i = omega arith

after_twice : (i : ℕ) → 2 * suc i + 1 ≡ suc (suc (2 * i + 1))
after_twice i = omega arith

-- the level changes where a cell begins
pub cell_begins : (first : Bool) (bits : List Bool) (i : ℕ) → i < length bits
    → level_at (cells_of first bits) (2 * i) ≡ not (level_before first (cells_of first bits) (2 * i))
unfolding cells_of
cell_begins first [] i within = absurd (omega arith)
cell_begins first (bit ∷ bits) zero within = refl
cell_begins first (bit ∷ bits) (suc i) within = rw twice (cell_begins (cell_end first bit) bits i (omega arith))

turns_in_cell : (first bit : Bool) → not (beq (cell_end first bit) (not first)) ≡ bit
turns_in_cell true true = refl
turns_in_cell true false = refl
turns_in_cell false true = refl
turns_in_cell false false = refl

-- and in its middle where the bit is 1
pub cell_turns : (first : Bool) (bits : List Bool) (i : ℕ) → i < length bits
    → not (beq (level_at (cells_of first bits) (2 * i + 1)) (level_at (cells_of first bits) (2 * i))) ≡ get_or bits i false
unfolding cells_of
cell_turns first [] i within = absurd (omega arith)
cell_turns first (bit ∷ bits) zero within = turns_in_cell first bit
cell_turns first (bit ∷ bits) (suc i) within = rw (after_twice, twice) (cell_turns (cell_end first bit) bits i (omega arith))

not_same : (a b : Bool) → a ≡ not b → a ≢ b
not_same a true is same = absurd (cc)
not_same a false is same = absurd (cc)

pub is_other : (a b : Bool) → a ≢ b → a ≡ not b
is_other true true differ = absurd (differ refl)
is_other true false differ = refl
is_other false true differ = refl
is_other false false differ = absurd (differ refl)

differ_where : (a b bit : Bool) → not (beq a b) ≡ bit → (a ≢ b) ↔ (bit ≡ true)
differ_where true true bit is = (λ differ. absurd (differ refl), λ holds. absurd (cc))
differ_where true false bit is = (λ differ. sym is, λ holds. not_same true false refl)
differ_where false true bit is = (λ differ. sym is, λ holds. not_same false true refl)
differ_where false false bit is = (λ differ. absurd (differ refl), λ holds. absurd (cc))

pub have_cells : (first : Bool) (bits : List Bool) → Cells first bits (cells_of first bits)
have_cells first bits = record {
  two_each = length-cells first bits;
  begin = λ i within. not_same _ _ (cell_begins first bits i within);
  middle = λ i within. differ_where _ _ _ (cell_turns first bits i within);
}

ends : (first begin end bit : Bool) → begin ≢ first → (end ≢ begin) ↔ (bit ≡ true) → end ≡ cell_end first bit
ends true true end bit begins middle = absurd (begins refl)
ends false false end bit begins middle = absurd (begins refl)
ends true false true true begins middle = refl
ends true false false true begins middle = absurd (middle.1 refl refl)
ends true false true false begins middle = absurd (cc (middle.0 (λ same. cc)))
ends true false false false begins middle = refl
ends false true true true begins middle = absurd (middle.1 refl refl)
ends false true false true begins middle = refl
ends false true true false begins middle = refl
ends false true false false begins middle = absurd (cc (middle.0 (λ same. cc)))

rest_of_cells : (first bit begin end : Bool) (bits levels : List Bool) → Cells first (bit ∷ bits) (begin ∷ end ∷ levels) → Cells end bits levels
rest_of_cells first bit begin end bits levels h = record {
  two_each = omega (arith, h.two_each);
  begin = λ i within. rw twice at (h.begin (suc i) (omega arith));
  middle = λ i within. rw (after_twice, twice) at (h.middle (suc i) (omega arith));
}

pub only_cells : (first : Bool) (bits levels : List Bool) → Cells first bits levels → levels ≡ cells_of first bits
unfolding cells_of
only_cells first [] [] h = refl
only_cells first [] (begin ∷ levels) h = absurd (omega (arith, h.two_each))
only_cells first (bit ∷ bits) [] h = absurd (omega (arith, h.two_each))
only_cells first (bit ∷ bits) (begin ∷ []) h = absurd (omega (arith, h.two_each))
only_cells first (bit ∷ bits) (begin ∷ end ∷ levels) h =
    let begins : begin ≢ first = h.begin 0 (omega arith) in
    let end_is : end ≡ cell_end first bit = ends first begin end bit begins (h.middle 0 (omega arith)) in
    let rest : levels ≡ cells_of end bits = only_cells end bits levels (rest_of_cells first bit begin end bits levels h) in
    ap (λ b. b ∷ end ∷ levels) (is_other begin first begins)
    ∙ ap (λ vs. not first ∷ end ∷ vs) rest
    ∙ ap (λ e. not first ∷ e ∷ cells_of e bits) end_is

-- cells of more bits
pub cells-append : (first : Bool) (bits more : List Bool) → cells_of first (bits ++ more) ≡ cells_of first bits ++ cells_of (level_after first bits) more
unfolding cells_of level_after
cells-append first [] more = refl
cells-append first (bit ∷ bits) more = ap (λ vs. not first ∷ cell_end first bit ∷ vs) (cells-append (cell_end first bit) bits more)

pub level_after-append : (first : Bool) (bits more : List Bool) → level_after first (bits ++ more) ≡ level_after (level_after first bits) more
unfolding level_after
level_after-append first [] more = refl
level_after-append first (bit ∷ bits) more = level_after-append (cell_end first bit) bits more
