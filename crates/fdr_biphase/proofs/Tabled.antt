-- The table of the cells of each byte.
use Rattle.std.proofs.Common.{◌≡◌, ℕ, ◌-◌, ◌/◌, ◌%◌, ◌^◌, ◌<◌, ◌&&◌, Bool, true, false, T, get_or, eqb, eqb→eq, refl}
use Rattle.std.specs.Bool.{beq}
use Rattle.fdr_biphase.specs.declared.encoder.TheConstants.{CELLS}
use Rattle.fdr_biphase.specs.Cells.{cells_of, level_after}
use Rattle.std.proofs.Common.{ap, ◌+◌, ◌*◌, ◌∙◌, arith, ltb}
use Rattle.std.proofs.Math.Facts.{ltb_yes}
use Rattle.std.specs.Prelude.{not, bit_and, bit_xor}
use Rattle.std.specs.Int.Bits.{xor_zero_r, xor_add_and}
use Rattle.std.proofs.lemmas.Nat.{and_mask}
use Rattle.fdr_biphase.specs.Packed.{packed_bits, low_bits, turn_of}
use Rattle.fdr_biphase.proofs.Bounded.{test_below, each_below}
use lib.Ieee.Fits.{and_l, and_r}

-- the packed cells of a byte after a level
abbrev pub cells_after : Bool → ℕ → ℕ
cells_after false b = get_or CELLS b 0
cells_after true b = 65535 - get_or CELLS b 0

-- whether a word packs the cells of a byte
has_cells : Bool → ℕ → ℕ → Bool
unfolding cells_of level_after
has_cells level b word =
    let between = level_after level (low_bits b) in
    eqb (word % 256) (packed_bits (cells_of level (low_bits b)))
    && (eqb (word / 256 % 256) (packed_bits (cells_of between (low_bits (b / 16)))) && beq (eqb (word / 2 ^ 15) 1) (level_after between (low_bits (b / 16))))

tested : (level : Bool) → T (test_below (λ b. has_cells level b (cells_after level b)) 256)
unfolding cells_of level_after has_cells
tested false = tt
tested true = tt

-- what holds of the word that packs the cells of a byte
pub record ArePackedCells (level : Bool) (b word : ℕ) (last : Bool) : Type 0 where
  pub low : word % 256 ≡ packed_bits (cells_of level (low_bits b))
  pub high : word / 256 % 256 ≡ packed_bits (cells_of (level_after level (low_bits b)) (low_bits (b / 16)))
  pub end : last ≡ level_after (level_after level (low_bits b)) (low_bits (b / 16))

beq→eq : (a b : Bool) → T (beq a b) → a ≡ b
beq→eq true true h = refl
beq→eq true false h = absurd h
beq→eq false true h = absurd h
beq→eq false false h = refl

parts : (level : Bool) (b word : ℕ) → T (has_cells level b word) → ArePackedCells level b word (eqb (word / 2 ^ 15) 1)
unfolding has_cells
parts level b word h = record {
  low = eqb→eq _ _ (and_l _ _ h);
  high = eqb→eq _ _ (and_l _ _ (and_r (eqb (word % 256) (packed_bits (cells_of level (low_bits b)))) _ h));
  end = beq→eq _ _ (and_r _ _ (and_r (eqb (word % 256) (packed_bits (cells_of level (low_bits b)))) _ h));
}

pub each_byte : (level : Bool) (b : ℕ) → b < 256 → ArePackedCells level b (cells_after level b) (eqb (cells_after level b / 2 ^ 15) 1)
each_byte level b low = parts level b (cells_after level b) (each_below (λ b. has_cells level b (cells_after level b)) 256 (tested level) b low)

-- a word whose levels are turned where the level before them is high
pub turned_cells : (level : Bool) (b turn : ℕ) → b < 256 → turn ≡ turn_of level → bit_xor (get_or CELLS b 0) turn ≡ cells_after level b
turned_cells false b turn small is = ap (bit_xor (get_or CELLS b 0)) is ∙ xor_zero_r (get_or CELLS b 0)
turned_cells true b turn small is =
    let low = get_or CELLS b 0 in
    let within : low < 65536 = ltb_yes (each_below (λ b. ltb (get_or CELLS b 0) 65536) 256 tt b small) in
    let same : bit_and low 65535 ≡ low % 65536 = and_mask low 16 in
    let sum : bit_xor low 65535 + bit_and low 65535 * 2 ≡ low + 65535 = xor_add_and low 65535 in
    ap (bit_xor low) is ∙ (let e : bit_xor low 65535 ≡ 65535 - low = omega (arith, within, same, sum) in e)

-- the level of a turn
pub level_of_turn : (level : Bool) (turn : ℕ) → turn ≡ turn_of level → not (eqb turn 0) ≡ level
level_of_turn false turn is = ap (λ n. not (eqb n 0)) is
level_of_turn true turn is = ap (λ n. not (eqb n 0)) is
