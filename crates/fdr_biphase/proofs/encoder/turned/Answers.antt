use Rattle.std.proofs.Common.{◌≡◌, ◌/◌, ◌^◌, ℕ, Bool, get_or, sym, ap, ◌∙◌, refl, subst, eqb}
use Rattle.std.specs.Prelude.{bit_xor}
use Rattle.fdr_biphase.specs.declared.encoder.TheConstants.{CELLS}
use Rattle.fdr_biphase.specs.Cells.{bits_of_bytes, level_after}
use Rattle.fdr_biphase.specs.Packed.{turn_of}
use Rattle.fdr_biphase.proofs.Encoding.{byte_end, level_after_more}
use Rattle.fdr_biphase.proofs.Packing.{encoded_more}
use Rattle.fdr_biphase.proofs.Tabled.{ArePackedCells, each_byte, turned_cells}
use Rattle.fdr_biphase.proofs.encoder.turned.Goals as goal

are : (c : goal.After-turn_after) (level : Bool) → c.args.turn ≡ turn_of level
    → ArePackedCells level c.args.b (bit_xor (get_or CELLS c.from.result 0) c.args.turn) (eqb (bit_xor (get_or CELLS c.from.result 0) c.args.turn / 2 ^ 15) 1)
are c level is =
    let chosen = ap (λ (i : ℕ). bit_xor (get_or CELLS i 0) c.args.turn) c.from.ensures ∙ turned_cells level c.args.b c.args.turn c.ranges.b.fits is in
    subst (λ (word : ℕ). ArePackedCells level c.args.b word (eqb (word / 2 ^ 15) 1)) (sym chosen) (each_byte level c.args.b c.ranges.b.fits)

pub returns-clause-packed : goal.returns-clause-packed
returns-clause-packed c = λ first bytes is.
    let level = level_after first (bits_of_bytes bytes) in
    let h = are c level is in
    rw c.to_le_bytes.ensures (encoded_more first level _ bytes c.args.b _ _ refl h.low refl h.high)

pub returns-clause-stands : goal.returns-clause-stands
returns-clause-stands c = λ first bytes is.
    let level = level_after first (bits_of_bytes bytes) in
    c.turn_after.ensures
    ∙ ap turn_of (level_after_more first level _ bytes c.args.b refl (byte_end level _ _ c.args.b refl (are c level is).end))
