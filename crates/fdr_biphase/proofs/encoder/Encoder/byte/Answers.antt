use Rattle.std.proofs.Common.{◌≡◌, ◌-◌, ◌/◌, ◌^◌, ℕ, Bool, get_or, sym, ap, ◌∙◌, refl, subst, eqb}
use Rattle.fdr_biphase.specs.declared.encoder.TheConstants.{CELLS}
use Rattle.fdr_biphase.proofs.Encoding.{byte_cells, byte_end, cells_of_more, level_after_more}
use Rattle.fdr_biphase.proofs.Packing.{encoded_more}
use Rattle.fdr_biphase.proofs.Tabled.{ArePackedCells, cells_after, each_byte}
use Rattle.fdr_biphase.proofs.encoder.Encoder.byte.Goals.{After-to_le_bytes, then-self, else-self}
use Rattle.fdr_biphase.proofs.encoder.Encoder.byte.Goals as goal

-- the word is that of the table
chosen : (c : After-to_le_bytes) → c.if-self.cells ≡ cells_after c.args.self.now.level c.args.b
chosen c = elim c.if-self.branch [
  | then-self w ↦ w.cells-is ∙ ap (λ (i : ℕ). 65535 - get_or CELLS i 0) c.from.ensures ∙ ap (λ (l : Bool). cells_after l c.args.b) (sym w.if-self.true)
  | else-self w ↦ w.cells-is ∙ ap (λ (i : ℕ). get_or CELLS i 0) c.from.ensures ∙ ap (λ (l : Bool). cells_after l c.args.b) (sym w.if-self.false)
]

are : (c : After-to_le_bytes) → ArePackedCells c.args.self.now.level c.args.b c.if-self.cells (eqb (c.if-self.cells / 2 ^ 15) 1)
are c = subst (λ (word : ℕ). ArePackedCells c.args.self.now.level c.args.b word (eqb (word / 2 ^ 15) 1)) (sym (chosen c))
    (each_byte c.args.self.now.level c.args.b c.ranges.b.fits)

pub returns-clause-cells : goal.returns-clause-cells
returns-clause-cells c =
    let at = (goal.at.returns-clause-cells c).After-to_le_bytes in
    let h = are at in
    rw c.to_le_bytes.ensures (byte_cells c.args.self.now.level _ c.args.b _ _ h.low refl h.high)

pub returns-clause-next : goal.returns-clause-next
returns-clause-next c = λ first bytes st. cells_of_more first c.args.self.now.level bytes c.args.b _ st.level (returns-clause-cells c)

pub returns-clause-stands : goal.returns-clause-stands
returns-clause-stands c = λ first bytes st. record {
  level = level_after_more first c.args.self.now.level _ bytes c.args.b st.level
      (byte_end c.args.self.now.level _ _ c.args.b refl (are (goal.at.returns-clause-stands c).After-to_le_bytes).end);
}

pub returns-clause-packed : goal.returns-clause-packed
returns-clause-packed c = λ first bytes st.
    let at = (goal.at.returns-clause-packed c).After-to_le_bytes in
    let h = are at in
    rw c.to_le_bytes.ensures (encoded_more first c.args.self.now.level _ bytes c.args.b _ _ st.level h.low refl h.high)
