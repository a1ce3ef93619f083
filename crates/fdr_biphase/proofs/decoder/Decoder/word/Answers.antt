use Rattle.std.proofs.Common.{◌*◌, ℕ, ap, sym, ◌∙◌, bit_and}
use Rattle.std.specs.Int.{bit_at}
use Rattle.fdr_biphase.proofs.Turns.{taken_between, taken_whole}
use Rattle.fdr_biphase.proofs.decoder.Decoder.word.Goals.{then-self-phase, else-self-phase}
use Rattle.fdr_biphase.proofs.decoder.Decoder.word.Goals as goal

pub returns-clause-stands : goal.returns-clause-stands
returns-clause-stands c = λ past st. elim c.if-self-phase.branch [
  | then-self-phase w ↦ taken_whole c.args.self.now past c.in-One.phase c.args.levels c.turns-turns.result c.even_bits.result st c.in-One.is
      w.if-self-phase.true c.ranges.levels.fits c.turns-turns.ensures
      (ap (λ (p : ℕ × ℕ). bit_and p.0 6148914691236517205) (sym w.begins-is) ∙ c.if-begins-ne-EVEN.false)
      (λ i low. c.even_bits.ensures i low ∙ ap (λ (p : ℕ × ℕ). bit_at p.1 (2 * i)) w.begins-is)
  | else-self-phase w ↦ taken_between c.args.self.now past c.in-One.phase c.args.levels c.turns-turns.result c.even_bits.result st c.in-One.is
      w.if-self-phase.false c.ranges.levels.fits c.turns-turns.ensures
      (ap (λ (p : ℕ × ℕ). bit_and p.0 6148914691236517205) (sym w.begins-is) ∙ c.if-begins-ne-EVEN.false)
      (λ i low. c.even_bits.ensures i low ∙ ap (λ (p : ℕ × ℕ). bit_at p.1 (2 * i)) w.begins-is)
]
