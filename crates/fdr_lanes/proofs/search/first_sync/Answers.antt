use Rattle.std.proofs.Common.{◌≡◌, ⊎_elim, sym, ◌∙◌, arith}
use Rattle.std.proofs.lemmas.Bool.{cases_lt}
use Rattle.fdr_bits.specs.Bits.{word_at}
use Rattle.fdr_lanes.proofs.search.first_sync.Goals as goal
use Rattle.fdr_lanes.proofs.search.first_sync.Goals.{then-p-eq0, else-p-eq0}

pub returns-then-word12-clause-found : goal.returns-then-word12-clause-found
returns-then-word12-clause-found c =
    let b = c.args.bytes.now in
    let p = c.if-p-eq0.p in
    let is : word_at b p ≡ 583 = sym c.word12.ensures.value ∙ c.if-word12.true in
    elim c.if-p-eq0.branch [
      | then-p-eq0 w ↦ record {
        behind = omega arith;
        position = (omega arith, is);
        first = λ q low high.
            ⊎_elim (λ h. c.loop-p.invariant.1 q low h) (λ h. w.next_candidate.ensures.none q (omega arith) (omega arith)) (cases_lt q c.loop-p.p);
      }
      | else-p-eq0 w ↦ record { behind = omega arith; position = (omega arith, is); first = λ q low high. c.loop-p.invariant.1 q low (omega arith) }
    ]
