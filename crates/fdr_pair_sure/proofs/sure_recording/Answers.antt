use Rattle.std.proofs.Common.{refl, sym, ◌∙◌, arith}
use Rattle.std.proofs.lemmas.Bool.{false≢true}
use Rattle.fdr_pair_sure.proofs.sure_recording.Goals as goal

pub returns-clause-recording : goal.returns-clause-recording
returns-clause-recording c = λ fits accepted whole.
    (c.run_pair.ensures.runs (λ wrong. false≢true (sym wrong ∙ fits))).complete (c.args.table.now, refl, accepted, whole)
    (record { input = λ rose. omega (arith, rose); first = λ rose. omega (arith, rose); second = λ rose. omega (arith, rose) })
    (λ rose. omega (arith, rose))
