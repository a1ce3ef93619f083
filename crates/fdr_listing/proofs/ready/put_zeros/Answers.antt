use Rattle.std.proofs.Common.{ap, ◌++◌, List, ℕ, ◌∙◌}
use Rattle.std.proofs.lemmas.List.{take-replicate}
use Rattle.fdr_listing.proofs.ready.put_zeros.Goals as goal

pub returns-clause-appended : goal.returns-clause-appended
returns-clause-appended c = c.put.ensures.appended ∙ ap (λ (x : List ℕ). c.args.buffer.now ++ x) (take-replicate c.args.zeros 9 48 c.requires.nine_zeros)
