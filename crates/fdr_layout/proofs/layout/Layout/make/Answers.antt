use Rattle.fdr_layout.proofs.Laying.{laid_made, kept_made}
use Rattle.fdr_layout.proofs.layout.Layout.make.Goals as goal

pub invariant_of-result : goal.invariant_of-result
invariant_of-result c = kept_made c.args.t.now _ c.in_ok-flat_lists.ensures c.holds.ensures.sound

pub returns : goal.returns
returns c = laid_made c.args.t.now _ c.in_ok-flat_lists.ensures
