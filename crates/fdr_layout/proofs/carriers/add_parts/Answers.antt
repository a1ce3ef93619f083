use Rattle.fdr_layout.proofs.Carrying.{parts_more}
use Rattle.fdr_layout.proofs.carriers.add_parts.Goals as goal

pub loop-carrier-preserved : goal.loop-carrier-preserved
loop-carrier-preserved c =
    parts_more c.args.number c.args.index c.args.carriers.now c.loop-carrier.carrier-index c.carrier-item.result c.args.parts.now.items _ _
    c.loop-carrier-test.true c.carrier-item.is c.loop-carrier.invariant c.in_ok-add_part.ensures
