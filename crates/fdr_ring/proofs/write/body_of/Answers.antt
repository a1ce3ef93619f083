use Rattle.fdr_ring.proofs.Placing.{body_front}
use Rattle.fdr_ring.proofs.write.body_of.Goals as goal

pub returns : goal.returns
returns c = body_front _ _ _ _ _ _ _ c.write_slot_head-head.ensures.bytes c.put.ensures c.put-2.ensures
