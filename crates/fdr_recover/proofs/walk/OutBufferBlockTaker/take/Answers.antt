use Rattle.fdr_io.proofs.OutputSteps.{Emits-then, EmitsPart-longer, EmitsPart-then}
use Rattle.fdr_recover.proofs.Between.{block_with, payloads-push, payloads-push_more}
use Rattle.fdr_recover.proofs.Handing.{ok_then, err_then}
use Rattle.fdr_recover.proofs.walk.OutBufferBlockTaker.take.Goals as goal

pub returns-clause-all : goal.returns-clause-all
returns-clause-all g c =
    ok_then _ _ c.add.result
    (λ emits first out_first blocks had. rw (payloads-push blocks (block_with c.args._number c.args._session c.args.payload.now))
    (Emits-then _ _ _ _ _ _ _ _ had emits)) c.add.ensures.all

pub returns-clause-part : goal.returns-clause-part
returns-clause-part g c =
    err_then _ _ c.add.result
    (λ part first out_first blocks more had.
    rw (payloads-push_more blocks (block_with c.args._number c.args._session c.args.payload.now) more)
    (EmitsPart-longer _ _ _ _ _ (EmitsPart-then _ _ _ _ _ _ _ had part))) c.add.ensures.part
