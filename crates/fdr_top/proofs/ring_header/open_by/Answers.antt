use Rattle.fdr_top.proofs.Salvages.{opened_by_header}
use Rattle.std.proofs.lemmas.Result.{IfOk-weaker}
use Rattle.fdr_top.proofs.ring_header.open_by.Goals as goal

pub returns-in-None-clause-opened : goal.returns-in-None-clause-opened
returns-in-None-clause-opened g c =
    rw c.in-None.is (IfOk-weaker c.open_image.result _ _ (λ r opened. opened_by_header _ _ _ _ r opened) c.open_image.ensures.opened)
