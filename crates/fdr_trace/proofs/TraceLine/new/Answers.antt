use Rattle.std.proofs.Common.{ap, refl}
use Rattle.fdr_trace.proofs.Records.{Reads-none}
use Rattle.fdr_trace.proofs.TraceLine.new.Goals as goal

pub returns : goal.returns
returns c = Reads-none _ (ap (λ b. b.items) (c.in_ok-waiting.ensures)) refl refl
