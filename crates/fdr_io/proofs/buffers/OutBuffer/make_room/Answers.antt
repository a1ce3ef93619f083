use Rattle.std.proofs.Common.{[]}
use Rattle.std.proofs.lemmas.Result.{on_err_weaker, on_ok_weaker}
use Rattle.fdr_io.proofs.OutputSteps.{Emits-nil, Emits-waiting, EmitsPart-waiting}
use Rattle.fdr_io.proofs.buffers.OutBuffer.make_room.Goals as goal

pub returns-else-self-count-clause-all : goal.returns-else-self-count-clause-all
returns-else-self-count-clause-all g c = Emits-nil _ _
