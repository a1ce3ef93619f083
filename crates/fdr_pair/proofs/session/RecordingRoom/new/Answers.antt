use Rattle.std.proofs.Common.{arith}
use Rattle.std.proofs.lemmas.Grind.{elements}
use Rattle.fdr_pair.proofs.session.RecordingRoom.new.Goals as goal

pub returns : goal.returns
returns c = grind (arith, elements) steps 2000000
