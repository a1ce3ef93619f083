use Rattle.std.proofs.Common.{rules}
use Rattle.fdr_exceed.specs.Lines.{exceed_text}
use Rattle.fdr_exceed.proofs.text.exceed_line.Goals as goal

pub returns : goal.returns
unfolding exceed_text
returns c = search rules
