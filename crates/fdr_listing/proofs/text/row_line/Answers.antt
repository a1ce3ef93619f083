use Rattle.std.proofs.Common.{rules}
use Rattle.fdr_listing.specs.Text.{row_text}
use Rattle.fdr_listing.proofs.text.row_line.Goals as goal

pub returns : goal.returns
unfolding row_text
returns c = search rules
