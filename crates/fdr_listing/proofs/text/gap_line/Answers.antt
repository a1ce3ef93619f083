use Rattle.std.proofs.Common.{rules}
use Rattle.fdr_listing.specs.Text.{gap_text}
use Rattle.fdr_listing.proofs.text.gap_line.Goals as goal

pub returns : goal.returns
unfolding gap_text
returns c = search rules
