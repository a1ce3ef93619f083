use Rattle.std.proofs.Common.{rules}
use Rattle.fdr_listing.specs.Text.{row_start_text}
use Rattle.fdr_listing.proofs.ready.ShortText.row_start.Goals as goal

pub returns : goal.returns
unfolding row_start_text
returns c = search rules
