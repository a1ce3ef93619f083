use Rattle.std.proofs.Common.{rules}
use Rattle.fdr_listing.specs.Text.{row_place_text}
use Rattle.fdr_listing.proofs.ready.ShortText.row_place.Goals as goal

pub returns : goal.returns
unfolding row_place_text
returns c = search rules
