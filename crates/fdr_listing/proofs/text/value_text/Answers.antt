use Rattle.std.proofs.Common.{rules}
use Rattle.fdr_listing.specs.Text.{value_text}
use Rattle.fdr_listing.proofs.text.value_text.Goals as goal

pub returns-clause-text : goal.returns-clause-text
unfolding value_text
returns-clause-text c = search rules
