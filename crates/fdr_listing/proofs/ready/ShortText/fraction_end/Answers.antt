use Rattle.std.proofs.Common.{rules}
use Rattle.fdr_listing.specs.Numbers.{fraction_end}
use Rattle.fdr_listing.proofs.ready.ShortText.fraction_end.Goals as goal

pub returns : goal.returns
unfolding fraction_end
returns c = search rules
