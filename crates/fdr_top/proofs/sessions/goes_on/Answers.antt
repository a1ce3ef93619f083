use Rattle.std.proofs.Common.{arith, rules}
use Rattle.fdr_top.proofs.sessions.goes_on.Goals as goal

pub returns-then-reader-ne2-clause-yes : goal.returns-then-reader-ne2-clause-yes
returns-then-reader-ne2-clause-yes c = search rules

pub returns-then-reader-ne2-clause-second : goal.returns-then-reader-ne2-clause-second
returns-then-reader-ne2-clause-second c = search rules

pub returns-then-reader-ne2-clause-another : goal.returns-then-reader-ne2-clause-another
returns-then-reader-ne2-clause-another c = search rules

pub returns-else-reader-ne2-clause-yes : goal.returns-else-reader-ne2-clause-yes
returns-else-reader-ne2-clause-yes c = search rules

pub returns-else-reader-ne2-clause-second : goal.returns-else-reader-ne2-clause-second
returns-else-reader-ne2-clause-second c = omega arith

pub returns-else-reader-ne2-clause-another : goal.returns-else-reader-ne2-clause-another
returns-else-reader-ne2-clause-another c = search rules
