use Rattle.fdr_bus.proofs.GoodPrefix.{good_prefix-is_longest, IsGoodPrefix-only}
use Rattle.fdr_bus.proofs.law.good_prefix_is_longest.Goals as goal

pub returns-clause-longest : goal.returns-clause-longest
returns-clause-longest c = λ bytes. good_prefix-is_longest bytes

pub returns-clause-only : goal.returns-clause-only
returns-clause-only c = λ bytes records is. IsGoodPrefix-only bytes records is
