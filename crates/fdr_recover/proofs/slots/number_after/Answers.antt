use Rattle.std.proofs.Common.{rules}
use Rattle.fdr_deck.proofs.Composing.{refusal, calls}
use Rattle.fdr_recover.proofs.BlockLemmas.{numbers_after}
use Rattle.fdr_recover.proofs.slots.number_after.Goals as goal

pub returns-in_err-head : goal.returns-in_err-head
returns-in_err-head g c = rw (refusal _ _ c.from_residual.ensures.1) (search (rules, calls, c.in_err-head.ensures))

pub returns-then-is_valid : goal.returns-then-is_valid
returns-then-is_valid g c = search (rules, calls, numbers_after, c.in_ok-head.ensures, c.head_in.ensures)

pub returns-else-is_valid : goal.returns-else-is_valid
returns-else-is_valid g c = search (rules, calls, numbers_after, c.in_ok-head.ensures, c.head_in.ensures)
