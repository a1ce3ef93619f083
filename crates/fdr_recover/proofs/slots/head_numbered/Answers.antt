use Rattle.std.proofs.Common.{rules}
use Rattle.fdr_deck.proofs.Composing.{refusal, calls}
use Rattle.fdr_recover.proofs.BlockLemmas.{blocks_at}
use Rattle.fdr_recover.proofs.slots.head_numbered.Goals as goal

pub returns-in_err-head : goal.returns-in_err-head
returns-in_err-head g c = rw (refusal _ _ c.from_residual.ensures.1) (search (rules, calls, c.in_err-head.ensures))

pub returns-then-not-is_valid : goal.returns-then-not-is_valid
returns-then-not-is_valid g c = search (rules, calls, blocks_at, c.in_ok-head.ensures, c.head_in.ensures)

pub returns : goal.returns
returns g c = search (rules, calls, blocks_at, c.in_ok-head.ensures, c.head_in.ensures)
