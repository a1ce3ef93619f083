use Rattle.std.proofs.Common.{◌≡◌, ◌<◌, ◌≤◌}
use Rattle.std.specs.Prelude.{IsTrue}
use Rattle.fdr_deck.specs.Calls.{HasOneAnnounced}
use Rattle.fdr_slot.specs.Limits.{sequence_end}
use Rattle.fdr_recover.specs.Blocks.{next_among}
use Rattle.fdr_recover.specs.Images.{block_in}
use Rattle.fdr_recover.specs.Looks.{Looks}
use Rattle.fdr_recover.proofs.run.next_number.Given as goal

abbrev pub invariant-loop-slot : goal.invariant-loop-slot
invariant-loop-slot g l = record {
  looks : Looks g.D.Deck.tells (g.D.Deck.state l.fn.deck) (g.D.Deck.state l.deck);
  faults : (g.D.Deck.state l.deck).disk_faults ≡ (g.D.Deck.state l.fn.deck).disk_faults;
  fresh : 0 < l.slot → HasOneAnnounced (g.D.Deck.state l.deck);
  rest : g.D.Deck.same_rest l.fn.deck l.deck;
  bound : l.next ≤ sequence_end;
  next : IsTrue g.D.Deck.tells.bytes → l.next ≡ next_among l.slot (block_in l.h (g.D.Deck.state l.fn.deck).held);
}
