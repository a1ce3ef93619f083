use Rattle.std.proofs.Common.{◌≡◌, ◌-◌, ◌<◌, ◌≤◌}
use Rattle.std.specs.Prelude.{IsTrue}
use Rattle.fdr_deck.specs.Calls.{HasOneAnnounced}
use Rattle.fdr_recover.specs.Images.{block_in, session_at}
use Rattle.fdr_recover.specs.Looks.{Looks}
use Rattle.fdr_recover.proofs.Walking.{AllStand}
use Rattle.fdr_recover.proofs.run.run_below.Given as goal

abbrev pub invariant-loop-first : goal.invariant-loop-first
invariant-loop-first g l = record {
  looks : Looks g.D.Deck.tells (g.D.Deck.state l.fn.deck) (g.D.Deck.state l.deck);
  faults : (g.D.Deck.state l.deck).disk_faults ≡ (g.D.Deck.state l.fn.deck).disk_faults;
  fresh : HasOneAnnounced (g.D.Deck.state l.fn.deck) → HasOneAnnounced (g.D.Deck.state l.deck);
  rest : g.D.Deck.same_rest l.fn.deck l.deck;
  order : l.first ≤ l.next;
  above : l.lowest ≤ l.first;
  stand : IsTrue g.D.Deck.tells.bytes → AllStand l.h.slots (block_in l.h (g.D.Deck.state l.fn.deck).held) l.first l.next;
  unread : l.first ≡ l.next → l.session ≡ 0;
  session : IsTrue g.D.Deck.tells.bytes → l.first < l.next → l.session ≡ session_at l.h (g.D.Deck.state l.fn.deck).held (l.next - 1);
  old_version : l.h.version ≡ 1 → l.session ≡ 0;
}

abbrev pub decreases-loop-first : goal.decreases-loop-first
decreases-loop-first g l = l.first
