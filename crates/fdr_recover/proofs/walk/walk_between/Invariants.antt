use Rattle.std.proofs.Common.{◌≡◌, ℕ, ◌+◌, ◌-◌, ◌*◌, ◌≤◌, List, length}
use Rattle.std.specs.Prelude.{IsTrue}
use Rattle.fdr_slot.specs.Limits.{most_payload_bytes}
use Rattle.fdr_recover.specs.Blocks.{Block}
use Rattle.fdr_recover.specs.Images.{blocks_between}
use Rattle.fdr_recover.specs.Looks.{Looks}
use Rattle.fdr_recover.specs.Payloads.{payloads_of}
use Rattle.fdr_recover.proofs.walk.walk_between.Given as goal

abbrev pub invariant-loop-number : goal.invariant-loop-number
invariant-loop-number g l = record {
  looks : Looks g.D.Deck.tells (g.D.Deck.state l.fn.deck) (g.D.Deck.state l.deck);
  rest : g.D.Deck.same_rest l.fn.deck l.deck;
  disk_work : g.O.Sink.faults l.out ≡ g.O.Sink.faults l.fn.out;
  no_disk_fault : (g.D.Deck.state l.deck).disk_faults ≡ (g.D.Deck.state l.fn.deck).disk_faults;
  end : l.number ≤ l.fn.first + (l.fn.next - l.fn.first);
  taken : (blocks : List Block) × g.T.BlockTaker.has_taken l.fn.taker l.fn.out blocks l.taker l.out
      × (length (payloads_of blocks) ≤ (l.number - l.fn.first) * most_payload_bytes)
      × (IsTrue g.D.Deck.tells.bytes → blocks ≡ blocks_between l.h (g.D.Deck.state l.fn.deck).held l.fn.first l.number);
}
