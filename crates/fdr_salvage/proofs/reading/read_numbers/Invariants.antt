use Rattle.std.proofs.Common.{◌≡◌, ◌<◌, ◌≤◌, length}
use Rattle.std.specs.Prelude.{All, IsTrue}
use Rattle.fdr_deck.specs.Calls.{HasOneAnnounced}
use Rattle.fdr_slot.specs.Limits.{sequence_end}
use Rattle.fdr_recover.specs.Looks.{Looks}
use Rattle.fdr_salvage.specs.Runs.{slot_numbers}
use Rattle.fdr_salvage.proofs.reading.read_numbers.Given as goal

abbrev pub invariant-loop-slot : goal.invariant-loop-slot
invariant-loop-slot g l = record {
  looks : Looks g.D.Deck.tells (g.D.Deck.state l.fn.deck) (g.D.Deck.state l.deck);
  faults : (g.D.Deck.state l.deck).disk_faults ≡ (g.D.Deck.state l.fn.deck).disk_faults;
  fresh : 0 < l.slot → HasOneAnnounced (g.D.Deck.state l.deck);
  rest : g.D.Deck.same_rest l.fn.deck l.deck;
  fit : All (λ number. number < sequence_end) l.numbers.items;
  few : length l.numbers.items ≤ l.slot;
  numbers : IsTrue g.D.Deck.tells.bytes → l.numbers.items ≡ slot_numbers l.h (g.D.Deck.state l.fn.deck).held l.slot;
}
