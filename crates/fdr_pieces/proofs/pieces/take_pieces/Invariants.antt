use Rattle.std.proofs.Common.{◌≡◌, ◌+◌, List, ℕ, length}
use Rattle.fdr_deck.specs.Calls.{LeavesDisk}
use Rattle.fdr_pieces.specs.Pieces.{LeavesStops, PullsPieces, before_last, last_piece}
use Rattle.fdr_pieces.proofs.pieces.take_pieces.Given as goal

abbrev pub invariant-loop-count : goal.invariant-loop-count
invariant-loop-count g l = record {
  taken : (bytes : List ℕ) × PullsPieces l.fn.limit g.D.Deck.tells (g.D.Deck.state l.fn.deck) (g.D.Deck.state l.deck) bytes
      × g.T.PieceTaker.took l.fn.taker l.fn.out (before_last l.fn.limit (g.D.Deck.state l.fn.deck) (g.D.Deck.state l.deck) bytes)
      (last_piece l.fn.limit (g.D.Deck.state l.fn.deck) (g.D.Deck.state l.deck) bytes) l.taker l.out
      × (length bytes + l.left ≡ l.fn.limit);
  disk : LeavesDisk (g.D.Deck.state l.fn.deck) (g.D.Deck.state l.deck);
  stops : LeavesStops g.D.Deck.tells (g.D.Deck.state l.fn.deck) (g.D.Deck.state l.deck);
  announced : (g.D.Deck.state l.deck).announced ≡ (g.D.Deck.state l.fn.deck).announced;
  no_fault : (g.D.Deck.state l.deck).input_faults ≡ (g.D.Deck.state l.fn.deck).input_faults;
}

abbrev pub decreases-loop-count : goal.decreases-loop-count
decreases-loop-count g l = l.left
