use Rattle.std.proofs.Common.{◌≡◌, ◌≤◌, ◌-◌, ℕ, List, [], length}
use Rattle.fdr_bus.specs.declared.BusRecord.{BusRecord}
use Rattle.fdr_deck.specs.Calls.{LeavesDisk}
use Rattle.fdr_table.specs.Rows.{TableRows}
use Rattle.fdr_trace.specs.Pulls.{PullsUntilDecided}
use Rattle.fdr_trace.specs.Reading.{RepresentsTrace}
use Rattle.fdr_top.specs.Streaming.{IsUnbegun, IsStreamed}
use Rattle.fdr_top.proofs.streaming.stream_records.Given as goal

abbrev pub invariant-loop-next : goal.invariant-loop-next
invariant-loop-next g l = record {
  streamed : (t : TableRows) → IsUnbegun l.fn.recording t →
      (bytes : List ℕ) × (records : List BusRecord) × PullsUntilDecided g.D.Deck.tells (g.D.Deck.state l.fn.deck) (g.D.Deck.state l.deck) [] bytes
      × RepresentsTrace l.recording.trace bytes records × IsStreamed l.recording.stream t records (g.O.Sink.written l.fn.out) (g.O.Sink.written l.out);
  room : length l.block ≡ 4096;
  no_fault : (g.D.Deck.state l.deck).input_faults ≡ (g.D.Deck.state l.fn.deck).input_faults;
  disk : LeavesDisk (g.D.Deck.state l.fn.deck) (g.D.Deck.state l.deck);
  announced : (g.D.Deck.state l.deck).announced ≡ (g.D.Deck.state l.fn.deck).announced;
  no_sink_fault : g.O.Sink.faults l.out ≡ g.O.Sink.faults l.fn.out;
  monotone : g.O.Sink.faults l.fn.out ≤ g.O.Sink.faults l.out;
}

abbrev pub decreases-loop-next : goal.decreases-loop-next
decreases-loop-next g l = 4294967296 - l.recording.trace.count
