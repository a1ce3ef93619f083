use Rattle.std.proofs.Common.{◌≡◌, ℕ, List, []}
use Rattle.fdr_bus.specs.declared.BusRecord.{BusRecord}
use Rattle.fdr_recorder.specs.Past.{RecordingPast, RepresentsRecording}
use Rattle.fdr_deck.specs.Pull.{KeepsInput}
use Rattle.fdr_recorder.specs.Supplied.{HasFed, IsBegun, past_fed}
use Rattle.fdr_recorder.specs.Supply.{RecordSupply}
use Rattle.fdr_recorder.proofs.recording.record_records.Given as goal

abbrev pub invariant-loop-next : goal.invariant-loop-next
invariant-loop-next g l = record {
  has : (from : RecordSupply) (past : RecordingPast) → g.S.RecordSource.gave from l.fn.source [] []
      → IsBegun g.D.Deck.tells l.fn.session past (g.D.Deck.state l.fn.deck) →
      (bytes : List ℕ) × (records : List BusRecord) × g.S.RecordSource.gave from l.source bytes records × RepresentsRecording l.session (past_fed past records)
      × HasFed g.D.Deck.tells (past_fed past records) bytes (g.D.Deck.state l.fn.deck) (g.D.Deck.state l.deck);
  no_fault : (g.D.Deck.state l.deck).input_faults ≡ (g.D.Deck.state l.fn.deck).input_faults;
  no_disk_fault : (g.D.Deck.state l.deck).disk_faults ≡ (g.D.Deck.state l.fn.deck).disk_faults;
  unpulled : g.S.RecordSource.is_still l.fn.source → g.S.RecordSource.is_still l.source × KeepsInput (g.D.Deck.state l.fn.deck) (g.D.Deck.state l.deck)
      × ((g.D.Deck.state l.deck).input_faults ≡ (g.D.Deck.state l.fn.deck).input_faults);
  extent : (g.D.Deck.state l.deck).extent ≡ (g.D.Deck.state l.fn.deck).extent;
}

abbrev pub decreases-loop-next : goal.decreases-loop-next
decreases-loop-next g l = g.S.RecordSource.left l.source
