use Rattle.std.proofs.Common.{◌≡◌, ℕ, List, ◌++◌}
use Rattle.fdr_sync.specs.Events.{Event}
use Rattle.fdr_resync.specs.Past.{ScannerPast, scanner_with_events, bits_left, bytes_pushed}
use Rattle.fdr_readout.specs.Entries.{Entry}
use Rattle.fdr_readout.specs.Reading.{MayGoOn, ReadsEvents, entries_in}
use Rattle.fdr_readout.proofs.entries.take_known.Given as goal

abbrev pub invariant-loop-event : goal.invariant-loop-event
invariant-loop-event g l = record {
  taken : (past : ScannerPast) → ReadsEvents l.table l.fn.reader past → (es : List Event) × (entries : List Entry)
      × ReadsEvents l.table l.reader (scanner_with_events past es)
      × g.T.Taker.took l.table l.fn.taker l.fn.out l.taker l.out entries
      × ((more : List ℕ) → MayGoOn past more
      → entries_in l.table (past.bytes ++ more) (past.taken ++ es) ≡ entries_in l.table (past.bytes ++ more) past.taken ++ entries);
  pushed : bytes_pushed l.reader.scanner ≡ bytes_pushed l.fn.reader.scanner;
  ended : l.reader.scanner.ended ≡ l.fn.reader.scanner.ended;
  no_fault : g.O.Sink.faults l.out ≡ g.O.Sink.faults l.fn.out;
}

abbrev pub decreases-loop-event : goal.decreases-loop-event
decreases-loop-event g l = bits_left l.reader.scanner
