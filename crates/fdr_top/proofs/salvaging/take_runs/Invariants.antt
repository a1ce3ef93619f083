use Rattle.std.proofs.Common.{◌≡◌, take}
use Rattle.std.specs.Prelude.{IsTrue}
use Rattle.fdr_recover.specs.Looks.{Looks}
use Rattle.fdr_resync.specs.Past.{ScannerPast}
use Rattle.fdr_readout.specs.Reading.{ReadsEvents}
use Rattle.fdr_top.specs.Salvage.{entries_in_runs}
use Rattle.fdr_top.proofs.salvaging.take_runs.Given as goal

abbrev pub invariant-loop-run : goal.invariant-loop-run
invariant-loop-run g l = record {
  looks : Looks g.D.Deck.tells (g.D.Deck.state l.fn.deck) (g.D.Deck.state l.deck);
  no_disk_fault : (g.D.Deck.state l.deck).disk_faults ≡ (g.D.Deck.state l.fn.deck).disk_faults;
  no_fault : g.O.Sink.faults l.out ≡ g.O.Sink.faults l.fn.out;
  reads : (past : ScannerPast) × ReadsEvents l.blocks.table.now l.blocks.events past;
  table : l.blocks.table ≡ l.fn.blocks.table;
  version : l.blocks.version ≡ l.fn.blocks.version;
  taken : IsTrue g.D.Deck.tells.bytes → g.T.Taker.took l.fn.blocks.table.now l.fn.blocks.taker l.fn.out l.blocks.taker l.out
      (entries_in_runs l.fn.blocks.table.now l.header (g.D.Deck.state l.fn.deck).held (take l.run-index l.runs));
}
