use Rattle.std.proofs.Common.{◌≡◌, ℕ, List, [], ◌∷◌, ◌++◌, length, Option}
use Rattle.fdr_io.specs.Told.{followed_by}
use Rattle.fdr_bus.specs.declared.BusRecord.{BusRecord}
use Rattle.fdr_table.specs.Rows.{TableRows}
use Rattle.fdr_stream.specs.Past.{RepresentsStream}
use Rattle.fdr_top.specs.Streaming.{past_of, due_text, ComesNext}
use Rattle.fdr_top.proofs.Blocks.{IsGiving, blocks_text}
use Rattle.fdr_top.proofs.streaming.write_record.Given as goal

abbrev pub invariant-loop-i : goal.invariant-loop-i
invariant-loop-i g l = record {
  giving : (t : TableRows) (records : List BusRecord) → RepresentsStream l.fn.stream (past_of t records) → ComesNext records l.next →
      (begun : Option BusRecord) × (blocks : ℕ) × IsGiving l.stream t records l.next l.i begun blocks
      × ((before : Option (List ℕ)) → g.O.Sink.written l.fn.out ≡ followed_by before (due_text t records)
      → g.O.Sink.written l.out ≡ followed_by before (blocks_text t (records ++ l.next ∷ []) blocks));
  room : length l.block ≡ 4096;
  no_fault : g.O.Sink.faults l.out ≡ g.O.Sink.faults l.fn.out;
}
