use Rattle.std.proofs.Common.{◌≡◌, ◌<◌, ◌-◌, List, ◌∷◌, length, take}
use Rattle.std.specs.List.{flat_map}
use Rattle.fdr_recon.specs.Past.{RepresentsRebuild, is_linked_at}
use Rattle.fdr_recon.specs.Rows.{ReadFrame, rows_looked_at}
use Rattle.fdr_readout.specs.Entries.{FrameEntry, row_entries}
use Rattle.fdr_readout.proofs.entries.take_frame.Given as goal

abbrev pub invariant-loop-i : goal.invariant-loop-i
invariant-loop-i g l = record {
  taken : (past : List ReadFrame) → 0 < length past → RepresentsRebuild l.rebuild l.table past
      → g.T.Taker.took l.table l.fn.taker l.fn.out l.taker l.out
      (FrameEntry (is_linked_at l.table.frame past (length past - 1)) ∷ flat_map row_entries (take l.i (rows_looked_at l.table past (length past - 1))));
  no_fault : g.O.Sink.faults l.out ≡ g.O.Sink.faults l.fn.out;
}
