use Rattle.std.proofs.Common.{[], append-nil}
use Rattle.fdr_io.proofs.OutputSteps.{Emits-put, EmitsPart-longer, failed_or_not}
use Rattle.fdr_readout.specs.Listing.{row_line_of}
use Rattle.fdr_readout.specs.Entries.{entry_lines}
use Rattle.fdr_readout.proofs.line_writer.LineWriterTaker.row.Goals as goal

pub returns-clause-all : goal.returns-clause-all
unfolding entry_lines
returns-clause-all g c =
    rw (append-nil (row_line_of c.args.table.now c.args.row.now), ← c.self.view_is)
    (Emits-put _ _ _ _ _ _ c.in_ok-make_room.ensures.all c.put_row_line.ensures)

pub returns-in_err-make_room-clause-part : goal.returns-in_err-make_room-clause-part
returns-in_err-make_room-clause-part g c =
    failed_or_not c.from_residual.result (rw (← c.self.view_is) (EmitsPart-longer _ _ _ [] _ c.in_err-make_room.ensures.part))
