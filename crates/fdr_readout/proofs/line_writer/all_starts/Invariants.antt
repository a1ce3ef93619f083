use Rattle.std.proofs.Common.{◌≡◌, map}
use Rattle.std.specs.List.{range_with_len}
use Rattle.fdr_listing.specs.Text.{row_start_text}
use Rattle.fdr_readout.proofs.line_writer.all_starts.Given as goal

abbrev pub invariant-loop-counter : goal.invariant-loop-counter
invariant-loop-counter l = l.starts.items ≡ map row_start_text (range_with_len 0 l.counter)
