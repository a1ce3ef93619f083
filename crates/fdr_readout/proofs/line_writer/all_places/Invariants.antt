use Rattle.std.proofs.Common.{◌≡◌, map}
use Rattle.std.specs.List.{range_with_len}
use Rattle.fdr_readout.specs.Places.{place_text}
use Rattle.fdr_readout.proofs.line_writer.all_places.Given as goal

abbrev pub invariant-loop-place : goal.invariant-loop-place
invariant-loop-place l = l.places.items ≡ map place_text (range_with_len 0 l.place)
