use Rattle.std.proofs.Common.{◌≡◌}
use Rattle.fdr_deck.proofs.MemoryStops.{IsLeft, image_before}
use Rattle.fdr_twin.specs.TwinMemory.{entries_on}
use Rattle.fdr_twin.proofs.stops.stop_before.Given as goal

abbrev pub invariant-loop-entry : goal.invariant-loop-entry
invariant-loop-entry l = record {
  left : IsLeft (entries_on l.side l.entries) l.first l.entry-index l.held.items l.left.items;
  image : l.left.items ≡ image_before l.tear (entries_on l.side l.entries) l.first l.entry-index;
}
