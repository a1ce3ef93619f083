use Rattle.std.proofs.Common.{◌≡◌, take, map, None}
use Rattle.std.specs.List.{enumerate_from}
use Rattle.fdr_table.specs.Reading.{first_some}
use Rattle.fdr_check.specs.Walks.{AreMarks}
use Rattle.fdr_check.proofs.Overlapping.{overlap_by_index}
use Rattle.fdr_check.proofs.overlap.overlap_among.Given as goal

abbrev pub invariant-loop-index : goal.invariant-loop-index
invariant-loop-index l = record {
  marks : AreMarks l.words (take l.index l.places) l.marks.items;
  none : first_some (map (overlap_by_index l.words l.places) (enumerate_from 0 (take l.index l.places))) ≡ None;
}
