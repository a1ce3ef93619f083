use Rattle.std.proofs.Common.{sym, ◌∙◌}
use Rattle.fdr_check.proofs.Overlapping.{none_by_marks, none_of}
use Rattle.fdr_check.proofs.overlap.overlap_of.Goals as goal

pub returns-then-is_none : goal.returns-then-is_none
returns-then-is_none c =
    sym (none_by_marks c.args.words c.args.above.now c.args.place.now c.args.marks.now c.requires.marks.each
    (sym c.first_marked.ensures ∙ none_of c.first_marked.result c.if-is_none.ensures))
