use Rattle.std.proofs.Common.{ap, ◌∙◌}
use Rattle.fdr_table.specs.Rows.{FrameRow, TableRows}
use Rattle.fdr_layout.proofs.flat.words_of.Goals as goal

pub returns-clause-words : goal.returns-clause-words
returns-clause-words c = ap (λ (f : FrameRow). f.words) (c.result.view_is ∙ c.frame.ensures ∙ ap (λ (x : TableRows). x.frame) c.table.ensures)
