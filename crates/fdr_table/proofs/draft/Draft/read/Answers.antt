use Rattle.std.proofs.Common.{[], subst, sym}
use Rattle.fdr_table.specs.Draft.{IsDraft}
use Rattle.fdr_table.specs.DraftRows.{DraftRows}
use Rattle.fdr_table.proofs.DraftFacts.{no-rows}
use Rattle.fdr_table.proofs.draft.Draft.read.Goals as goal

pub take_rows-requires-clause-empty : goal.take_rows-requires-clause-empty
take_rows-requires-clause-empty c = subst (λ (d : DraftRows). IsDraft [] d) (sym c.new-draft.ensures) no-rows
