use Rattle.fdr_biphase.proofs.CellLemmas.{have_cells, only_cells}
use Rattle.fdr_biphase.proofs.law.cells_are_unique.Goals as goal

pub returns-clause-cells : goal.returns-clause-cells
returns-clause-cells c = have_cells

pub returns-clause-only : goal.returns-clause-only
returns-clause-only c = only_cells
