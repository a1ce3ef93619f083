use Rattle.fdr_readout.specs.Entries.{row_entries}
use Rattle.fdr_readout.proofs.entries.take_row.Goals as goal

pub returns-in-None-clause-all : goal.returns-in-None-clause-all
unfolding row_entries
returns-in-None-clause-all g c = rw c.in-None.is (g.met.T.Taker.laws.nothing c.args.table.now c.args.taker.now c.args.out.now)
