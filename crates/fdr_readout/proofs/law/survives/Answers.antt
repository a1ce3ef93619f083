use Rattle.fdr_readout.proofs.Surviving.{surviving_run_listed, survives_itself}
use Rattle.fdr_readout.proofs.law.survives.Goals as goal

pub returns : goal.returns
returns c = record { listed = surviving_run_listed; itself = survives_itself }
