use Rattle.fdr_readout.proofs.Surviving.{survives_elsewhere, rows_in_both, lines_in_both}
use Rattle.fdr_readout.proofs.law.damage_elsewhere.Goals as goal

pub returns : goal.returns
returns c = record { survives = survives_elsewhere; rows = rows_in_both; frames = lines_in_both }
