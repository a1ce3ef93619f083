use Rattle.fdr_biphase.proofs.Standing.{stands_made}
use Rattle.fdr_biphase.proofs.decoder.Decoder.new.Goals as goal

pub returns-clause-stands : goal.returns-clause-stands
returns-clause-stands c = stands_made
