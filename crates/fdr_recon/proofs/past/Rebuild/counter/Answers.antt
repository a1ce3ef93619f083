use Rattle.std.proofs.Common.{arith}
use Rattle.fdr_recon.specs.Rows.{counter_place}
use Rattle.fdr_recon.specs.View.{rebuild_kept}
use Rattle.fdr_recon.proofs.KeptWords.{kept_word-small}
use Rattle.fdr_recon.proofs.past.Rebuild.counter.Goals as goal

pub returns-then-back-eq0-clause-twelve_bits : goal.returns-then-back-eq0-clause-twelve_bits
returns-then-back-eq0-clause-twelve_bits c =
    omega (arith, c.self.invariant.last_counter, kept_word-small (rebuild_kept c.self.inside) 0 (counter_place c.self.inside.frame) c.self.invariant.words)
