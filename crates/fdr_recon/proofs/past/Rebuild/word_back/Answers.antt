use Rattle.std.proofs.Common.{◌<◌, sym, ◌∙◌, ap, subst}
use Rattle.std.specs.Prelude.{unwrap_or}
use Rattle.fdr_recon.specs.Kept.{RebuildKept, word_back}
use Rattle.fdr_recon.specs.View.{rebuild_kept}
use Rattle.fdr_recon.proofs.KeptWords.{word_back-read, word_back-small}
use Rattle.fdr_recon.proofs.past.Rebuild.word_back.Goals as goal

pub returns-clause-word : goal.returns-clause-word
returns-clause-word c =
    c.unwrap_or.ensures ∙ ap (λ o. unwrap_or o 0) (c.copied.ensures ∙ c.nth_back.ensures) ∙ word_back-read (rebuild_kept c.self.inside) c.args.count
    ∙ ap (λ (k : RebuildKept). word_back k c.args.count) c.self.view_is

pub returns-clause-twelve_bits : goal.returns-clause-twelve_bits
returns-clause-twelve_bits c =
    subst (λ word. word < 4096)
    (sym (c.unwrap_or.ensures ∙ ap (λ o. unwrap_or o 0) (c.copied.ensures ∙ c.nth_back.ensures) ∙ word_back-read (rebuild_kept c.self.inside) c.args.count))
    (word_back-small (rebuild_kept c.self.inside) c.args.count c.self.invariant.words)
