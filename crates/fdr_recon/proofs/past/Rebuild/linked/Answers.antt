use Rattle.std.proofs.Common.{◌∙◌, [], ap}
use Rattle.std.specs.Prelude.{nat_lt}
use Rattle.fdr_recon.specs.Kept.{RebuildKept}
use Rattle.fdr_recon.proofs.ApartFrames.{linked-stands}
use Rattle.fdr_recon.proofs.past.Rebuild.linked.Goals as goal

pub returns-clause-before : goal.returns-clause-before
returns-clause-before c = λ t stands.
    ap (λ (k : RebuildKept). nat_lt 0 k.joined) c.self.view_is ∙ linked-stands c.args.self.now t [] stands

pub returns-clause-linked : goal.returns-clause-linked
returns-clause-linked c = λ t past stands some.
    ap (λ (k : RebuildKept). nat_lt 0 k.joined) c.self.view_is ∙ linked-stands c.args.self.now t past stands
