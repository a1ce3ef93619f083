use Rattle.std.proofs.Common.{List, ap, subst}
use Rattle.fdr_sampler.specs.Held.{Source}
use Rattle.fdr_sampler.specs.Kept.{SamplerKept, HasHeld}
use Rattle.fdr_sampler.specs.View.{sampler_kept}
use Rattle.fdr_sampler.proofs.Standing.{Stands-held}
use Rattle.fdr_sampler.proofs.sampler.Sampler.bus.Goals as goal

pub returns-clause-held : goal.returns-clause-held
returns-clause-held c =
    let Kept : List Source → SamplerKept = λ sources. record (sampler_kept c.self.inside) { sources = sources; held = c.hold.new.self.words } in
    subst (λ (k : SamplerKept). HasHeld k (Kept c.hold.new.self.sources) c.args.r.now) c.self.view_is
    (record { others = ap Kept c.hold.ensures.sources; words = c.hold.ensures.words })

pub returns-clause-stands : goal.returns-clause-stands
returns-clause-stands c = λ past st may. Stands-held c.args.self.now _ past c.args.r.now st may (returns-clause-held c)
