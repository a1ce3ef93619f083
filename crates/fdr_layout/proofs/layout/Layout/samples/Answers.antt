use Rattle.std.proofs.Common.{refl, arith}
use Rattle.fdr_layout.proofs.Reading.{samples_counted}
use Rattle.fdr_layout.proofs.layout.Layout.samples.Goals as goal

pub overflow_cast-result : goal.overflow_cast-result
overflow_cast-result c =
    let l = c.self.inside.lists in
    omega (arith, samples_counted l _ refl, c.len.ensures, l.sample_starts.ok.0, c.self.invariant.stands.sample_count)

pub returns : goal.returns
returns c =
    let l = c.self.inside.lists in
    omega (arith, samples_counted l c.args.self.now c.self.view_is, c.len.ensures, l.sample_starts.ok.0)
