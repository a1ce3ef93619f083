use Rattle.std.proofs.Common.{ap, subst, []}
use Rattle.circular_buffer.specs.Buffer.{Buffer}
use Rattle.fdr_exceed.specs.declared.rule.Rule.{Rule}
use Rattle.fdr_exceed.specs.declared.watch.Exceedance.{Exceedance}
use Rattle.fdr_exceed.specs.Watching.{AreHits, AreWindows}
use Rattle.std.proofs.Common.{List}
use Rattle.fdr_exceed.proofs.Standing.{stands-first}
use Rattle.fdr_exceed.proofs.watch.Watch.new.Goals as goal

pub returns-clause-stands : goal.returns-clause-stands
returns-clause-stands c =
    let made = c.in_ok-windows.field-0 in
    stands-first _ (subst (λ (rs : List Rule). AreHits rs [] c.in_ok-hits.hits.items) c.deref.ensures.value c.in_ok-hits.ensures.hits)
    (subst (λ (rs : List Rule). AreWindows rs made.sources.items [] made.windows.items) c.deref-2.ensures.value c.in_ok-windows.ensures.windows)
    (ap (λ (b : Buffer Exceedance). b.items) c.in_ok-due.ensures)
