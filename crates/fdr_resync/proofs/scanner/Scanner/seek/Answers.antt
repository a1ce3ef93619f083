use Rattle.std.proofs.Common.{◌++◌, ℕ, List, sym, subst}
use Rattle.fdr_sync.specs.Frames.{IsFramePosition}
use Rattle.fdr_resync.specs.View.{scanner_kept}
use Rattle.fdr_resync.proofs.Standing.{stands_seen, stands_searched}
use Rattle.fdr_resync.proofs.Windows.{clear_in_all}
use Rattle.fdr_resync.proofs.scanner.Scanner.seek.Goals as goal

pub returns-clause-stands : goal.returns-clause-stands
returns-clause-stands c = λ past st.
    let k = scanner_kept c.self.inside in
    let stood = stands_seen k _ past c.self.view_is st in
    stands_searched k past _ stood
    (clear_in_all k past c.reach-reached.result.at stood c.self.invariant.words c.self.invariant.behind
    (λ more q low high h. c.reach-reached.ensures.clear more q low high
    (subst (λ (b : List ℕ). IsFramePosition (b ++ more) k.words q) (sym c.deref.ensures.value) h)))
