use Rattle.std.proofs.Common.{refl, sym, ap, ◌∙◌}
use Rattle.fdr_resync.specs.Past.{ScannerKept}
use Rattle.fdr_resync.specs.View.{scanner_kept}
use Rattle.fdr_resync.proofs.Standing.{stands_seen, stands_frame, known_none}
use Rattle.fdr_resync.proofs.Taking.{all_decided}
use Rattle.fdr_resync.proofs.scanner.Scanner.take.Goals as goal

pub returns-else-self-clause-none : goal.returns-else-self-clause-none
returns-else-self-clause-none c = λ past st.
    let k = scanner_kept c.self.inside in
    let searched = c.if-seek.ensures.stands past (stands_frame k past (stands_seen k _ past c.self.view_is st)) in
    let going = sym (ap (λ (k : ScannerKept). k.ended) c.self-else-seek.view_is) ∙ c.if-self.false in
    (λ _. all_decided c.seek.new.self past searched c.if-seek.ensures.frame going, λ _. refl)

pub returns-else-self-clause-event : goal.returns-else-self-clause-event
returns-else-self-clause-event c = λ past st. sym (known_none past ((returns-else-self-clause-none c past st).0 refl))
