use Rattle.std.proofs.Common.{◌≡◌, ◌+◌, ◌-◌, ◌*◌, ◌<◌, ◌≤◌, sym, ap, ◌∙◌, subst, arith}
use Rattle.fdr_sync.specs.Frames.{IsFramePosition}
use Rattle.fdr_sync.proofs.FrameLemmas.{frame_within}
use Rattle.fdr_sync.proofs.FrameSteps.{word_count_some}
use Rattle.fdr_resync.specs.Past.{ScannerKept, bytes_pushed, bits_left}
use Rattle.fdr_resync.specs.View.{scanner_kept}
use Rattle.fdr_resync.proofs.Standing.{stands_seen}
use Rattle.fdr_resync.proofs.Taking.{IsAtFrame, gap_next, gap_taken, frame_next, frame_taken}
use Rattle.fdr_resync.proofs.scanner.Scanner.next_event.Goals as goal

at_frame : (k l : ScannerKept) → k ≡ l → IsFramePosition l.window l.words (l.from - 8 * l.before) → IsAtFrame k
at_frame k l is h = record { frame = subst (λ (k : ScannerKept). IsFramePosition k.window k.words (k.from - 8 * k.before)) (sym is) h }

pub returns-then-self-at-clause-event : goal.returns-then-self-at-clause-event
returns-then-self-at-clause-event c = λ past st.
    gap_next (scanner_kept c.self.inside) past _ (stands_seen (scanner_kept c.self.inside) _ past c.self.view_is st) c.self.invariant
    (at_frame (scanner_kept c.self.inside) _ c.self.view_is c.requires) c.if-self-at.true

pub returns-then-self-at-clause-stands : goal.returns-then-self-at-clause-stands
returns-then-self-at-clause-stands c = λ past none st.
    gap_taken (scanner_kept c.self.inside) past _ _ (stands_seen (scanner_kept c.self.inside) _ past c.self.view_is st) c.self.invariant
    (at_frame (scanner_kept c.self.inside) _ c.self.view_is c.requires) c.if-self-at.true
    (ap (λ (k : ScannerKept). k.frame) c.self.view_is ∙ none)

pub invariant_of-self-2 : goal.invariant_of-self-2
invariant_of-self-2 c =
    let k = scanner_kept c.self.inside in
    let at = at_frame k _ c.self.view_is c.requires in
    let within = frame_within k.window k.words (k.from - 8 * k.before) at.frame in
    let end : c.self.inside.from + 48 * c.from.result ≡ k.from + 48 * k.words = omega (arith, c.from.ensures) in
    record {
      words = c.self.invariant.words;
      room = c.self.invariant.room;
      window = c.self.invariant.window;
      order = omega arith;
      behind = omega (arith, c.self.invariant.behind);
      within = omega (arith, within, end, c.self.invariant.behind);
      limit = c.self.invariant.limit;
      frame_behind = λ x is. let here : k.from ≡ x = cc in omega (arith, here, c.self.invariant.behind);
      frame_within = λ x is. let here : k.from ≡ x = cc in omega (arith, here, within, c.self.invariant.behind);
    }

pub returns-clause-event : goal.returns-clause-event
returns-clause-event c = λ past st.
    frame_next (scanner_kept c.self.inside) past _ (stands_seen (scanner_kept c.self.inside) _ past c.self.view_is st) c.self.invariant
    (at_frame (scanner_kept c.self.inside) _ c.self.view_is c.requires) c.if-self-at.false

pub returns-clause-stands : goal.returns-clause-stands
returns-clause-stands c = λ past none st.
    let end : c.self.inside.from + 48 * c.from.result ≡ c.self.inside.from + 48 * c.self.inside.words = omega (arith, c.from.ensures) in
    frame_taken (scanner_kept c.self.inside) past _ _ (stands_seen (scanner_kept c.self.inside) _ past c.self.view_is st) c.self.invariant
    (at_frame (scanner_kept c.self.inside) _ c.self.view_is c.requires) c.if-self-at.false end

pub returns-clause-nearer : goal.returns-clause-nearer
returns-clause-nearer c =
    let k = scanner_kept c.self.inside in
    let next = c.self.inside.from + 48 * c.from.result in
    let within : next ≤ 8 * bytes_pushed k = (invariant_of-self-2 c).within in
    let some = word_count_some k.words c.self.invariant.words in
    let P : ScannerKept → Type 0 = λ l. 8 * bytes_pushed k - next < bits_left l in
    subst P c.self.view_is (omega (arith, within, some, c.from.ensures, c.self.invariant.order))
