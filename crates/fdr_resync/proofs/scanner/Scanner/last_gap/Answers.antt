use Rattle.std.proofs.Common.{◌≡◌, ◌+◌, ◌*◌, ◌<◌, ◌≤◌, refl, sym, ap, ◌∙◌, subst, arith}
use Rattle.fdr_resync.specs.Past.{ScannerKept, bytes_pushed}
use Rattle.fdr_resync.specs.View.{scanner_kept}
use Rattle.fdr_resync.proofs.Standing.{stands_seen, known_none, known_not_all}
use Rattle.fdr_resync.proofs.Taking.{all_ended, last_next, last_taken}
use Rattle.fdr_resync.proofs.scanner.Scanner.last_gap.Goals as goal
use Rattle.fdr_resync.proofs.scanner.Scanner.last_gap.Goals.{Else-self-end}

searched : (k seen : ScannerKept) → k ≡ seen → 8 * bytes_pushed seen < seen.from + 48 * seen.words → 8 * bytes_pushed k < k.from + 48 * k.words
searched k seen is h = subst (λ (k : ScannerKept). 8 * bytes_pushed k < k.from + 48 * k.words) (sym is) h

pub returns-then-self-end-clause-none : goal.returns-then-self-end-clause-none
returns-then-self-end-clause-none c = λ past st.
    let k = scanner_kept c.self.inside in
    let empty : 8 * bytes_pushed k ≤ k.free = omega (arith, c.if-self-end.true, c.len.ensures) in (
      λ _. all_ended k past (stands_seen k _ past c.self.view_is st) (searched k _ c.self.view_is c.requires.searched)
          (ap (λ (k : ScannerKept). k.ended) c.self.view_is ∙ c.requires.ended) empty,
      λ _. refl,
    )

pub returns-then-self-end-clause-event : goal.returns-then-self-end-clause-event
returns-then-self-end-clause-event c = λ past st. sym (known_none past ((returns-then-self-end-clause-none c past st).0 refl))

-- the bits up to the end, and that some of them are left
end : (c : Else-self-end) → 8 * (c.self.inside.before + c.len.result) ≡ 8 * bytes_pushed (scanner_kept c.self.inside)
end c = omega (arith, c.len.ensures)

some : (c : Else-self-end) → c.self.inside.free < 8 * (c.self.inside.before + c.len.result)
some c = omega (arith, end c, c.self.invariant.order, c.self.invariant.within, c.if-self-end.false)

pub returns-clause-event : goal.returns-clause-event
returns-clause-event c = λ past st.
    let k = scanner_kept c.self.inside in
    let last : Else-self-end = (goal.at.returns-clause-event c).Else-self-end in
    sym (last_next k past _ (stands_seen k _ past c.self.view_is st) (searched k _ c.self.view_is c.requires.searched)
    (ap (λ (k : ScannerKept). k.ended) c.self.view_is ∙ c.requires.ended) (end last) (some last))

pub returns-clause-none : goal.returns-clause-none
returns-clause-none c = λ past st.
    (λ bad. absurd (cc), λ all. absurd (known_not_all past _ (sym (returns-clause-event c past st)) all))

pub returns-clause-stands : goal.returns-clause-stands
returns-clause-stands c = λ past none st.
    let k = scanner_kept c.self.inside in
    let last : Else-self-end = (goal.at.returns-clause-stands c).Else-self-end in
    last_taken k past _ _ (stands_seen k _ past c.self.view_is st) (searched k _ c.self.view_is c.requires.searched)
    (ap (λ (k : ScannerKept). k.ended) c.self.view_is ∙ c.requires.ended) (end last) (some last)
    (ap (λ (k : ScannerKept). k.frame) c.self.view_is ∙ none)
