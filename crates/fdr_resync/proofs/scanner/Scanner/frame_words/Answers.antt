use Rattle.std.proofs.Common.{◌≡◌, ◌+◌, ◌-◌, ◌*◌, ℕ, List, Some, map, sym, ap, ◌∙◌}
use Rattle.std.specs.List.{range_with_len}
use Rattle.fdr_bits.specs.Bits.{word_at}
use Rattle.fdr_resync.specs.Past.{ScannerKept}
use Rattle.fdr_resync.specs.View.{scanner_kept}
use Rattle.fdr_resync.proofs.Standing.{stands_seen, frame_accepted}
use Rattle.fdr_resync.proofs.Windows.{words_in_all}
use Rattle.fdr_resync.proofs.scanner.Scanner.frame_words.Goals as goal

pub returns-clause-words : goal.returns-clause-words
returns-clause-words c = λ past at st is.
    let k = scanner_kept c.self.inside in
    let stood = stands_seen k _ past c.self.view_is st in
    let kept : k.frame ≡ Some at = ap (λ (k : ScannerKept). k.frame) c.self.view_is ∙ is in
    let whole = c.requires.whole ∙ ap (λ (k : ScannerKept). 4 * k.words) (sym c.self.view_is) in
    let here : c.unwrap-at.result ≡ at = cc in
    let words_at : List ℕ → ℕ → ℕ → List ℕ = λ b p n. map (λ i. word_at b (p - 8 * k.before + 12 * i)) (range_with_len 0 n) in
    c.unpack.ensures.words
    ∙ ap (λ n. words_at c.deref.result.now c.unwrap-at.result n) whole
    ∙ ap (λ b. words_at b c.unwrap-at.result (4 * k.words)) c.deref.ensures.value
    ∙ ap (λ p. words_at k.window p (4 * k.words)) here
    ∙ words_in_all k past at stood (c.self.invariant.frame_behind at kept)

pub returns-clause-accepted : goal.returns-clause-accepted
returns-clause-accepted c = λ past at st is. frame_accepted _ past at st is
