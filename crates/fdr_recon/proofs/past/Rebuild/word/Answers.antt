use Rattle.std.proofs.Common.{◌≡◌, ◌≤◌, ◌+◌, ◌-◌, ◌*◌, sym, ap, ◌∙◌, subst, arith}
use Rattle.fdr_recon.specs.Kept.{RebuildKept, kept_word}
use Rattle.fdr_recon.specs.View.{rebuild_kept}
use Rattle.fdr_recon.proofs.KeptWords.{kept_word-past, kept_word-back}
use Rattle.fdr_recon.proofs.past.Rebuild.word.Goals as goal

pub returns-then-place-len-clause-word : goal.returns-then-place-len-clause-word
returns-then-place-len-clause-word c =
    let P : RebuildKept → Type 0 = λ k. 0 ≡ kept_word k c.args.back c.args.place in
    let past : 4 * c.self.inside.frame.words ≤ c.args.place = omega arith in
    subst P c.self.view_is (sym (kept_word-past (rebuild_kept c.self.inside) c.args.back c.args.place past))

pub returns-clause-word : goal.returns-clause-word
returns-clause-word c =
    let k = c.args.self.now in
    let words : c.frame_words-len.result ≡ k.frame.words = c.frame_words-len.ensures.words ∙ ap (λ (k : RebuildKept). k.frame.words) c.self.view_is in
    c.word_back.ensures.word
    ∙ kept_word-back k c.args.back c.args.place _ (omega (arith, c.if-place-len.false, words))
    (ap (λ n. 4 * n * c.args.back + (4 * n - 1 - c.args.place)) words)
