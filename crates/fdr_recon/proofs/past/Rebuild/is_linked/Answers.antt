use Rattle.std.proofs.Common.{◌≡◌, ◌+◌, ◌%◌, false, sym, ◌∙◌, subst, arith, inl, inr}
use Rattle.std.specs.Prelude.{◌==◌}
use Rattle.fdr_recon.specs.Rows.{counter_place}
use Rattle.fdr_recon.specs.Kept.{RebuildKept, is_next}
use Rattle.fdr_recon.specs.View.{rebuild_kept}
use Rattle.fdr_recon.proofs.KeptRows.{is_next-not, is_next-counter}
use Rattle.fdr_recon.proofs.KeptWords.{kept_word-small}
use Rattle.fdr_recon.proofs.past.Rebuild.is_linked.Goals as goal
use Rattle.fdr_recon.proofs.past.Rebuild.is_linked.Goals.{then-not-adjacent-via-then-not-adjacent, then-not-adjacent-via-else-not-adjacent+then-is_empty}

pub returns-then-not-adjacent : goal.returns-then-not-adjacent
returns-then-not-adjacent c =
    let P : RebuildKept → Type 0 = λ k. false ≡ is_next k c.args.adjacent c.args.words.now in
    subst P c.self.view_is
    (sym (is_next-not (rebuild_kept c.self.inside) c.args.adjacent c.args.words.now
    (elim c.then-not-adjacent.branch [
      | then-not-adjacent-via-then-not-adjacent w ↦ inl w.if-not-adjacent.true
      | then-not-adjacent-via-else-not-adjacent+then-is_empty w ↦ inr (sym w.is_empty.ensures ∙ w.if-is_empty.true)
    ])))

pub overflow_add-result : goal.overflow_add-result
overflow_add-result c =
    let small = kept_word-small (rebuild_kept c.self.inside) 0 (counter_place c.self.inside.frame) c.self.invariant.words in
    omega (arith, c.self.invariant.last_counter, small)

pub returns : goal.returns
returns c =
    let P : RebuildKept → Type 0 = λ k. (c.counter_of.result == (c.self.inside.counter + 1) % 4096) ≡ is_next k c.args.adjacent c.args.words.now in
    subst P c.self.view_is
    (is_next-counter (rebuild_kept c.self.inside) c.args.adjacent c.args.words.now c.counter_of.result c.self.inside.counter
    c.if-not-adjacent.false (sym c.is_empty.ensures ∙ c.if-is_empty.false) c.counter_of.ensures.counter c.self.invariant.last_counter)
