use Rattle.std.proofs.Common.{◌≡◌, ℕ, ◌*◌, ◌<◌, ◌++◌, refl, sym, ◌∙◌, ap, subst, arith}
use Rattle.std.specs.List.{All}
use Rattle.std.proofs.lemmas.List.Elements.{All-append, All-drop}
use Rattle.circular_buffer.specs.Buffer.{Buffer, keep_last}
use Rattle.fdr_recon.specs.Kept.{RebuildKept, is_next}
use Rattle.fdr_recon.specs.View.{rebuild_kept}
use Rattle.fdr_recon.specs.Past.{RepresentsRebuild}
use Rattle.fdr_recon.proofs.Standing.{kept_counter-last}
use Rattle.fdr_recon.proofs.StandingSteps.{Stands-push}
use Rattle.fdr_recon.proofs.past.Rebuild.frame.Goals as goal
use Rattle.fdr_recon.proofs.past.Rebuild.frame.Goals.{then-is_linked, else-is_linked}
use Rattle.std.proofs.lemmas.Bool.{cond-true, cond-false}

pub invariant_of-self : goal.invariant_of-self
invariant_of-self c =
    let Small : ℕ → Type 0 = λ word. word < 4096 in
    let kept = ap (λ (b : Buffer ℕ). b.items) c.extend_from_slice.ensures in
    let words = c.self.inside.words.items ++ c.args.words.now in
    record {
      planned_for = c.self.invariant.planned_for;
      some_words = c.self.invariant.some_words;
      room = ap (λ (b : Buffer ℕ). b.capacity) c.extend_from_slice.ensures ∙ c.self.invariant.room;
      words = subst (All Small) (sym kept)
          (All-drop Small _ words (All-append Small c.self.inside.words.items c.args.words.now c.self.invariant.words c.requires.twelve_bits));
      last_counter = c.counter_of-self-inside.ensures.counter ∙ sym (kept_counter-last _ c.self.inside.words.items c.args.words.now
          (c.requires.whole ∙ ap (λ (k : RebuildKept). 4 * k.frame.words) (sym c.self.view_is))
          (kept ∙ ap (λ n. keep_last n words) c.self.invariant.room));
      ends = c.self.invariant.ends;
      joined = elim c.if-is_linked.branch [ then-is_linked w ↦ omega arith | else-is_linked w ↦ omega arith ];
      params = c.self.invariant.params;
    }

pub returns-clause-stands : goal.returns-clause-stands
returns-clause-stands c t past s =
    let kept = ap (λ (b : Buffer ℕ). b.items) c.extend_from_slice.ensures in
    let words = c.self.inside.words.items ++ c.args.words.now in
    let P : RebuildKept → Type 0 = λ k. RepresentsRebuild k t past in
    Stands-push (rebuild_kept c.self.inside) _ t past c.args.adjacent c.args.words.now (subst P (sym c.self.view_is) s) c.self.invariant.some_words
    (c.requires.whole ∙ ap (λ (k : RebuildKept). 4 * k.frame.words) (sym c.self.view_is)) c.requires.twelve_bits refl refl refl
    (kept ∙ ap (λ n. keep_last n words) c.self.invariant.room)
    (let linked : c.is_linked.result ≡ is_next (rebuild_kept c.self.inside) c.args.adjacent c.args.words.now =
    c.is_linked.ensures ∙ ap (λ k. is_next k c.args.adjacent c.args.words.now) (sym c.self.view_is) in
    elim c.if-is_linked.branch [
      | then-is_linked w ↦ w.self-is ∙ w.min-self-inside.ensures ∙ sym (cond-true _ _ _ (sym linked ∙ w.if-is_linked.true))
      | else-is_linked w ↦ w.self-is ∙ sym (cond-false _ _ _ (sym linked ∙ w.if-is_linked.false))
    ])
