use Rattle.std.proofs.Common.{◌≡◌, ◌+◌, ap, ◌∙◌, subst, length, None, arith}
use Rattle.std.proofs.lemmas.Grind.{common_steps, elements}
use Rattle.std.specs.Prelude.{slice_get, slice_index, slice_index_or, slice_set}
use Rattle.std.proofs.lemmas.Bool.{both_ways}
use Rattle.std.proofs.lemmas.List.{get_or_default}
use Rattle.fdr_bus.specs.Words.{is_odd, sdi_of}
use Rattle.fdr_sampler.specs.HeldWords.{HeldBySource, held_by_source, AreHeldWords}
use Rattle.fdr_sampler.specs.Kept.{held_word_after}
use Rattle.fdr_sampler.proofs.Holding.{Begins, odd_kept, holds}
use Rattle.fdr_sampler.specs.declared.timed_word.TimedWord.{TimedWord}
use Rattle.fdr_sampler.proofs.held_words.HeldWords.hold.Goals as goal
use Rattle.fdr_sampler.proofs.held_words.HeldWords.hold.Goals.{then-is_odd, else-is_odd}

pub returns-clause-words : goal.returns-clause-words
returns-clause-words c = λ n s got.
    let inside = c.self.inside in
    let r = c.args.r.now in
    let starts = inside.starts.items in
    let held = inside.sources.items in
    let len : inside.words.len ≡ length inside.words.items = omega arith in
    let begin : Begins starts r c.if-is_odd.start = elim c.if-is_odd.branch [
      | then-is_odd w ↦ record {
        odd = λ odd. w.start-is ∙ w.index.ensures
            ∙ get_or_default starts w.place.result w.index.result.now 0 (omega (arith, w.place.ensures.within, c.self.invariant.begin.pairs))
            ∙ ap (slice_index starts) w.place.ensures.value;
        even = λ even. absurd (both_ways (is_odd r.word) even (c.is_odd.ensures.0 w.if-is_odd.true));
      }
      | else-is_odd w ↦ record {
        odd = λ odd. absurd (both_ways c.is_odd.result w.if-is_odd.false (c.is_odd.ensures.1 odd));
        even = λ even. w.start-is;
      }
    ] in
    let sdi : c.from.result ≡ sdi_of r.word = c.from.ensures ∙ c.sdi.ensures.value in
    let new : TimedWord = record { word = r.word; time = r.time } in
    subst (λ (h : HeldBySource). slice_index_or (held_by_source held
    (slice_set (slice_set inside.words.items (c.if-is_odd.start + c.from.result) new) (c.if-is_odd.start + 4) new)).words n None
    ≡ held_word_after s r (slice_index_or h.words n None)) c.self.view_is
    (holds held starts inside.words.items r new c.if-is_odd.start c.from.result
    (subst (AreHeldWords held starts) len c.self.invariant) begin c.requires (odd_kept r)
    (omega (arith, sdi, c.sdi.ensures.two_bits)) sdi n s (ap (λ (h : HeldBySource). slice_get h.sources n) c.self.view_is ∙ got))

pub index_mut-requires : goal.index_mut-requires
index_mut-requires c = grind (arith, elements) steps 2000000

pub index_mut-requires-2 : goal.index_mut-requires-2
index_mut-requires-2 c = grind (arith, elements) steps 2000000

pub returns-clause-long : goal.returns-clause-long
returns-clause-long c = grind (arith, common_steps) steps 2000000
