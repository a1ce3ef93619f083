use Rattle.std.proofs.Common.{◌≡◌, ℕ, ◌+◌, ◌<◌, List, sym, ap, ◌∙◌, subst, length, map, get_or, replicate, Option, None, refl, arith}
use Rattle.std.specs.Prelude.{slice_index}
use Rattle.std.specs.Vec.{with_items}
use Rattle.std.proofs.lemmas.List.{get_or_default, length-map, length-replicate, take_all, with_items_is}
use Rattle.fdr_sampler.specs.declared.held_words.HeldSource.{HeldSource}
use Rattle.fdr_sampler.specs.Held.{HeldWord, source_of}
use Rattle.fdr_sampler.specs.HeldWords.{no_word, AreLabelStarts, HasWord, AreHeldWords}
use Rattle.fdr_sampler.specs.declared.timed_word.TimedWord.{TimedWord}
use Rattle.fdr_sampler.proofs.Beginning.{starts_none, words_none, words_more, sources_more, none_held}
use Rattle.fdr_sampler.proofs.held_words.HeldWords.of.Goals as goal
use Rattle.fdr_sampler.proofs.held_words.HeldWords.of.Goals.{After-own_word}

pub loop-param-init : goal.loop-param-init
loop-param-init c = record {
  are = subst (λ xs. AreHeldWords xs c.in_ok-starts.starts.items 5) (sym c.in_ok-sources.ensures.items)
      (words_none c.in_ok-starts.starts.items (starts_none c.in_ok-starts.starts.items 65536 refl c.in_ok-starts.ensures));
  sources = ap (map (λ (h : HeldSource). h.source)) c.in_ok-sources.ensures.items;
  few = omega arith;
}

pub begin-end-requires-clause-starts : goal.begin-end-requires-clause-starts
begin-end-requires-clause-starts c = subst (λ xs. AreLabelStarts xs c.loop-param.end) (sym c.deref_mut.ensures.value) c.loop-param.invariant.are.begin

pub begin-end-requires-clause-room : goal.begin-end-requires-clause-room
begin-end-requires-clause-room c = omega (arith, c.loop-param.invariant.few, c.loop-param-test.true, c.requires)

-- what is left behind of where the words begin
kept : (c : After-own_word) → (with_items c.loop-param.starts c.begin-end.new.starts).items ≡ c.begin-end.new.starts
kept c = with_items_is c.loop-param.starts c.begin-end.new.starts (omega (arith, c.begin-end.auto.starts, c.deref_mut.ensures.len))

-- where the words of the source's bus and label begin
begun : (c : After-own_word) → c.index.result.now ≡ slice_index c.begin-end.new.starts c.place-place.result
begun c =
    c.index.ensures ∙ ap (λ xs. get_or xs c.place-place.result c.index.result.now) (kept c)
    ∙ get_or_default c.begin-end.new.starts c.place-place.result c.index.result.now 0
    (omega (arith, c.place-place.ensures.within, c.begin-end.ensures.starts.pairs))

abbrev source_here : After-own_word → HeldSource
source_here c = record { source = c.of-source.result; at = c.index.result.now + c.own_word.result }

has_word : (c : After-own_word) → HasWord c.begin-end.new.starts (source_here c)
has_word c = record {
  begun = subst (λ k. 0 < slice_index c.begin-end.new.starts k) c.place-place.ensures.value c.begin-end.ensures.begun;
  label = c.place-place.ensures.label;
  at = omega (arith, begun c ∙ ap (slice_index c.begin-end.new.starts) c.place-place.ensures.value, c.own_word.ensures.value);
  two_bits = c.own_word.ensures.two_bits;
}

pub overflow_add-at : goal.overflow_add-at
overflow_add-at c =
    let at : After-own_word = (goal.at.overflow_add-at c).After-own_word in
    omega (
      arith,
      begun at,
      c.begin-end.ensures.starts.within c.place-place.result,
      c.begin-end.ensures.few,
      c.own_word.ensures.within,
      c.loop-param.invariant.few,
      c.loop-param-test.true,
      c.requires,
    )

pub loop-param-preserved : goal.loop-param-preserved
loop-param-preserved c =
    let at : After-own_word = (goal.at.loop-param-preserved c).After-own_word in
    let held = c.loop-param.sources.items in
    let starts = c.begin-end.new.starts in
    let here = source_here at in
    record {
      are = subst (λ xs. AreHeldWords c.push.new.items.items xs c.begin-end.result) (sym (kept at))
          (subst (λ hs. AreHeldWords hs starts c.begin-end.result) (sym c.in_ok-push.ensures)
          (words_more held here c.loop-param.starts.items starts c.loop-param.end c.begin-end.result c.loop-param.invariant.are c.begin-end.ensures.starts
          (subst (λ (xs : List ℕ). (k : ℕ) → 0 < slice_index xs k → slice_index starts k ≡ slice_index xs k) c.deref_mut.ensures.value
          c.begin-end.ensures.others)
          (has_word at)));
      sources = ap (map (λ (h : HeldSource). h.source)) c.in_ok-push.ensures
          ∙ sources_more held here c.args.params.now c.loop-param.param-index c.param-item.result c.loop-param-test.true c.param-item.is
          c.loop-param.invariant.sources c.of-source.ensures;
      few = omega (arith, c.begin-end.ensures.few, c.loop-param.invariant.few);
    }

pub invariant_of-result : goal.invariant_of-result
invariant_of-result c =
    let count : c.in_ok-words.words.len ≡ c.loop-param.end =
    omega (arith, ap length c.in_ok-words.ensures, length-replicate {A = TimedWord} c.loop-param.end no_word) in
    subst (λ n. AreHeldWords c.loop-param.sources.items c.loop-param.starts.items n) (sym count) c.loop-param.invariant.are

pub returns-clause-sources : goal.returns-clause-sources
returns-clause-sources c =
    c.loop-param.invariant.sources ∙ ap (map source_of) (take_all c.loop-param.param-index c.args.params.now (omega (arith, c.loop-param-test.false)))

pub returns-clause-words : goal.returns-clause-words
returns-clause-words c =
    let held = c.loop-param.sources.items in
    let count : length held ≡ length c.args.params.now =
    sym (length-map held (λ (h : HeldSource). h.source)) ∙ ap length (returns-clause-sources c) ∙ length-map c.args.params.now source_of in
    none_held _ _ c.in_ok-words.ensures held ∙ ap (λ n. replicate {A = Option HeldWord} n None) count
