use Rattle.std.proofs.Common.{◌≡◌, ◌+◌, ◌-◌, ◌++◌, map, ap, sym, ◌∙◌, arith}
use Rattle.fdr_table.specs.Rows.{PlaceRow}
use Rattle.fdr_check.specs.Occurrences.{is_on_word}
use Rattle.fdr_check.proofs.Walking.{words_before, at_word, no_slots_yet, slots_next, all_slots_on}
use Rattle.fdr_check.proofs.walk.add_words.Goals as goal

pub loop-word-init : goal.loop-word-init
loop-word-init c =
    let p = c.args.place.now in
    let start = c.args.start in
    let word : c.place.inside.word ≡ p.word = ap (λ (x : PlaceRow). x.word) c.place.view_is in
    record {
      low = c.place.invariant.word_low;
      near = omega (arith, c.place.invariant.word_high);
      on = λ within. ap (is_on_word p) word ∙ at_word p;
      so_far = no_slots_yet c.args.words p start c.args.slots.now.items
          ∙ ap (λ n. c.args.slots.now.items ++ map (λ v. start + (v - 1)) (words_before c.args.words p n)) (sym word);
    }

pub loop-word-preserved : goal.loop-word-preserved
loop-word-preserved c =
    let on = c.loop-word.invariant.on c.loop-word-test.true in
    let step = c.step_of-step.ensures.step in
    record {
      low = omega (arith, c.loop-word.invariant.low);
      near = omega (arith, c.loop-word-test.true, c.step_of-step.ensures.near, c.requires.word_limit);
      on = λ within. step.next c.loop-word.word on within;
      so_far = slots_next c.args.words c.args.place.now c.step_of-step.result c.loop-word.word c.args.start c.args.slots.now.items _ _ step
          c.loop-word.invariant.low c.loop-word-test.true on c.loop-word.invariant.so_far c.in_ok-push.ensures;
    }

pub returns : goal.returns
returns c =
    c.loop-word.invariant.so_far
    ∙ ap (λ xs. c.args.slots.now.items ++ xs) (all_slots_on c.args.words c.args.place.now c.loop-word.word c.args.start c.loop-word-test.false)
