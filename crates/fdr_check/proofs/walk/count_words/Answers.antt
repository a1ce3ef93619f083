use Rattle.std.proofs.Common.{◌≡◌, length, ap, sym, ◌∙◌, arith}
use Rattle.fdr_table.specs.Rows.{PlaceRow}
use Rattle.fdr_check.specs.Occurrences.{is_on_word}
use Rattle.fdr_check.proofs.Walking.{words_before, at_word, no_words_before, words_counted, words_few, all_words}
use Rattle.fdr_check.proofs.walk.count_words.Goals as goal

pub loop-word-init : goal.loop-word-init
loop-word-init c =
    let p = c.args.place.now in
    let word : c.place.inside.word ≡ p.word = ap (λ (x : PlaceRow). x.word) c.place.view_is in
    record {
      low = c.place.invariant.word_low;
      near = omega (arith, c.place.invariant.word_high);
      on = λ within. ap (is_on_word p) word ∙ at_word p;
      so_far = sym (ap length (ap (words_before c.args.words p) word ∙ no_words_before c.args.words p));
    }

pub overflow_add-count : goal.overflow_add-count
overflow_add-count c =
    omega (arith, c.loop-word.invariant.so_far, words_few c.args.words c.args.place.now c.loop-word.word, c.requires.word_limit)

pub loop-word-preserved : goal.loop-word-preserved
loop-word-preserved c =
    let on = c.loop-word.invariant.on c.loop-word-test.true in
    let step = c.step_of-step.ensures.step in
    record {
      low = omega (arith, c.loop-word.invariant.low);
      near = omega (arith, c.loop-word-test.true, c.step_of-step.ensures.near, c.requires.word_limit);
      on = λ within. step.next c.loop-word.word on within;
      so_far = words_counted c.args.words c.args.place.now c.step_of-step.result c.loop-word.word c.loop-word.count step
          c.loop-word.invariant.low c.loop-word-test.true on c.loop-word.invariant.so_far;
    }

pub returns : goal.returns
returns c = c.loop-word.invariant.so_far ∙ ap length (all_words c.args.words c.args.place.now c.loop-word.word c.loop-word-test.false)
