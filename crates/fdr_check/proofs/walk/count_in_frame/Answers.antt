use Rattle.std.proofs.Common.{◌≡◌, ◌+◌, Bool, cond, true, false, length, ap, sym, subst, ◌∙◌, arith}
use Rattle.fdr_table.specs.Rows.{PlaceRow}
use Rattle.fdr_check.specs.Occurrences.{has_subframe}
use Rattle.fdr_check.specs.Walks.{words_on}
use Rattle.fdr_check.proofs.Walking.{CountsFrames, subframe_counted, counted_frame, words_on_few}
use Rattle.fdr_check.proofs.walk.count_in_frame.Goals as goal
use Rattle.fdr_check.proofs.walk.count_in_frame.Goals.{then-has_subframe, else-has_subframe}

pub overflow_add-count : goal.overflow_add-count
overflow_add-count c =
    omega (
      arith,
      c.count_words-in_subframe.ensures,
      words_on_few c.args.words c.args.place.now,
      c.requires.word_limit,
      c.loop-subframe.invariant.few,
      c.loop-subframe-test.true,
    )

pub loop-subframe-preserved : goal.loop-subframe-preserved
loop-subframe-preserved c =
    let p = c.args.place.now in
    let w = c.args.words in
    let s = c.loop-subframe.subframe in
    let few = words_on_few w p in
    let subs : c.place.inside.subs ≡ p.subs = ap (λ (x : PlaceRow). x.subs) c.place.view_is in
    let test : (b : Bool) → c.has_subframe.result ≡ b → has_subframe p.subs (s + 1) ≡ b =
    λ b e. ap (λ x. has_subframe x (s + 1)) (sym subs) ∙ sym c.has_subframe.ensures ∙ e in
    elim c.if-has_subframe.branch [
      | then-has_subframe w1 ↦
          let here : c.count_words-in_subframe.result ≡ cond (has_subframe p.subs (s + 1)) (length (words_on w p)) 0 =
          c.count_words-in_subframe.ensures ∙ ap (λ b. cond b (length (words_on w p)) 0) (sym (test true w1.if-has_subframe.true)) in
          record {
            so_far = subst (CountsFrames w p (s + 1)) (sym w1.count-is)
                (subframe_counted w p s c.loop-subframe.count c.count_words-in_subframe.result c.loop-subframe-test.true c.loop-subframe.invariant.so_far here);
            few = omega (arith, w1.count-is, c.count_words-in_subframe.ensures, few, c.requires.word_limit, c.loop-subframe.invariant.few);
          }
      | else-has_subframe w1 ↦
          let here : 0 ≡ cond (has_subframe p.subs (s + 1)) (length (words_on w p)) 0 =
          ap (λ b. cond b (length (words_on w p)) 0) (sym (test false w1.if-has_subframe.false)) in
          let same : c.loop-subframe.count + 0 ≡ c.if-has_subframe.count = omega (arith, w1.count-is) in
          record {
            so_far = subst (CountsFrames w p (s + 1)) same
                (subframe_counted w p s c.loop-subframe.count 0 c.loop-subframe-test.true c.loop-subframe.invariant.so_far here);
            few = omega (arith, w1.count-is, c.loop-subframe.invariant.few);
          }
    ]

pub returns-clause-count : goal.returns-clause-count
returns-clause-count c =
    let all : c.loop-subframe.subframe ≡ 4 = omega (arith, c.loop-subframe-test.false, c.loop-subframe.auto.subframe-end) in
    counted_frame c.args.words c.args.place.now c.loop-subframe.count
    (subst (λ n. CountsFrames c.args.words c.args.place.now n c.loop-subframe.count) all c.loop-subframe.invariant.so_far)
