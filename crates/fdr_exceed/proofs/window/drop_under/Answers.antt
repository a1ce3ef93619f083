use Rattle.std.proofs.Common.{◌≡◌, ◌∙◌, ap, sym, subst, length, take, ◌++◌, ◌∷◌, [], List, arith, ◌-◌, true, false}
use Rattle.std.specs.Prelude.{ℤ}
use Rattle.std.proofs.lemmas.Int.{to_z-of_z}
use Rattle.std.proofs.lemmas.List.{length-take}
use Rattle.circular_buffer.specs.Buffer.{Buffer}
use Rattle.fdr_exceed.specs.Windows.{unsurpassed}
use Rattle.fdr_exceed.proofs.Falling.{IsFalling, IsFalling-take, ends_under, not_under, not_under-pop, not_under-whole, unsurpassed-falls, unsurpassed-push}
use mir.Syntax.{w64}
use mir.Val.{to_z, of_z}
use Rattle.fdr_exceed.proofs.window.drop_under.Goals as goal

pub loop-falling-preserved : goal.loop-falling-preserved
loop-falling-preserved c =
    let items = c.loop-falling.falling.items in
    let v = to_z w64 (of_z w64 c.args.value) in
    let under : ends_under v items ≡ true = sym c.is_last_under.ensures ∙ c.loop-falling-test.true in
    let popped : c.pop_back.new.self.items ≡ take (length items - 1) items = ap (λ (b : Buffer ℤ). b.items) c.pop_back.ensures.items in
    record {
      kept = ap (not_under v) popped ∙ not_under-pop v items under ∙ c.loop-falling.invariant.kept;
      falls = λ first. subst IsFalling (sym popped) (IsFalling-take (length items - 1) items (c.loop-falling.invariant.falls first));
      fewer = omega (arith, ap (length {A = ℤ}) popped, length-take (length items - 1) items, c.loop-falling.invariant.fewer);
      room = ap (λ (b : Buffer ℤ). b.capacity) c.pop_back.ensures.items ∙ c.loop-falling.invariant.room;
    }

pub returns-clause-entered : goal.returns-clause-entered
returns-clause-entered c values falls =
    let items = c.loop-falling.falling.items in
    let v = to_z w64 (of_z w64 c.args.value) in
    let same = to_z-of_z w64 c.args.value c.ranges.value in
    let ends : ends_under v items ≡ false = sym c.is_last_under.ensures ∙ c.loop-falling-test.false in
    let whole = not_under-whole v items (c.loop-falling.invariant.falls (subst IsFalling (sym falls) (unsurpassed-falls values))) ends in
    let left = sym whole ∙ c.loop-falling.invariant.kept ∙ ap (not_under v) falls ∙ ap (λ x. not_under x (unsurpassed values)) same in
    ap (λ (xs : List ℤ). xs ++ c.args.value ∷ []) left ∙ sym (unsurpassed-push values c.args.value)
