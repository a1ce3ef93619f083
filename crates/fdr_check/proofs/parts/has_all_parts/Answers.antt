use Rattle.std.proofs.Common.{◌≡◌, ◌+◌, ◌-◌, ap, sym, subst, ◌∙◌, true, arith}
use Rattle.std.specs.List.{list_all, range_with_len}
use Rattle.fdr_check.specs.Soundness.{has_part}
use Rattle.fdr_check.proofs.Ranges.{all_more, not_all}
use Rattle.fdr_check.proofs.parts.has_all_parts.Goals as goal

pub returns-then-not-has_part : goal.returns-then-not-has_part
returns-then-not-has_part c =
    sym (not_all (has_part c.args.places.now c.args.param) 1 c.args.last c.loop-part.part c.loop-part.auto.part (omega (arith, c.loop-part-test.true))
    (sym c.has_part.ensures ∙ c.if-not-has_part.true))

pub loop-part-preserved : goal.loop-part-preserved
loop-part-preserved c =
    let t = has_part c.args.places.now c.args.param in
    let here : 1 + (c.loop-part.part - 1) ≡ c.loop-part.part = omega (arith, c.loop-part.auto.part) in
    let next : c.loop-part.part - 1 + 1 ≡ c.loop-part.part + 1 - 1 = omega (arith, c.loop-part.auto.part) in
    subst (λ n. list_all t (range_with_len 1 n) ≡ true) next
    (all_more t 1 (c.loop-part.part - 1) c.loop-part.invariant (ap t here ∙ sym c.has_part.ensures ∙ c.if-not-has_part.false))
