use Rattle.std.proofs.Common.{◌≡◌, ◌+◌, ◌-◌, ◌*◌, ◌≤◌, ◌^◌, ◌+ℤ◌, ◌≤ℤ◌, pos, neg_ℤ, ap, sym, subst, ◌∙◌, mul-le-mul, to_z, of_z, w64, arith, ℤ}
use Rattle.std.proofs.lemmas.Int.{ints}
use Rattle.fdr_divisor.specs.Reach.{IsInReach}
use Rattle.fdr_recon.proofs.scale.SmallScale.of.Goals as goal

pub steps_over-steps-requires-clause-high : goal.steps_over-steps-requires-clause-high
steps_over-steps-requires-clause-high c =
    let half : c.from.result ≤ 2 ^ 31 = omega (arith, c.from.ensures, c.half_range-half.ensures.high) in
    let num : c.from-2.result ≤ 2 ^ 30 = omega (arith, c.from-2.ensures, c.in_ok-num.ensures.high) in
    let product = mul-le-mul half num in
    omega (arith, product)

pub returns : goal.returns
returns c =
    let p = c.args.param.now in
    let same : to_z w64 (of_z w64 c.offset_below.result) ≡ c.offset_below.result =
    omega (arith, ints, c.offset_below.ensures.low, c.offset_below.ensures.high) in
    let below : c.from.result * c.from-2.result ≡ c.half_range-half.result * c.in_ok-num.num =
    ap (λ h. h * c.from-2.result) c.from.ensures ∙ ap (λ n. c.half_range-half.result * n) c.from-2.ensures in
    let steps : c.steps_over-steps.result * c.from-4.result ≡ c.steps_over-steps.result * c.divisor-den.result =
    ap (λ d. c.steps_over-steps.result * d) c.from-4.ensures in
    let reached : c.steps_over-steps.result * c.from-3.result ≡ c.steps_over-steps.result * c.divisor-den.result =
    ap (λ d. c.steps_over-steps.result * d) c.from-3.ensures in
    let most : c.from-5.result * c.from-6.result ≡ c.raw_mask-mask.result * c.in_ok-num.num =
    ap (λ m. m * c.from-6.result) c.from-5.ensures ∙ ap (λ n. c.raw_mask-mask.result * n) c.from-6.ensures in
    let rise = c.steps_over-steps.result * c.from-4.result - c.from.result * c.from-2.result in
    let den = c.new-divisor.ensures in
    record {
      some_bits = c.raw_mask-mask.ensures.some_bits;
      half = c.half_range-half.ensures.value;
      mask = c.raw_mask-mask.ensures.value;
      num = c.in_ok-num.ensures.value;
      den = c.divisor-den.ensures.value ∙ ap pos (sym den);
      some_den = omega (arith, den, c.divisor-den.ensures.some);
      steps = c.steps_over-steps.result;
      rise = omega (arith, below, steps, reached, ap (λ d. c.steps_over-steps.result * d) den, c.steps_over-steps.ensures.reached);
      offset = ap (λ (z : ℤ). z +ℤ pos c.steps_over-steps.result) same ∙ c.offset_below.ensures.value;
      offset_low = subst (λ (z : ℤ). neg_ℤ (pos (2 ^ 62 + 2 ^ 50)) ≤ℤ z) (sym same) c.offset_below.ensures.low;
      offset_high = subst (λ (z : ℤ). z ≤ℤ pos (2 ^ 50)) (sym same) c.offset_below.ensures.high;
      within_reach = subst (IsInReach c.new-divisor.result) (ap (λ n. n + rise) most) (sym c.reaches.ensures ∙ c.if-not-reaches.false);
    }
