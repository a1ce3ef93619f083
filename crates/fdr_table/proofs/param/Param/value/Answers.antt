use Rattle.std.proofs.Common.{arith, ◌≡◌, ◌+ℤ◌, ◌*ℤ◌, ◌∙◌, ap, to_z, of_z, w64}
use Rattle.std.proofs.lemmas.Int.{ints}
use Rattle.std.specs.Int.{int_div_euclid}
use Rattle.fdr_table.specs.Rows.{ParamRow}
use Rattle.fdr_table.specs.Value.{signed_of, value_of}
use Rattle.fdr_table.proofs.param.Param.value.Goals as goal

pub returns : goal.returns
unfolding value_of
returns c =
    let sum : to_z w64 (of_z w64 (to_z w64 (of_z w64 c.self.inside.offset) +ℤ to_z w64 (of_z w64 c.scaled.result))) ≡ c.self.inside.offset +ℤ c.scaled.result =
    omega (arith, ints) in
    let raw : to_z w64 (of_z w64 c.signed_raw.result) ≡ c.signed_raw.result = omega (arith, ints) in
    let num : to_z w64 (of_z w64 c.self.inside.num) ≡ c.self.inside.num = omega (arith, ints) in
    let den : to_z w64 (of_z w64 c.self.inside.den) ≡ c.self.inside.den = omega (arith, ints) in
    let quotient = rw (raw, num, den, c.signed_raw.ensures.exactly) at c.scaled.ensures.exactly in
    sum ∙ ap (λ z. c.self.inside.offset +ℤ z) quotient
    ∙ ap (λ (p : ParamRow). p.offset +ℤ int_div_euclid (signed_of c.args.self.now c.args.raw *ℤ p.num) p.den) c.self.view_is
