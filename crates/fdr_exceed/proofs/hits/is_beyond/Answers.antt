use Rattle.std.proofs.Common.{◌≡◌, ◌∙◌, ap, sym, ◌⊎◌, inl, inr, rules}
use Rattle.std.specs.Prelude.{ℤ, int_lt}
use Rattle.std.proofs.lemmas.Int.{to_z-of_z}
use Rattle.fdr_exceed.specs.Exceedances.{is_beyond}
use Rattle.fdr_exceed.specs.declared.rule.RuleKind.{RuleKind}
use Rattle.fdr_exceed.specs.declared.rule.RuleKind.TheVariants as kind
use mir.Syntax.{w64}
use mir.Val.{SFits, to_z, of_z}
use Rattle.fdr_exceed.proofs.hits.is_beyond.Goals as goal

over : (k : RuleKind) (limit x : ℤ) → (k ≡ kind.Above) ⊎ (k ≡ kind.Change) → int_lt limit x ≡ is_beyond k limit x
over k limit x (inl above) = ap (λ (q : RuleKind). is_beyond q limit x) (sym above)
over k limit x (inr change) = ap (λ (q : RuleKind). is_beyond q limit x) (sym change)

pub returns-in-Above : goal.returns-in-Above
returns-in-Above c =
    let limit = c.args.rule.now.limit in
    let fits : SFits w64 limit = search rules in
    ap (λ (n : ℤ). int_lt n (to_z w64 (of_z w64 c.args.x))) (to_z-of_z w64 limit fits)
    ∙ ap (λ (n : ℤ). int_lt limit n) (to_z-of_z w64 c.args.x c.ranges.x)
    ∙ over c.args.rule.now.kind limit c.args.x c.in-Above.is

pub returns-in-Below : goal.returns-in-Below
returns-in-Below c =
    let limit = c.args.rule.now.limit in
    let fits : SFits w64 limit = search rules in
    ap (λ (n : ℤ). int_lt n (to_z w64 (of_z w64 limit))) (to_z-of_z w64 c.args.x c.ranges.x)
    ∙ ap (λ (n : ℤ). int_lt c.args.x n) (to_z-of_z w64 limit fits)
    ∙ ap (λ (q : RuleKind). is_beyond q limit c.args.x) (sym c.in-Below.is)
