use Rattle.std.proofs.Common.{◌≡◌, ◌∙◌, ap, sym, ◌⊎◌, inl, inr}
use Rattle.fdr_exceed.specs.Exceedances.{least_hits}
use Rattle.fdr_exceed.specs.declared.rule.Rule.{Rule}
use Rattle.fdr_exceed.specs.declared.rule.RuleKind.{RuleKind}
use Rattle.fdr_exceed.specs.declared.rule.RuleKind.TheVariants as kind
use Rattle.fdr_exceed.proofs.hits.least_hits.Goals as goal

counted : (rule : Rule) (k : RuleKind) → (k ≡ kind.Above) ⊎ (k ≡ kind.Below) → rule.count ≡ least_hits rule k
counted rule k (inl above) = ap (least_hits rule) (sym above)
counted rule k (inr below) = ap (least_hits rule) (sym below)

pub returns-in-Above : goal.returns-in-Above
returns-in-Above c = c.from.ensures ∙ counted c.args.rule.now c.args.rule.now.kind c.in-Above.is

pub returns-in-Change : goal.returns-in-Change
returns-in-Change c = ap (least_hits c.args.rule.now) (sym c.in-Change.is)
