-- The texts of exceedances and of faults of rules.
use Rattle.std.specs.Prelude.{ℕ, List, ◌++◌, codes, decimal}
use Rattle.fdr_listing.specs.Text.{value_text}
use Rattle.fdr_exceed.specs.declared.hits.HitList.{HitList}
use Rattle.fdr_exceed.specs.declared.rule.Rule.{Rule}
use Rattle.fdr_exceed.specs.declared.fault.RuleFault.{RuleFault}
use Rattle.fdr_exceed.specs.declared.fault.RuleFault.TheVariants as fault

-- the line `exceed,NAME,COUNTER,SUBFRAME,WORD,LENGTH,PEAK` of an exceedance of a rule; the place is that of the first hit
unfoldable pub exceed_text : Rule → HitList → List ℕ
exceed_text rule list =
    codes "exceed," ++ rule.name ++ codes "," ++ decimal list.first.counter ++ codes "," ++ decimal list.first.subframe ++ codes ","
    ++ decimal list.first.word ++ codes "," ++ decimal list.length ++ codes "," ++ value_text list.peak rule.decimals ++ codes "\n"

-- what is wrong with rules, in words
unfoldable pub fault_of_rules_text : RuleFault → List ℕ
fault_of_rules_text fault.Shape = codes "shape"
fault_of_rules_text (fault.Number field) = codes "number in field " ++ decimal field
fault_of_rules_text fault.Name = codes "name"
fault_of_rules_text fault.Unknown = codes "unknown name"
fault_of_rules_text fault.Twice = codes "name used twice"
fault_of_rules_text fault.Size = codes "too large"
