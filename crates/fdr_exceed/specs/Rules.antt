-- The bounds of rules and of their fields.
use Rattle.std.specs.Prelude.{ℕ, ◌<◌, ◌≤◌, ◌≤ℤ◌, neg_ℤ, pos, List, All, IsTrue, length}
use Rattle.fdr_table.specs.Bounds.{most_decimals}
use Rattle.fdr_table.specs.Fields.{is_name}
use Rattle.fdr_exceed.specs.declared.rule.Rule.{Rule}

-- how many bytes rules may have: 65,536
abbrev pub most_rule_bytes : ℕ
most_rule_bytes = 65536

-- how many rules there may be: 256
abbrev pub most_rules : ℕ
most_rules = 256

-- the greatest limit of a rule in size: 9,000,000,000,000,000,000
abbrev pub most_limit : ℕ
most_limit = 9000000000000000000

-- the greatest count of a rule: 1,024 rows
abbrev pub most_rule_count : ℕ
most_rule_count = 1024

-- The fields of a rule keep their ranges, and it is for one of so many parameters.
pub record IsRuleInRange (params : ℕ) (r : Rule) : Type 0 where
  pub name : IsTrue (is_name r.name)
  pub param : r.param < params
  pub decimals : r.decimals ≤ most_decimals
  pub limit_low : neg_ℤ (pos most_limit) ≤ℤ r.limit
  pub limit_high : r.limit ≤ℤ pos most_limit
  pub count_low : 1 ≤ r.count
  pub count_high : r.count ≤ most_rule_count

-- There are no more than 256 rules, each in range and for one of so many parameters.
pub record AreRulesInRange (params : ℕ) (rules : List Rule) : Type 0 where
  pub each : All (IsRuleInRange params) rules
  pub few : length rules ≤ most_rules
