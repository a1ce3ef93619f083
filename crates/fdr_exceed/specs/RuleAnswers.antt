-- The answers of reading rules.
use Rattle.std.specs.Prelude.{ℕ}
use Rattle.fdr_exceed.specs.declared.fault.RuleFault.{RuleFault}
use Rattle.fdr_exceed.specs.declared.fault.RulesError.{RulesError}
use Rattle.fdr_exceed.specs.declared.fault.RulesError.TheVariants as error

-- the refusal of rules that names this record and its fault
abbrev pub rule_refused : ℕ → RuleFault → RulesError
rule_refused row f = error.Refused row f
