-- What the records of rules say, and their faults. Records and fields are numbered from 0; the fields are NAME, PARAM, KIND,
-- LIMIT and COUNT.
use Rattle.std.specs.Prelude.{ℕ, ℤ, pos, Bool, not, ◌==◌, nat_le, nat_lt, if◌then◌else◌, List, [], ◌∷◌, length, map, take, codes, bytes_eq}
use Rattle.std.specs.Prelude.{slice_index_or, Option}
use Rattle.std.specs.Prelude.{Some, None, is_none, unwrap_or, option_map}
use Rattle.std.specs.List.{list_any, range_with_len}
use Rattle.fdr_table.specs.Draft.{index_named}
use Rattle.fdr_table.specs.Fields.{is_name, number_in, signed_within}
use Rattle.fdr_table.specs.Reading.{Row, field, first_some, records_of}
use Rattle.fdr_table.specs.Rows.{TableRows}
use Rattle.fdr_recon.specs.Rows.{param_at}
use Rattle.fdr_exceed.specs.Rules.{most_rule_bytes, most_rules, most_limit, most_rule_count}
use Rattle.fdr_exceed.specs.declared.rule.Rule.{Rule}
use Rattle.fdr_exceed.specs.declared.rule.RuleKind.{RuleKind}
use Rattle.fdr_exceed.specs.declared.rule.RuleKind.TheVariants as kind
use Rattle.fdr_exceed.specs.declared.fault.RuleFault.{RuleFault}
use Rattle.fdr_exceed.specs.declared.fault.RuleFault.TheVariants as fault

-- the kind of a rule by its word: `above`, `below` or `change`
unfoldable pub rule_kind_of : List ℕ → Option RuleKind
rule_kind_of word =
    if bytes_eq word (codes "above") then Some kind.Above
    else if bytes_eq word (codes "below") then Some kind.Below
    else if bytes_eq word (codes "change") then Some kind.Change
    else None

-- field 0 of a rule's record: its name
abbrev pub rule_name_in : Row → List ℕ
rule_name_in fields = field fields 0

-- field 1 of a rule's record: the index of the parameter that it names
abbrev pub rule_param_in : TableRows → Row → Option ℕ
rule_param_in t fields = index_named t.params (field fields 1)

-- field 2 of a rule's record: its kind
abbrev pub kind_in : Row → Option RuleKind
kind_in fields = rule_kind_of (field fields 2)

-- field 3 of a rule's record: its limit, in units of the last digit of its parameter
abbrev pub limit_in : Row → Option ℤ
limit_in fields = signed_within most_limit (field fields 3)

-- field 4 of a rule's record: its count, 1 to 1,024
abbrev pub count_in : Row → Option ℕ
count_in fields = number_in 1 most_rule_count (field fields 4)

-- the fault that field i of a rule's record is wrong, where what it should say isn't there
abbrev pub rule_field_fault : {A : Type 0} → ℕ → Option A → Option RuleFault
rule_field_fault i None = Some (fault.Number i)
rule_field_fault i (Some a) = None

-- the first field of a rule's record that isn't right, the names aside
unfoldable pub rule_misread : Row → Option RuleFault
rule_misread fields = first_some (
    rule_field_fault 2 (kind_in fields)
    ∷ rule_field_fault 3 (limit_in fields)
    ∷ rule_field_fault 4 (count_in fields) ∷ [])

-- the fault of a rule, where the fact holds
abbrev pub rule_fault_where : Bool → RuleFault → Option RuleFault
rule_fault_where b f = if b then Some f else None

-- the first fault of a rule's record, below records with the names `above`
unfoldable pub rule_fault : TableRows → List (List ℕ) → Row → Option RuleFault
rule_fault t above fields = if not (length fields == 5) then Some fault.Shape else first_some (
    rule_misread fields
    ∷ rule_fault_where (not (is_name (rule_name_in fields))) fault.Name
    ∷ rule_fault_where (is_none (rule_param_in t fields)) fault.Unknown
    ∷ rule_fault_where (list_any (λ other. bytes_eq other (rule_name_in fields)) above) fault.Twice
    ∷ rule_fault_where (nat_le most_rules (length above)) fault.Size ∷ [])

-- the first fault of record i of rules, counted from 0
abbrev pub fault_of_rule : TableRows → List Row → ℕ → Option RuleFault
fault_of_rule t rows i = rule_fault t (map rule_name_in (take i rows)) (slice_index_or rows i [])

-- the first record of rules with a fault, counted from 0, and its fault
abbrev pub first_rule_fault : TableRows → List Row → Option (ℕ × RuleFault)
first_rule_fault t rows = first_some (map (λ i. option_map (λ f. (i, f)) (fault_of_rule t rows i)) (range_with_len 0 (length rows)))

-- the first fault of the rules' bytes, and its record: too many bytes come before the records
unfoldable pub rules_fault : TableRows → List ℕ → Option (ℕ × RuleFault)
rules_fault t bytes = if nat_lt most_rule_bytes (length bytes) then Some (0, fault.Size) else first_rule_fault t (records_of bytes)

-- the rule of a record without a fault, for a parameter of the table and in units of its last digit
unfoldable pub rule_of : TableRows → Row → Rule
rule_of t fields = record {
  name = rule_name_in fields;
  param = unwrap_or (rule_param_in t fields) 0;
  decimals = (param_at t.params (unwrap_or (rule_param_in t fields) 0)).decimals;
  kind = unwrap_or (kind_in fields) kind.Above;
  limit = unwrap_or (limit_in fields) (pos 0);
  count = unwrap_or (count_in fields) 0;
}

-- the rules of the records
abbrev pub rules_of : TableRows → List Row → List Rule
rules_of t rows = map (rule_of t) rows
