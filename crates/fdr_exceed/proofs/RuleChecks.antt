-- The first fault of a record.
use Rattle.std.proofs.Common.{◌≡◌, ◌∙◌, ap, sym, refl, ℕ, ◌<◌, ◌≤◌, ◌==◌, Bool, true, false, List, [], ◌∷◌, length, get_or, Option, Some, None}
use Rattle.std.specs.Prelude.{ℤ, not, is_none, nat_le, bytes_eq, if◌then◌else◌}
use Rattle.std.specs.List.{list_any}
use Rattle.std.proofs.lemmas.Bool.{le-leb, lt-leb}
use Rattle.std.proofs.lemmas.List.{length-map}
use Rattle.std.proofs.lemmas.Option.{get_or_from_slice_get, slice_get-get_or}
use Rattle.fdr_table.specs.Fields.{is_name}
use Rattle.fdr_table.specs.Reading.{Row, first_some}
use Rattle.fdr_table.specs.Rows.{TableRows, ParamRow}
use Rattle.fdr_table.proofs.SearchFacts.{list_any-map}
use Rattle.fdr_recon.specs.Rows.{param_at, no_param}
use Rattle.fdr_exceed.specs.Rules.{most_rules}
use Rattle.fdr_exceed.specs.RuleFaults.{rule_name_in, rule_param_in, kind_in, limit_in, count_in, rule_misread, rule_fault, rule_fault_where, rule_of}
use Rattle.fdr_exceed.specs.declared.rule.Rule.{Rule}
use Rattle.fdr_exceed.specs.declared.rule.RuleKind.{RuleKind}
use Rattle.fdr_exceed.specs.declared.fault.RuleFault.{RuleFault}
use Rattle.fdr_exceed.specs.declared.fault.RuleFault.TheVariants as fault
use Rattle.fdr_exceed.proofs.RuleRecords.{names_of_rules}

-- the name of a record is that of a rule above
abbrev pub is_twice : List Rule → Row → Bool
is_twice above fields = list_any (λ (a : Rule). bytes_eq a.name (rule_name_in fields)) above

-- the first fault, by what each check says
abbrev fault_by : Bool → Option RuleFault → Bool → Bool → Bool → Bool → Option RuleFault
fault_by five misread named unknown twice many = if not five then Some fault.Shape else first_some (
    misread ∷ rule_fault_where (not named) fault.Name ∷ rule_fault_where unknown fault.Unknown ∷ rule_fault_where twice fault.Twice
    ∷ rule_fault_where many fault.Size ∷ [])

checked : (t : TableRows) (above : List Rule) (fields : Row) → rule_fault t (names_of_rules above) fields
    ≡ fault_by (length fields == 5) (rule_misread fields) (is_name (rule_name_in fields)) (is_none (rule_param_in t fields)) (is_twice above fields)
    (nat_le most_rules (length (names_of_rules above)))
unfolding rule_fault
checked t above fields =
    ap (λ b. fault_by (length fields == 5) (rule_misread fields) (is_name (rule_name_in fields)) (is_none (rule_param_in t fields)) b
    (nat_le most_rules (length (names_of_rules above))))
    (list_any-map (λ other. bytes_eq other (rule_name_in fields)) (λ (r : Rule). r.name) above)

pub fault-shape : (t : TableRows) (above : List Rule) (fields : Row) → (length fields == 5) ≡ false
    → rule_fault t (names_of_rules above) fields ≡ Some fault.Shape
fault-shape t above fields five = rw (checked t above fields, five) refl

pub fault-misread : (t : TableRows) (above : List Rule) (fields : Row) (f : RuleFault) → (length fields == 5) ≡ true → rule_misread fields ≡ Some f
    → rule_fault t (names_of_rules above) fields ≡ Some f
fault-misread t above fields f five misread = rw (checked t above fields, five, misread) refl

pub fault-misnamed : (t : TableRows) (above : List Rule) (fields : Row) → (length fields == 5) ≡ true → rule_misread fields ≡ None
    → is_name (rule_name_in fields) ≡ false → rule_fault t (names_of_rules above) fields ≡ Some fault.Name
fault-misnamed t above fields five misread named = rw (checked t above fields, five, misread, named) refl

pub fault-unknown : (t : TableRows) (above : List Rule) (fields : Row) → (length fields == 5) ≡ true → rule_misread fields ≡ None
    → is_name (rule_name_in fields) ≡ true → rule_param_in t fields ≡ None → rule_fault t (names_of_rules above) fields ≡ Some fault.Unknown
fault-unknown t above fields five misread named unknown = rw (checked t above fields, five, misread, named, unknown) refl

pub fault-twice : (t : TableRows) (above : List Rule) (fields : Row) (p : ℕ) → (length fields == 5) ≡ true → rule_misread fields ≡ None
    → is_name (rule_name_in fields) ≡ true → rule_param_in t fields ≡ Some p → is_twice above fields ≡ true
    → rule_fault t (names_of_rules above) fields ≡ Some fault.Twice
fault-twice t above fields p five misread named known twice = rw (checked t above fields, five, misread, named, known, twice) refl

rest_by : (t : TableRows) (above : List Rule) (fields : Row) (p : ℕ) → (length fields == 5) ≡ true → rule_misread fields ≡ None
    → is_name (rule_name_in fields) ≡ true → rule_param_in t fields ≡ Some p → is_twice above fields ≡ false
    → (b : Bool) → nat_le most_rules (length (names_of_rules above)) ≡ b → rule_fault t (names_of_rules above) fields ≡ rule_fault_where b fault.Size
rest_by t above fields p five misread named known twice true many = rw (checked t above fields, five, misread, named, known, twice, many) refl
rest_by t above fields p five misread named known twice false many = rw (checked t above fields, five, misread, named, known, twice, many) refl

pub fault-size : (t : TableRows) (above : List Rule) (fields : Row) (p : ℕ) → (length fields == 5) ≡ true → rule_misread fields ≡ None
    → is_name (rule_name_in fields) ≡ true → rule_param_in t fields ≡ Some p → is_twice above fields ≡ false → most_rules ≤ length (names_of_rules above)
    → rule_fault t (names_of_rules above) fields ≡ Some fault.Size
fault-size t above fields p five misread named known twice many =
    rest_by t above fields p five misread named known twice true (le-leb most_rules (length (names_of_rules above)) many)

pub fault-none : (t : TableRows) (above : List Rule) (fields : Row) (p : ℕ) → (length fields == 5) ≡ true → rule_misread fields ≡ None
    → is_name (rule_name_in fields) ≡ true → rule_param_in t fields ≡ Some p → is_twice above fields ≡ false → length (names_of_rules above) < most_rules
    → rule_fault t (names_of_rules above) fields ≡ None
fault-none t above fields p five misread named known twice few =
    rest_by t above fields p five misread named known twice false (lt-leb most_rules (length (names_of_rules above)) few)

-- the rule that is made of what was read
pub rule-made : (t : TableRows) (fields : Row) (name : List ℕ) (p decimals : ℕ) (k : RuleKind) (limit : ℤ) (count : ℕ) → name ≡ rule_name_in fields
    → rule_param_in t fields ≡ Some p → decimals ≡ (param_at t.params p).decimals → kind_in fields ≡ Some k → limit_in fields ≡ Some limit
    → count_in fields ≡ Some count
    → record { name = name; param = p; decimals = decimals; kind = k; limit = limit; count = count } ≡ rule_of t fields
unfolding rule_of
rule-made t fields name p decimals k limit count name_is known decimals_is kind_is limit_is count_is =
    rw (name_is, decimals_is, known, kind_is, limit_is, count_is) refl

-- the parameter at a place
pub param-is : (params : List ParamRow) (p : ℕ) (x : ParamRow) → p < length params → x ≡ get_or params p x → x ≡ param_at params p
unfolding param_at
param-is params p x within at = sym (get_or_from_slice_get params p x no_param (slice_get-get_or params p x within ∙ ap Some (sym at)))

pub names-count : (rules : List Rule) → length (names_of_rules rules) ≡ length rules
names-count rules = length-map rules (λ (r : Rule). r.name)
