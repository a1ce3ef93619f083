-- The rules of the records above a record.
use Rattle.std.proofs.Common.{◌≡◌, ◌∙◌, ap, sym, ℕ, ◌+◌, ◌<◌, ◌≤◌, ◌⊎◌, inl, inr, Result, Ok, Err, get_or, take, List, [], ◌∷◌, ◌++◌, length, map}
use Rattle.std.proofs.Common.{Option, Some, None, arith, zero-add, length-append, refl}
use Rattle.std.specs.Prelude.{All, option_map}
use Rattle.std.proofs.Math.Seq.{take-append_seam, get_or-append_seam}
use Rattle.std.proofs.lemmas.Bool.{cases_lt}
use Rattle.std.proofs.lemmas.List.{get_or_append_left, take-append-le, map-append, length-map}
use Rattle.std.proofs.lemmas.List.Elements.{All-append, All-nil, All-cons}
use Rattle.fdr_table.specs.Reading.{Row}
use Rattle.fdr_table.specs.Rows.{TableRows}
use Rattle.fdr_table.proofs.SearchFacts.{first_some-at, first_some-none}
use Rattle.fdr_exceed.specs.Rules.{IsRuleInRange, most_rules}
use Rattle.fdr_exceed.specs.RuleAnswers.{rule_refused}
use Rattle.fdr_exceed.specs.RuleFaults.{rule_name_in, rule_fault, fault_of_rule, first_rule_fault, rule_of, rules_of}
use Rattle.fdr_exceed.specs.declared.rule.Rule.{Rule}
use Rattle.fdr_exceed.specs.declared.fault.RuleFault.{RuleFault}
use Rattle.fdr_exceed.specs.declared.fault.RulesError.{RulesError}
use Rattle.fdr_exceed.specs.declared.fault.RulesError.TheVariants as error

abbrev pub names_of_rules : List Rule → List (List ℕ)
names_of_rules rules = map (λ (r : Rule). r.name) rules

-- records without a fault, and their rules
pub record AreRead (t : TableRows) (rows : List Row) (rules : List Rule) : Type 0 where
  pub no_fault : (i : ℕ) → i < length rows → fault_of_rule t rows i ≡ None
  pub made : rules ≡ rules_of t rows
  pub range : All (IsRuleInRange (length t.params)) rules
  pub few : length rules ≤ most_rules

pub none-read : (t : TableRows) → AreRead t [] []
none-read t = record {
  no_fault = λ i lt. absurd (omega arith);
  made = refl;
  range = All-nil (IsRuleInRange (length t.params));
  few = omega arith;
}

name_kept : (t : TableRows) (row : Row) → (rule_of t row).name ≡ rule_name_in row
unfolding rule_of
name_kept t row = refl

-- the names of the rules are those of their records
names_kept : (t : TableRows) (rows : List Row) → names_of_rules (rules_of t rows) ≡ map rule_name_in rows
names_kept t [] = refl
names_kept t (row ∷ rows) = ap (λ n. n ∷ names_of_rules (rules_of t rows)) (name_kept t row) ∙ ap (λ ns. rule_name_in row ∷ ns) (names_kept t rows)

pub names-read : (t : TableRows) (rows : List Row) (rules : List Rule) → AreRead t rows rules → names_of_rules rules ≡ map rule_name_in rows
names-read t rows rules h = ap names_of_rules h.made ∙ names_kept t rows

-- the record after others
here_fault : (t : TableRows) (above : List Row) (row : Row) (rest : List Row) →
    fault_of_rule t (above ++ row ∷ rest) (length above) ≡ rule_fault t (map rule_name_in above) row
here_fault t above row rest =
    ap (λ (a : List Row). rule_fault t (map rule_name_in a) (get_or (above ++ row ∷ rest) (length above) [])) (take-append_seam above (row ∷ rest))
    ∙ ap (λ (r : Row). rule_fault t (map rule_name_in above) r) (get_or-append_seam above row rest [])

-- the records above it
above_fault : (t : TableRows) (above rest : List Row) (i : ℕ) → i < length above → fault_of_rule t (above ++ rest) i ≡ fault_of_rule t above i
above_fault t above rest i lt =
    ap (λ (a : List Row). rule_fault t (map rule_name_in a) (get_or (above ++ rest) i [])) (take-append-le i above rest (omega arith))
    ∙ ap (λ (r : Row). rule_fault t (map rule_name_in (take i above)) r) (get_or_append_left above rest [] i lt)

no_fault_more : (t : TableRows) (above : List Row) (row : Row) → ((i : ℕ) → i < length above → fault_of_rule t above i ≡ None)
    → rule_fault t (map rule_name_in above) row ≡ None → (i : ℕ) → (i < length above) ⊎ (length above ≤ i) → i < length above + 1
    → fault_of_rule t (above ++ row ∷ []) i ≡ None
no_fault_more t above row old here i (inl lt) short = above_fault t above (row ∷ []) i lt ∙ old i lt
no_fault_more t above row old here i (inr high) short =
    let e : i ≡ length above = omega arith in
    ap (fault_of_rule t (above ++ row ∷ [])) e ∙ here_fault t above row [] ∙ here

-- one record more without a fault
pub one-read : (t : TableRows) (rows : List Row) (rules : List Rule) (row : Row) (r : Rule) → AreRead t rows rules → r ≡ rule_of t row
    → rule_fault t (names_of_rules rules) row ≡ None → IsRuleInRange (length t.params) r → length rules < most_rules
    → AreRead t (rows ++ row ∷ []) (rules ++ r ∷ [])
one-read t rows rules row r h made right range few =
    let here : rule_fault t (map rule_name_in rows) row ≡ None = ap (λ ns. rule_fault t ns row) (sym (names-read t rows rules h)) ∙ right in
    record {
      no_fault = λ i lt. no_fault_more t rows row h.no_fault here i (cases_lt i (length rows)) (omega (arith, lt, length-append rows (row ∷ [])));
      made = ap (λ rs. rs ++ r ∷ []) h.made ∙ ap (λ (x : Rule). rules_of t rows ++ x ∷ []) made ∙ sym (map-append (rule_of t) rows (row ∷ []));
      range = All-append (IsRuleInRange (length t.params)) rules (r ∷ []) h.range
          (All-cons (IsRuleInRange (length t.params)) r [] range (All-nil (IsRuleInRange (length t.params))));
      few = omega (arith, few, length-append rules (r ∷ []));
    }

abbrev pub at_rule : ℕ → RuleFault → Option (ℕ × RuleFault)
at_rule i f = Some (i, f)

-- records without a fault and then one with a fault are refused there, whatever follows
pub refused-here : (t : TableRows) (rows : List Row) (rules : List Rule) (row : Row) (rest : List Row) (f : RuleFault) → AreRead t rows rules
    → rule_fault t (names_of_rules rules) row ≡ Some f → first_rule_fault t (rows ++ row ∷ rest) ≡ at_rule (length rules) f
refused-here t rows rules row rest f h wrong =
    let all = rows ++ row ∷ rest in
    let g : ℕ → Option (ℕ × RuleFault) = λ i. option_map (λ f. (i, f)) (fault_of_rule t all i) in
    let here : rule_fault t (map rule_name_in rows) row ≡ Some f = ap (λ ns. rule_fault t ns row) (sym (names-read t rows rules h)) ∙ wrong in
    let lt : length rows < length all = omega (arith, length-append rows (row ∷ rest)) in
    let count : length rules ≡ length rows = ap (length {A = Rule}) h.made ∙ length-map rows (rule_of t) in
    first_some-at g 0 (length all) (length rows) (length rows, f) lt
    (λ j before. ap g (zero-add j) ∙ ap (option_map (λ f. (j, f))) (above_fault t rows (row ∷ rest) j before ∙ h.no_fault j before))
    (ap g (zero-add (length rows)) ∙ ap (option_map (λ f. (length rows, f))) (here_fault t rows row rest ∙ here))
    ∙ ap (λ n. at_rule n f) (sym count)

pub none-refused : (t : TableRows) (rows : List Row) (rules : List Rule) → AreRead t rows rules → first_rule_fault t rows ≡ None
none-refused t rows rules h =
    let g : ℕ → Option (ℕ × RuleFault) = λ i. option_map (λ f. (i, f)) (fault_of_rule t rows i) in
    first_some-none g 0 (length rows) (λ j before. ap g (zero-add j) ∙ ap (option_map (λ f. (j, f))) (h.no_fault j before))

abbrev refusal : {X : Type 0} → Result X RulesError → Option (ℕ × RuleFault)
refusal (Ok x) = None
refusal (Err (error.Refused row f)) = Some (row, f)
refusal (Err error.NoMemory) = None

-- a refusal tells its record and its fault
pub same-rule : {X : Type 0} (a b : ℕ) (f g : RuleFault) (r : Result X RulesError) → r ≡ Err (rule_refused a f) → r ≡ Err (rule_refused b g)
    → at_rule a f ≡ at_rule b g
same-rule a b f g r e h = sym (ap refusal e) ∙ ap refusal h
