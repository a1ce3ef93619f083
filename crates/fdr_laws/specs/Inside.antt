-- Exceedances that lie inside rows which stand together, whatever is before and behind them.
use Rattle.std.specs.Prelude.{ℕ, ◌≡◌, ◌+◌, ◌-◌, ◌%◌, ◌<◌, ◌≤◌, ◌==◌, max, List, ◌∷◌, ◌++◌, length, filter, Some}
use Rattle.std.specs.List.{flat_map, range_with_len}
use Rattle.fdr_bus.specs.declared.BusRecord.{BusRecord}
use Rattle.fdr_table.specs.Rows.{TableRows}
use Rattle.fdr_readout.specs.SampledRows.{sampled_rows}
use Rattle.fdr_recon.specs.declared.Row.{Row}
use Rattle.fdr_exceed.specs.Exceedances.{ended_before}
use Rattle.fdr_exceed.specs.declared.hits.HitList.{HitList}
use Rattle.fdr_exceed.specs.declared.rule.Rule.{Rule}
use Rattle.fdr_exceed.specs.declared.rule.RuleKind.{RuleKind}
use Rattle.fdr_exceed.specs.declared.rule.RuleKind.TheVariants as kind

-- how many rows of its parameter a rule of this kind looks at for one comparison: for `change` its count, and else one
abbrev pub rows_compared : Rule → RuleKind → ℕ
rows_compared rule kind.Above = 1
rows_compared rule kind.Below = 1
rows_compared rule kind.Change = max 1 rule.count

-- the rows of a rule's parameter among some rows
abbrev pub rows_of_rule : Rule → List Row → List Row
rows_of_rule rule rows = filter (λ (r : Row). r.param == rule.param) rows

-- An exceedance of a rule lies inside some rows and ends with them, where row r of the rule's parameter comes next. It is made of
-- these rows alone, and before its hits there are as many rows of the parameter as the rule compares.
pub record LiesInside (rule : Rule) (rows : List Row) (r : Row) (e : HitList) : Type 0 where
  pub own : r.param ≡ rule.param
  pub ends : ended_before rule (rows_of_rule rule rows) r ≡ Some e
  pub begins : e.length + rows_compared rule rule.kind ≤ length (rows_of_rule rule rows)

-- all rows that a recording samples in so many frames, from this frame on
abbrev pub rows_sampled_in : TableRows → List BusRecord → ℕ → ℕ → List Row
rows_sampled_in t records from count = flat_map (sampled_rows t records) (range_with_len from count)

-- An exceedance of a rule lies in frames j to j + m - 1 of a recording: it lies inside the rows that the recording samples from
-- one of these frames on, whose superframe begins among them, up to the last, and a row of the rule's parameter comes after it
-- there. It is made of the trace, the table and the rule, without any bits.
pub record LiesInRun (t : TableRows) (records : List BusRecord) (rule : Rule) (j m : ℕ) (e : HitList) : Type 0 where
  pub from : ℕ
  pub low : j ≤ from
  pub high : from < j + m
  pub begun : from % 16 ≤ from - j
  pub rows : List Row
  pub next : Row
  pub more : List Row
  pub split : rows_sampled_in t records from (j + m - from) ≡ rows ++ next ∷ more
  pub inside : LiesInside rule rows next e
