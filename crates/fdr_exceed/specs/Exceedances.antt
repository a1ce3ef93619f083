-- Where the rows of parameters leave the limits of rules.
use Rattle.std.specs.Prelude.{ℕ, ◌-◌, zero, suc, ℤ, pos, ◌-ℤ◌, int_lt, Bool, ◌==◌, nat_le, if◌then◌else◌, List, [], ◌∷◌, ◌++◌, length, map}
use Rattle.std.specs.Prelude.{filter_map, take, slice_get, slice_index_or, Option, Some, None, option_map}
use Rattle.std.specs.Int.{int_max, int_min}
use Rattle.std.specs.List.{flat_map, fold, range_with_len}
use Rattle.std.specs.Option.{option_map_or}
use Rattle.circular_buffer.specs.Buffer.{keep_last}
use Rattle.fdr_recon.specs.declared.Row.{Row}
use Rattle.fdr_exceed.specs.declared.hits.HitList.{HitList}
use Rattle.fdr_exceed.specs.declared.rule.Rule.{Rule}
use Rattle.fdr_exceed.specs.declared.rule.RuleKind.{RuleKind}
use Rattle.fdr_exceed.specs.declared.rule.RuleKind.TheVariants as kind
use Rattle.fdr_exceed.specs.Lines.{exceed_text}

-- what a watch is given, one after another: a row of the listing, or the end of a stretch
pub data WatchStep : Type 0 where
  RowStep : Row → WatchStep
  ResetStep : WatchStep

-- the greatest of some values, 0 where there is none
abbrev pub highest : List ℤ → ℤ
highest [] = pos 0
highest (x ∷ xs) = fold int_max x xs

-- the least of some values, 0 where there is none
abbrev pub lowest : List ℤ → ℤ
lowest [] = pos 0
lowest (x ∷ xs) = fold int_min x xs

-- how far apart the values lie
unfoldable pub spread : List ℤ → ℤ
spread values = highest values -ℤ lowest values

-- what a rule of this kind and count compares with its limit at the last of these values: the value, or for `change` how far
-- apart the last `count` values lie, where there are as many
abbrev pub compared : RuleKind → ℕ → List ℤ → Option ℤ
compared kind.Above count values = slice_get values (length values - 1)
compared kind.Below count values = slice_get values (length values - 1)
compared kind.Change count values = if nat_le count (length values) then Some (spread (keep_last count values)) else None

-- whether x is beyond the limit of a rule of this kind: below it for `below`, and else above it
abbrev pub is_beyond : RuleKind → ℤ → ℤ → Bool
is_beyond kind.Above limit x = int_lt limit x
is_beyond kind.Below limit x = int_lt x limit
is_beyond kind.Change limit x = int_lt limit x

-- the one of several numbers that is furthest from the limit of a rule of this kind
abbrev pub furthest : RuleKind → List ℤ → ℤ
furthest kind.Above xs = highest xs
furthest kind.Below xs = lowest xs
furthest kind.Change xs = highest xs

-- what the rule compares at the last of these values, where that is a hit: where it is beyond the limit
unfoldable pub hit_at : Rule → List ℤ → Option ℤ
hit_at rule values = option_map_or (λ x. if is_beyond rule.kind rule.limit x then Some x else None) (compared rule.kind rule.count values) None

-- what the rule compares at the neighbouring hits that end with the n-th value, the last hit first
unfoldable pub hits_to : Rule → List ℤ → ℕ → List ℤ
hits_to rule values zero = []
hits_to rule values (suc n) = option_map_or (λ x. x ∷ hits_to rule values n) (hit_at rule (take (suc n) values)) []

-- the values of rows
abbrev pub values_of : List Row → List ℤ
values_of rows = map (λ (r : Row). r.value) rows

-- what stands for no row
abbrev pub no_row : Row
no_row = record { counter = 0; subframe = 0; word = 0; param = 0; value = pos 0 }

-- the list of these neighbouring hits that ends with the last of the rows: its first row, its length and its peak; none where
-- there are no hits
abbrev pub list_of_hits : Rule → List Row → List ℤ → Option HitList
list_of_hits rule rows [] = None
list_of_hits rule rows (x ∷ xs) = Some (record {
  first = slice_index_or rows (length rows - length (x ∷ xs)) no_row;
  length = length (x ∷ xs);
  peak = furthest rule.kind (x ∷ xs);
})

-- the longest list of neighbouring hits that ends with the last of these rows of a rule's parameter, where that is a hit
unfoldable pub hit_list : Rule → List Row → Option HitList
hit_list rule rows = list_of_hits rule rows (hits_to rule (values_of rows) (length rows))

-- how many neighbouring hits make an exceedance of a rule of this kind: its count, or 1 for `change`
abbrev pub least_hits : Rule → RuleKind → ℕ
least_hits rule kind.Above = rule.count
least_hits rule kind.Below = rule.count
least_hits rule kind.Change = 1

-- a list of neighbouring hits, where it is long enough to be an exceedance of the rule
abbrev pub exceedance_of : Rule → Option HitList → Option HitList
exceedance_of rule None = None
exceedance_of rule (Some list) = if nat_le (least_hits rule rule.kind) list.length then Some list else None

-- the rows of a rule's parameter in the stretch that steps end in, with one more step: a row may be one more of them, and a reset
-- begins a stretch
abbrev pub with_step : Rule → List Row → WatchStep → List Row
with_step rule rows (RowStep r) = if r.param == rule.param then rows ++ r ∷ [] else rows
with_step rule rows ResetStep = []

-- the rows of a rule's parameter in the stretch that these steps end in
unfoldable pub rows_since : Rule → List WatchStep → List Row
rows_since rule steps = fold (with_step rule) [] steps

-- the exceedance that ends with these rows of a rule's parameter, where row r of it comes next: none where r is a hit
unfoldable pub ended_before : Rule → List Row → Row → Option HitList
ended_before rule rows r = option_map_or (λ x. None) (hit_at rule (values_of (rows ++ r ∷ []))) (exceedance_of rule (hit_list rule rows))

-- the exceedance that ends with these rows of a rule's parameter, where this step comes next
abbrev pub ended_by : Rule → List Row → WatchStep → Option HitList
ended_by rule rows (RowStep r) = if r.param == rule.param then ended_before rule rows r else None
ended_by rule rows ResetStep = exceedance_of rule (hit_list rule rows)

-- the lines of the exceedances that step i ends, in the order of the rules
unfoldable pub lines_ended_by_step : List Rule → List WatchStep → ℕ → List (List ℕ)
lines_ended_by_step rules steps i =
    filter_map (λ (rule : Rule). option_map (exceed_text rule) (ended_by rule (rows_since rule (take i steps)) (slice_index_or steps i ResetStep))) rules

-- the lines of all exceedances, in the order of where they end and then of the rules
unfoldable pub exceedances : List Rule → List WatchStep → List (List ℕ)
exceedances rules steps = flat_map (lines_ended_by_step rules steps) (range_with_len 0 (length steps))
