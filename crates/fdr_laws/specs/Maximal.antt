-- What exceedances are, by where they lie in a stretch.
use Rattle.std.specs.Prelude.{ℕ, ◌≡◌, ◌+◌, ◌-◌, ◌<◌, ◌≤◌, ℤ, ◌≤ℤ◌, ◌⊎◌, List, [], ◌∷◌, ◌++◌, length, map, take, slice_index_or, Some, None, Contains}
use Rattle.fdr_recon.specs.declared.Row.{Row}
use Rattle.fdr_exceed.specs.declared.hits.HitList.{HitList}
use Rattle.fdr_exceed.specs.declared.rule.Rule.{Rule}
use Rattle.fdr_exceed.specs.declared.rule.RuleKind.{RuleKind}
use Rattle.fdr_exceed.specs.declared.rule.RuleKind.TheVariants as kind
use Rattle.fdr_exceed.specs.Exceedances.{WatchStep, RowStep, ResetStep, hit_at, least_hits, no_row, values_of}
use Rattle.fdr_exceed.specs.Lines.{exceed_text}
use Rattle.fdr_laws.specs.Inside.{rows_of_rule}

-- Row n of the rows of a rule's parameter, from the first one of a stretch on, is a hit, at which the rule compares x.
abbrev pub IsHit : Rule → List Row → ℕ → ℤ → Type 0
IsHit rule rows n x = hit_at rule (take (n + 1) (values_of rows)) ≡ Some x

-- Row n of these rows is none.
abbrev pub IsNoHit : Rule → List Row → ℕ → Type 0
IsNoHit rule rows n = hit_at rule (take (n + 1) (values_of rows)) ≡ None

-- x isn't further from the limit of a rule of this kind than the peak.
abbrev pub IsUpTo : RuleKind → ℤ → ℤ → Type 0
IsUpTo kind.Above peak x = x ≤ℤ peak
IsUpTo kind.Below peak x = peak ≤ℤ x
IsUpTo kind.Change peak x = x ≤ℤ peak

-- The list is of hits at the end of these rows of a rule's parameter: the last rows, as many as it says, are hits, and the row
-- in front of them isn't one. It has the first of them, and what is compared at one of them and isn't surpassed at another.
pub record AreLastHits (rule : Rule) (rows : List Row) (list : HitList) : Type 0 where
  pub some : 1 ≤ list.length
  pub within : list.length ≤ length rows
  pub hits : (n : ℕ) → length rows ≤ n + list.length → n < length rows → (x : ℤ) × IsHit rule rows n x × IsUpTo rule.kind list.peak x
  pub front : (n : ℕ) → n + 1 + list.length ≡ length rows → IsNoHit rule rows n
  pub first : list.first ≡ slice_index_or rows (length rows - list.length) no_row
  pub peak : (n : ℕ) × (length rows ≤ n + list.length) × (n < length rows) × IsHit rule rows n list.peak

-- With this step no hit follows on these rows of a rule's parameter: it is a row of it that is none, or the end of the stretch.
abbrev pub EndsHits : Rule → List Row → WatchStep → Type 0
EndsHits rule rows (RowStep r) = (r.param ≡ rule.param) × IsNoHit rule (rows ++ r ∷ []) (length rows)
EndsHits rule rows ResetStep = Unit {0}

-- A stretch begins behind these steps: there are none, or the last is the end of one.
abbrev pub BeginsStretch : List WatchStep → Type 0
BeginsStretch steps = (steps ≡ []) ⊎ ((earlier : List WatchStep) × (steps ≡ earlier ++ ResetStep ∷ []))

-- Step i ends an exceedance of a rule: the rule's rows in the stretch, up to this step, end with neighbouring hits, no hit is in
-- front of them or follows them, and they are enough.
pub record IsExceedance (rule : Rule) (steps : List WatchStep) (i : ℕ) (list : HitList) : Type 0 where
  pub before : List WatchStep
  pub rows : List Row
  pub stretch : take i steps ≡ before ++ map RowStep rows
  pub begins : BeginsStretch before
  pub hits : AreLastHits rule (rows_of_rule rule rows) list
  pub over : EndsHits rule (rows_of_rule rule rows) (slice_index_or steps i ResetStep)
  pub enough : least_hits rule rule.kind ≤ list.length

-- The line is that of an exceedance of one of the rules.
pub record IsExceedanceLine (rules : List Rule) (steps : List WatchStep) (line : List ℕ) : Type 0 where
  pub rule : Rule
  pub list : HitList
  pub place : ℕ
  pub one : Contains rules rule
  pub within : place < length steps
  pub is : IsExceedance rule steps place list
  pub text : line ≡ exceed_text rule list
