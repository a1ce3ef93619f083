-- What a watch keeps, and which steps it represents.
use Rattle.std.specs.Prelude.{ℕ, ◌≡◌, ◌≢◌, ◌+◌, ◌≤◌, ◌<◌, ℤ, pos, List, [], ◌∷◌, ◌++◌, length, map, drop, filter_map, Option, Some, None, option_map}
use Rattle.std.specs.Prelude.{set, slice_index, slice_index_or, All, IfSome, ◌==◌, if◌then◌else◌}
use Rattle.std.specs.Int.{int_max, int_min}
use Rattle.std.specs.List.{cons_option, range_with_len}
use Rattle.circular_buffer.specs.Buffer.{Buffer, buffer, keep_last}
use Rattle.fdr_recon.specs.declared.Row.{Row}
use Rattle.fdr_exceed.specs.declared.hits.HitList.{HitList}
use Rattle.fdr_exceed.specs.declared.hits.Hits.{Hits}
use Rattle.fdr_exceed.specs.declared.rule.Rule.{Rule}
use Rattle.fdr_exceed.specs.declared.rule.RuleKind.{RuleKind}
use Rattle.fdr_exceed.specs.declared.rule.RuleKind.TheVariants as kind
use Rattle.fdr_exceed.specs.declared.watch.Exceedance.{Exceedance}
use Rattle.fdr_exceed.specs.Rules.{AreRulesInRange}
use Rattle.fdr_exceed.specs.Exceedances.{WatchStep, values_of, hit_list, rows_since, ended_by, exceedances}
use Rattle.fdr_exceed.specs.Lines.{exceed_text}

-- what stands for no rule
abbrev pub no_rule : Rule
no_rule = record { name = []; param = 0; decimals = 0; kind = kind.Above; limit = pos 0; count = 0 }

-- what is kept for a rule of which no row came
abbrev pub no_hits : Hits
no_hits = record { list = None }

-- rule k of a list, counted from 0
abbrev pub rule_at : List Rule → ℕ → Rule
rule_at rules k = slice_index_or rules k no_rule

-- what is kept for rule k, counted from 0
abbrev pub hits_of_rule : List Hits → ℕ → Hits
hits_of_rule hits k = slice_index_or hits k no_hits

-- the one of two numbers that is further from the limit of a rule of this kind
abbrev pub further : RuleKind → ℤ → ℤ → ℤ
further kind.Above x y = int_max x y
further kind.Below x y = int_min x y
further kind.Change x y = int_max x y

-- a list of neighbouring hits with one more, row r, at which the rule compares x
abbrev pub one_longer : RuleKind → Option HitList → Row → ℤ → HitList
one_longer k None r x = record { first = r; length = 1; peak = x }
one_longer k (Some list) r x = record { first = list.first; length = list.length + 1; peak = further k x list.peak }

-- the window at a place, where there is one
abbrev pub window_at : List (Option (Buffer ℤ)) → ℕ → Option (Buffer ℤ)
window_at windows j = slice_index_or windows j None

-- a window with one value more
abbrev pub pushed : ℤ → Option (Buffer ℤ) → Option (Buffer ℤ)
pushed v None = None
pushed v (Some w) = Some (buffer (keep_last w.capacity (w.items ++ v ∷ [])) w.capacity)

-- the windows, where rule i of this kind is given a value: only that of a rule for changes that shares none of a rule before it
-- takes it
abbrev pub windows_given : RuleKind → List ℕ → ℕ → ℤ → List (Option (Buffer ℤ)) → List (Option (Buffer ℤ))
windows_given kind.Above sources i v windows = windows
windows_given kind.Below sources i v windows = windows
windows_given kind.Change sources i v windows = if slice_index sources i == i then set windows i (pushed v (window_at windows i)) else windows

-- a window whose values were forgotten
abbrev pub cleared : Option (Buffer ℤ) → Option (Buffer ℤ)
cleared None = None
cleared (Some w) = Some (buffer [] w.capacity)

-- What is kept of these values for a rule of this kind: for a rule for changes a window with the last of them.
abbrev pub HasWindow : RuleKind → ℕ → Option (Buffer ℤ) → List ℤ → Type 0
HasWindow kind.Above count w values = Unit {0}
HasWindow kind.Below count w values = Unit {0}
HasWindow kind.Change count None values = ⊥
HasWindow kind.Change count (Some w) values = (w.capacity ≡ count) × (w.items ≡ keep_last count values)

-- What is kept for the rule is that of these rows of its parameter.
pub record IsHits (rule : Rule) (rows : List Row) (h : Hits) : Type 0 where
  pub list : h.list ≡ hit_list rule rows

-- The list that is kept for a rule has no more hits than this.
abbrev pub IsWithinHits : ℕ → Hits → Type 0
IsWithinHits n h = IfSome h.list (λ (list : HitList). list.length ≤ n)

-- What is kept for each rule is that of the steps.
abbrev pub AreHits : List Rule → List WatchStep → List Hits → Type 0
AreHits rules steps hits = (k : ℕ) → k < length rules → IsHits (rule_at rules k) (rows_since (rule_at rules k) steps) (hits_of_rule hits k)

-- The numbers say for each rule at which place its window is: its own, or that of a rule before it. Rules for changes of one
-- parameter within as many rows share one.
pub record AreSources (rules : List Rule) (sources : List ℕ) : Type 0 where
  pub count : length sources ≡ length rules
  pub within : (k : ℕ) → k < length rules → slice_index sources k ≤ k
  pub own : (k : ℕ) → k < length rules → slice_index sources (slice_index sources k) ≡ slice_index sources k
  pub kind : (k : ℕ) → k < length rules → (rule_at rules (slice_index sources k)).kind ≡ (rule_at rules k).kind
  pub same : (k : ℕ) → k < length rules → (rule_at rules (slice_index sources k)).param ≡ (rule_at rules k).param

-- The window of each rule is that of the steps.
abbrev pub AreWindows : List Rule → List ℕ → List WatchStep → List (Option (Buffer ℤ)) → Type 0
AreWindows rules sources steps windows = (k : ℕ) → k < length rules
    → HasWindow (rule_at rules k).kind (rule_at rules k).count (window_at windows (slice_index sources k)) (values_of (rows_since (rule_at rules k) steps))

-- The first n rules have windows without values.
pub record HaveWindows (rules : List Rule) (n : ℕ) (windows : List (Option (Buffer ℤ))) (sources : List ℕ) : Type 0 where
  pub count : length windows ≡ n
  pub places : length sources ≡ n
  pub within : (k : ℕ) → k < n → slice_index sources k ≤ k
  pub own : (k : ℕ) → k < n → slice_index sources (slice_index sources k) ≡ slice_index sources k
  pub kind : (k : ℕ) → k < n → (rule_at rules (slice_index sources k)).kind ≡ (rule_at rules k).kind
  pub same : (k : ℕ) → k < n → (rule_at rules (slice_index sources k)).param ≡ (rule_at rules k).param
  pub has : (k : ℕ) → k < n → HasWindow (rule_at rules k).kind (rule_at rules k).count (window_at windows (slice_index sources k)) []

-- Rule i is the first one from `start` on for this parameter, or i is how many rules there are.
pub record IsNextOf (rules : List Rule) (start param i : ℕ) : Type 0 where
  pub from : start ≤ i
  pub within : i ≤ length rules
  pub none : (k : ℕ) → start ≤ k → k < i → (rule_at rules k).param ≢ param
  pub here : i < length rules → (rule_at rules i).param ≡ param

-- The numbers say for each rule where the next one of its parameter is.
pub record AreNexts (rules : List Rule) (next : List ℕ) : Type 0 where
  pub count : length next ≡ length rules
  pub each : (i : ℕ) → i < length rules → IsNextOf rules (i + 1) (rule_at rules i).param (slice_index next i)

-- the exceedance of rule k that step s ends after these steps, if it ends one
unfoldable pub due_of_rule : List Rule → List WatchStep → WatchStep → ℕ → Option Exceedance
due_of_rule rules steps s k =
    option_map (λ (list : HitList). record { rule = k; list = list }) (ended_by (rule_at rules k) (rows_since (rule_at rules k) steps) s)

-- the exceedances of the first n rules that step s ends after these steps
abbrev pub due_to : List Rule → List WatchStep → WatchStep → ℕ → List Exceedance
due_to rules steps s n = filter_map (due_of_rule rules steps s) (range_with_len 0 n)

-- what waits to be taken, with the exceedance of rule k that ended, if one did
abbrev pub with_ended : List Exceedance → ℕ → Option HitList → List Exceedance
with_ended due k ended = due ++ cons_option (option_map (λ (list : HitList). record { rule = k; list = list }) ended) []

-- the line of an exceedance that waits to be taken
abbrev pub line_due : List Rule → Exceedance → List ℕ
line_due rules e = exceed_text (rule_at rules e.rule) e.list

-- what a watch keeps: the rules, what is kept for each, the windows and where that of each rule is, the exceedances whose lines
-- weren't taken, and how many rows were given
pub record WatchKept : Type 0 where
  pub rules : List Rule
  pub hits : List Hits
  pub windows : List (Option (Buffer ℤ))
  pub sources : List ℕ
  pub due : List Exceedance
  pub rows : ℕ

-- What holds of every watch, where `first_of` has the first rule of each parameter and `next_of` the next of each rule.
pub record IsWatchKept (w : WatchKept) (capacity : ℕ) (first_of next_of : List ℕ) : Type 0 where
  pub rules : AreRulesInRange (length first_of) w.rules
  pub hits : length w.hits ≡ length w.rules
  pub windows : length w.windows ≡ length w.rules
  pub sources : AreSources w.rules w.sources
  pub first : (p : ℕ) → p < length first_of → IsNextOf w.rules 0 p (slice_index first_of p)
  pub next : AreNexts w.rules next_of
  pub room : capacity ≡ length w.rules
  pub due : All (λ (e : Exceedance). e.rule < length w.rules) w.due
  pub short : All (IsWithinHits w.rows) w.hits

-- The watch represents these steps, which were given to it, with so many lines taken: what it keeps of each rule is that of the
-- steps, and what waits are the exceedances beyond those taken.
pub record RepresentsWatch (w : WatchKept) (steps : List WatchStep) (taken : ℕ) : Type 0 where
  pub hits : AreHits w.rules steps w.hits
  pub windows : AreWindows w.rules w.sources steps w.windows
  pub due : map (line_due w.rules) w.due ≡ drop taken (exceedances w.rules steps)
  pub within : taken ≤ length (exceedances w.rules steps)
