use Rattle.std.proofs.Common.{◌≡◌, ℕ, ◌+◌, ◌-◌, ◌<◌, ◌≤◌, List, length}
use Rattle.std.specs.Prelude.{All}
use Rattle.fdr_exceed.specs.declared.watch.Exceedance.{Exceedance}
use Rattle.fdr_exceed.specs.Exceedances.{WatchStep, RowStep}
use Rattle.fdr_exceed.specs.Watching.{AreHits, AreWindows, IsWithinHits, hits_of_rule, rule_at}
use Rattle.fdr_exceed.proofs.Sharing.{ArePushed}
use Rattle.fdr_exceed.proofs.Stepping.{IsGivenTo}
use Rattle.fdr_exceed.proofs.watch.step_rules.Given as goal

-- the rules before rule i and their windows have the row, and no other has; rule i is one of the row's parameter
abbrev pub invariant-loop-i : goal.invariant-loop-i
invariant-loop-i l = record {
  within : l.i ≤ length l.rules;
  here : l.i < length l.rules → (rule_at l.rules l.i).param ≡ l.row.param;
  given : (steps : List WatchStep) → AreWindows l.rules l.sources steps l.initial.windows → AreHits l.rules steps l.initial.hits
      → IsGivenTo l.rules steps (RowStep l.row) l.i l.hits l.due.items;
  pushed : ArePushed l.rules l.sources l.row l.i l.initial.windows l.windows;
  same : (k : ℕ) → l.i ≤ k → hits_of_rule l.hits k ≡ hits_of_rule l.initial.hits k;
  few : length l.due.items ≤ l.i;
  room : l.due.capacity ≡ length l.rules;
  inside : All (λ (e : Exceedance). e.rule < length l.rules) l.due.items;
  longer : (n : ℕ) → All (IsWithinHits n) l.initial.hits → All (IsWithinHits (n + 1)) l.hits;
}

abbrev pub decreases-loop-i : goal.decreases-loop-i
decreases-loop-i l = length l.rules - l.i
