use Rattle.std.proofs.Common.{◌≡◌, ℕ, ◌<◌, ◌≤◌, List, length}
use Rattle.std.specs.Prelude.{All}
use Rattle.fdr_exceed.specs.declared.watch.Exceedance.{Exceedance}
use Rattle.fdr_exceed.specs.Exceedances.{WatchStep, ResetStep}
use Rattle.fdr_exceed.specs.Watching.{AreHits, IsWithinHits}
use Rattle.fdr_exceed.proofs.Stepping.{IsGivenTo}
use Rattle.fdr_exceed.proofs.watch.reset_rules.Given as goal

-- the stretch has ended for the rules before rule i
abbrev pub invariant-loop-i : goal.invariant-loop-i
invariant-loop-i l = record {
  within : l.i ≤ length l.rules;
  given : (steps : List WatchStep) → AreHits l.rules steps l.initial.hits → IsGivenTo l.rules steps ResetStep l.i l.hits l.due.items;
  few : length l.due.items ≤ l.i;
  room : l.due.capacity ≡ length l.rules;
  inside : All (λ (e : Exceedance). e.rule < length l.rules) l.due.items;
  shorter : (n : ℕ) → All (IsWithinHits n) l.initial.hits → All (IsWithinHits n) l.hits;
}
