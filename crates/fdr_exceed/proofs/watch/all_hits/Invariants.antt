use Rattle.std.proofs.Common.{◌≡◌, ℕ, ◌<◌, length, []}
use Rattle.std.specs.Prelude.{All}
use Rattle.fdr_exceed.specs.Watching.{IsHits, IsWithinHits, hits_of_rule, rule_at}
use Rattle.fdr_exceed.proofs.watch.all_hits.Given as goal

abbrev pub invariant-loop-rule : goal.invariant-loop-rule
invariant-loop-rule l = record {
  count : length l.hits.items ≡ l._rule-index;
  each : (k : ℕ) → k < l._rule-index → IsHits (rule_at l.rules k) [] (hits_of_rule l.hits.items k);
  short : All (IsWithinHits 0) l.hits.items;
}
