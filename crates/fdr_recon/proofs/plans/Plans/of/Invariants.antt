use Rattle.std.proofs.Common.{◌≡◌, ◌+◌, ◌<◌, ◌^◌, ℕ, [], length, map}
use Rattle.std.specs.List.{flat_map, range_with_len, slice_index_or}
use Rattle.fdr_layout.proofs.Flats.{ends}
use Rattle.fdr_recon.specs.Plans.{cycle_plans}
use Rattle.fdr_recon.proofs.plans.Plans.of.Given as goal

abbrev pub invariant-loop-cycle : goal.invariant-loop-cycle
invariant-loop-cycle l = record {
  rows : l.rows.items ≡ flat_map (cycle_plans l.fn.layout l.words) (range_with_len 0 l.cycle);
  starts : l.starts.items ≡ map (ends (cycle_plans l.fn.layout l.words)) (range_with_len 0 (l.cycle + 1));
  countable : (cycle : ℕ) → cycle < l.cycle → length (slice_index_or l.fn.layout.cycles cycle []) < 2 ^ 32;
}
