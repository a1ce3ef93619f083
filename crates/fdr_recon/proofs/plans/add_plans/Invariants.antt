use Rattle.std.proofs.Common.{◌≡◌, ◌++◌, map, take}
use Rattle.fdr_layout.specs.Listed.{sample_in}
use Rattle.fdr_recon.specs.Plans.{row_plan}
use Rattle.fdr_recon.proofs.plans.add_plans.Given as goal

abbrev pub invariant-loop-sample : goal.invariant-loop-sample
invariant-loop-sample l =
    l.rows.items ≡ l.initial.rows.items ++ map (row_plan l.words l.cycle) (map (sample_in l.layout) (take l.sample-index l.sample-items))
