use Rattle.std.proofs.Common.{◌≡◌, ◌*◌, ◌^◌, ◌≤◌, take}
use Rattle.fdr_recon.specs.Plans.{planned_raw}
use Rattle.fdr_recon.proofs.past.Rebuild.raw.Given as goal

abbrev pub invariant-loop-field : goal.invariant-loop-field
invariant-loop-field l = (l.raw ≡ planned_raw l.self (take l.field-index l.fields)) × (l.raw ≤ l.field-index * 2 ^ 48)
