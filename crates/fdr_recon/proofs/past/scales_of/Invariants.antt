use Rattle.std.proofs.Common.{◌≡◌, take}
use Rattle.fdr_recon.proofs.past.scales_of.Given as goal

abbrev pub invariant-loop-param : goal.invariant-loop-param
invariant-loop-param l = l.scales.items ≡ take l.param-index l.params
