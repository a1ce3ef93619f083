use Rattle.std.proofs.Common.{◌≡◌}
use Rattle.fdr_storage_deck.proofs.tries.write_on.Given as goal

abbrev pub invariant-loop-attempt : goal.invariant-loop-attempt
invariant-loop-attempt g l = g.O.Outlet.written l.outlet ≡ g.O.Outlet.written l.initial.outlet
