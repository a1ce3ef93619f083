use Rattle.fdr_exceed.specs.Watching.{HaveWindows}
use Rattle.fdr_exceed.proofs.windows.all_windows.Given as goal

abbrev pub invariant-loop-i : goal.invariant-loop-i
invariant-loop-i l = HaveWindows l.rules l.i l.windows.items l.sources.items
