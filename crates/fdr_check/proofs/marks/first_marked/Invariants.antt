use Rattle.std.proofs.Common.{ℕ, ◌<◌, length, get_or}
use Rattle.fdr_check.proofs.Marking.{NoneShared}
use Rattle.fdr_check.proofs.marks.first_marked.Given as goal

abbrev pub invariant-loop-slot : goal.invariant-loop-slot
invariant-loop-slot l = (j : ℕ) → j < l.slot-index → j < length l.slots → NoneShared l.marks l.bits (get_or l.slots j 0)
