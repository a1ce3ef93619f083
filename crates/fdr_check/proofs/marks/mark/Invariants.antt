use Rattle.std.proofs.Common.{◌≡◌, ℕ, ◌||◌, length}
use Rattle.fdr_check.specs.Walks.{is_marked}
use Rattle.fdr_check.proofs.Marking.{marked_in}
use Rattle.fdr_check.proofs.marks.mark.Given as goal

abbrev pub invariant-loop-slot : goal.invariant-loop-slot
invariant-loop-slot l = record {
  length : length l.marks ≡ length l.initial.marks;
  marked : (b : ℕ) → is_marked l.marks b ≡ (is_marked l.initial.marks b || marked_in l.place l.slots l.slot-index b);
}
