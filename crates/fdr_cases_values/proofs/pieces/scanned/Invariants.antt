use Rattle.std.proofs.Common.{◌≡◌, ◌≤◌, ◌-◌, false, length}
use Rattle.fdr_resync.specs.Past.{bytes_pushed}
use Rattle.fdr_cases_values.proofs.pieces.scanned.Given as goal

abbrev pub invariant-loop-at : goal.invariant-loop-at
invariant-loop-at g l = record { pushed : bytes_pushed l.scanner ≡ l.at; open_still : l.scanner.ended ≡ false; within : l.at ≤ length l.bytes }

abbrev pub decreases-loop-at : goal.decreases-loop-at
decreases-loop-at g l = length l.bytes - l.at
