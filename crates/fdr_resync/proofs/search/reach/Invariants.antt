use Rattle.std.proofs.Common.{◌-◌, ◌≤◌}
use Rattle.fdr_bits.specs.Bits.{bits_in}
use Rattle.fdr_resync.proofs.Searching.{IsClear}
use Rattle.fdr_resync.proofs.search.reach.Given as goal

abbrev pub invariant-loop-p : goal.invariant-loop-p
invariant-loop-p l = record { behind : l.from ≤ l.at; within : l.at ≤ bits_in l.bytes; clear : IsClear l.bytes l.words l.from l.at }

abbrev pub decreases-loop-p : goal.decreases-loop-p
decreases-loop-p l = bits_in l.bytes - l.at
