use Rattle.std.proofs.Common.{length, ◌-◌, ◌≤◌, ◌++◌, ℕ, List, take}
use Rattle.fdr_biphase.specs.Cells.{bits_of_bytes}
use Rattle.fdr_biphase.specs.Reading.{ReadsLevels}
use Rattle.fdr_biphase.proofs.reader.LevelReader.bytes.Given as goal

abbrev pub invariant-loop-at : goal.invariant-loop-at
invariant-loop-at l = record {
  reads : (came bytes : List ℕ) → ReadsLevels l.fn.self (bits_of_bytes came) bytes
      → ReadsLevels l.self (bits_of_bytes (came ++ take l.at l.levels)) (bytes ++ take l.count l.room);
  within : l.at ≤ length l.levels;
  few : l.count ≤ l.at;
}

abbrev pub decreases-loop-at : goal.decreases-loop-at
decreases-loop-at l = length l.levels - l.at
