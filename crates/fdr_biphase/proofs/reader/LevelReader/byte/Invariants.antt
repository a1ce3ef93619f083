use Rattle.std.proofs.Common.{◌<◌, List, ℕ, ◌++◌, take}
use Rattle.std.specs.Prelude.{IsSome}
use Rattle.fdr_biphase.specs.Cells.{bits_of_bytes}
use Rattle.fdr_biphase.specs.Packed.{answered_byte, byte_bits}
use Rattle.fdr_biphase.specs.Reading.{ReadsLevels}
use Rattle.fdr_biphase.proofs.reader.LevelReader.byte.Given as goal

abbrev pub invariant-loop-i : goal.invariant-loop-i
invariant-loop-i l = record {
  reads : (came bytes : List ℕ) → ReadsLevels l.fn.self (bits_of_bytes came) bytes
      → ReadsLevels l.self (bits_of_bytes came ++ take l.i (byte_bits l.fn.levels)) (bytes ++ answered_byte l.byte);
  few : IsSome l.byte → l.self.packer.count < l.i;
}
