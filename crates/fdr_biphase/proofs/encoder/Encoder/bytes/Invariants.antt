use Rattle.std.proofs.Common.{◌≡◌, ◌*◌, ◌++◌, Bool, List, ℕ, take}
use Rattle.fdr_biphase.specs.Cells.{bits_of_bytes, level_after}
use Rattle.fdr_biphase.specs.Packed.{encoded_bytes, turn_of}
use Rattle.fdr_biphase.specs.Past.{RepresentsEncoder}
use Rattle.fdr_biphase.proofs.encoder.Encoder.bytes.Given as goal

abbrev pub invariant-loop-i : goal.invariant-loop-i
invariant-loop-i l = record {
  packed : (first : Bool) (before : List ℕ) → RepresentsEncoder l.fn.self first before
      → encoded_bytes first (before ++ take l.i l.bytes) ≡ encoded_bytes first before ++ take (2 * l.i) l.room;
  stands : (first : Bool) (before : List ℕ) → RepresentsEncoder l.fn.self first before
      → l.turn ≡ turn_of (level_after first (bits_of_bytes (before ++ take l.i l.bytes)));
}
