use Rattle.std.proofs.Common.{[], refl, sym, arith}
use Rattle.fdr_biphase.proofs.Packing.{no_bytes}
use Rattle.fdr_biphase.proofs.packer.BitPacker.new.Goals as goal

pub returns-clause-stands : goal.returns-clause-stands
returns-clause-stands c = record {
  whole = [];
  rest = [];
  split = refl;
  answered = sym no_bytes;
  eights = omega arith;
  few = omega arith;
  count = refl;
  byte = refl;
}
