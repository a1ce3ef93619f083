-- What came to a packer of bits and to a reader of levels, and what they keep of it.
use Rattle.std.specs.Prelude.{ℕ, ◌≡◌, ◌*◌, ◌<◌, Bool, true, false, List, ◌++◌, length, Some}
use Rattle.fdr_biphase.specs.declared.packer.BitPacker.{BitPacker}
use Rattle.fdr_biphase.specs.declared.reader.LevelReader.{LevelReader}
use Rattle.fdr_biphase.specs.Packed.{packed_bits, bytes_of_bits}
use Rattle.fdr_biphase.specs.Phases.{missing_place, cell_bits}
use Rattle.fdr_biphase.specs.Past.{RepresentsDecoder}

-- These bits were pushed to the packer, and these bytes answered: they pack all of the bits but fewer than eight, which the
-- packer keeps.
pub record RepresentsPacker (p : BitPacker) (bits : List Bool) (bytes : List ℕ) : Type 0 where
  pub whole : List Bool
  pub rest : List Bool
  pub split : bits ≡ whole ++ rest
  pub answered : bytes ≡ bytes_of_bits whole
  pub eights : length whole ≡ 8 * length bytes
  pub few : length rest < 8
  pub count : p.count ≡ length rest
  pub byte : p.byte ≡ packed_bits rest

-- These levels came to the reader, no place among them is missing, and these bytes of their bits were answered.
pub record ReadsLevels (r : LevelReader) (levels : List Bool) (bytes : List ℕ) : Type 0 where
  pub bits : List Bool
  pub decodes : RepresentsDecoder r.decoder (record { levels = levels; bits = bits })
  pub unended : r.decoder.ended ≡ false
  pub packs : RepresentsPacker r.packer bits bytes

-- The place `at` is missing in the levels that came to the reader, however they go on, and these bytes of the bits before it were
-- answered.
pub record MissesLevel (r : LevelReader) (levels : List Bool) (bytes : List ℕ) (at : ℕ) : Type 0 where
  pub bits : List Bool
  pub place : (more : List Bool) → missing_place (levels ++ more) ≡ Some at
  pub decoded : (more : List Bool) → cell_bits (levels ++ more) ≡ bits
  pub ended : r.decoder.ended ≡ true
  pub packs : RepresentsPacker r.packer bits bytes
