-- The header of an image: its first 64 bytes.
use Rattle.std.specs.Prelude.{ℕ, ◌==◌, Bool, not, nat_eq, nat_lt, if◌then◌else◌, List, ◌∷◌, ◌++◌, drop, slice_index, replicate, codes, Option, Some, None}
use Rattle.std.specs.List.{starts_with}
use Rattle.byteorder.specs.Endian.{big_number, big_bytes}
use Rattle.fdr_slot.specs.Limits.{in_limits}
use Rattle.fdr_slot.specs.Places.{image_size}
use Rattle.fdr_slot.specs.declared.image.Header.{Header}
use Rattle.fdr_slot.specs.declared.image.ImageFault.{ImageFault}
use Rattle.fdr_slot.specs.declared.image.ImageFault.TheVariants as fault

-- whether the gate is open: byte 0 is 5A
abbrev pub has_open_gate : List ℕ → Bool
has_open_gate bytes = slice_index bytes 0 == 0x5a

-- whether the bytes say that they are an image: bytes 2 to 7 are `FDR717`
unfoldable pub has_magic : List ℕ → Bool
has_magic bytes = starts_with nat_eq (drop 2 bytes) (codes "FDR717")

-- what the bytes of a header say: the number of slots N, the payload P and the words of a subframe W, each of four bytes with the
-- highest first, and version 2 where byte 1 is A5 and 1 otherwise
unfoldable pub header_of : List ℕ → Header
header_of bytes = record {
  slots = big_number 4 (drop 8 bytes);
  payload = big_number 4 (drop 12 bytes);
  words = big_number 4 (drop 16 bytes);
  version = if slice_index bytes 1 == 0xa5 then 2 else 1;
}

-- byte 1 of a header, which is written for a version: A5 for version 2, 00 for version 1
abbrev pub version_byte : ℕ → ℕ
version_byte version = if version == 2 then 0xa5 else 0

-- the 64 bytes that are written for a header, with an open gate
unfoldable pub header_bytes : Header → List ℕ
header_bytes h = ((0x5a ∷ version_byte h.version ∷ codes "FDR717") ++ big_bytes 4 h.slots ++ big_bytes 4 h.payload ++ big_bytes 4 h.words) ++ replicate 44 0

-- the first fault of an image of `size` bytes that begins with these bytes, or none: too small for a header, the gate closed, no
-- magic, a number out of its limits, shorter than its slots
unfoldable pub image_fault : List ℕ → ℕ → Option ImageFault
image_fault bytes size =
    if nat_lt size 64 then Some fault.Small
    else if not (has_open_gate bytes) then Some fault.Closed
    else if not (has_magic bytes) then Some fault.Magic
    else if not (in_limits (header_of bytes)) then Some fault.Geometry
    else if nat_lt size (image_size (header_of bytes)) then Some fault.Short
    else None
