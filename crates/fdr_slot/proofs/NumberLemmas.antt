-- Numbers that are written and read again.
use Rattle.std.proofs.Common.{◌≡◌, ◌<◌, ◌^◌, ℕ, List, ◌++◌, arith}
use Rattle.std.proofs.lemmas.Nat.{from_be_bytes-to_be_bytes_2, from_be_bytes-to_be_bytes_4, from_be_bytes-to_be_bytes_8}
use Rattle.byteorder.specs.Endian.{big_number, big_bytes}

pub big_number-big_bytes_2 : (x : ℕ) (rest : List ℕ) → x < 2 ^ 16 → big_number 2 (big_bytes 2 x ++ rest) ≡ x
big_number-big_bytes_2 x rest fits = omega (arith, from_be_bytes-to_be_bytes_2 x fits)

pub big_number-big_bytes_4 : (x : ℕ) (rest : List ℕ) → x < 2 ^ 32 → big_number 4 (big_bytes 4 x ++ rest) ≡ x
big_number-big_bytes_4 x rest fits = omega (arith, from_be_bytes-to_be_bytes_4 x fits)

pub big_number-big_bytes_8 : (x : ℕ) (rest : List ℕ) → x < 2 ^ 64 → big_number 8 (big_bytes 8 x ++ rest) ≡ x
big_number-big_bytes_8 x rest fits = omega (arith, from_be_bytes-to_be_bytes_8 x fits)
