-- How long numbers are as text.
use Rattle.std.proofs.Common.{ℕ, ◌<◌, ◌≤◌, ◌^◌, length, arith, lit<}
use Rattle.std.specs.Fmt.{decimal}
use Rattle.std.proofs.lemmas.Fmt.{length-decimal-le}

pub length-decimal-20 : (n : ℕ) → n < 2 ^ 64 → length (decimal n) ≤ 20
length-decimal-20 n h = length-decimal-le 20 n (lit< tt) (omega arith) h

pub length-decimal-10 : (n : ℕ) → n < 2 ^ 32 → length (decimal n) ≤ 10
length-decimal-10 n h = length-decimal-le 10 n (lit< tt) (omega arith) (omega arith)

pub length-decimal-4 : (n : ℕ) → n < 10000 → length (decimal n) ≤ 4
length-decimal-4 n h = length-decimal-le 4 n (lit< tt) (omega arith) (omega arith)

pub length-decimal-3 : (n : ℕ) → n < 256 → length (decimal n) ≤ 3
length-decimal-3 n h = length-decimal-le 3 n (lit< tt) (omega arith) (omega arith)

pub length-decimal-1 : (n : ℕ) → n < 10 → length (decimal n) ≤ 1
length-decimal-1 n h = length-decimal-le 1 n (lit< tt) (omega arith) (omega arith)

pub ruleset numbers = (length-decimal-20, length-decimal-4, length-decimal-1)

pub ruleset field_numbers = (length-decimal-10, length-decimal-3)
