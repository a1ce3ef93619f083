-- The numbers that a multiplication and a shift divide exactly.
use Rattle.std.specs.Prelude.{ℕ, Bool, ◌*◌, ◌^◌, ◌&&◌, nat_lt, IsTrue}

-- whether a multiplication and a shift divide the number n exactly by d: n × d is below 2^40, and n / d below 2^23. The factor is
-- at most 2^40 / d + 1, so what it is too large by stays below bit 40, and the product below 2^64
abbrev pub is_in_reach : ℕ → ℕ → Bool
is_in_reach d n = nat_lt (n * d) (2 ^ 40) && nat_lt n (d * 2 ^ 23)

-- A multiplication and a shift divide the number n exactly by d: n × d is below 2^40, and n / d below 2^23.
abbrev pub IsInReach : ℕ → ℕ → Type 0
IsInReach d n = IsTrue (is_in_reach d n)
