-- The drawn numbers of a seed.
use Rattle.std.specs.Prelude.{ℕ, zero, suc, ◌+◌, ◌*◌, ◌/◌, ◌%◌, ◌^◌}

-- the state that a draw makes of a state: times 6,364,136,223,846,793,005, plus 1,442,695,040,888,963,407, modulo 2^64
abbrev pub next_state : ℕ → ℕ
next_state x = (x * 6364136223846793005 + 1442695040888963407) % 2 ^ 64

-- the state after n draws, which is the seed at first
abbrev pub state_after : ℕ → ℕ → ℕ
state_after seed zero = seed
state_after seed (suc n) = next_state (state_after seed n)

-- the number that a state gives: its upper 32 bits
abbrev pub upper_half : ℕ → ℕ
upper_half x = x / 2 ^ 32

-- number n that is drawn of a seed, where number 0 is the first: draw n + 1 gives it
abbrev pub drawn : ℕ → ℕ → ℕ
drawn seed n = upper_half (state_after seed (suc n))
