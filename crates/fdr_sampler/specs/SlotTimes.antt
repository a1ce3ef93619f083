-- Times since the start of a recording, in millionths of a word slot.
use Rattle.std.specs.Prelude.{ℕ, ◌+◌, ◌*◌, ◌/◌}

-- a time in microseconds as millionths of a word slot, where w slots are sampled a second
abbrev pub slot_time : ℕ → ℕ → ℕ
slot_time w time = time * w

-- when word slot k is sampled, in millionths of a slot
abbrev pub time_of_slot : ℕ → ℕ
time_of_slot k = k * 1000000

-- how many word slots are sampled before a time in millionths of a slot
abbrev pub slots_before : ℕ → ℕ
slots_before time = (time + 999999) / 1000000
