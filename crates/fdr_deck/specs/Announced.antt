-- The announced number, and those since the last call that wasn't an announcement.
use Rattle.std.specs.Prelude.{ℕ, min, max}
use Rattle.fdr_deck.specs.declared.announced.Announced.{Announced}

-- the least number announced since the last call that wasn't an announcement
abbrev pub least_announced : Announced → ℕ
least_announced a = min a.least a.number

-- the greatest number announced since the last call that wasn't an announcement
abbrev pub greatest_announced : Announced → ℕ
greatest_announced a = max a.greatest a.number
