-- Levels that begin anywhere in a cell. Cells begin at the places of one of two phases: the even places, or the odd ones.
use Rattle.std.specs.Prelude.{ℕ, ◌+◌, ◌-◌, ◌*◌, ◌/◌, ◌%◌, ◌==◌, ◌&&◌, max, Bool, not, List, length, map, take, Option, Some, None}
use Rattle.std.specs.List.{range_with_len, find}
use Rattle.std.specs.Bool.{beq}
use Rattle.fdr_biphase.specs.Cells.{level_at}

-- whether the level at place p differs from the one before it
abbrev pub turns_at : List Bool → ℕ → Bool
turns_at levels p = not (beq (level_at levels p) (level_at levels (p - 1)))

-- the place at which a phase fails first: the least place of the phase, after place 0, at which the level doesn't turn. Phase 0
-- has the even places and phase 1 the odd ones. The phase fits where there is no such place
unfoldable pub fails_at : List Bool → ℕ → Option ℕ
fails_at levels phase = find (λ p. (p % 2 == phase) && not (turns_at levels p)) (range_with_len 1 (length levels - 1))

-- the bits of a phase: for each whole cell, whether the level turns in its middle
unfoldable pub phase_bits : List Bool → ℕ → List Bool
phase_bits levels phase = map (λ i. turns_at levels (2 * i + phase + 1)) (range_with_len 0 ((length levels - phase) / 2))

-- the later of two places, where there are both
abbrev pub later_of : Option ℕ → Option ℕ → Option ℕ
later_of (Some a) (Some b) = Some (max a b)
later_of None b = None
later_of (Some a) None = None

-- the missing place of levels, where neither phase fits: the later of the places at which they fail first
unfoldable pub missing_place : List Bool → Option ℕ
missing_place levels = later_of (fails_at levels 0) (fails_at levels 1)

-- the bits of the levels by the phase that is chosen, where the phases 0 and 1 fail first at these places, or nowhere
abbrev pub chosen_bits : List Bool → Option ℕ → Option ℕ → List Bool
chosen_bits levels None odd = phase_bits levels 0
chosen_bits levels (Some a) None = phase_bits levels 1
chosen_bits levels (Some a) (Some b) = phase_bits (take (max a b) levels) (max a b % 2)

-- the bits of the levels: those of phase 0 where it fits, else those of phase 1 where that fits, and else those of the phase that
-- fails last, of the levels before the missing place
unfoldable pub cell_bits : List Bool → List Bool
cell_bits levels = chosen_bits levels (fails_at levels 0) (fails_at levels 1)
