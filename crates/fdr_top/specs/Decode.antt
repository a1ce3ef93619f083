-- What `decode` promises: the bits of all levels of the input, wherever in a cell it begins, or which place is missing.
use Rattle.std.specs.Prelude.{◌≡◌, ℕ, ◌+◌, ◌*◌, ◌/◌, ◌%◌, ◌<◌, ◌≤◌, ◌⊎◌, Bool, true, not, All, List, length, map, drop, take, Option, None, Some, IsTrue}
use Rattle.fdr_io.specs.Faults.{Rose}
use Rattle.fdr_deck.specs.State.{State, Tells}
use Rattle.fdr_biphase.specs.Cells.{bits_of_bytes, cells_of}
use Rattle.fdr_biphase.specs.Packed.{decoded_bytes}
use Rattle.fdr_biphase.specs.Phases.{cell_bits, fails_at, missing_place, phase_bits}
use Rattle.fdr_pieces.specs.Limits.{most_input_bytes}
use Rattle.fdr_top.specs.InputTexts.{WritesOfInput}
use Rattle.fdr_top.specs.declared.outcome.Outcome.{Outcome}
use Rattle.fdr_top.specs.declared.outcome.Outcome.TheVariants as outcome

-- This place is missing in the levels of these bytes, as far as they are taken.
abbrev pub IsMissing : List ℕ → ℕ → Type 0
IsMissing bytes at = missing_place (bits_of_bytes (take most_input_bytes bytes)) ≡ Some at

-- What `decode` promises: what was pulled, that the bits of its levels were written, or a front part of them, which place is
-- missing, and that cells read back.
pub record DecodesLevels (tells : Tells) (old new : State) (written_before written_now : Option (List ℕ)) (answer : Outcome) : Type 0 where
  pub decodes : WritesOfInput decoded_bytes tells old new written_before written_now answer
  pub missing : (at : ℕ) → answer ≡ outcome.CellFault at → IsMissing decodes.pulled at
  pub missing_always : (at : ℕ) → IsMissing decodes.pulled at → (answer ≡ outcome.CellFault at) ⊎ (answer ≡ outcome.WriteFault)
  pub missing_of_line : (at : ℕ) → answer ≡ outcome.CellFault at → IsTrue tells.input → IsMissing old.input at
  pub missing_always_of_line : (at : ℕ) → IsTrue tells.input → IsMissing old.input at → (Rose old.input_faults new.input_faults → ⊥)
      → (answer ≡ outcome.CellFault at) ⊎ (answer ≡ outcome.WriteFault)
  pub too_long_always : old.taken + most_input_bytes < new.taken
      → (answer ≡ outcome.TooLong) ⊎ ((answer ≡ outcome.WriteFault) ⊎ ((at : ℕ) × (answer ≡ outcome.CellFault at)))
  -- Of the cells of bits any number of levels may be struck from the front, and all levels may be turned.
  pub reads_back : (first : Bool) (sent : List Bool) (struck : ℕ) → struck ≤ 2 * length sent
      → cell_bits (drop struck (cells_of first sent)) ≡ drop ((struck + 1) / 2) sent
  -- Where the rest begins in the middle of a cell and all of these bits are 1, both phases fit, and give the same bits.
  pub both_fit : (first : Bool) (sent : List Bool) (struck phase : ℕ) → struck ≤ 2 * length sent → struck % 2 ≡ 1 → phase ≤ 1
      → All (λ bit. bit ≡ true) (drop ((struck + 1) / 2) sent) → fails_at (drop struck (cells_of first sent)) phase ≡ None
  pub same_bits : (first : Bool) (sent : List Bool) (struck phase : ℕ) → struck ≤ 2 * length sent → struck % 2 ≡ 1 → phase ≤ 1
      → All (λ bit. bit ≡ true) (drop ((struck + 1) / 2) sent)
      → phase_bits (drop struck (cells_of first sent)) phase ≡ drop ((struck + 1) / 2) sent
  pub turned : (levels : List Bool) → cell_bits (map not levels) ≡ cell_bits levels
  pub turned_missing : (levels : List Bool) → missing_place (map not levels) ≡ missing_place levels
