-- What `encode` promises: the cells of all bits of the input, after a low level.
use Rattle.std.specs.Prelude.{◌≡◌, ℕ, ◌+◌, ◌<◌, ◌⊎◌, Bool, false, List, Option}
use Rattle.fdr_deck.specs.State.{State, Tells}
use Rattle.fdr_biphase.specs.Cells.{Cells, bits_of_bytes, cells_of}
use Rattle.fdr_biphase.specs.Packed.{encoded_bytes}
use Rattle.fdr_pieces.specs.Limits.{most_input_bytes}
use Rattle.fdr_top.specs.InputTexts.{WritesOfInput}
use Rattle.fdr_top.specs.declared.outcome.Outcome.{Outcome}
use Rattle.fdr_top.specs.declared.outcome.Outcome.TheVariants as outcome

-- the levels of the bits of bytes, packed, after a low level
abbrev pub levels_text : List ℕ → List ℕ
levels_text = encoded_bytes false

-- What `encode` promises: what was pulled, and that the levels of its bits were written, or a front part of them. They are the
-- cells of the bits, and no other levels are.
pub record EncodesInput (tells : Tells) (old new : State) (written_before written_now : Option (List ℕ)) (answer : Outcome) : Type 0 where
  pub encodes : WritesOfInput levels_text tells old new written_before written_now answer
  pub too_long_always : old.taken + most_input_bytes < new.taken → (answer ≡ outcome.TooLong) ⊎ (answer ≡ outcome.WriteFault)
  -- What is written are the cells of the bits, two levels for each, and no other levels are.
  pub cells : (bytes : List ℕ) → Cells false (bits_of_bytes bytes) (cells_of false (bits_of_bytes bytes))
  pub only : (bytes : List ℕ) (levels : List Bool) → Cells false (bits_of_bytes bytes) levels → levels ≡ cells_of false (bits_of_bytes bytes)
