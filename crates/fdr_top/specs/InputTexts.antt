-- What the commands promise that pull an input to its end and write a text of it. The text is a function of the bytes that are
-- taken of the input, of which there are at most 268,435,456.
use Rattle.std.specs.Prelude.{◌≡◌, ◌≢◌, ℕ, ◌+◌, ◌<◌, ◌≤◌, List, [], length, take, Option, IsTrue}
use Rattle.fdr_io.specs.Faults.{Rose}
use Rattle.fdr_io.specs.Told.{followed_by}
use Rattle.fdr_io.specs.declared.Input.TheVariants as input
use Rattle.fdr_deck.specs.State.{State, Tells}
use Rattle.fdr_pieces.specs.Pieces.{PullsPieces}
use Rattle.fdr_pieces.specs.declared.pieces.InputEnd.{InputEnd}
use Rattle.fdr_pieces.specs.declared.pieces.InputEnd.TheVariants as input_end
use Rattle.fdr_pieces.specs.Limits.{most_input_bytes}
use Rattle.fdr_top.specs.declared.outcome.Outcome.{Outcome}
use Rattle.fdr_top.specs.declared.outcome.Outcome.TheVariants as outcome

-- the answer where an input was pulled to this end and all was written
abbrev pub answer_of : InputEnd → Outcome
answer_of input_end.End = outcome.Done
answer_of input_end.Fault = outcome.ReadFault input.Line
answer_of input_end.TooLong = outcome.TooLong

-- What an answer says of the bytes that were pulled: at most 268,435,456 of them came and the input is at its end, or a pull
-- failed; or more came.
pub record AnswersEnd (tells : Tells) (new : State) (pulled : List ℕ) (answer : Outcome) : Type 0 where
  pub done_within_limit : answer ≡ outcome.Done → length pulled ≤ most_input_bytes
  pub fault_within_limit : answer ≡ outcome.ReadFault input.Line → length pulled ≤ most_input_bytes
  pub many : answer ≡ outcome.TooLong → most_input_bytes < length pulled
  pub end : answer ≡ outcome.Done → IsTrue tells.input → new.input ≡ []

-- A front part of the text was written.
abbrev pub WritesFront : List ℕ → Option (List ℕ) → Option (List ℕ) → Type 0
WritesFront text before now = (k : ℕ) × (now ≡ followed_by before (take k text))

-- What a command promises of a text that it writes of an input. These bytes were pulled, and of the text of as many as are taken
-- a front part was written, all of it but where the answer is a fault of writing. Where the input is told and no pull failed,
-- this is said of the input itself.
pub record WritesOfInput (text : List ℕ → List ℕ) (tells : Tells) (old new : State) (written_before written_now : Option (List ℕ)) (answer : Outcome)
    : Type 0 where
  pub pulled : List ℕ
  pub pieces : PullsPieces most_input_bytes tells old new pulled
  pub ends : AnswersEnd tells new pulled answer
  pub all : answer ≢ outcome.WriteFault → written_now ≡ followed_by written_before (text (take most_input_bytes pulled))
  pub part : WritesFront (text (take most_input_bytes pulled)) written_before written_now
  pub whole : answer ≡ outcome.Done → IsTrue tells.input → written_now ≡ followed_by written_before (text old.input)
  -- nothing was written that isn't in the text of all of the input that is taken
  pub part_of_whole : IsTrue tells.input → (Rose old.input_faults new.input_faults → ⊥)
      → WritesFront (text (take most_input_bytes old.input)) written_before written_now
  pub too_long : answer ≡ outcome.TooLong → old.taken + most_input_bytes < new.taken
