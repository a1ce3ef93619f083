-- An input that is pulled piece by piece, to its end or until more came than is taken.
use Rattle.std.specs.Prelude.{◌≡◌, ℕ, ◌+◌, ◌-◌, ◌<◌, ◌≤◌, List, [], length, take, drop, IsTrue}
use Rattle.fdr_io.specs.Limits.{piece_bytes}
use Rattle.fdr_deck.specs.State.{State, Tells}
use Rattle.fdr_deck.specs.Moments.{EachMoment, Elapses}
use Rattle.fdr_deck.specs.Pull.{IsLastPull, TakesInput}
use Rattle.fdr_pieces.specs.declared.pieces.InputEnd.{InputEnd}
use Rattle.fdr_pieces.specs.declared.pieces.InputEnd.TheVariants as input_end

-- Of the input these bytes were pulled, piece by piece, and at most a piece more than the limit. No pull that gave bytes began
-- once more than the limit had been pulled.
pub record PullsPieces (limit : ℕ) (tells : Tells) (old new : State) (pulled : List ℕ) : Type 0 where
  pub takes : TakesInput tells old new pulled
  pub last : 0 < length pulled → IsLastPull old.taken new.pulled_before new.taken
  pub begun_within_limit : 0 < length pulled → new.pulled_before ≤ old.taken + limit
  pub bounded : length pulled ≤ limit + piece_bytes

-- Time goes on, and at each moment since then a stop leaves what it could leave before.
pub record LeavesStops (tells : Tells) (old new : State) : Type 0 where
  pub time : Elapses tells old new
  pub moments : EachMoment tells old new (λ m. old.may_leave m.image)

-- What an end says of the bytes that were pulled of an input: at most the limit of them came and the input is at its end, or a
-- pull failed; or more than the limit came.
pub record EndsInput (limit : ℕ) (tells : Tells) (new : State) (pulled : List ℕ) (end : InputEnd) : Type 0 where
  pub end_within_limit : end ≡ input_end.End → length pulled ≤ limit
  pub fault_within_limit : end ≡ input_end.Fault → length pulled ≤ limit
  pub many : end ≡ input_end.TooLong → limit < length pulled
  pub empty : end ≡ input_end.End → IsTrue tells.input → new.input ≡ []

-- of the bytes that were pulled, within the limit, those before the last pull that gave some
abbrev pub before_last : ℕ → State → State → List ℕ → List ℕ
before_last limit old new pulled = take (new.pulled_before - old.taken) (take limit pulled)

-- of the bytes that were pulled, within the limit, those of the last pull that gave some
abbrev pub last_piece : ℕ → State → State → List ℕ → List ℕ
last_piece limit old new pulled = drop (new.pulled_before - old.taken) (take limit pulled)
