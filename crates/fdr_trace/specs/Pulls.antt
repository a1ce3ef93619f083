-- What is pulled of a trace.
use Rattle.std.specs.Prelude.{◌≡◌, ℕ, ◌+◌, ◌-◌, ◌<◌, ◌≤◌, List, [], ◌++◌, length, take, IsTrue}
use Rattle.fdr_io.specs.Limits.{piece_bytes}
use Rattle.fdr_bus.specs.Records.{IsDecided}
use Rattle.fdr_deck.specs.State.{State, Tells}
use Rattle.fdr_deck.specs.Pull.{IsLastPull, TakesInput}

-- One pull gave these bytes, the next ones of the input, at most 4,096; there are none only at the input's end.
pub record PullsPiece (tells : Tells) (old new : State) (piece : List ℕ) : Type 0 where
  pub takes : TakesInput tells old new piece
  pub within_piece : length piece ≤ piece_bytes
  pub began : 0 < length piece → new.pulled_before ≡ old.taken
  pub none : length piece ≡ 0 → new.pulled_before ≡ old.pulled_before
  pub end : length piece ≡ 0 → IsTrue tells.input → new.input ≡ []
  pub faults : new.input_faults ≡ old.input_faults

-- After these bytes of the trace, more were pulled, at most 4,096 at a time, and none once the bytes before it decided the trace.
pub record PullsUntilDecided (tells : Tells) (old new : State) (bytes more : List ℕ) : Type 0 where
  pub takes : TakesInput tells old new more
  pub none : length more ≡ 0 → new.pulled_before ≡ old.pulled_before
  pub last : 0 < length more → IsLastPull old.taken new.pulled_before new.taken
  pub undecided : 0 < length more → IsDecided (bytes ++ take (new.pulled_before - old.taken) more) → ⊥
  pub faults : old.input_faults ≤ new.input_faults
