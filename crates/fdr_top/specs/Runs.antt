-- What a command saw of what it was handed.
use Rattle.std.specs.Prelude.{ℕ, List, Option}
use Rattle.fdr_deck.specs.State.{State, Tells}
use Rattle.fdr_top.specs.declared.outcome.Outcome.{Outcome}

-- what the work of a command saw: what the deck tells, its states before and after, what was written to the sink and how many
-- faults the sink had counted before and after, and the answer
pub record WorkRun : Type 1 where
  pub tells : Tells
  pub old : State
  pub new : State
  pub written_before : Option (List ℕ)
  pub written_now : Option (List ℕ)
  pub sink_before : ℕ
  pub sink_now : ℕ
  pub answer : Outcome

-- what a command saw: what its work saw, and of the table's source the bytes that were left, where it tells them, and the count
-- of faults, before and after
pub record CommandRun : Type 1 where
  pub rest_before : Option (List ℕ)
  pub rest_now : Option (List ℕ)
  pub table_before : ℕ
  pub table_now : ℕ
  pub work : WorkRun
