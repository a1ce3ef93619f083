-- What `listbits` promises: the listing of all bits of the input.
use Rattle.std.specs.Prelude.{◌≡◌, ℕ, ◌+◌, ◌<◌, ◌≤◌, ◌⊎◌, List, length, Option}
use Rattle.fdr_io.specs.Told.{followed_by}
use Rattle.fdr_deck.specs.State.{State, Tells}
use Rattle.fdr_table.specs.Rows.{TableRows}
use Rattle.fdr_readout.specs.Listing.{decided_listing, listing_of}
use Rattle.fdr_pieces.specs.Pieces.{before_last}
use Rattle.fdr_pieces.specs.Limits.{most_input_bytes}
use Rattle.fdr_top.specs.InputTexts.{WritesOfInput}
use Rattle.fdr_top.specs.declared.outcome.Outcome.{Outcome}
use Rattle.fdr_top.specs.declared.outcome.Outcome.TheVariants as outcome

-- Lines are written as they are decided: at least as many bytes were written as the lines have of the events that these bytes
-- decide.
pub record HasWrittenDecided (t : TableRows) (bytes : List ℕ) (written_before written_now : Option (List ℕ)) : Type 0 where
  pub gone : List ℕ
  pub written : written_now ≡ followed_by written_before gone
  pub enough : length (decided_listing t bytes) ≤ length gone

-- What `listbits` promises: what was pulled, and that its listing was written, or a front part of it. It was written as it was
-- decided: also where writing fails, all that was decided before the last pull that gave bytes.
pub record ListsInput (t : TableRows) (tells : Tells) (old new : State) (written_before written_now : Option (List ℕ)) (answer : Outcome) : Type 0 where
  pub lists : WritesOfInput (listing_of t) tells old new written_before written_now answer
  pub in_time : answer ≡ outcome.WriteFault
      → HasWrittenDecided t (before_last most_input_bytes old new lists.pulled) written_before written_now
  pub too_long_always : old.taken + most_input_bytes < new.taken → (answer ≡ outcome.TooLong) ⊎ (answer ≡ outcome.WriteFault)
