-- What is recorded in a deck in memory that was just made.
use Rattle.std.specs.Prelude.{◌≡◌, ◌-◌, ℕ, List, ◌++◌}
use Rattle.fdr_bus.specs.Records.{good_prefix}
use Rattle.fdr_deck.specs.State.{Moment}
use Rattle.fdr_deck.specs.Memory.{Memory, held_in, memory_state}
use Rattle.fdr_table.specs.Rows.{TableRows}
use Rattle.fdr_recover.specs.Images.{recovered_run}
use Rattle.fdr_recover.specs.ImageHeader.{header_in}
use Rattle.fdr_ring.specs.Runs.{last_blocks}
use Rattle.fdr_recorder.specs.Keeping.{RecoversPrefix}
use Rattle.fdr_recorder.specs.Recording.{IsClose}
use Rattle.fdr_recorder.specs.NewBlocks.{new_blocks, next_in}
use Rattle.fdr_top.specs.Stages.{EndsRecording}
use Rattle.fdr_recover.specs.Payloads.{run_in}
use Rattle.fdr_top.specs.declared.outcome.Outcome.{Outcome}

-- The trace on this input was recorded in this image by a table, in a deck in memory that then has these calls: a stop at each
-- moment since the deck was made leaves what `record` promises, and in the end all is recorded. No premise is left.
pub record IsRecordedInMemory (t : TableRows) (image input : List ℕ) (answer : Outcome) (deck : Memory) : Type 0 where
  pub pulled : List ℕ
  pub left : List ℕ
  pub split : input ≡ pulled ++ left
  pub keeps : (m : Moment) → (memory_state deck).since 0 m
      → RecoversPrefix (header_in image) image (run_in image) (new_blocks t image (good_prefix pulled)) m.announced m.image
  pub close : (m : Moment) → (memory_state deck).since 0 m → IsClose (header_in image) (next_in image) m
  pub recorded : EndsRecording answer → recovered_run (header_in image) (held_in deck)
      ≡ last_blocks ((header_in image).slots - 1) (run_in image ++ new_blocks t image (good_prefix pulled))
