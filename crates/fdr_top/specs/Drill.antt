-- What `drill` promises: the recording of a generated trace, and a line of what the image then lists as.
use Rattle.std.specs.Prelude.{◌≡◌, ◌≢◌, ℕ, List, [], ◌∷◌, ◌++◌, length, take, Option, IsTrue, codes, decimal}
use Rattle.fdr_io.specs.Told.{followed_by}
use Rattle.fdr_deck.specs.State.{State, Tells}
use Rattle.fdr_gen.specs.Trace.{generated_trace}
use Rattle.fdr_table.specs.Rows.{TableRows}
use Rattle.fdr_readout.specs.declared.tally.Summary.{Summary}
use Rattle.fdr_top.specs.Stages.{EndsRecording, IsPastTable}
use Rattle.fdr_recorder.specs.NewBlocks.{new_blocks}
use Rattle.fdr_top.specs.Record.{ListsSurvivors, ListsUndamaged, RecordsStream}
use Rattle.fdr_top.specs.Refusals.{RefusesImage, RefusesOldImage}
use Rattle.fdr_recover.specs.ImageHeader.{header_in}
use Rattle.fdr_recover.specs.Payloads.{run_in}
use Rattle.fdr_top.specs.Sessions.{summary_of_blocks}
use Rattle.fdr_top.specs.declared.outcome.Outcome.{Outcome}
use Rattle.fdr_top.specs.declared.outcome.Outcome.TheVariants as outcome

-- a comma and a number, in the line of a drill
abbrev pub field_text : ℕ → List ℕ
field_text number = codes "," ++ decimal number

-- the line `drill,BLOCKS,FRAMES,ROWS,SUM`: how many blocks were recorded, how many frames and rows are listed, and what the rows'
-- values add up to
unfoldable pub drill_text : ℕ → Summary → List ℕ
drill_text blocks s =
    codes "drill" ++ field_text blocks ++ field_text s.frames ++ field_text s.rows ++ field_text s.sum ++ 10 ∷ []

-- the line of a drill that leaves this image, where it recorded `blocks` blocks
abbrev pub drill_line : TableRows → ℕ → List ℕ → List ℕ
drill_line t blocks image = drill_text blocks (summary_of_blocks t (header_in image).version (run_in image))

-- What `drill` promises: the recording of the generated trace, which refusal is answered, the line that is written, and that what
-- was recorded can be read back.
pub record DrillsImage (t : TableRows) (seed frames : ℕ) (tells : Tells) (old new : State) (written_before written_now : Option (List ℕ))
    (answer : Outcome) : Type 0 where
  pub blocks : RecordsStream t tells (generated_trace t seed frames) old new answer
  pub image : RefusesImage t tells old new answer
  pub old_image : RefusesOldImage t tells old answer
  pub text : answer ≡ outcome.Done → IsTrue tells.bytes → written_now
      ≡ followed_by written_before (drill_line t (length (new_blocks t old.held (generated_trace t seed frames))) new.held)
  pub part : answer ≡ outcome.WriteFault → IsTrue tells.bytes → (k : ℕ) × (written_now ≡ followed_by written_before
      (take k (drill_line t (length (new_blocks t old.held (generated_trace t seed frames))) new.held)))
  pub silent : answer ≢ outcome.Done → answer ≢ outcome.WriteFault → written_now ≡ written_before
  pub survives : IsPastTable answer → ListsSurvivors t (generated_trace t seed frames)
  pub undamaged : EndsRecording answer → ListsUndamaged t tells (generated_trace t seed frames) old new
