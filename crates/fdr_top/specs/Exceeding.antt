-- What a watch is given of entries, and which lines that ends.
use Rattle.std.specs.Prelude.{ℕ, ◌≡◌, ◌+◌, ◌≤◌, ◌^◌, List, ◌++◌, length, Option}
use Rattle.fdr_io.specs.Output.{Emits, EmitsPart}
use Rattle.fdr_exceed.specs.Exceedances.{WatchStep, exceedances}
use Rattle.fdr_exceed.specs.Watching.{RepresentsWatch, WatchKept}
use Rattle.fdr_exceed.specs.declared.rule.Rule.{Rule}
use Rattle.fdr_readout.specs.Entries.{Entry}
use Rattle.fdr_readout.specs.Summary.{rows_among}
use Rattle.fdr_top.specs.Exceed.{steps_of_entries, text_of_lines}

-- a watch, and the bytes that wait to be written
pub record WriterKept : Type 0 where
  pub watch : WatchKept
  pub waits : List ℕ

-- The watch represents these steps, and all lines that they end were taken.
abbrev pub HasTakenLines : WatchKept → List WatchStep → Type 0
HasTakenLines w steps = RepresentsWatch w steps (length (exceedances w.rules steps))

-- after some steps, further ones end these lines
abbrev pub EndLines : List Rule → List WatchStep → List WatchStep → List (List ℕ) → Type 0
EndLines rules steps more lines = exceedances rules (steps ++ more) ≡ exceedances rules steps ++ lines

-- After some steps the watch was given further ones, and the lines that they end went out, or wait to.
pub record GivesSteps (written_before written_now : Option (List ℕ)) (before now : WriterKept) (steps more : List WatchStep) : Type 0 where
  pub lines : List (List ℕ)
  pub ended : EndLines before.watch.rules steps more lines
  pub all : HasTakenLines now.watch (steps ++ more)
  pub emits : Emits written_before written_now before.waits now.waits (text_of_lines lines)

-- The sink failed while lines went out that further steps end.
pub record FailsInSteps (written_before written_now : Option (List ℕ)) (before : WriterKept) (steps more : List WatchStep) : Type 0 where
  pub lines : List (List ℕ)
  pub ended : EndLines before.watch.rules steps more lines
  pub emits : EmitsPart written_before written_now before.waits (text_of_lines lines)

-- how many rows a watch was given, with those among some entries
abbrev pub rows_with : WriterKept → List Entry → ℕ
rows_with before entries = before.watch.rows + length (rows_among entries)

-- The watch was given the steps of these entries, whatever steps it was given before, as long as it was given no more than
-- 2 ^ 63 rows.
pub record TakesEntries (written_before written_now : Option (List ℕ)) (before now : WriterKept) (entries : List Entry) : Type 0 where
  pub rules : now.watch.rules ≡ before.watch.rules
  pub rows : rows_with before entries ≤ 2 ^ 63 → now.watch.rows ≡ rows_with before entries
  pub given : rows_with before entries ≤ 2 ^ 63 → (steps : List WatchStep) → HasTakenLines before.watch steps
      → GivesSteps written_before written_now before now steps (steps_of_entries entries)

-- The sink failed while the watch was given them.
abbrev pub FailsInEntries : Option (List ℕ) → Option (List ℕ) → WriterKept → List Entry → Type 0
FailsInEntries written_before written_now before entries = rows_with before entries ≤ 2 ^ 63 → (steps : List WatchStep)
    → HasTakenLines before.watch steps → FailsInSteps written_before written_now before steps (steps_of_entries entries)
