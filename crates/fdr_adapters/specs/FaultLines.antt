-- What is written where a disk fails for the first time.
use Rattle.std.specs.Prelude.{ℕ, List, codes}
use Rattle.fdr_twin.specs.declared.side.Side.{Side}
use Rattle.fdr_twin.specs.declared.side.Side.TheVariants.{First, Second}

-- the line that says which disk failed: `fault first` or `fault second`
abbrev pub side_fault_text : Side → List ℕ
side_fault_text First = codes "fault first\n"
side_fault_text Second = codes "fault second\n"
