use Rattle.std.proofs.Common.{◌≡◌, ◌<◌, ℕ, List, Some, true}
use Rattle.csv.specs.Reading.{Reached, Ready, default_config, source_of, strip_bom}
use Rattle.csv.specs.declared.parser.State.TheVariants as st
use Rattle.csv.specs.declared.reader.Trim.TheVariants as trim
use Rattle.fdr_table.specs.Draft.{IsDraft}
use Rattle.fdr_table.specs.Reading.{Row}
use Rattle.fdr_table.proofs.draft.Draft.take_rows.Given as goal

-- what was read so far has no fault, and its draft is made, whatever follows
abbrev pub invariant-loop-row : goal.invariant-loop-row
invariant-loop-row l = (l.row-iterator.rdr.trim ≡ trim.None) × Ready l.row-iterator.rdr × (0 < l.row-iterator.left)
    × (l.row-iterator.rdr.config ≡ default_config) × (l.row-iterator.rdr.flexible ≡ true)
    × (y : List ℕ) × (source_of (λ s. Some s.now) l.row-iterator.rdr ≡ Some y)
    × (rows : List Row) × Reached default_config st.StartRecord (strip_bom l.fn.bytes) rows l.row-iterator.rdr.state y
    × IsDraft rows l.self
