-- What the rows above a row say.
use Rattle.std.specs.Prelude.{ℕ, List, Option}
use Rattle.fdr_table.specs.Rows.{FrameRow, ParamRow, PlaceRow}

-- what the rows above a row say: the frame row, if there is one, the parameters and the places, and the number of rows
pub record DraftRows : Type 0 where
  pub frame : Option FrameRow
  pub params : List ParamRow
  pub places : List PlaceRow
  pub rows : ℕ
