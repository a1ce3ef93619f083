-- The rows that a draft stands for.
use Rattle.fdr_table.specs.DraftRows.{DraftRows}
use Rattle.fdr_table.specs.declared.draft.Draft.TheInside.{Inside}

-- what the program's draft of a table stands for
abbrev pub draft_view : Inside → DraftRows
draft_view d = record { frame = d.frame; params = d.params; places = d.places.items; rows = d.rows }
