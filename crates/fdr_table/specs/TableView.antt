-- The table that a value of the program stands for.
use Rattle.fdr_table.specs.Rows.{TableRows}
use Rattle.fdr_table.specs.declared.table.Table.TheInside.{Inside}

-- what the program's table stands for
abbrev pub table_view : Inside → TableRows
table_view t = record { frame = t.frame; params = t.params.items; places = t.places.items; rows = t.rows }
