-- What the bytes of a table give.
use Rattle.std.specs.Prelude.{◌≡◌, ℕ, List, [], ◌∷◌, Some, None}
use Rattle.fdr_table.specs.Rows.{TableRows}
use Rattle.fdr_table.specs.Reading.{first_some, records_of, table_of}
use Rattle.fdr_table.specs.Faults.{table_bytes_fault}
use Rattle.fdr_table.specs.declared.fault.TableFault.{TableFault}
use Rattle.fdr_check.specs.Faults.{RowFault, table_fault}
use Rattle.fdr_load.specs.declared.load.LoadFault.{LoadFault}
use Rattle.fdr_load.specs.declared.load.LoadFault.TheVariants as load
use Rattle.fdr_table.specs.declared.fault.TableError.{TableError}
use Rattle.fdr_table.specs.declared.fault.TableError.TheVariants as error

-- the table that the bytes say
abbrev pub table_in : List ℕ → TableRows
table_in bytes = table_of (records_of bytes)

-- the first fault of a table's bytes, of all fifteen, and its row: those of the bytes and of single rows come before those of the
-- whole table
unfoldable pub fault_in : List ℕ → RowFault
fault_in bytes = first_some (table_bytes_fault bytes ∷ table_fault (table_in bytes) ∷ [])

-- The bytes are a table that is accepted: they have no fault.
abbrev pub IsAccepted : List ℕ → Type 0
IsAccepted bytes = fault_in bytes ≡ None

-- The bytes are a table that is refused for this fault in this row, which is its first.
abbrev pub IsTableRefused : List ℕ → ℕ → TableFault → Type 0
IsTableRefused bytes row f = fault_in bytes ≡ Some (row, f)

-- why a source gives no table, where its bytes give none
abbrev pub load_fault : TableError → LoadFault
load_fault (error.Refused r) = load.Refused r.row r.fault
load_fault error.NoMemory = load.NoMemory
