-- The answers of reading and checking a table.
use Rattle.std.specs.Prelude.{ℕ}
use Rattle.fdr_table.specs.declared.fault.TableError.{TableError}
use Rattle.fdr_table.specs.declared.fault.TableError.TheVariants as error
use Rattle.fdr_table.specs.declared.fault.TableFault.{TableFault}

-- the refusal of a table that names this row and its fault
abbrev pub refused : ℕ → TableFault → TableError
refused row f = error.Refused (record { row = row; fault = f })
