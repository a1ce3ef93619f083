-- The number and the text of each outcome.
use Rattle.std.specs.Prelude.{ℕ, List, [], ◌++◌, codes, decimal}
use Rattle.fdr_io.specs.declared.Input.{Input}
use Rattle.fdr_io.specs.declared.Input.TheVariants as input
use Rattle.fdr_exceed.specs.Lines.{fault_of_rules_text}
use Rattle.fdr_messages.specs.Messages.{image_message, table_message, trace_message, words_message}
use Rattle.fdr_top.specs.declared.outcome.Outcome.{Outcome}
use Rattle.fdr_top.specs.declared.outcome.Outcome.TheVariants as outcome

-- the exit status of the program for an outcome
abbrev pub status_of : Outcome → ℕ
status_of outcome.Done = 0
status_of outcome.Usage = 1
status_of (outcome.TableRefused row f) = 2
status_of (outcome.TraceRefused index f) = 3
status_of (outcome.ImageRefused f) = 4
status_of outcome.NotEmpty = 5
status_of (outcome.WordsDiffer image table) = 6
status_of outcome.SeqEnd = 7
status_of (outcome.ReadFault i) = 8
status_of outcome.WriteFault = 9
status_of outcome.DiskFault = 10
status_of outcome.TooLong = 11
status_of outcome.NoMemory = 12
status_of outcome.OldVersion = 13
status_of (outcome.CellFault at) = 14
status_of (outcome.RuleRefused row f) = 17

-- what the program says of an input that can't be read: the table, or standard input
abbrev pub input_text : Input → List ℕ
input_text input.Table = codes "fdr: table cannot be read"
input_text input.Line = codes "fdr: input cannot be read"

-- the name of the program: `fdr`
abbrev pub program_name : List ℕ
program_name = codes "fdr"

-- what the program says of an outcome on standard error, without a line feed; nothing of Done
abbrev pub text_of : Outcome → List ℕ
text_of outcome.Done = []
text_of outcome.Usage = codes "fdr: usage"
text_of (outcome.TableRefused row f) = table_message program_name row f
text_of (outcome.TraceRefused index f) = trace_message program_name index f
text_of (outcome.ImageRefused f) = image_message program_name f
text_of outcome.NotEmpty = codes "fdr: image is not empty"
text_of (outcome.WordsDiffer image table) = words_message program_name image table
text_of outcome.SeqEnd = codes "fdr: sequence numbers are used up"
text_of (outcome.ReadFault i) = input_text i
text_of outcome.WriteFault = codes "fdr: output cannot be written"
text_of outcome.DiskFault = codes "fdr: disk fault"
text_of outcome.TooLong = codes "fdr: input too long"
text_of outcome.NoMemory = codes "fdr: no memory"
text_of outcome.OldVersion = codes "fdr: image is version 1"
text_of (outcome.CellFault at) = codes "fdr: no transition at level " ++ decimal at
text_of (outcome.RuleRefused row f) = codes "fdr: rule row " ++ decimal row ++ codes ": " ++ fault_of_rules_text f
