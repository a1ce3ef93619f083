-- The number and the text of each outcome of a recording on two disks.
use Rattle.std.specs.Prelude.{ℕ, List, [], ◌++◌, codes, decimal}
use Rattle.fdr_io.specs.declared.Input.{Input}
use Rattle.fdr_io.specs.declared.Input.TheVariants as input
use Rattle.fdr_messages.specs.Messages.{image_fault_words, table_message, trace_message, words_message}
use Rattle.fdr_twin.specs.declared.side.Side.{Side}
use Rattle.fdr_twin.specs.declared.side.Side.TheVariants as side
use Rattle.fdr_pair.specs.declared.outcome.PairOutcome.{PairOutcome}
use Rattle.fdr_pair.specs.declared.outcome.PairOutcome.TheVariants as outcome

-- the exit status of the program for an outcome of a recording on two disks
abbrev pub pair_status_of : PairOutcome → ℕ
pair_status_of outcome.Done = 0
pair_status_of outcome.Usage = 1
pair_status_of (outcome.TableRefused row f) = 2
pair_status_of (outcome.TraceRefused index f) = 3
pair_status_of (outcome.ImageRefused s f) = 4
pair_status_of (outcome.WordsDiffer image table) = 6
pair_status_of outcome.SeqEnd = 7
pair_status_of (outcome.ReadFault i) = 8
pair_status_of outcome.DiskFault = 10
pair_status_of outcome.NoMemory = 12
pair_status_of outcome.OldVersion = 13
pair_status_of outcome.HeadersDiffer = 15
pair_status_of (outcome.BlocksDiffer seq) = 16
pair_status_of (outcome.LeadFault s) = 18
pair_status_of (outcome.FarBehind s) = 19

-- what the program says of an input that can't be read: the table, or standard input
abbrev pub pair_input_text : Input → List ℕ
pair_input_text input.Table = codes "fdrpair: table cannot be read"
pair_input_text input.Line = codes "fdrpair: input cannot be read"

-- what the program says of the image of a side, up to what is wrong with it
abbrev pub side_image_text : Side → List ℕ
side_image_text side.First = codes "fdrpair: first image"
side_image_text side.Second = codes "fdrpair: second image"

-- the name of the program that records on two disks: `fdrpair`
abbrev pub pair_program_name : List ℕ
pair_program_name = codes "fdrpair"

-- what the program says of an outcome of a recording on two disks, on standard error, without a line feed; nothing of Done
abbrev pub pair_text_of : PairOutcome → List ℕ
pair_text_of outcome.Done = []
pair_text_of outcome.Usage = codes "fdrpair: usage"
pair_text_of (outcome.TableRefused row f) = table_message pair_program_name row f
pair_text_of (outcome.TraceRefused index f) = trace_message pair_program_name index f
pair_text_of (outcome.ImageRefused s f) = side_image_text s ++ codes ": " ++ image_fault_words f
pair_text_of (outcome.WordsDiffer image table) = words_message pair_program_name image table
pair_text_of outcome.SeqEnd = codes "fdrpair: sequence numbers are used up"
pair_text_of (outcome.ReadFault i) = pair_input_text i
pair_text_of outcome.DiskFault = codes "fdrpair: disk fault"
pair_text_of outcome.NoMemory = codes "fdrpair: no memory"
pair_text_of outcome.OldVersion = codes "fdrpair: image is version 1"
pair_text_of outcome.HeadersDiffer = codes "fdrpair: headers differ"
pair_text_of (outcome.BlocksDiffer seq) = codes "fdrpair: block " ++ decimal seq ++ codes " differs"
pair_text_of (outcome.LeadFault s) = codes "fdrpair: lead disk fault"
pair_text_of (outcome.FarBehind s) = side_image_text s ++ codes " is too far behind"
