-- The texts of faults, each after the name of the program that tells it.
use Rattle.std.specs.Prelude.{ℕ, List, [], ◌++◌, codes, decimal}
use Rattle.fdr_bus.specs.declared.TraceFault.{TraceFault}
use Rattle.fdr_bus.specs.declared.TraceFault.TheVariants as trace
use Rattle.fdr_slot.specs.declared.image.ImageFault.{ImageFault}
use Rattle.fdr_slot.specs.declared.image.ImageFault.TheVariants as image
use Rattle.fdr_table.specs.declared.fault.TableFault.{TableFault}
use Rattle.fdr_table.specs.declared.fault.TableFault.TheVariants as fault

-- what is wrong with a table, in words, up to the first number that the fault names
abbrev pub fault_words : TableFault → List ℕ
fault_words fault.Shape = codes "shape"
fault_words (fault.Number field) = codes "number in field "
fault_words fault.NoFrame = codes "no frame row"
fault_words fault.TwoFrames = codes "second frame row"
fault_words fault.Name = codes "name"
fault_words fault.Twice = codes "name used twice"
fault_words fault.Unknown = codes "unknown name"
fault_words fault.Size = codes "too large"
fault_words fault.Place = codes "place"
fault_words fault.OnSync = codes "on a sync word"
fault_words fault.OnCounter = codes "on the counter word"
fault_words (fault.Overlap first second word bit) = codes "overlap with row "
fault_words fault.Parts = codes "parts"
fault_words (fault.Rate declared counted) = codes "rate "
fault_words fault.TooMany = codes "too many parts"

-- the numbers of an overlap in words: with which row a place shares a bit, and at which word and bit
abbrev pub overlap_numbers : ℕ → ℕ → ℕ → List ℕ
overlap_numbers first word bit = decimal first ++ codes " at word " ++ decimal word ++ codes " bit " ++ decimal bit

-- the numbers of a wrong rate in words: the one that a parameter declares, and the one that was counted
abbrev pub rate_numbers : ℕ → ℕ → List ℕ
rate_numbers declared counted = decimal declared ++ codes " declared, " ++ decimal counted ++ codes " counted"

-- the numbers that a fault of a table names, with the words between them
abbrev pub fault_numbers : TableFault → List ℕ
fault_numbers fault.Shape = []
fault_numbers (fault.Number field) = decimal field
fault_numbers fault.NoFrame = []
fault_numbers fault.TwoFrames = []
fault_numbers fault.Name = []
fault_numbers fault.Twice = []
fault_numbers fault.Unknown = []
fault_numbers fault.Size = []
fault_numbers fault.Place = []
fault_numbers fault.OnSync = []
fault_numbers fault.OnCounter = []
fault_numbers (fault.Overlap first second word bit) = overlap_numbers first word bit
fault_numbers fault.Parts = []
fault_numbers (fault.Rate declared counted) = rate_numbers declared counted
fault_numbers fault.TooMany = []

-- what is wrong with a table, in words, with all numbers
abbrev pub fault_text : TableFault → List ℕ
fault_text f = fault_words f ++ fault_numbers f

-- what is wrong with a record of a trace, in words
abbrev pub trace_fault_words : TraceFault → List ℕ
trace_fault_words trace.Kind = codes "kind"
trace_fault_words trace.Back = codes "time goes back"
trace_fault_words trace.Late = codes "time too late"
trace_fault_words trace.Truncated = codes "truncated"
trace_fault_words trace.Many = codes "too many"

-- what is wrong with an image, in words
abbrev pub image_fault_words : ImageFault → List ℕ
image_fault_words image.Small = codes "too small"
image_fault_words image.Closed = codes "header closed"
image_fault_words image.Magic = codes "not a recorder image"
image_fault_words image.Geometry = codes "geometry"
image_fault_words image.Short = codes "shorter than its ring"

-- what a program says, after its name, of a table that is refused for this fault in this row
abbrev pub table_message : List ℕ → ℕ → TableFault → List ℕ
table_message program row f = program ++ codes ": table row " ++ decimal row ++ codes ": " ++ fault_text f

-- what a program says, after its name, of a trace that is refused for this fault of the record with this index
abbrev pub trace_message : List ℕ → ℕ → TraceFault → List ℕ
trace_message program index f = program ++ codes ": trace record " ++ decimal index ++ codes ": " ++ trace_fault_words f

-- what a program says, after its name, of an image that is refused for this fault
abbrev pub image_message : List ℕ → ImageFault → List ℕ
image_message program f = program ++ codes ": image: " ++ image_fault_words f

-- what a program says, after its name, of an image whose subframes have other words than a table's: how many both have
abbrev pub words_message : List ℕ → ℕ → ℕ → List ℕ
words_message program image table = program ++ codes ": image has " ++ decimal image ++ codes " words, table has " ++ decimal table
