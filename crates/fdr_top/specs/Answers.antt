-- Which answers a command gives, and what they leave.
use Rattle.std.specs.Prelude.{◌≡◌, ◌⊎◌, Bool, true, false, IsSome}
use Rattle.fdr_io.specs.declared.Input.TheVariants as input
use Rattle.fdr_deck.specs.State.{State}
use Rattle.fdr_words.specs.Forms.{Form, command_uses, table_path}
use Rattle.fdr_words.specs.Forms.{InputUse, takes_nothing, takes_trace, takes_bits, takes_levels, takes_rules}
use Rattle.fdr_words.specs.Forms.{ImageUse, has_no_image, makes_image, records_in_image, reads_image, upgrades_image}
use Rattle.fdr_top.specs.Stages.{Stage, at_words, at_table, at_image, at_rules, at_work, out_of_memory, stage_of}
use Rattle.fdr_top.specs.declared.outcome.Outcome.{Outcome}
use Rattle.fdr_top.specs.declared.outcome.Outcome.TheVariants as outcome

-- The test says yes.
abbrev pub Yes : Bool → Type 0
Yes true = Unit {0}
Yes false = ⊥

-- A command takes a trace of the input.
abbrev pub IsTraceTaken : InputUse → Type 0
IsTraceTaken takes_nothing = ⊥
IsTraceTaken takes_trace = Unit {0}
IsTraceTaken takes_bits = ⊥
IsTraceTaken takes_levels = ⊥
IsTraceTaken takes_rules = ⊥

-- A command pulls the input to its end, as bits or as levels of bits.
abbrev pub AreBitsTaken : InputUse → Type 0
AreBitsTaken takes_nothing = ⊥
AreBitsTaken takes_trace = ⊥
AreBitsTaken takes_bits = Unit {0}
AreBitsTaken takes_levels = Unit {0}
AreBitsTaken takes_rules = ⊥

-- A command takes levels of the input.
abbrev pub AreLevelsTaken : InputUse → Type 0
AreLevelsTaken takes_nothing = ⊥
AreLevelsTaken takes_trace = ⊥
AreLevelsTaken takes_bits = ⊥
AreLevelsTaken takes_levels = Unit {0}
AreLevelsTaken takes_rules = ⊥

-- the input is rules
abbrev pub AreRulesTaken : InputUse → Type 0
AreRulesTaken takes_nothing = ⊥
AreRulesTaken takes_trace = ⊥
AreRulesTaken takes_bits = ⊥
AreRulesTaken takes_levels = ⊥
AreRulesTaken takes_rules = Unit {0}

-- A command pulls the input at all.
abbrev pub IsInputTaken : InputUse → Type 0
IsInputTaken takes_nothing = ⊥
IsInputTaken takes_trace = Unit {0}
IsInputTaken takes_bits = Unit {0}
IsInputTaken takes_levels = Unit {0}
IsInputTaken takes_rules = Unit {0}

-- the input is pulled once all memory is there
abbrev pub IsInputTakenLast : InputUse → Type 0
IsInputTakenLast takes_nothing = ⊥
IsInputTakenLast takes_trace = Unit {0}
IsInputTakenLast takes_bits = Unit {0}
IsInputTakenLast takes_levels = Unit {0}
IsInputTakenLast takes_rules = ⊥

-- A command has an image.
abbrev pub IsImageUsed : ImageUse → Type 0
IsImageUsed has_no_image = ⊥
IsImageUsed makes_image = Unit {0}
IsImageUsed records_in_image = Unit {0}
IsImageUsed reads_image = Unit {0}
IsImageUsed upgrades_image = Unit {0}

-- A command makes the image.
abbrev pub IsImageMade : ImageUse → Type 0
IsImageMade has_no_image = ⊥
IsImageMade makes_image = Unit {0}
IsImageMade records_in_image = ⊥
IsImageMade reads_image = ⊥
IsImageMade upgrades_image = ⊥

-- A command records in the image.
abbrev pub IsImageRecorded : ImageUse → Type 0
IsImageRecorded has_no_image = ⊥
IsImageRecorded makes_image = ⊥
IsImageRecorded records_in_image = Unit {0}
IsImageRecorded reads_image = ⊥
IsImageRecorded upgrades_image = ⊥

-- A command reads the header of the image, as an upgrade does too.
abbrev pub IsImageThere : ImageUse → Type 0
IsImageThere has_no_image = ⊥
IsImageThere makes_image = ⊥
IsImageThere records_in_image = Unit {0}
IsImageThere reads_image = Unit {0}
IsImageThere upgrades_image = Unit {0}

-- A command only reads the image.
abbrev pub IsImageOnlyRead : ImageUse → Type 0
IsImageOnlyRead has_no_image = ⊥
IsImageOnlyRead makes_image = ⊥
IsImageOnlyRead records_in_image = ⊥
IsImageOnlyRead reads_image = Unit {0}
IsImageOnlyRead upgrades_image = ⊥

-- The command of this form reads a table.
abbrev pub ReadsTable : Form → Type 0
ReadsTable form = IsSome (table_path form)

-- The command of this form has an image.
abbrev pub HasImage : Form → Type 0
HasImage form = IsImageUsed (command_uses form).work

-- The command of this form pulls a trace.
abbrev pub PullsTrace : Form → Type 0
PullsTrace form = IsTraceTaken (command_uses form).input

-- The command of this form pulls the input to its end.
abbrev pub PullsBits : Form → Type 0
PullsBits form = AreBitsTaken (command_uses form).input

-- The command of this form pulls levels.
abbrev pub PullsLevels : Form → Type 0
PullsLevels form = AreLevelsTaken (command_uses form).input

-- the commands that pull rules
abbrev pub PullsRules : Form → Type 0
PullsRules form = AreRulesTaken (command_uses form).input

-- The command of this form pulls the input.
abbrev pub PullsInput : Form → Type 0
PullsInput form = IsInputTaken (command_uses form).input

-- the commands that take all their memory before they pull the input
abbrev pub PullsLast : Form → Type 0
PullsLast form = IsInputTakenLast (command_uses form).input

-- The command of this form writes to the sink.
abbrev pub WritesText : Form → Type 0
WritesText form = Yes (command_uses form).text

-- The command of this form makes an image.
abbrev pub MakesImage : Form → Type 0
MakesImage form = IsImageMade (command_uses form).work

-- The command of this form records in an image.
abbrev pub RecordsImage : Form → Type 0
RecordsImage form = IsImageRecorded (command_uses form).work

-- The command of this form reads the header of an image.
abbrev pub ReadsImage : Form → Type 0
ReadsImage form = IsImageThere (command_uses form).work

-- The command of this form reads a table and the header of an image, which has to be for the table's words.
abbrev pub ReadsBoth : Form → Type 0
ReadsBoth form = Yes (command_uses form).same_words

-- The command of this form lists the blocks of an image by a table.
abbrev pub ListsBlocks : Form → Type 0
ListsBlocks form = ReadsTable form × IsImageOnlyRead (command_uses form).work

-- The command of this form uses the deck: it has an image, or pulls the input.
abbrev pub UsesDeck : Form → Type 0
UsesDeck form = HasImage form ⊎ PullsInput form

-- The command of this form may give this answer, a line an answer.
abbrev pub MayAnswer : Form → Outcome → Type 0
MayAnswer form outcome.Done = Unit {0}
MayAnswer form outcome.Usage = ⊥
MayAnswer form (outcome.TableRefused row f) = ReadsTable form
MayAnswer form (outcome.TraceRefused index why) = PullsTrace form
MayAnswer form (outcome.ImageRefused why) = ReadsImage form
MayAnswer form outcome.NotEmpty = MakesImage form
MayAnswer form (outcome.WordsDiffer image table) = ReadsBoth form
MayAnswer form outcome.SeqEnd = RecordsImage form
MayAnswer form (outcome.ReadFault input.Table) = ReadsTable form
MayAnswer form (outcome.ReadFault input.Line) = PullsInput form
MayAnswer form outcome.WriteFault = WritesText form
MayAnswer form outcome.DiskFault = HasImage form
MayAnswer form outcome.TooLong = PullsBits form
MayAnswer form outcome.NoMemory = Unit {0}
MayAnswer form outcome.OldVersion = RecordsImage form
MayAnswer form (outcome.CellFault at) = PullsLevels form
MayAnswer form (outcome.RuleRefused row f) = PullsRules form

-- An answer may be given, and comes once the words and the table are right: at the image or at work; want of memory aside.
abbrev pub OwnAt : Stage → Type 0 → Type 0
OwnAt at_words may = ⊥
OwnAt at_table may = ⊥
OwnAt at_image may = may
OwnAt at_rules may = may
OwnAt (at_work ending) may = may
OwnAt out_of_memory may = ⊥

-- The answer is one that the command of this form gives once its words and its table are right, want of memory aside.
abbrev pub IsOwn : Form → Outcome → Type 0
IsOwn form answer = OwnAt (stage_of answer) (MayAnswer form answer)

-- The rest of the input, the numbers of bytes pulled and the count of the input's faults are as they were.
pub record KeepsInputAndFaults (old new : State) : Type 0 where
  pub input : new.input ≡ old.input
  pub taken : new.taken ≡ old.taken
  pub pulled_before : new.pulled_before ≡ old.pulled_before
  pub faults : new.input_faults ≡ old.input_faults
