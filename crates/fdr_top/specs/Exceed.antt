-- What `exceed` promises: the exceedances of the rules on the input, in the blocks of the recovered run of what the disk holds.
use Rattle.std.specs.Prelude.{◌≡◌, ◌⊎◌, ℕ, ◌≤◌, if◌then◌else◌, List, [], ◌∷◌, ◌++◌, length, map, take, Option, Some, None, IsTrue}
use Rattle.std.specs.List.{flat_map}
use Rattle.fdr_io.specs.Faults.{Rose}
use Rattle.fdr_io.specs.Told.{followed_by}
use Rattle.fdr_io.specs.declared.Input.TheVariants as input
use Rattle.fdr_deck.specs.State.{State, Tells}
use Rattle.fdr_deck.specs.Disk.{KeepsDisk, LearnsExtent}
use Rattle.fdr_pieces.specs.Pieces.{LeavesStops, PullsPieces}
use Rattle.fdr_pieces.specs.declared.pieces.InputEnd.{InputEnd}
use Rattle.fdr_pieces.specs.declared.pieces.InputEnd.TheVariants as input_end
use Rattle.fdr_recover.specs.Blocks.{Block}
use Rattle.fdr_recover.specs.ImageHeader.{header_in, IsFor}
use Rattle.fdr_recover.specs.Payloads.{payloads_of, run_in}
use Rattle.fdr_sync.specs.Accepted.{accepted_frames}
use Rattle.fdr_table.specs.Reading.{records_of}
use Rattle.fdr_table.specs.Rows.{TableRows}
use Rattle.fdr_exceed.specs.Exceedances.{WatchStep, RowStep, ResetStep, exceedances}
use Rattle.fdr_exceed.specs.RuleAnswers.{rule_refused}
use Rattle.fdr_exceed.specs.RuleFaults.{rules_fault, rules_of}
use Rattle.fdr_exceed.specs.Rules.{most_rule_bytes}
use Rattle.fdr_exceed.specs.declared.fault.RuleFault.{RuleFault}
use Rattle.fdr_exceed.specs.declared.fault.RuleFault.TheVariants as fault
use Rattle.fdr_exceed.specs.declared.fault.RulesError.{RulesError}
use Rattle.fdr_exceed.specs.declared.fault.RulesError.TheVariants as error
use Rattle.fdr_exceed.specs.declared.rule.Rule.{Rule}
use Rattle.fdr_readout.specs.Entries.{Entry, GapEntry, FrameEntry, RowEntry, LineEntry}
use Rattle.fdr_readout.specs.Listing.{is_frame_linked, rows_at}
use Rattle.fdr_top.specs.Refusals.{RefusesImage}
use Rattle.fdr_top.specs.Sessions.{listed_apart}
use Rattle.fdr_top.specs.SessionsTaken.{decided_of_blocks}
use Rattle.fdr_top.specs.Stages.{IsPastTable}
use Rattle.fdr_top.specs.declared.outcome.Outcome.{Outcome}
use Rattle.fdr_top.specs.declared.outcome.Outcome.TheVariants as outcome

-- what a watch is given of the accepted frame at bit `a`: the end of a stretch, where the frame isn't linked to the one before
-- it, and then its rows
abbrev pub frame_steps : TableRows → List ℕ → ℕ → List WatchStep
frame_steps t b a = (if is_frame_linked t b a then [] else ResetStep ∷ []) ++ map RowStep (rows_at t b a)

-- what a watch is given of bits: the steps of their accepted frames, in their order
unfoldable pub steps_of_bits : TableRows → List ℕ → List WatchStep
steps_of_bits t b = flat_map (frame_steps t b) (accepted_frames b t.frame.words)

-- what a watch is given of the bits of some blocks
abbrev pub part_steps : TableRows → List Block → List WatchStep
part_steps t part = steps_of_bits t (payloads_of part)

-- what a watch is given of blocks of an image of this version: the steps of the bits of each part that is listed by itself, and
-- the end of the last stretch
unfoldable pub steps_of_blocks : TableRows → ℕ → List Block → List WatchStep
steps_of_blocks t version blocks = flat_map (part_steps t) (listed_apart version blocks) ++ ResetStep ∷ []

-- lines, one after another
abbrev pub text_of_lines : List (List ℕ) → List ℕ
text_of_lines lines = flat_map (λ (line : List ℕ). line) lines

-- the lines of the exceedances of rules in blocks
unfoldable pub exceedances_of_blocks : List Rule → TableRows → ℕ → List Block → List ℕ
exceedances_of_blocks rules t version blocks = text_of_lines (exceedances rules (steps_of_blocks t version blocks))

-- what a watch is given of an entry: a stretch ends at a frame that isn't linked to the one before it
abbrev pub entry_steps : Entry → List WatchStep
entry_steps (GapEntry a n) = []
entry_steps (FrameEntry linked) = if linked then [] else ResetStep ∷ []
entry_steps (RowEntry r) = RowStep r ∷ []
entry_steps (LineEntry line) = []

-- what a watch is given of entries, one after another
abbrev pub steps_of_entries : List Entry → List WatchStep
steps_of_entries entries = flat_map entry_steps entries

-- the lines of the exceedances of rules that end in what blocks decide which may go on
unfoldable pub decided_exceedances : List Rule → TableRows → ℕ → List Block → List ℕ
decided_exceedances rules t version blocks = text_of_lines (exceedances rules (steps_of_entries (decided_of_blocks t version blocks)))

-- Some first blocks of a list were read: the lines of all exceedances were written that end in what they decide, and nothing
-- else.
pub record ExceedsRead (rules : List Rule) (t : TableRows) (version : ℕ) (whole : List Block) (written_before written_now : Option (List ℕ))
    : Type 0 where
  pub read : List Block
  pub unread : List Block
  pub parted : whole ≡ read ++ unread
  pub text : written_now ≡ followed_by written_before (decided_exceedances rules t version read)

-- the rules that these bytes say
abbrev pub rules_in : TableRows → List ℕ → List Rule
rules_in t bytes = rules_of t (records_of bytes)

-- the lines of their exceedances in the blocks of an image's run
abbrev pub exceedances_in : TableRows → List ℕ → List ℕ → List ℕ
exceedances_in t bytes image = exceedances_of_blocks (rules_in t bytes) t (header_in image).version (run_in image)

-- the work ended with the image's blocks, of which all were read or some
abbrev pub HasReadBlocks : Outcome → Type 0
HasReadBlocks answer = (answer ≡ outcome.Done) ⊎ ((answer ≡ outcome.WriteFault) ⊎ (answer ≡ outcome.DiskFault))

-- The rules were pulled, and the exceedances in the image were listed, or the answer says why they weren't.
pub record ExceedsImage (t : TableRows) (tells : Tells) (old new : State) (written_before written_now : Option (List ℕ))
    (sink_before sink_now : ℕ) (answer : Outcome) : Type 0 where
  pub disk : KeepsDisk old new
  pub learns : LearnsExtent tells old new
  pub stops : LeavesStops tells old new
  pub image : RefusesImage t tells old new answer
  pub good : (answer ≡ outcome.Done) ⊎ (answer ≡ outcome.WriteFault) → IsTrue tells.bytes → IsFor t.frame.words old.held
  -- The rules are all that the input has, and they are refused for their first fault.
  pub pulled : List ℕ
  pub pieces : PullsPieces most_rule_bytes tells old new pulled
  pub end : (answer ≡ outcome.Done) ⊎ (answer ≡ outcome.WriteFault) → IsTrue tells.input → new.input ≡ []
  pub rules : (row : ℕ) (f : RuleFault) → answer ≡ outcome.RuleRefused row f → rules_fault t pulled ≡ Some (row, f)
  pub rules_always : (row : ℕ) (f : RuleFault) → IsPastTable answer → rules_fault t pulled ≡ Some (row, f)
      → (answer ≡ outcome.RuleRefused row f) ⊎ (answer ≡ outcome.ReadFault input.Line)
  pub rules_of_input : (row : ℕ) (f : RuleFault) → answer ≡ outcome.RuleRefused row f → IsTrue tells.input
      → rules_fault t old.input ≡ Some (row, f)
  pub no_fault : HasReadBlocks answer → rules_fault t pulled ≡ None
  -- Where the input fails, no more came than rules may have.
  pub few : answer ≡ outcome.ReadFault input.Line → length pulled ≤ most_rule_bytes
  -- The lines of the exceedances were written, all or a front part of them; and nothing where no block was read.
  pub text : answer ≡ outcome.Done → IsTrue tells.bytes → written_now ≡ followed_by written_before
      (exceedances_in t pulled old.held)
  pub part : HasReadBlocks answer → IsTrue tells.bytes
      → (k : ℕ) × (written_now ≡ followed_by written_before (take k (exceedances_in t pulled old.held)))
  -- Where the disk failed and the output didn't, the lines of all exceedances went out that end in what some first blocks decide:
  -- none waits, and none is cut.
  pub drained : answer ≡ outcome.DiskFault → IsTrue tells.bytes → (Rose sink_before sink_now → ⊥)
      → ExceedsRead (rules_in t pulled) t (header_in old.held).version (run_in old.held) written_before written_now
  pub unwritten : (HasReadBlocks answer → ⊥) → written_now ≡ written_before
  -- Where the disk failed, it did before anything was pulled or written, or once the input was at its end and the image known to
  -- be one for the table's frames.
  pub cut : answer ≡ outcome.DiskFault → ((new.taken ≡ old.taken) × (written_now ≡ written_before))
      ⊎ ((IsTrue tells.input → new.input ≡ []) × (IsTrue tells.bytes → IsFor t.frame.words old.held))

-- Of the input these bytes were pulled, to its end, and as rules they have no fault.
pub record HasPulledRules (t : TableRows) (tells : Tells) (old new : State) (pulled : List ℕ) : Type 0 where
  pub pieces : PullsPieces most_rule_bytes tells old new pulled
  pub no_fault : rules_fault t pulled ≡ None
  pub end : IsTrue tells.input → new.input ≡ []

-- the answers where rules aren't read
abbrev pub IsRulesEnd : Outcome → Type 0
IsRulesEnd answer = ((row : ℕ) × (f : RuleFault) × (answer ≡ outcome.RuleRefused row f))
    ⊎ ((answer ≡ outcome.ReadFault input.Line) ⊎ (answer ≡ outcome.NoMemory))

-- Of the input these bytes were pulled, and they aren't read as rules, for a reason that the answer says.
pub record HasRefusedRules (t : TableRows) (tells : Tells) (old new : State) (pulled : List ℕ) (answer : Outcome) : Type 0 where
  pub pieces : PullsPieces most_rule_bytes tells old new pulled
  pub rules : (row : ℕ) (f : RuleFault) → answer ≡ outcome.RuleRefused row f → rules_fault t pulled ≡ Some (row, f)
  pub rules_of_input : (row : ℕ) (f : RuleFault) → answer ≡ outcome.RuleRefused row f → IsTrue tells.input
      → rules_fault t old.input ≡ Some (row, f)
  pub few : answer ≡ outcome.ReadFault input.Line → length pulled ≤ most_rule_bytes
  pub only : IsRulesEnd answer

-- the answer where rules aren't read
abbrev pub rules_refusal : RulesError → Outcome
rules_refusal (error.Refused row f) = outcome.RuleRefused row f
rules_refusal error.NoMemory = outcome.NoMemory

-- why rules aren't read of these bytes, where the input ended so
abbrev pub IsRulesAnswer : TableRows → List ℕ → InputEnd → Outcome → Type 0
IsRulesAnswer t bytes input_end.End answer =
    (e : RulesError) × (answer ≡ rules_refusal e) × ((row : ℕ) (f : RuleFault) → e ≡ rule_refused row f
    → rules_fault t bytes ≡ Some (row, f))
IsRulesAnswer t bytes input_end.Fault answer = answer ≡ outcome.ReadFault input.Line
IsRulesAnswer t bytes input_end.TooLong answer = answer ≡ outcome.RuleRefused 0 fault.Size
