-- What `fdr` means: an equation for each command, of what it answers, writes and makes of its image, by what it is given. A read
-- of a table or of an input that fails is among what is given. What a failing output, a failing disk, want of memory and a stop
-- make of it is in Doing.antt, where the statement is that `run` promises.
use Rattle.std.specs.Prelude.{◌+◌, ◌-◌, ◌==◌, ℕ, nat_lt, if◌then◌else◌, Bool, true, false, List, [], ◌∷◌, ◌++◌, length, take, Option, Some}
use Rattle.std.specs.Prelude.{None}
use Rattle.std.specs.Option.{option_map}
use Rattle.fdr_io.specs.declared.Input.TheVariants as input
use Rattle.fdr_pieces.specs.Limits.{most_input_bytes}
use Rattle.fdr_biphase.specs.Cells.{bits_of_bytes}
use Rattle.fdr_biphase.specs.Packed.{decoded_bytes}
use Rattle.fdr_biphase.specs.Phases.{missing_place}
use Rattle.fdr_bus.specs.Records.{good_prefix, trace_fault}
use Rattle.fdr_bus.specs.declared.TraceFault.{TraceFault}
use Rattle.fdr_bus.specs.declared.TraceFault.TheVariants as trace
use Rattle.fdr_slot.specs.Limits.{sequence_end}
use Rattle.fdr_slot.specs.declared.image.Header.{Header}
use Rattle.fdr_recover.specs.Blocks.{Block}
use Rattle.fdr_recover.specs.ImageHeader.{image_fault_of, header_in}
use Rattle.fdr_recover.specs.Payloads.{payloads_of, run_in}
use Rattle.fdr_ring.specs.Runs.{last_blocks}
use Rattle.fdr_table.specs.Bounds.{most_table_bytes}
use Rattle.fdr_table.specs.Rows.{TableRows}
use Rattle.fdr_table.specs.declared.fault.TableFault.{TableFault}
use Rattle.fdr_check.specs.Report.{report_of}
use Rattle.fdr_load.specs.Supplies.{Supplied, fails_within}
use Rattle.fdr_load.specs.Tables.{fault_in, table_in}
use Rattle.fdr_gen.specs.Trace.{generated_trace}
use Rattle.fdr_sampler.specs.Stream.{stream_of}
use Rattle.fdr_readout.specs.Listing.{listing_of}
use Rattle.fdr_recorder.specs.NewBlocks.{new_blocks, next_in}
use Rattle.fdr_exceed.specs.RuleFaults.{rules_fault}
use Rattle.fdr_exceed.specs.Rules.{most_rule_bytes}
use Rattle.fdr_exceed.specs.declared.fault.RuleFault.{RuleFault}
use Rattle.fdr_words.specs.Forms.{Form, check_table, stream_line, list_bits, encode_bytes, decode_levels}
use Rattle.fdr_words.specs.Forms.{format_image, record_line, recover_image, list_image, upgrade_image, salvage_image, exceed_image, drill_image}
use Rattle.fdr_top.specs.Drill.{drill_text}
use Rattle.fdr_top.specs.Encode.{levels_text}
use Rattle.fdr_top.specs.Exceed.{exceedances_in}
use Rattle.fdr_top.specs.Format.{new_header}
use Rattle.fdr_top.specs.List.{listing_in}
use Rattle.fdr_top.specs.Refusals.{ring_fault}
use Rattle.fdr_top.specs.Salvage.{salvage_in}
use Rattle.fdr_top.specs.Sessions.{summary_of_blocks}
use Rattle.fdr_top.specs.declared.outcome.Outcome.{Outcome}
use Rattle.fdr_top.specs.declared.outcome.Outcome.TheVariants as outcome

-- ---- what a command is given

-- what a command is given: its table, its input, and the bytes of its image; where it hasn't one of them, anything
pub record Given : Type 0 where
  pub table : Supplied
  pub input : Supplied
  pub image : List ℕ

-- ---- what a command does

-- what becomes of an image: it stays; it is made, with this header and no blocks; it gets these blocks after its run, of which as
-- many of the last are left as a ring of its slots keeps, N - 1 of N; it is raised to version 2
pub data Change : Type 0 where
  stays : Change
  made : Header → Change
  gets : List Block → Change
  raised : Change

-- how far a command comes: to its table, which is refused; to its start, where its image or its rules are; or to its work
pub data Step : Type 0 where
  at_table : Step
  at_start : Step
  at_work : Step

-- what a command does where neither its output nor its disk fails and there is memory
pub record Effect : Type 0 where
  pub step : Step
  pub answer : Outcome
  pub text : List ℕ
  pub image : Change

-- it only answers
abbrev pub answers : Step → Outcome → Effect
answers step answer = record { step = step; answer = answer; text = []; image = stays }

-- it writes a text, and answers how its input ended
abbrev pub writes : List ℕ → Outcome → Effect
writes text answer = record { step = at_work; answer = answer; text = text; image = stays }

-- it changes the image
abbrev pub changes : Change → Effect
changes change = record { step = at_work; answer = outcome.Done; text = []; image = change }

-- what it does, or this answer at this step, where there is one
abbrev pub or_answers : Step → Option Outcome → Effect → Effect
or_answers step None work = work
or_answers step (Some why) work = answers step why

-- what it does, unless one of these refuses it: the first that does is answered
abbrev pub unless : List (Option Outcome) → Effect → Effect
unless [] work = work
unless (why ∷ more) work = or_answers at_start why (unless more work)

-- ---- why a command is refused: an answer, or None

-- why a table refuses a command, if it does: it can't be read, or has a fault, of which the first is named
abbrev pub bad_table : Supplied → Option Outcome
bad_table s =
    if fails_within most_table_bytes s then Some (outcome.ReadFault input.Table)
    else option_map (λ (f : ℕ × TableFault). outcome.TableRefused f.0 f.1) (fault_in s.bytes)

-- why an image refuses a command, if it does: it has a fault, of which the first is named
abbrev pub bad_header : List ℕ → Option Outcome
bad_header image = option_map outcome.ImageRefused (image_fault_of image)

-- why an image refuses a command with this table, if it does: it is for frames of another number of words in a subframe
abbrev pub other_words : TableRows → List ℕ → Option Outcome
other_words t image = if (header_in image).words == t.frame.words then None else Some
    (outcome.WordsDiffer (header_in image).words t.frame.words)

-- why an image refuses a recording, if it does: it is of version 1, in which nothing is recorded
abbrev pub old_version : List ℕ → Option Outcome
old_version image = if (header_in image).version == 1 then Some outcome.OldVersion else None

-- why an image refuses a ring that is taken in place of its header, if it does: it is too short for it
abbrev pub short_ring : ℕ × ℕ → List ℕ → Option Outcome
short_ring ring image = option_map outcome.ImageRefused (ring_fault ring (length image))

-- why an image refuses to be made, if it does: it is there already
abbrev pub not_empty : List ℕ → Option Outcome
not_empty image = if length image == 0 then None else Some outcome.NotEmpty

-- why rules refuse a command, if they do: they can't be read, or have a fault, of which the first is named
abbrev pub bad_rules : TableRows → Supplied → Option Outcome
bad_rules t s =
    if fails_within most_rule_bytes s then Some (outcome.ReadFault input.Line)
    else option_map (λ (f : ℕ × RuleFault). outcome.RuleRefused f.0 f.1) (rules_fault t s.bytes)

-- what refuses an image that is read by its header, or by a ring where one is given
abbrev pub unreadable : Option (ℕ × ℕ) → TableRows → List ℕ → List (Option Outcome)
unreadable None t image = bad_header image ∷ other_words t image ∷ []
unreadable (Some ring) t image = short_ring ring image ∷ []

-- what is done by a table
abbrev pub by_table : Supplied → (TableRows → Effect) → Effect
by_table s work = or_answers at_table (bad_table s) (work (table_in s.bytes))

-- ---- the parts of the equations

-- the bytes of an input that are taken as bits
abbrev pub as_bits : Supplied → List ℕ
as_bits s = take most_input_bytes s.bytes

-- the answer after bits
abbrev pub bits_answer : Supplied → Outcome
bits_answer s =
    if fails_within most_input_bytes s then outcome.ReadFault input.Line
    else if nat_lt most_input_bytes (length s.bytes) then outcome.TooLong
    else outcome.Done

-- the answer after levels: the place that is missing, or as after bits
abbrev pub levels_answer : Option ℕ → Supplied → Outcome
levels_answer None s = bits_answer s
levels_answer (Some at) s = outcome.CellFault at

-- the answer after a trace with this fault, or none, of which a read failed or none did: where bytes are wanted that a read
-- didn't give, the read is answered
abbrev pub fault_answer : Option (ℕ × TraceFault) → Bool → Outcome
fault_answer None failed = outcome.Done
fault_answer (Some (index, trace.Truncated)) true = outcome.ReadFault input.Line
fault_answer (Some (index, why)) failed = outcome.TraceRefused index why

-- the answer after a trace
abbrev pub trace_answer : Supplied → Outcome
trace_answer s = fault_answer (trace_fault s.bytes) s.failed

-- the recording of these blocks, and a text after it: of all of them, or of as many as there are numbers for, and no text
abbrev pub records : List ℕ → List Block → List ℕ → Outcome → Effect
records image blocks text answer =
    if nat_lt sequence_end (next_in image + length blocks)
    then record { step = at_work; answer = outcome.SeqEnd; text = []; image = gets (take (sequence_end - next_in image) blocks) }
    else record { step = at_work; answer = answer; text = text; image = gets blocks }

-- the run of an image that got these blocks
abbrev pub run_with : List ℕ → List Block → List Block
run_with image blocks = last_blocks ((header_in image).slots - 1) (run_in image ++ blocks)

-- the line of a drill that records these blocks
abbrev pub drilled : TableRows → List ℕ → List Block → List ℕ
drilled t image blocks = drill_text (length blocks) (summary_of_blocks t (header_in image).version (run_with image blocks))

-- ---- the commands

-- what the command of each form does by what it is given, an equation a command
abbrev pub meaning : Form → Given → Effect
meaning (check_table path) g = by_table g.table (λ t. writes (report_of t) outcome.Done)
meaning (stream_line path) g = by_table g.table (λ t. writes (stream_of t (good_prefix g.input.bytes)) (trace_answer g.input))
meaning (list_bits path) g = by_table g.table (λ t. writes (listing_of t (as_bits g.input)) (bits_answer g.input))
meaning encode_bytes g = writes (levels_text (as_bits g.input)) (bits_answer g.input)
meaning decode_levels g =
    writes (decoded_bytes (as_bits g.input)) (levels_answer (missing_place (bits_of_bytes (as_bits g.input))) g.input)
meaning (format_image path image slots payload) g =
    by_table g.table (λ t. unless (not_empty g.image ∷ []) (changes (made (new_header slots payload t.frame.words))))
meaning (record_line path image) g =
    by_table g.table (λ t. unless (bad_header g.image ∷ other_words t g.image ∷ old_version g.image ∷ [])
    (records g.image (new_blocks t g.image (good_prefix g.input.bytes)) [] (trace_answer g.input)))
meaning (recover_image image) g = unless (bad_header g.image ∷ []) (writes (payloads_of (run_in g.image)) outcome.Done)
meaning (list_image path image) g =
    by_table g.table (λ t. unless (bad_header g.image ∷ other_words t g.image ∷ []) (writes (listing_in t g.image) outcome.Done))
meaning (upgrade_image image) g = unless (bad_header g.image ∷ []) (changes raised)
meaning (salvage_image path image ring) g =
    by_table g.table (λ t. unless (unreadable ring t g.image) (writes (salvage_in t ring g.image) outcome.Done))
meaning (exceed_image path image) g =
    by_table g.table (λ t. unless (bad_header g.image ∷ other_words t g.image ∷ bad_rules t g.input ∷ [])
    (writes (exceedances_in t g.input.bytes g.image) outcome.Done))
meaning (drill_image path image seed frames) g =
    by_table g.table (λ t. unless (bad_header g.image ∷ other_words t g.image ∷ old_version g.image ∷ [])
    (let blocks = new_blocks t g.image (generated_trace t seed frames) in
    records g.image blocks (drilled t g.image blocks) outcome.Done))

-- what is given with all of an input, in place of what was pulled of it
abbrev pub with_all : List ℕ → Given → Given
with_all line g = record { table = g.table; input = record { bytes = line; failed = false }; image = g.image }
