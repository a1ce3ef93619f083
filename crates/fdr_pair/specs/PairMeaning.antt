-- What `fdrpair record` means: an equation, of what it answers and makes of the images on both disks, by what it is given. A side
-- that fails before anything is pulled is among what is given. What a disk that fails later, want of memory and a stop make of it
-- is in PairDoing.antt, where the statement is that `run_pair` promises.
use Rattle.std.specs.Prelude.{◌+◌, ◌-◌, ◌&&◌, ℕ, not, nat_eq, nat_lt, bytes_eq, if◌then◌else◌, Bool, true, List, [], ◌∷◌, ◌++◌, length, take, Option}
use Rattle.std.specs.Prelude.{Some, None}
use Rattle.std.specs.Option.{option_map}
use Rattle.std.specs.List.{find, list_any}
use Rattle.fdr_io.specs.declared.Input.TheVariants as input
use Rattle.fdr_bus.specs.Records.{good_prefix, trace_fault}
use Rattle.fdr_bus.specs.declared.TraceFault.{TraceFault}
use Rattle.fdr_bus.specs.declared.TraceFault.TheVariants as trace
use Rattle.fdr_slot.specs.Limits.{sequence_end}
use Rattle.fdr_recover.specs.Blocks.{Block}
use Rattle.fdr_recover.specs.ImageHeader.{image_fault_of, header_in}
use Rattle.fdr_recover.specs.Payloads.{run_in}
use Rattle.fdr_table.specs.Bounds.{most_table_bytes}
use Rattle.fdr_table.specs.Reading.{first_some}
use Rattle.fdr_table.specs.Rows.{TableRows}
use Rattle.fdr_table.specs.declared.fault.TableFault.{TableFault}
use Rattle.fdr_load.specs.Tables.{fault_in, table_in}
use Rattle.fdr_recorder.specs.NewBlocks.{new_blocks, next_in}
use Rattle.fdr_twin.specs.declared.side.Side.{Side}
use Rattle.fdr_twin.specs.declared.side.Side.TheVariants.{First, Second}
use Rattle.fdr_twin.specs.Pair.{other_side}
use Rattle.fdr_pair.specs.Brought.{blocks_not_below, leader}
use Rattle.fdr_pair.specs.Opening.{frame_refusal, same_header}
use Rattle.fdr_pair.specs.declared.outcome.PairOutcome.{PairOutcome}
use Rattle.fdr_pair.specs.declared.outcome.PairOutcome.TheVariants as outcome
use Rattle.fdr_load.specs.Supplies.{Supplied, fails_within}

-- ---- what is given, and what is done

-- what a recording on two disks is given: its table, its input, the bytes of each side's image, and the side that failed before
-- anything was pulled, if one did
pub record PairGiven : Type 0 where
  pub table : Supplied
  pub input : Supplied
  pub image : Side → List ℕ
  pub failed : Option Side

-- what becomes of the images: both stay; or each grows by these blocks, unless its side fails
pub data PairChange : Type 0 where
  stay : PairChange
  grow : (Side → List Block) → PairChange

-- how far a recording comes: its table isn't accepted; its images are refused; it records
pub data PairStep : Type 0 where
  to_table : PairStep
  to_images : PairStep
  to_work : PairStep

-- what a recording does where a disk at least doesn't fail, nor the lead while the other is brought up to it, and there is memory
pub record PairEffect : Type 0 where
  pub step : PairStep
  pub answer : PairOutcome
  pub images : PairChange

-- it only answers
abbrev pub pair_answers : PairStep → PairOutcome → PairEffect
pair_answers step answer = record { step = step; answer = answer; images = stay }

-- what it does, unless there is a refusal at this step
abbrev pub pair_unless : PairStep → Option PairOutcome → PairEffect → PairEffect
pair_unless step None work = work
pair_unless step (Some refusal) work = pair_answers step refusal

-- ---- the table

-- why a table of these bytes is refused, if it is: for its first fault
abbrev pub refused_table : List ℕ → Option PairOutcome
refused_table bytes = option_map (λ (f : ℕ × TableFault). outcome.TableRefused f.0 f.1) (fault_in bytes)

-- what is done by a table
abbrev pub by_pair_table : Supplied → (TableRows → PairEffect) → PairEffect
by_pair_table table work =
    if fails_within most_table_bytes table then pair_answers to_table (outcome.ReadFault input.Table)
    else pair_unless to_table (refused_table table.bytes) (work (table_in table.bytes))

-- ---- the images

-- the side that leads: the one with the greater next number
abbrev pub lead : PairGiven → Side
lead g = leader (g.image First) (g.image Second)

-- the side that is left where one failed, or this one
abbrev pub left_or : Option Side → Side → Side
left_or None side = side
left_or (Some failed) side = other_side failed

-- the base: the side from whose run the recording goes on. It is the lead, or the side that is left
abbrev pub base : PairGiven → Side
base g = left_or g.failed (lead g)

-- a refusal of the image of a side, if the side hasn't failed
abbrev pub unless_failed : Option Side → Side → Option PairOutcome → Option PairOutcome
unless_failed (Some First) First why = None
unless_failed (Some Second) Second why = None
unless_failed failed side why = why

-- a refusal of both images, if neither side has failed
abbrev pub of_both : Option Side → Option PairOutcome → Option PairOutcome
of_both None why = why
of_both (Some failed) why = None

-- why the image of a side is refused, if it is: for its header
abbrev pub refused_header : PairGiven → Side → Option PairOutcome
refused_header g side = unless_failed g.failed side (option_map (outcome.ImageRefused side) (image_fault_of (g.image side)))

-- why two images are refused: their headers differ
abbrev pub refused_headers : List ℕ → List ℕ → Option PairOutcome
refused_headers first second = if same_header (header_in first) (header_in second) then None else Some outcome.HeadersDiffer

-- whether blocks have one with this one's number that isn't the same
abbrev pub has_other : List Block → Block → Bool
has_other blocks b = list_any (λ (c : Block). nat_eq c.number b.number && not
    (nat_eq c.session b.session && bytes_eq c.payload b.payload)) blocks

-- the least number of two runs at which their blocks differ, if there is one
abbrev pub least_difference : List Block → List Block → Option ℕ
least_difference first second = option_map (λ (b : Block). b.number) (find (has_other second) first)

-- or blocks of one number differ
abbrev pub refused_blocks : List ℕ → List ℕ → Option PairOutcome
refused_blocks first second = option_map outcome.BlocksDiffer (least_difference (run_in first) (run_in second))

-- or the side that doesn't lead is too far behind: its next number is below the first of the lead's run
abbrev pub refused_far : PairGiven → Option PairOutcome
refused_far g =
    if nat_lt (next_in (g.image (other_side (lead g)))) (next_in (g.image (lead g)) - length (run_in (g.image (lead g))))
    then Some (outcome.FarBehind (other_side (lead g)))
    else None

-- why the images are refused, if they are, to be recorded in by a table: for the first of these
abbrev pub refused_images : TableRows → PairGiven → Option PairOutcome
refused_images t g = first_some (refused_header g First
    ∷ refused_header g Second
    ∷ of_both g.failed (refused_headers (g.image First) (g.image Second))
    ∷ frame_refusal t.frame.words (header_in (g.image (base g)))
    ∷ of_both g.failed (refused_blocks (g.image First) (g.image Second))
    ∷ of_both g.failed (refused_far g)
    ∷ [])

-- ---- the recording

-- what a side is brought of the base's run: its blocks from the side's own next number on. So the base is brought nothing
abbrev pub brought : PairGiven → Side → List Block
brought g side = blocks_not_below (next_in (g.image side)) (run_in (g.image (base g)))

-- each side grows by what it is brought, and by these blocks
abbrev pub grown : PairGiven → List Block → PairChange
grown g blocks = grow (λ (side : Side). brought g side ++ blocks)

-- the recording of these blocks: of all, or of as many as there are numbers for
abbrev pub records_on_both : PairGiven → List Block → PairOutcome → PairEffect
records_on_both g blocks answer =
    if nat_lt sequence_end (next_in (g.image (base g)) + length blocks)
    then record {
      step = to_work;
      answer = outcome.SeqEnd;
      images = grown g (take (sequence_end - next_in (g.image (base g))) blocks);
    }
    else record { step = to_work; answer = answer; images = grown g blocks }

-- how a trace with this fault, or none, ends: at its end record, or with the fault; or a read failed where more was wanted
abbrev pub end_of_trace : Option (ℕ × TraceFault) → Bool → PairOutcome
end_of_trace None failed = outcome.Done
end_of_trace (Some (index, trace.Truncated)) true = outcome.ReadFault input.Line
end_of_trace (Some (index, why)) failed = outcome.TraceRefused index why

-- how a trace ends
abbrev pub trace_end : Supplied → PairOutcome
trace_end came = end_of_trace (trace_fault came.bytes) came.failed

-- what `fdrpair record` does by what it is given
abbrev pub pair_meaning : PairGiven → PairEffect
pair_meaning g = by_pair_table g.table (λ t. pair_unless to_images (refused_images t g)
    (records_on_both g (new_blocks t (g.image (base g)) (good_prefix g.input.bytes)) (trace_end g.input)))
