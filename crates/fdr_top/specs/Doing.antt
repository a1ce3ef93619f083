-- What a run of `fdr` has to do with what is meant, and what a stop leaves. `run` promises it:
--
--     run .. ensures means: where the words have a form and what is handed in is told (`IsTold`), `DoesAsMeant form r`
--
-- and of each disk, told or not, what its length decides:
--
--     run .. ensures size: where the words have a form, `SizeDecides` of its image
--
-- Not here: words of no form (Usage), standard error, time, how far an input is read ahead, and which counts of faults rise.
use Rattle.std.specs.Prelude.{◌≡◌, ◌≢◌, ◌⊎◌, ◌==◌, ℕ, nat_lt, if◌then◌else◌, true, false, List, Option, Some, None, IfSome, IsTrue, IsSome}
use Rattle.std.specs.Option.{option_map}
use Rattle.fdr_io.specs.Faults.{Rose}
use Rattle.fdr_io.specs.Told.{followed_by, preceded_by}
use Rattle.fdr_deck.specs.State.{Moment, State, Tells}
use Rattle.fdr_deck.specs.Disk.{IsSettled, KeepsDisk}
use Rattle.fdr_deck.specs.Moments.{EachMoment}
use Rattle.fdr_deck.specs.Pull.{TakesInput}
use Rattle.fdr_slot.specs.Places.{image_size}
use Rattle.fdr_slot.specs.declared.image.ImageFault.{ImageFault}
use Rattle.fdr_slot.specs.declared.image.ImageFault.TheVariants as fault
use Rattle.fdr_recover.specs.Blocks.{Block}
use Rattle.fdr_recover.specs.ImageHeader.{header_in}
use Rattle.fdr_recover.specs.Payloads.{run_in}
use Rattle.fdr_ring.specs.Formatting.{Making, fresh_image}
use Rattle.fdr_ring.specs.Rings.{OfSettled}
use Rattle.fdr_recorder.specs.Keeping.{RecoversPrefix}
use Rattle.fdr_recorder.specs.NewBlocks.{AddsToRun, MayRecord, next_in}
use Rattle.fdr_recorder.specs.Recording.{IsClose}
use Rattle.fdr_words.specs.Forms.{Form, ImageUse, has_no_image, makes_image}
use Rattle.fdr_load.specs.Supplies.{Supplied}
use Rattle.fdr_top.specs.Answers.{HasImage, PullsInput, ReadsTable, WritesText}
use Rattle.fdr_top.specs.InputTexts.{WritesFront}
use Rattle.fdr_top.specs.Runs.{CommandRun, WorkRun}
use Rattle.fdr_top.specs.Refusals.{ring_fault}
use Rattle.fdr_top.specs.Stages.{IsPastTable, WritesNothing}
use Rattle.fdr_top.specs.Upgrade.{UpgradingStop, upgraded}
use Rattle.fdr_top.specs.declared.outcome.Outcome.{Outcome}
use Rattle.fdr_top.specs.declared.outcome.Outcome.TheVariants as outcome
use Rattle.fdr_top.specs.Meaning.{Change, Effect, Given, at_table, at_work, gets, made, meaning, raised, stays, with_all}

-- ---- what a run was given

-- The table's source gave this: all its bytes, of which it may tell; or what was taken of it, and then a read failed.
pub record GaveTable (s : Supplied) (r : CommandRun) : Type 0 where
  pub whole : s.failed ≡ false → IfSome r.rest_before (λ bytes. s.bytes ≡ bytes)
  pub cut : s.failed ≡ true → Rose r.table_before r.table_now × (r.rest_before ≡ preceded_by s.bytes r.rest_now)

-- The input gave this: what was pulled of it. A read is said to have failed only where the count of faults rose.
pub record GaveInput (s : Supplied) (r : WorkRun) : Type 0 where
  pub takes : TakesInput r.tells r.old r.new s.bytes
  pub cut : s.failed ≡ true → Rose r.old.input_faults r.new.input_faults

-- The command of this form was given this.
pub record WasGiven (form : Form) (g : Given) (r : CommandRun) : Type 0 where
  pub table : ReadsTable form → GaveTable g.table r
  pub input : PullsInput form → GaveInput g.input r.work
  pub image : HasImage form → g.image ≡ r.work.old.held

-- ---- what a run did

-- The image became this. A stop leaves it then, and nothing else; where it stays, a stop leaves what it could leave before, and
-- nothing was announced.
abbrev pub Becomes : Change → Tells → State → State → Type 0
Becomes stays tells old new = KeepsDisk old new × (new.extent ≡ old.extent) × (new.announced ≡ old.announced)
Becomes (made h) tells old new = (new.held ≡ fresh_image h) × (new.extent ≡ image_size h) × (IsTrue tells.stops → IsSettled new)
Becomes (gets blocks) tells old new = AddsToRun tells blocks old new
Becomes raised tells old new = (new.held ≡ upgraded old.held) × (IsTrue tells.stops → IsSettled new)

-- Blocks are being recorded: of the run and the first of these blocks after it the image has the last ones, N - 2 of N at least
-- or all; every announced block is among them, or older; and at most one is there that isn't announced.
pub record KeepsBlocks (blocks : List Block) (old : State) (m : Moment) : Type 0 where
  pub keeps : RecoversPrefix (header_in old.held) old.held (run_in old.held) blocks m.announced m.image
  pub close : IsClose (header_in old.held) (next_in old.held) m

-- What a stop may leave at a moment while the image becomes this, on a disk that was settled: what it could leave before; an
-- image that is refused, or the whole new one; one that keeps its blocks; the image as it was, or with another byte in place of
-- its version.
abbrev pub MayLeave : Change → State → Moment → Type 0
MayLeave stays old m = old.may_leave m.image
MayLeave (made h) old m = Making h old m.image
MayLeave (gets blocks) old m = MayRecord old → KeepsBlocks blocks old m
MayLeave raised old m = OfSettled old UpgradingStop m.image

-- All was done that is meant.
pub record DoesAll (e : Effect) (r : WorkRun) : Type 0 where
  pub answer : r.answer ≡ e.answer
  pub text : r.written_now ≡ followed_by r.written_before e.text
  pub image : Becomes e.image r.tells r.old r.new

-- The output failed, once the work was begun: a front part of the text went out, and the image became what it was to.
pub record IsCutByOutput (e : Effect) (r : WorkRun) : Type 0 where
  pub answer : r.answer ≡ outcome.WriteFault
  pub step : e.step ≡ at_work
  pub cause : Rose r.sink_before r.sink_now
  pub text : WritesFront e.text r.written_before r.written_now
  pub image : Becomes e.image r.tells r.old r.new

-- The disk failed, once the table was right: a front part of the text went out, so nothing where the command is refused. Of the
-- image `MayLeave` says what is left.
pub record IsCutByDisk (e : Effect) (r : WorkRun) : Type 0 where
  pub answer : r.answer ≡ outcome.DiskFault
  pub step : e.step ≢ at_table
  pub cause : Rose r.old.disk_faults r.new.disk_faults
  pub text : WritesFront e.text r.written_before r.written_now

-- Memory ended: nothing was written, and the image stays. It may end in any run: nothing says when.
pub record IsCutByMemory (r : WorkRun) : Type 0 where
  pub answer : r.answer ≡ outcome.NoMemory
  pub text : r.written_now ≡ r.written_before
  pub image : Becomes stays r.tells r.old r.new

-- The work did what is meant, or its output failed, its disk, or memory.
abbrev pub Refines : Form → Effect → WorkRun → Type 0
Refines form e r = DoesAll e r
    ⊎ ((WritesText form × IsCutByOutput e r)
    ⊎ ((HasImage form × IsCutByDisk e r)
    ⊎ IsCutByMemory r))

-- ---- the statement

-- Of a command with an image the source of the table tells what it gives, and the disk what it holds, as those in memory do.
-- Files tell nothing; `run` is one body for both, and can't ask which it was handed. A command without an image needs nothing
-- that is told.
pub record IsTold (form : Form) (r : CommandRun) : Type 0 where
  pub table : HasImage form → ReadsTable form → IsSome r.rest_before
  pub image : HasImage form → IsTrue r.work.tells.bytes

-- A run of the command of this form does what is meant by what it was given, and leaves at each moment what that may leave. By
-- all of an input, where it is told, it does what is meant too, unless a read or the disk failed: so it makes no difference where
-- it stopped reading, and nothing was written that what it had read doesn't decide.
pub record DoesAsMeant (form : Form) (r : CommandRun) : Type 0 where
  pub g : Given
  pub given : WasGiven form g r
  pub does : Refines form (meaning form g) r.work
  pub all : IsTrue r.work.tells.input → g.input.failed ≡ false → r.work.answer ≢ outcome.DiskFault
      → Refines form (meaning form (with_all r.work.old.input g)) r.work
  pub stops : HasImage form → ((meaning form g).step ≡ at_work) ⊎ WritesNothing r.work.answer
      → EachMoment r.work.tells r.work.old r.work.new (MayLeave (meaning form g).image r.work.old)

-- ---- what a length decides

-- why an image of this length refuses a command, if it does, whatever its bytes are: one that is to be made has none, a header
-- takes 64, and a ring that is taken in place of a header takes all of its slots
abbrev pub bad_size : ImageUse → Option (ℕ × ℕ) → ℕ → Option Outcome
bad_size has_no_image ring size = None
bad_size makes_image ring size = if size == 0 then None else Some outcome.NotEmpty
bad_size kind (Some ring) size = option_map outcome.ImageRefused (ring_fault ring size)
bad_size kind None size = if nat_lt size 64 then Some (outcome.ImageRefused fault.Small) else None

-- the length by which an image is refused: as it was asked for; of one that is made, as it was before
abbrev pub size_asked : ImageUse → WorkRun → ℕ
size_asked makes_image r = r.old.extent
size_asked kind r = r.new.extent

-- What the length of a disk decides, told or not: an image that it refuses is refused so, unless the disk failed; and NotEmpty, a
-- refusal as too small and any refusal by a ring come from the length alone.
pub record SizeDecides (kind : ImageUse) (ring : Option (ℕ × ℕ)) (r : WorkRun) : Type 0 where
  pub refused : (why : Outcome) → IsPastTable r.answer → bad_size kind ring (size_asked kind r) ≡ Some why
      → (r.answer ≡ why) ⊎ (r.answer ≡ outcome.DiskFault)
  pub not_empty : r.answer ≡ outcome.NotEmpty → bad_size kind ring r.new.extent ≡ Some outcome.NotEmpty
  pub too_short : (why : ImageFault) → r.answer ≡ outcome.ImageRefused why → (why ≡ fault.Small) ⊎ IsSome ring
      → bad_size kind ring r.new.extent ≡ Some (outcome.ImageRefused why)
