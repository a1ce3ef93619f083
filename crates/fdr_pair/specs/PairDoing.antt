-- What a run of `fdrpair` has to do with what is meant, and what is kept at each moment. `run_pair` promises it:
--
--     run_pair .. ensures means: where the words are of the form and what is handed in is told (`IsPairTold`),
--     `DoesPairAsMeant r`
--
-- Not here: words of no form (Usage), standard error, time, and what is left of an image before a byte is pulled.
use Rattle.std.specs.Prelude.{◌≡◌, ◌≢◌, ◌⊎◌, ◌<◌, ℕ, true, false, List, ◌++◌, Some, None, IsTrue, IsSome}
use Rattle.fdr_io.specs.Faults.{Rose}
use Rattle.fdr_io.specs.Told.{preceded_by}
use Rattle.fdr_deck.specs.Pull.{TakesInput}
use Rattle.fdr_bus.specs.Records.{good_prefix}
use Rattle.fdr_recover.specs.Blocks.{Block}
use Rattle.fdr_recover.specs.ImageHeader.{image_fault_of, header_in}
use Rattle.fdr_recover.specs.Images.{next_of}
use Rattle.fdr_recover.specs.Payloads.{run_in}
use Rattle.fdr_load.specs.Tables.{table_in}
use Rattle.fdr_recorder.specs.NewBlocks.{AddsToRun, new_blocks, next_in}
use Rattle.fdr_twin.specs.declared.side.Side.{Side}
use Rattle.fdr_twin.specs.declared.side.Side.TheVariants.{First}
use Rattle.fdr_twin.specs.Pair.{Pair, PairMoment, disk_on, other_side, seen}
use Rattle.fdr_twin.specs.Serving.{EachPairMoment}
use Rattle.fdr_pair.specs.Alike.{HaveOneHeader}
use Rattle.fdr_pair.specs.Bringing.{HasFailedAlone}
use Rattle.fdr_pair.specs.Opening.{LooksAtSide}
use Rattle.fdr_pair.specs.PairEnds.{HasFailedSince}
use Rattle.fdr_pair.specs.PairMoments.{HasFailedBeforePull, HasPulledBytes, KeepsRunWith, KeepsUpBy, MayRecordPair}
use Rattle.fdr_pair.specs.PairRun.{PairRun}
use Rattle.fdr_pair.specs.SideKeeping.{HasFailedOrKeeps}
use Rattle.fdr_pair.specs.PairWork.{LeavesLine}
use Rattle.fdr_pair.specs.declared.outcome.PairOutcome.TheVariants as outcome
use Rattle.fdr_load.specs.Supplies.{Supplied}
use Rattle.fdr_pair.specs.PairMeaning.{PairGiven, PairChange, PairEffect, lead, base, brought, pair_meaning, to_table, to_work, stay}
use Rattle.fdr_pair.specs.PairMeaning.{grow}

-- ---- what a run was given

-- This came of the table's source: all that it tells; or what was taken of it, and then a read failed.
pub record GavePairTable (came : Supplied) (r : PairRun) : Type 0 where
  pub whole : came.failed ≡ false → r.rest_before ≡ Some came.bytes
  pub cut : came.failed ≡ true → Rose r.table_before r.table_now × (r.rest_before ≡ preceded_by came.bytes r.rest_now)

-- These bytes were pulled of the input.
abbrev pub Pulls : List ℕ → PairRun → Type 0
Pulls bytes r = TakesInput r.tells (seen First r.old) (seen First r.new) bytes

-- This came of the input: all that it tells; or what was pulled of it, where it doesn't tell or both disks failed, or where a
-- read failed then.
pub record GavePairInput (came : Supplied) (r : PairRun) : Type 0 where
  pub whole : came.failed ≡ false → (IsTrue r.tells.input × (came.bytes ≡ r.old.input))
      ⊎ (Pulls came.bytes r × (IsTrue r.tells.input → r.answer ≡ outcome.DiskFault))
  pub cut : came.failed ≡ true → Rose r.old.input_faults r.new.input_faults × Pulls came.bytes r

-- The recording was given this.
pub record WasPairGiven (g : PairGiven) (r : PairRun) : Type 0 where
  pub table : GavePairTable g.table r
  pub input : GavePairInput g.input r
  pub image : g.image ≡ (λ (side : Side). (disk_on side r.old).held)
  pub failed : (side : Side) → g.failed ≡ Some side → HasFailedBeforePull r.tells side r.old r.new

-- ---- what a run did

-- Both disks hold what they held, and nothing was pulled or announced.
pub record Stays (r : PairRun) : Type 0 where
  pub images : (side : Side) → LooksAtSide r.tells side r.old r.new
  pub line : LeavesLine r.old r.new

-- A side's run has grown by these blocks, and they are announced.
abbrev pub HasGrown : (Side → List Block) → Side → PairRun → Type 0
HasGrown added side r = AddsToRun r.tells (added side) (seen side r.old) (seen side r.new)

-- Each side has failed, or holds its own run, what it was brought of the base's, and the new blocks; one at least hasn't failed.
pub record Grows (added : Side → List Block) (r : PairRun) : Type 0 where
  pub each : (side : Side) → HasFailedSince side r.old r.new ⊎ HasGrown added side r
  pub one : (side : Side) × ((disk_on side r.new).faults ≡ (disk_on side r.old).faults) × HasGrown added side r

-- The images became this.
abbrev pub PairBecomes : PairChange → PairRun → Type 0
PairBecomes stay r = Stays r
PairBecomes (grow added) r = Grows added r

-- No side failed but the one that was given as failed: the count of faults of any other is as it was.
abbrev pub FailsOnly : PairGiven → PairRun → Type 0
FailsOnly g r = (side : Side) → (g.failed ≡ Some side) ⊎ ((disk_on side r.new).faults ≡ (disk_on side r.old).faults)

-- All was done that is meant. Where images or a table are refused, no further side failed.
pub record DoesAllOnBoth (g : PairGiven) (m : PairEffect) (r : PairRun) : Type 0 where
  pub answer : r.answer ≡ m.answer
  pub images : PairBecomes m.images r
  pub failed : m.step ≢ to_work → FailsOnly g r

-- Both disks failed, once the table was right; and once the images were, unless a side failed before anything was pulled.
pub record IsCutByDisks (g : PairGiven) (m : PairEffect) (r : PairRun) : Type 0 where
  pub answer : r.answer ≡ outcome.DiskFault
  pub step : m.step ≢ to_table
  pub work : g.failed ≡ None → m.step ≡ to_work
  pub causes : (side : Side) → HasFailedSince side r.old r.new

-- The lead failed, and it alone, before the other side was brought up to it: both images have one header, and the other is still
-- behind. No byte of the lead was changed, and nothing was pulled or announced.
pub record IsCutByLead (g : PairGiven) (m : PairEffect) (r : PairRun) : Type 0 where
  pub answer : r.answer ≡ outcome.LeadFault (lead g)
  pub step : m.step ≢ to_table
  pub cause : HasFailedAlone (lead g) r.old r.new
  pub header : HaveOneHeader (table_in g.table.bytes).frame.words r.old
  pub image : LooksAtSide r.tells (lead g) r.old r.new
  pub behind : next_of (header_in (g.image (lead g))) (disk_on (other_side (lead g)) r.new).held < next_in (g.image (lead g))
  pub line : LeavesLine r.old r.new

-- Memory ended: the images stay.
pub record IsPairCutByMemory (r : PairRun) : Type 0 where
  pub answer : r.answer ≡ outcome.NoMemory
  pub images : Stays r

-- The recording did what is meant, or both disks failed, the lead failed too early, or memory ended.
abbrev pub RefinesPair : PairGiven → PairEffect → PairRun → Type 0
RefinesPair g m r = DoesAllOnBoth g m r ⊎ (IsCutByDisks g m r ⊎ (IsCutByLead g m r ⊎ IsPairCutByMemory r))

-- The source of the table tells what it gives, and the disks what they hold.
pub record IsPairTold (r : PairRun) : Type 0 where
  pub table : IsSome r.rest_before
  pub bytes : IsTrue r.tells.bytes

-- ---- what a run keeps

-- At this moment the image of a side, whether the side has failed or not, keeps its own run and the first of what it is to get:
-- what it is brought of the base's, and these new blocks.
abbrev pub KeepsFirst : PairGiven → List Block → Side → Pair → PairMoment → Type 0
KeepsFirst g blocks side entry m = KeepsRunWith side (brought g side ++ blocks) entry m

-- At this moment a side has failed, or its image keeps its own run, what it was brought of the base's, the first of these new
-- blocks, and every announced one.
abbrev pub KeepsAll : PairGiven → List Block → Side → Pair → PairMoment → Type 0
KeepsAll g blocks side entry m =
    HasFailedOrKeeps side (header_in (g.image side)) (run_in (g.image side) ++ brought g side)
    (next_in (g.image (base g))) blocks entry m

-- From the first pulled byte on each side whose header reads keeps all that, so either disk may be lost whole while the other
-- hasn't failed; and one that has failed keeps what it had. What is announced keeps up with what was pulled, by the base's image.
-- What was pulled is a front part of what came.
pub record KeepsOn (g : PairGiven) (r : PairRun) : Type 0 where
  pub pulled : List ℕ
  pub pulls : Pulls pulled r
  pub front : (rest : List ℕ) × (g.input.bytes ≡ pulled ++ rest)
  pub each : (side : Side) → image_fault_of (g.image side) ≡ None → MayRecordPair r.old → EachPairMoment r.tells r.old r.new (λ m.
      HasPulledBytes r.old m → KeepsAll g (new_blocks (table_in g.table.bytes) (g.image (base g))
      (good_prefix pulled)) side r.old m)
  pub failed : (side : Side) → image_fault_of (g.image side) ≡ None → MayRecordPair r.old → EachPairMoment r.tells r.old r.new (λ m.
      HasPulledBytes r.old m → KeepsFirst g (new_blocks (table_in g.table.bytes) (g.image (base g))
      (good_prefix pulled)) side r.old m)
  pub in_time : MayRecordPair r.old → KeepsUpBy (g.image (base g)) (table_in g.table.bytes) r.tells pulled r.old r.new

-- What a recording on two disks does by what it was given is what it means, and each side keeps what it is to at each moment.
pub record DoesPairAsMeant (r : PairRun) : Type 0 where
  pub g : PairGiven
  pub given : WasPairGiven g r
  pub does : RefinesPair g (pair_meaning g) r
  pub keeps : KeepsOn g r
