-- What was found of the runs of both sides, with which a recording on two disks starts.
use Rattle.std.specs.Prelude.{◌≡◌, ◌≤◌, ℕ, Option, Some, None, IsTrue}
use Rattle.fdr_io.specs.Faults.{Rose}
use Rattle.fdr_deck.specs.State.{Tells}
use Rattle.fdr_slot.specs.Limits.{sequence_end}
use Rattle.fdr_slot.specs.declared.image.Header.{Header}
use Rattle.fdr_recover.specs.Images.{recovered_run}
use Rattle.fdr_recover.specs.Stretches.{last_session}
use Rattle.fdr_recover.specs.declared.run.Found.{Found}
use Rattle.fdr_twin.specs.declared.side.Side.{Side}
use Rattle.fdr_twin.specs.declared.side.Side.TheVariants.{First, Second}
use Rattle.fdr_twin.specs.Pair.{Pair, disk_on, other_side}
use Rattle.fdr_pair.specs.Differ.{HasFound, IsLeastDifference}
use Rattle.fdr_pair.specs.PairWork.{IsSameContent, PairWork, IsLookedAt}
use Rattle.fdr_pair.specs.Bringing.{HasNoFault, HasFailedAlone}
use Rattle.fdr_pair.specs.declared.open.LivingSides.{LivingSides}
use Rattle.fdr_pair.specs.declared.open.LivingSides.TheVariants as living
use Rattle.fdr_pair.specs.declared.outcome.PairOutcome.{PairOutcome}
use Rattle.fdr_pair.specs.declared.outcome.PairOutcome.TheVariants as outcome
use Rattle.fdr_pair.specs.declared.runs.SideRuns.{SideRuns}
use Rattle.fdr_pair.specs.declared.runs.SideRuns.TheVariants as runs

-- What was found on a side is the recovered run that its disk holds, with the session of its last block.
pub record IsRunOn (tells : Tells) (h : Header) (side : Side) (found : Found) (p : Pair) : Type 0 where
  pub run : IsTrue tells.bytes → HasFound h found (disk_on side p).held
  pub session : IsTrue tells.bytes → found.session ≡ last_session (recovered_run h (disk_on side p).held)
  pub order : found.first ≤ found.next
  pub bound : found.next ≤ sequence_end

-- The disks of both sides were only looked at.
pub record LooksAtBoth (tells : Tells) (old new : Pair) : Type 0 where
  pub first : IsSameContent old.first new.first
  pub second : IsSameContent old.second new.second
  pub work : PairWork tells (IsLookedAt old) old new

-- The least number of a block that both sides have by this header, and not the same, is this one; or there is none.
abbrev pub IsLeastBetween : Header → Pair → Option ℕ → Type 0
IsLeastBetween h p least = IsLeastDifference (recovered_run h p.first.held) (recovered_run h p.second.held) least

-- What was found where neither side had failed: the runs of both, none of whose blocks differ; or that of one side, where the
-- other failed.
abbrev pub AreRunsOfBoth : Tells → Header → SideRuns → Pair → Pair → Type 0
AreRunsOfBoth tells h (runs.Both first second) old new = IsRunOn tells h First first old × IsRunOn tells h Second second old
    × HasNoFault old new × (IsTrue tells.bytes → IsLeastBetween h old None)
AreRunsOfBoth tells h (runs.Alone side found) old new = IsRunOn tells h side found old × HasFailedAlone (other_side side) old new

-- What was found where only this side hadn't failed: its run.
abbrev pub IsRunOfOne : Tells → Header → Side → SideRuns → Pair → Pair → Type 0
IsRunOfOne tells h side (runs.Both first second) old new = ⊥
IsRunOfOne tells h side (runs.Alone s found) old new = (s ≡ side) × IsRunOn tells h side found old × HasNoFault old new

-- What was found on these sides, which hadn't failed.
abbrev pub AreFoundRuns : Tells → Header → LivingSides → SideRuns → Pair → Pair → Type 0
AreFoundRuns tells h living.Both found old new = AreRunsOfBoth tells h found old new
AreFoundRuns tells h living.OnlyFirst found old new = IsRunOfOne tells h First found old new
AreFoundRuns tells h living.OnlySecond found old new = IsRunOfOne tells h Second found old new

-- Why there are no runs where neither side had failed. BlocksDiffer: no side failed, and the number is the least at which the
-- blocks differ. DiskFault: both failed. No other answer comes.
abbrev pub IsRefusalOfBoth : Tells → Header → PairOutcome → Pair → Pair → Type 0
IsRefusalOfBoth tells h (outcome.BlocksDiffer seq) old new =
    HasNoFault old new × (IsTrue tells.bytes → IsLeastBetween h old (Some seq))
IsRefusalOfBoth tells h outcome.DiskFault old new =
    Rose old.first.faults new.first.faults × Rose old.second.faults new.second.faults
IsRefusalOfBoth tells h outcome.Done old new = ⊥
IsRefusalOfBoth tells h outcome.Usage old new = ⊥
IsRefusalOfBoth tells h (outcome.TableRefused row f) old new = ⊥
IsRefusalOfBoth tells h (outcome.TraceRefused index f) old new = ⊥
IsRefusalOfBoth tells h (outcome.ImageRefused s why) old new = ⊥
IsRefusalOfBoth tells h (outcome.WordsDiffer image table) old new = ⊥
IsRefusalOfBoth tells h outcome.SeqEnd old new = ⊥
IsRefusalOfBoth tells h (outcome.ReadFault i) old new = ⊥
IsRefusalOfBoth tells h outcome.NoMemory old new = ⊥
IsRefusalOfBoth tells h outcome.OldVersion old new = ⊥
IsRefusalOfBoth tells h outcome.HeadersDiffer old new = ⊥
IsRefusalOfBoth tells h (outcome.LeadFault s) old new = ⊥
IsRefusalOfBoth tells h (outcome.FarBehind s) old new = ⊥

-- Why there is no run where only this side hadn't failed: it failed too, and no fault was counted on the other.
abbrev pub IsRefusalOfOne : Side → PairOutcome → Pair → Pair → Type 0
IsRefusalOfOne side why old new = (why ≡ outcome.DiskFault) × HasFailedAlone side old new

-- Why there are no runs of these sides, which hadn't failed.
abbrev pub IsRunsRefusal : Tells → Header → LivingSides → PairOutcome → Pair → Pair → Type 0
IsRunsRefusal tells h living.Both why old new = IsRefusalOfBoth tells h why old new
IsRunsRefusal tells h living.OnlyFirst why old new = IsRefusalOfOne First why old new
IsRunsRefusal tells h living.OnlySecond why old new = IsRefusalOfOne Second why old new
