-- What was found of the runs of both sides, one call after another.
use Rattle.std.proofs.Common.{◌≡◌, ℕ, List, Result, Ok, Err, Option, Some, None, sym, ◌∙◌, ap, subst}
use Rattle.std.specs.Prelude.{IfOk, IfErr}
use Rattle.fdr_io.specs.Faults.{Rose}
use Rattle.fdr_deck.specs.State.{Tells}
use Rattle.fdr_slot.specs.declared.image.Header.{Header}
use Rattle.fdr_recover.specs.Images.{recovered_run}
use Rattle.fdr_recover.specs.Stretches.{last_session}
use Rattle.fdr_recover.specs.declared.run.Found.{Found}
use Rattle.fdr_twin.specs.declared.side.Side.{Side}
use Rattle.fdr_twin.specs.declared.side.Side.TheVariants.{First, Second}
use Rattle.fdr_twin.specs.Pair.{Pair, other_side, disk_on}
use Rattle.fdr_twin.specs.Sound.{IsSoundPair}
use Rattle.fdr_twin.specs.Serving.{Serves}
use Rattle.fdr_pair.specs.PairWork.{IsSameContent}
use Rattle.fdr_pair.specs.Differ.{HasFound, IsLeastDifference}
use Rattle.fdr_pair.specs.Bringing.{HasNoFault, HasFailedAlone}
use Rattle.fdr_pair.specs.SideRuns.{IsRunOn, LooksAtBoth, IsLeastBetween, AreRunsOfBoth, IsRefusalOfBoth}
use Rattle.fdr_pair.specs.declared.outcome.PairOutcome.{PairOutcome}
use Rattle.fdr_pair.specs.declared.outcome.PairOutcome.TheVariants as outcome
use Rattle.fdr_pair.specs.declared.runs.SideRuns.{SideRuns}
use Rattle.fdr_pair.specs.declared.runs.SideRuns.TheVariants as runs
use Rattle.fdr_pair.proofs.PairWorks.{content_of, content_then, looked_first, looked_second, looked_then}
use Rattle.fdr_pair.proofs.Bringing.{no_fault_on, no_fault_of, no_fault_then, failed_after}
use Rattle.fdr_pair.specs.SideCounts.{CountsBoth}

-- a run on a disk that holds what it held
pub run_back : (tells : Tells) (h : Header) (side : Side) (found : Found) (p q : Pair) → IsSameContent (disk_on side p) (disk_on side q)
    → IsRunOn tells h side found q → IsRunOn tells h side found p
run_back tells h side found p q same is = record {
  run = λ told. subst (λ (l : List ℕ). HasFound h found l) same.held (is.run told);
  session = λ told. is.session told ∙ ap (λ (l : List ℕ). last_session (recovered_run h l)) same.held;
  order = is.order;
  bound = is.bound;
}

-- a side that is only looked at, and the other, which is left
pub looks_scanned : (tells : Tells) (side : Side) (p q : Pair) → IsSoundPair tells p → Serves tells side (disk_on side p).may_leave p q
    → CountsBoth p q
    → IsSameContent (disk_on side p) (disk_on side q) → LooksAtBoth tells p q
looks_scanned tells First p q sound served counts same = record {
  first = same;
  second = content_of p.second q.second served.other.disk;
  work = looked_first tells p q sound served counts;
}
looks_scanned tells Second p q sound served counts same = record {
  first = content_of p.first q.first served.other.disk;
  second = same;
  work = looked_second tells p q sound served counts;
}

pub looks_then : (tells : Tells) (p mid q : Pair) → IsSoundPair tells mid → LooksAtBoth tells p mid → LooksAtBoth tells mid q → LooksAtBoth tells p q
looks_then tells p mid q sound one two = record {
  first = content_then p.first mid.first q.first one.first two.first;
  second = content_then p.second mid.second q.second one.second two.second;
  work = looked_then tells p mid q sound one.first one.second one.work two.work;
}

-- no fault, where the side that was served has none
pub none_scanned : (tells : Tells) (side : Side) (P : List ℕ → Type 0) (p q : Pair) → Serves tells side P p q
    → (disk_on side q).faults ≡ (disk_on side p).faults → HasNoFault p q
none_scanned tells side P p q served none = no_fault_on side p q none served.other.disk.faults

-- a side that failed alone, and no fault after that
pub failed_before : (side : Side) (p mid q : Pair) → HasFailedAlone side p mid → HasNoFault mid q → HasFailedAlone side p q
failed_before side p mid q failed none = record {
  rose = subst (λ (n : ℕ). Rose (disk_on side p).faults n) (sym (no_fault_of side mid q none)) failed.rose;
  other = no_fault_of (other_side side) mid q none ∙ failed.other;
}

-- both disks hold what they held
content_on : (tells : Tells) (side : Side) (p q : Pair) → LooksAtBoth tells p q → IsSameContent (disk_on side p) (disk_on side q)
content_on tells First p q looks = looks.first
content_on tells Second p q looks = looks.second

least_back : (tells : Tells) (h : Header) (p q : Pair) (least : Option ℕ) → LooksAtBoth tells p q → IsLeastBetween h q least
    → IsLeastBetween h p least
least_back tells h p q least looks is =
    subst (λ (l : List ℕ). IsLeastDifference (recovered_run h l) (recovered_run h p.second.held) least) looks.first.held
    (subst (λ (l : List ℕ). IsLeastDifference (recovered_run h q.first.held) (recovered_run h l) least) looks.second.held is)

module _ (tells : Tells) (h : Header) (p mid q : Pair) (looks : LooksAtBoth tells p mid) where
  -- after no fault
  runs_back : (r : SideRuns) → HasNoFault p mid → AreRunsOfBoth tells h r mid q → AreRunsOfBoth tells h r p q
  runs_back (runs.Both first second) none is = (
    run_back tells h First first p mid looks.first is.0,
    run_back tells h Second second p mid looks.second is.1,
    no_fault_then p mid q none is.2,
    λ told. least_back tells h p mid None looks (is.3 told),
  )
  runs_back (runs.Alone side found) none is = (
    run_back tells h side found p mid (content_on tells side p mid looks) is.0,
    failed_after (other_side side) p mid q none is.1,
  )

  refusal_back : (why : PairOutcome) → HasNoFault p mid → IsRefusalOfBoth tells h why mid q → IsRefusalOfBoth tells h why p q
  refusal_back (outcome.BlocksDiffer seq) none is =
      (no_fault_then p mid q none is.0, λ told. least_back tells h p mid (Some seq) looks (is.1 told))
  refusal_back outcome.DiskFault none is = (
    subst (λ (n : ℕ). Rose n q.first.faults) none.first is.0,
    subst (λ (n : ℕ). Rose n q.second.faults) none.second is.1,
  )
  refusal_back outcome.Done none is = absurd is
  refusal_back outcome.Usage none is = absurd is
  refusal_back (outcome.TableRefused row f) none is = absurd is
  refusal_back (outcome.TraceRefused index f) none is = absurd is
  refusal_back (outcome.ImageRefused s why) none is = absurd is
  refusal_back (outcome.WordsDiffer image table) none is = absurd is
  refusal_back outcome.SeqEnd none is = absurd is
  refusal_back (outcome.ReadFault i) none is = absurd is
  refusal_back outcome.NoMemory none is = absurd is
  refusal_back outcome.OldVersion none is = absurd is
  refusal_back outcome.HeadersDiffer none is = absurd is
  refusal_back (outcome.LeadFault s) none is = absurd is
  refusal_back (outcome.FarBehind s) none is = absurd is

  -- the same of what a call answers
  pub found_back : (r : Result SideRuns PairOutcome) → HasNoFault p mid → IfOk r (λ found. AreRunsOfBoth tells h found mid q)
      → IfOk r (λ found. AreRunsOfBoth tells h found p q)
  found_back (Ok found) none is = runs_back found none is
  found_back (Err why) none is = is

  pub refused_back : (r : Result SideRuns PairOutcome) → HasNoFault p mid → IfErr r (λ why. IsRefusalOfBoth tells h why mid q)
      → IfErr r (λ why. IsRefusalOfBoth tells h why p q)
  refused_back (Ok found) none is = is
  refused_back (Err why) none is = refusal_back why none is
