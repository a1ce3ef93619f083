-- What is so where a recording on two disks isn't started, by the step at which that shows.
use Rattle.std.proofs.Common.{◌≡◌, ◌≢◌, ◌⊎◌, inl, inr, ⊎_elim, ℕ, ◌<◌, refl, sym, ◌∙◌, ap, subst, arith, None}
use Rattle.std.specs.Prelude.{IsTrue, Err, ⊤}
use Rattle.fdr_io.specs.Faults.{Rose}
use Rattle.fdr_deck.specs.State.{Tells}
use Rattle.fdr_slot.specs.declared.image.Header.{Header}
use Rattle.fdr_recover.specs.Images.{next_of}
use Rattle.fdr_recover.specs.ImageHeader.{header_in}
use Rattle.fdr_recover.specs.declared.run.Found.{Found}
use Rattle.fdr_table.specs.Rows.{TableRows}
use Rattle.fdr_twin.specs.declared.side.Side.{Side}
use Rattle.fdr_twin.specs.declared.side.Side.TheVariants.{First, Second}
use Rattle.fdr_twin.specs.Pair.{Pair, PairMoment, other_side, disk_on}
use Rattle.fdr_pair.specs.Alike.{HaveDifferentBlocks, IsSideFarBehind}
use Rattle.fdr_pair.specs.Attaching.{start_on, AttachedNow, AreAttachMoments, IsGoingFault, IsGoingRefused}
use Rattle.fdr_pair.specs.Bringing.{HasNoFault, HasFailedAlone}
use Rattle.fdr_pair.specs.Joining.{IsJoinRefusal, JoinMoment, AreNotJoined, lead_by_found, found_on}
use Rattle.fdr_pair.specs.Opening.{opening, header_after, AreCountsBelowMost, AreLiving, IsOpeningRefusal, LooksAtSide}
use Rattle.fdr_pair.specs.PairRun.{RefusesHeaders, HasLeadFailed, LeavesPair}
use Rattle.fdr_pair.specs.PairStages.{IsPastPairTable, LeavesPairLine, WritesOnNeither}
use Rattle.fdr_pair.specs.PairStarting.{KeepsAtStart, IsStartRefused}
use Rattle.fdr_pair.specs.PairWork.{IsSameContent, PairWork, IsLookedAt}
use Rattle.fdr_pair.specs.SideRuns.{LooksAtBoth, IsRefusalOfBoth, IsRefusalOfOne, IsRunsRefusal}
use Rattle.fdr_pair.specs.declared.join.Follower.{Follower}
use Rattle.fdr_pair.specs.declared.join.Follower.TheVariants as follower
use Rattle.fdr_pair.specs.declared.join.Joined.{Joined}
use Rattle.fdr_pair.specs.declared.open.LivingSides.{LivingSides}
use Rattle.fdr_pair.specs.declared.open.LivingSides.TheVariants.{Both, OnlyFirst, OnlySecond}
use Rattle.fdr_pair.specs.declared.open.Opened.{Opened}
use Rattle.fdr_pair.specs.declared.outcome.PairOutcome.{PairOutcome}
use Rattle.fdr_pair.specs.declared.outcome.PairOutcome.TheVariants as outcome
use Rattle.fdr_pair.specs.declared.runs.SideRuns.{SideRuns}
use Rattle.fdr_pair.specs.declared.runs.SideRuns.TheVariants as runs
use Rattle.fdr_pair.proofs.Alikes.{differs, lead_found, one_header_found, side_far, looked_content_of}
use Rattle.fdr_pair.proofs.Bringing.{no_fault_on, no_fault_then, failed_after}
use Rattle.fdr_pair.proofs.PairWorks.{work_then, work_weaken}
use Rattle.fdr_pair.proofs.StartCounts.{KeepsCounts, counts_none, counts_failed, counts_then, count_rose, none_rose, of_headers, still_opened, one_header_opens}
use Rattle.fdr_pair.proofs.StartJoined.{on_both, AreJoined, HasOther, found_images, counts_found, are_joined, leads_alike, counts_sides}
use Rattle.fdr_pair.proofs.StartJoined.{each_counted, rose_attached, counts_attached, image_of}
use Rattle.fdr_pair.proofs.StartSteps.{HasOpened, HasFoundRuns, HasJoinedSides}
use Rattle.fdr_twin.specs.Sound.{IsSoundPair}
use Rattle.fdr_pair.specs.Opening.{IsHeaderAnswer}
use Rattle.fdr_pair.specs.Opening.{IsRefusedByHeaders}

-- calls that work on both disks, whatever their moments are
pub any_work : (tells : Tells) (P : PairMoment → Type 0) (old new : Pair) → PairWork tells P old new → PairWork tells (λ m. ⊤) old new
any_work tells P old new work = work_weaken tells P (λ m. ⊤) old new work (λ stops m is. tt)

pub any_then : (tells : Tells) (old mid new : Pair) → IsSoundPair tells mid → PairWork tells (λ m. ⊤) old mid → PairWork tells (λ m. ⊤) mid new → PairWork
    tells (λ m. ⊤) old new
any_then tells old mid new sound one two =
    work_then tells (λ m. ⊤) (λ m. ⊤) (λ m. ⊤) old mid new sound one two (λ stops m is. tt) (λ stops m is. tt)

-- a side that is only looked at, and then as it was
pub looks_on : (tells : Tells) (side : Side) (p q r : Pair) → LooksAtSide tells side p q → IsSameContent (disk_on side q) (disk_on side r)
    → LooksAtSide tells side p r
looks_on tells side p q r looks same = record {
  extent = record {
    bytes = λ told. same.extent ∙ looks.extent.bytes told;
    stops = λ told. same.extent ∙ looks.extent.stops told;
    known = λ some. same.extent ∙ looks.extent.known some;
  };
  disk = record {
    held = same.held ∙ looks.disk.held;
    no_more = λ image is. looks.disk.no_more image (same.no_more image is);
    no_less = λ image is. same.no_less image (looks.disk.no_less image is);
  };
}

opened_looks : (tells : Tells) (p q : Pair) → LooksAtSide tells First p q → LooksAtSide tells Second p q → (side : Side) → LooksAtSide tells side p q
opened_looks tells p q first second First = first
opened_looks tells p q first second Second = second

-- Calls worked on the disks and announced and pulled nothing, and the headers give no answer any more.
pub record IsPastHeaders (words : ℕ) (tells : Tells) (old new : Pair) : Type 0 where
  pub work : PairWork tells (λ m. ⊤) old new
  pub opened : IsTrue tells.bytes → AreCountsBelowMost new → (why : PairOutcome) → IsHeaderAnswer why
      → opening words (header_after old.first new.first) (header_after old.second new.second) ≡ Err why → ⊥

pub past_headers : (tells : Tells) (words : ℕ) (o : Opened) (p0 p1 q : Pair) → HasOpened tells words o p0 p1 → KeepsCounts p1 q
    → PairWork tells (λ m. ⊤) p1 q → IsPastHeaders words tells p0 q
past_headers tells words o p0 p1 q opened keeps work = record {
  work = any_then tells p0 p1 q opened.sound (any_work tells (IsLookedAt p0) p0 p1 opened.work) work;
  opened = still_opened tells words o p0 p1 q opened keeps;
}

-- ---- what each answer leaves

module _ (t : TableRows) (tells : Tells) (p q : Pair) where
  leaves : (why : PairOutcome) (P : PairMoment → Type 0) → PairWork tells P p q
      → ((side : Side) → WritesOnNeither why → IsTrue tells.bytes ⊎ ((seq : ℕ) → why ≢ outcome.BlocksDiffer seq) → LooksAtSide tells side p q)
      → LeavesPair tells p q why
  leaves why P work disks = record { line = λ is. work.line; line_moments = λ is. work.line_moments; disks = disks }

  no_headers : (why : PairOutcome) → (IsHeaderAnswer why → ⊥) → IsPastHeaders t.frame.words tells p q → RefusesHeaders t.frame.words tells p q why
  no_headers why never past = record {
    cause = λ is. absurd (never is);
    only = λ is told. absurd (never is);
    always = λ other header stage told below is. absurd (past.opened told below other header is);
  }

  -- no fault was counted over all, and so none
  none_at : (side : Side) → Rose (disk_on side p).faults (disk_on side q).faults → AreCountsBelowMost q → HasNoFault p q → ⊥
  none_at side rose below none = none_rose side p q q rose (counts_none q q (record { first = refl; second = refl })) below none

  -- the answer of the headers
  line_of : (why : PairOutcome) → IsOpeningRefusal t.frame.words why p q → LeavesPairLine why ⊎ (why ≡ outcome.DiskFault)
  line_of outcome.DiskFault is = inr refl
  line_of (outcome.ImageRefused s bad) is = inl tt
  line_of outcome.HeadersDiffer is = inl tt
  line_of (outcome.WordsDiffer image table) is = inl tt
  line_of outcome.OldVersion is = inl tt
  line_of outcome.Done is = absurd is
  line_of outcome.Usage is = absurd is
  line_of (outcome.TableRefused row f) is = absurd is
  line_of (outcome.TraceRefused index f) is = absurd is
  line_of outcome.SeqEnd is = absurd is
  line_of (outcome.ReadFault i) is = absurd is
  line_of outcome.NoMemory is = absurd is
  line_of (outcome.BlocksDiffer seq) is = absurd is
  line_of (outcome.LeadFault s) is = absurd is
  line_of (outcome.FarBehind s) is = absurd is

  past_of : (why : PairOutcome) → IsOpeningRefusal t.frame.words why p q → IsPastPairTable why
  past_of outcome.DiskFault is = tt
  past_of (outcome.ImageRefused s bad) is = tt
  past_of outcome.HeadersDiffer is = tt
  past_of (outcome.WordsDiffer image table) is = tt
  past_of outcome.OldVersion is = tt
  past_of outcome.Done is = absurd is
  past_of outcome.Usage is = absurd is
  past_of (outcome.TableRefused row f) is = absurd is
  past_of (outcome.TraceRefused index f) is = absurd is
  past_of outcome.SeqEnd is = absurd is
  past_of (outcome.ReadFault i) is = absurd is
  past_of outcome.NoMemory is = absurd is
  past_of (outcome.BlocksDiffer seq) is = absurd is
  past_of (outcome.LeadFault s) is = absurd is
  past_of (outcome.FarBehind s) is = absurd is

  pub refused_opening : (why : PairOutcome) → IsOpeningRefusal t.frame.words why p q
      → (IsTrue tells.bytes → AreCountsBelowMost q
      → opening t.frame.words (header_after p.first q.first) (header_after p.second q.second) ≡ Err why)
      → (IsHeaderAnswer why → IsTrue tells.bytes → IsRefusedByHeaders t.frame.words p q why)
      → LooksAtSide tells First p q → LooksAtSide tells Second p q → PairWork tells (IsLookedAt p) p q → KeepsAtStart t.frame.words tells p q
      → IsStartRefused t tells p q why
  refused_opening why cause exact refused first second work keeps =
      let at : (x : PairOutcome) → why ≡ x → IsOpeningRefusal t.frame.words x p q =
      λ x is. subst (λ (y : PairOutcome). IsOpeningRefusal t.frame.words y p q) is cause in
      record {
        past = inl (past_of why cause);
        time = work.time;
        counts = work.counts;
        line = line_of why cause;
        unpulled = work.line;
        keeps = keeps;
        headers = record {
          cause = λ is. cause;
          only = refused;
          always = λ other header stage told below is.
              let both : Err why ≡ Err other = sym (exact told below) ∙ is in
              cc;
        };
        runs = record {
          differ = λ seq is. absurd (at (outcome.BlocksDiffer seq) is);
          differ_always = λ seq stage told below none different.
              absurd (one_header_opens t.frame.words p q why different.header none (exact told below));
          far = λ s is. absurd (at (outcome.FarBehind s) is);
          far_always = λ s stage told below none far. absurd (one_header_opens t.frame.words p q why far.header none (exact told below));
        };
        leaves = leaves why (IsLookedAt p) work (λ side stage or. opened_looks tells p q first second side);
        causes = record {
          first = λ is. (at outcome.DiskFault is).0;
          second = λ is. (at outcome.DiskFault is).1;
          lead = λ s is. absurd (at (outcome.LeadFault s) is);
          input = λ is. absurd (at (outcome.ReadFault _) is);
        };
        memory = λ is. absurd (at outcome.NoMemory is);
      }

  -- memory ended
  pub refused_memory : LooksAtSide tells First p q → LooksAtSide tells Second p q → PairWork tells (IsLookedAt p) p q
      → KeepsAtStart t.frame.words tells p q → IsStartRefused t tells p q outcome.NoMemory
  refused_memory first second work keeps =
      let left = leaves outcome.NoMemory (IsLookedAt p) work (λ side stage or. opened_looks tells p q first second side) in
      record {
        past = inr refl;
        time = work.time;
        counts = work.counts;
        line = inl tt;
        unpulled = work.line;
        keeps = keeps;
        headers = record {
          cause = λ is. absurd (of_headers outcome.NoMemory is);
          only = λ is told. absurd (of_headers outcome.NoMemory is);
          always = λ other header stage. absurd stage;
        };
        runs = record {
          differ = λ seq is. absurd (cc);
          differ_always = λ seq stage. absurd stage;
          far = λ s is. absurd (cc);
          far_always = λ s stage. absurd stage;
        };
        leaves = left;
        causes = record { first = λ is. absurd (cc); second = λ is. absurd (cc); lead = λ s is. absurd (cc); input = λ is. absurd (cc) };
        memory = λ is. record { time = work.time; moments = work.moments; leaves = left };
      }

  -- both disks failed
  pub refused_fault : IsPastHeaders t.frame.words tells p q → ((side : Side) → Rose (disk_on side p).faults (disk_on side q).faults)
      → KeepsAtStart t.frame.words tells p q → IsStartRefused t tells p q outcome.DiskFault
  refused_fault past rose keeps = record {
    past = inl tt;
    time = past.work.time;
    counts = past.work.counts;
    line = inr refl;
    unpulled = past.work.line;
    keeps = keeps;
    headers = no_headers outcome.DiskFault (of_headers outcome.DiskFault) past;
    runs = record {
      differ = λ seq is. absurd (cc);
      differ_always = λ seq stage told below none different. absurd (none_at First (rose First) below none);
      far = λ s is. absurd (cc);
      far_always = λ s stage told below none far. absurd (none_at First (rose First) below none);
    };
    leaves = leaves outcome.DiskFault (λ m. ⊤) past.work (λ side stage or. absurd stage);
    causes = record { first = λ is. rose First; second = λ is. rose Second; lead = λ s is. absurd (cc); input = λ is. absurd (cc) };
    memory = λ is. absurd (cc);
  }

  -- blocks differ
  pub refused_blocks : (seq : ℕ) → IsPastHeaders t.frame.words tells p q → HasNoFault p q
      → (IsTrue tells.bytes → HaveDifferentBlocks t.frame.words p seq) → ((side : Side) → IsTrue tells.bytes → LooksAtSide tells side p q)
      → KeepsAtStart t.frame.words tells p q → IsStartRefused t tells p q (outcome.BlocksDiffer seq)
  refused_blocks seq past none different looks keeps = record {
    past = inl tt;
    time = past.work.time;
    counts = past.work.counts;
    line = inl tt;
    unpulled = past.work.line;
    keeps = keeps;
    headers = no_headers (outcome.BlocksDiffer seq) (of_headers (outcome.BlocksDiffer seq)) past;
    runs = record {
      differ = λ n is.
          let same : seq ≡ n = cc in
          (none, λ told. subst (λ (k : ℕ). HaveDifferentBlocks t.frame.words p k) same (different told));
      differ_always = λ n stage told below no other.
          let one = (different told).blocks in
          let two = other.blocks in
          let low = one.1 n two.0 in
          let high = two.1 seq one.0 in
          let same : seq ≡ n = omega (arith, low, high) in
          ap outcome.BlocksDiffer same;
      far = λ s is. absurd (cc);
      far_always = λ s stage told below no far. absurd (far.blocks seq (different told).blocks.0);
    };
    leaves = leaves (outcome.BlocksDiffer seq) (λ m. ⊤) past.work (λ side stage or. ⊎_elim (λ told. looks side told) (λ never. absurd (never seq refl)) or);
    causes = record { first = λ is. absurd (cc); second = λ is. absurd (cc); lead = λ s is. absurd (cc); input = λ is. absurd (cc) };
    memory = λ is. absurd (cc);
  }

  -- the lead failed
  pub refused_lead : (s : Side) → IsPastHeaders t.frame.words tells p q → HasLeadFailed t.frame.words tells s p q → KeepsAtStart t.frame.words tells p q
      → IsStartRefused t tells p q (outcome.LeadFault s)
  refused_lead s past failed keeps = record {
    past = inl tt;
    time = past.work.time;
    counts = past.work.counts;
    line = inl tt;
    unpulled = past.work.line;
    keeps = keeps;
    headers = no_headers (outcome.LeadFault s) (of_headers (outcome.LeadFault s)) past;
    runs = record {
      differ = λ seq is. absurd (cc);
      differ_always = λ seq stage told below none different. absurd (none_at s failed.alone.rose below none);
      far = λ n is. absurd (cc);
      far_always = λ n stage told below none far. absurd (none_at s failed.alone.rose below none);
    };
    leaves = leaves (outcome.LeadFault s) (λ m. ⊤) past.work (λ side stage or. absurd stage);
    causes = record {
      first = λ is. absurd (cc);
      second = λ is. absurd (cc);
      lead = λ n is.
          let same : s ≡ n = cc in
          subst (λ (k : Side). HasLeadFailed t.frame.words tells k p q) same failed;
      input = λ is. absurd (cc);
    };
    memory = λ is. absurd (cc);
  }

  -- a side is too far behind
  pub refused_far : (s : Side) → IsPastHeaders t.frame.words tells p q → HasNoFault p q → (IsTrue tells.bytes → IsSideFarBehind t.frame.words p s)
      → ((side : Side) → LooksAtSide tells side p q) → KeepsAtStart t.frame.words tells p q → IsStartRefused t tells p q (outcome.FarBehind s)
  refused_far s past none far looks keeps = record {
    past = inl tt;
    time = past.work.time;
    counts = past.work.counts;
    line = inl tt;
    unpulled = past.work.line;
    keeps = keeps;
    headers = no_headers (outcome.FarBehind s) (of_headers (outcome.FarBehind s)) past;
    runs = record {
      differ = λ seq is. absurd (cc);
      differ_always = λ seq stage told below no different. absurd ((far told).blocks seq different.blocks.0);
      far = λ n is.
          let same : s ≡ n = cc in
          (none, λ told. subst (λ (k : Side). IsSideFarBehind t.frame.words p k) same (far told));
      far_always = λ n stage told below no other.
          let same : s ≡ n = (far told).side ∙ sym other.side in
          ap outcome.FarBehind same;
    };
    leaves = leaves (outcome.FarBehind s) (λ m. ⊤) past.work (λ side stage or. looks side);
    causes = record { first = λ is. absurd (cc); second = λ is. absurd (cc); lead = λ n is. absurd (cc); input = λ is. absurd (cc) };
    memory = λ is. absurd (cc);
  }

-- ---- by the step

-- no runs were found
module _ (t : TableRows) (tells : Tells) (o : Opened) (p0 p1 p2 : Pair) (opened : HasOpened tells t.frame.words o p0 p1)
    (looks : LooksAtBoth tells p1 p2) (keeps : KeepsAtStart t.frame.words tells p0 p2) where
  past_runs : KeepsCounts p1 p2 → IsPastHeaders t.frame.words tells p0 p2
  past_runs counts = past_headers tells t.frame.words o p0 p1 p2 opened counts (any_work tells (IsLookedAt p1) p1 p2 looks.work)

  looks_through : (side : Side) → LooksAtSide tells side p0 p2
  looks_through side = looks_on tells side p0 p1 p2 (opened_looks tells p0 p1 opened.first opened.second side) (looked_content_of tells side p1 p2 looks)

  both_rose : Rose p0.first.faults p2.first.faults → Rose p0.second.faults p2.second.faults → (side : Side)
      → Rose (disk_on side p0).faults (disk_on side p2).faults
  both_rose first second First = first
  both_rose first second Second = second

  unfound_both : (why : PairOutcome) → HasNoFault p0 p1 → ((seq : ℕ) → why ≡ outcome.BlocksDiffer seq → IsTrue tells.bytes
      → HaveDifferentBlocks t.frame.words p0 seq) → IsRefusalOfBoth tells o.header why p1 p2 → IsStartRefused t tells p0 p2 why
  unfound_both (outcome.BlocksDiffer seq) none different is =
      refused_blocks t tells p0 p2 seq (past_runs (counts_none p1 p2 is.0)) (no_fault_then p0 p1 p2 none is.0) (different seq refl)
      (λ side told. looks_through side) keeps
  unfound_both outcome.DiskFault none different is =
      refused_fault t tells p0 p2 (past_runs (record {
        first = count_rose p1.first.faults p2.first.faults is.0;
        second = count_rose p1.second.faults p2.second.faults is.1;
      })) (both_rose (subst (λ (n : ℕ). Rose n p2.first.faults) none.first is.0) (subst (λ (n : ℕ). Rose n p2.second.faults) none.second is.1)) keeps
  unfound_both outcome.Done none different is = absurd is
  unfound_both outcome.Usage none different is = absurd is
  unfound_both (outcome.TableRefused row f) none different is = absurd is
  unfound_both (outcome.TraceRefused index f) none different is = absurd is
  unfound_both (outcome.ImageRefused s bad) none different is = absurd is
  unfound_both (outcome.WordsDiffer image table) none different is = absurd is
  unfound_both outcome.SeqEnd none different is = absurd is
  unfound_both (outcome.ReadFault i) none different is = absurd is
  unfound_both outcome.NoMemory none different is = absurd is
  unfound_both outcome.OldVersion none different is = absurd is
  unfound_both outcome.HeadersDiffer none different is = absurd is
  unfound_both (outcome.LeadFault s) none different is = absurd is
  unfound_both (outcome.FarBehind s) none different is = absurd is

  unfound_one : (side : Side) (why : PairOutcome) → HasFailedAlone (other_side side) p0 p1 → IsRefusalOfOne side why p1 p2
      → IsStartRefused t tells p0 p2 why
  unfound_one First why failed is = subst (λ (x : PairOutcome). IsStartRefused t tells p0 p2 x) (sym is.0)
      (refused_fault t tells p0 p2 (past_runs (counts_failed First p1 p2 is.1))
      (both_rose (subst (λ (n : ℕ). Rose n p2.first.faults) failed.other is.1.rose)
      (subst (λ (n : ℕ). Rose p0.second.faults n) (sym is.1.other) failed.rose)) keeps)
  unfound_one Second why failed is = subst (λ (x : PairOutcome). IsStartRefused t tells p0 p2 x) (sym is.0)
      (refused_fault t tells p0 p2 (past_runs (counts_failed Second p1 p2 is.1))
      (both_rose (subst (λ (n : ℕ). Rose p0.first.faults n) (sym is.1.other) failed.rose)
      (subst (λ (n : ℕ). Rose n p2.second.faults) failed.other is.1.rose)) keeps)

  unfound : (s : LivingSides) (why : PairOutcome) → AreLiving s p0 p1 → ((seq : ℕ) → why ≡ outcome.BlocksDiffer seq → IsTrue tells.bytes
      → HaveDifferentBlocks t.frame.words p0 seq) → IsRunsRefusal tells o.header s why p1 p2 → IsStartRefused t tells p0 p2 why
  unfound Both why living different is = unfound_both why living different is
  unfound OnlyFirst why living different is = unfound_one First why living is
  unfound OnlySecond why living different is = unfound_one Second why living is

  pub refused_runs : (why : PairOutcome) → IsRunsRefusal tells o.header o.living why p1 p2 → IsStartRefused t tells p0 p2 why
  refused_runs why is = unfound o.living why opened.living
      (λ seq same told. differs tells t.frame.words o p0 p1 p2 opened told seq
      (subst (λ (x : PairOutcome). IsRunsRefusal tells o.header o.living x p1 p2) same is)) is

-- the sides weren't joined
module _ (t : TableRows) (tells : Tells) (o : Opened) (p0 p1 p2 p3 : Pair) (opened : HasOpened tells t.frame.words o p0 p1)
    (keeps : KeepsAtStart t.frame.words tells p0 p3) where
  looked_through : LooksAtBoth tells p1 p2 → (side : Side) → LooksAtSide tells side p0 p2
  looked_through looks side =
      looks_on tells side p0 p1 p2 (opened_looks tells p0 p1 opened.first opened.second side) (looked_content_of tells side p1 p2 looks)

  module _ (first second : Found) (has : HasFoundRuns tells o (runs.Both first second) p1 p2)
      (kept : IsSameContent (disk_on (lead_by_found first second) p2) (disk_on (lead_by_found first second) p3))
      (past : KeepsCounts p2 p3 → IsPastHeaders t.frame.words tells p0 p3) where
    unjoined_both : (why : PairOutcome) → IsJoinRefusal tells o.header (lead_by_found first second) (found_on (lead_by_found first second) first second).next
        why p2 p3 → IsStartRefused t tells p0 p3 why
    unjoined_both (outcome.LeadFault s) is =
        let images = found_images tells t.frame.words o (runs.Both first second) p0 p1 p2 opened has in
        let alone = failed_after (lead_by_found first second) p0 p2 p3 images.2 is.1 in
        refused_lead t tells p0 p3 s (past (counts_failed (lead_by_found first second) p2 p3 is.1)) (record {
          alone = subst (λ (x : Side). HasFailedAlone x p0 p3) (sym is.0) alone;
          kept = looks_on tells s p0 p2 p3 (looked_through has.looks s)
              (subst (λ (x : Side). IsSameContent (disk_on x p2) (disk_on x p3)) (sym is.0) kept);
          lead = λ told. is.0 ∙ sym (lead_found tells t.frame.words o p0 p1 p2 opened told first second has);
          header = λ told. one_header_found tells t.frame.words o p0 p1 p2 opened told first second has;
          behind = λ told.
              let image = image_of tells o.header first second p0 p2 images (lead_by_found first second) in
              let at = (image.run.run told).next in
              let below = is.2 told in
              let low : next_of o.header (disk_on (other_side (lead_by_found first second)) p3).held
              < next_of o.header (disk_on (lead_by_found first second) p0).held = omega (arith, below, at) in
              subst (λ (x : Side). next_of (header_in (disk_on x p0).held) (disk_on (other_side x) p3).held
              < next_of (header_in (disk_on x p0).held) (disk_on x p0).held) (sym (lead_found tells t.frame.words o p0 p1 p2 opened told first second has))
              (subst (λ (k : Header). next_of k (disk_on (other_side (lead_by_found first second)) p3).held
              < next_of k (disk_on (lead_by_found first second) p0).held) (image.header told) low);
        }) keeps
    unjoined_both (outcome.FarBehind s) is =
        let images = found_images tells t.frame.words o (runs.Both first second) p0 p1 p2 opened has in
        refused_far t tells p0 p3 s (past (counts_none p2 p3 is.1)) (no_fault_then p0 p2 p3 images.2 is.1)
        (λ told. side_far tells t.frame.words o p0 p1 p2 opened told (runs.Both first second) s p3 has (record { cause = is; kept = kept }))
        (on_both (λ (side : Side). LooksAtSide tells side p0 p3) (lead_by_found first second)
        (looks_on tells (lead_by_found first second) p0 p2 p3 (looked_through has.looks (lead_by_found first second)) kept)
        (looks_on tells (other_side (lead_by_found first second)) p0 p2 p3 (looked_through has.looks (other_side (lead_by_found first second))) is.2))
        keeps
    unjoined_both (outcome.BlocksDiffer seq) is =
        let images = found_images tells t.frame.words o (runs.Both first second) p0 p1 p2 opened has in
        refused_blocks t tells p0 p3 seq (past (counts_none p2 p3 is.0)) (no_fault_then p0 p2 p3 images.2 is.0) (λ told. absurd (is.1 told))
        (λ side told. absurd (is.1 told)) keeps
    unjoined_both outcome.Done is = absurd is
    unjoined_both outcome.Usage is = absurd is
    unjoined_both (outcome.TableRefused row f) is = absurd is
    unjoined_both (outcome.TraceRefused index f) is = absurd is
    unjoined_both (outcome.ImageRefused s bad) is = absurd is
    unjoined_both (outcome.WordsDiffer image table) is = absurd is
    unjoined_both outcome.SeqEnd is = absurd is
    unjoined_both (outcome.ReadFault i) is = absurd is
    unjoined_both outcome.DiskFault is = absurd is
    unjoined_both outcome.NoMemory is = absurd is
    unjoined_both outcome.OldVersion is = absurd is
    unjoined_both outcome.HeadersDiffer is = absurd is

  unjoined : (found : SideRuns) (why : PairOutcome) → HasFoundRuns tells o found p1 p2 → AreNotJoined tells o.header found why p2 p3
      → (KeepsCounts p2 p3 → IsPastHeaders t.frame.words tells p0 p3) → IsStartRefused t tells p0 p3 why
  unjoined (runs.Both first second) why has is past = unjoined_both first second has is.kept past why is.cause
  unjoined (runs.Alone side run) why has is past = absurd is

  pub refused_join : (found : SideRuns) (why : PairOutcome) → HasFoundRuns tells o found p1 p2 → AreNotJoined tells o.header found why p2 p3
      → PairWork tells (JoinMoment o.header found p2) p2 p3 → IsStartRefused t tells p0 p3 why
  refused_join found why has is work = unjoined found why has is
      (λ counts. past_headers tells t.frame.words o p0 p1 p3 opened
      (counts_then p1 p2 p3 (counts_found tells o.header o.living found p1 p2 has.runs) counts)
      (any_then tells p1 p2 p3 has.sound (any_work tells (IsLookedAt p1) p1 p2 has.looks.work) (any_work tells (JoinMoment o.header found p2) p2 p3 work)))

-- the recording doesn't go on
module _ (t : TableRows) (tells : Tells) (o : Opened) (found : SideRuns) (j : Joined) (p0 p1 p2 p3 p5 : Pair)
    (opened : HasOpened tells t.frame.words o p0 p1) (has : HasFoundRuns tells o found p1 p2)
    (joins : HasJoinedSides tells o.header found j p2 p3) where
  -- both sides, joined
  pub sides : AreJoined t.frame.words tells o.header j.lead j.found j.follower p0 p3
  sides = are_joined t.frame.words tells o.header p0 p2 p3 found j (found_images tells t.frame.words o found p0 p1 p2 opened has)
      (leads_alike tells t.frame.words o found j p0 p1 p2 p3 opened has) joins.joined

  pub counts_through : KeepsCounts p1 p3
  counts_through = counts_then p1 p2 p3 (counts_found tells o.header o.living found p1 p2 has.runs) (counts_sides tells o.header found j p2 p3 joins.joined)

  work_through : PairWork tells (λ m. ⊤) p1 p3
  work_through = any_then tells p1 p2 p3 has.sound (any_work tells (IsLookedAt p1) p1 p2 has.looks.work)
      (any_work tells (JoinMoment o.header found p2) p2 p3 joins.work)

  -- the whole work so far
  pub work_joined : PairWork tells (λ m. ⊤) p0 p3
  work_joined = any_then tells p0 p1 p3 opened.sound (any_work tells (IsLookedAt p0) p0 p1 opened.work) work_through

  past_going : (P : PairMoment → Type 0) → KeepsCounts p3 p5 → PairWork tells P p3 p5 → IsPastHeaders t.frame.words tells p0 p5
  past_going P counts work = past_headers tells t.frame.words o p0 p1 p5 opened (counts_then p1 p3 p5 counts_through counts)
      (any_then tells p1 p3 p5 joins.sound work_through (any_work tells P p3 p5 work))

  rose_going : (side : Side) → AttachedNow tells o.header side (start_on side j.lead j.follower) None p3 p5
      → Rose (disk_on side p0).faults (disk_on side p5).faults
  rose_going side is = rose_attached tells o.header side (start_on side j.lead j.follower) p0 p3 p5
      (each_counted t.frame.words tells o.header j.lead j.found j.follower p0 p3 sides side) is

  both_going : AttachedNow tells o.header First (start_on First j.lead j.follower) None p3 p5
      → AttachedNow tells o.header Second (start_on Second j.lead j.follower) None p3 p5
      → (side : Side) → Rose (disk_on side p0).faults (disk_on side p5).faults
  both_going first second First = rose_going First first
  both_going first second Second = rose_going Second second

  unfailed : (f : Follower) → f ≢ follower.Failed → HasOther tells o.header j.lead j.found.next f p0 p3
      → (disk_on (other_side j.lead) p3).faults ≡ (disk_on (other_side j.lead) p0).faults
  unfailed follower.Failed never is = absurd (never refl)
  unfailed follower.Level never is = is.faults
  unfailed (follower.Brought r) never is = is.faults

  ungone : (P : PairMoment → Type 0) (why : PairOutcome) → IsGoingFault tells o.header j why p3 p5 → PairWork tells P p3 p5
      → KeepsAtStart t.frame.words tells p0 p5 → IsStartRefused t tells p0 p5 why
  ungone P outcome.DiskFault is work keeps =
      refused_fault t tells p0 p5 (past_going P (counts_attached tells o.header (start_on First j.lead j.follower) (start_on Second j.lead j.follower)
      None None p3 p5 is.0 is.1) work) (both_going is.0 is.1) keeps
  ungone P (outcome.BlocksDiffer seq) is work keeps =
      let none : HasNoFault p0 p3 = no_fault_on j.lead p0 p3 sides.own.faults (unfailed j.follower is.0 sides.other) in
      refused_blocks t tells p0 p5 seq (past_going P (counts_none p3 p5 is.1) work) (no_fault_then p0 p3 p5 none is.1) (λ told. absurd (is.2 told))
      (λ side told. absurd (is.2 told)) keeps
  ungone P outcome.Done is work keeps = absurd is
  ungone P outcome.Usage is work keeps = absurd is
  ungone P (outcome.TableRefused row f) is work keeps = absurd is
  ungone P (outcome.TraceRefused index f) is work keeps = absurd is
  ungone P (outcome.ImageRefused s bad) is work keeps = absurd is
  ungone P (outcome.WordsDiffer image table) is work keeps = absurd is
  ungone P outcome.SeqEnd is work keeps = absurd is
  ungone P (outcome.ReadFault i) is work keeps = absurd is
  ungone P outcome.NoMemory is work keeps = absurd is
  ungone P outcome.OldVersion is work keeps = absurd is
  ungone P outcome.HeadersDiffer is work keeps = absurd is
  ungone P (outcome.LeadFault s) is work keeps = absurd is
  ungone P (outcome.FarBehind s) is work keeps = absurd is

  pub refused_going : (why : PairOutcome) → IsGoingRefused tells o.header j why p3 p5 → KeepsAtStart t.frame.words tells p0 p5
      → IsStartRefused t tells p0 p5 why
  refused_going why is keeps = ungone (AreAttachMoments o.header j.lead j.follower p3) why is.fault is.work keeps
