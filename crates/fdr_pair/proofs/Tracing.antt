-- A trace that is recorded on two disks, record by record.
use Rattle.std.proofs.Common.{◌≡◌, inl, inr, ⊎_elim, ℕ, ◌-◌, ◌<◌, ◌≤◌, List, [], ◌∷◌, ◌++◌, length, take, ap, sym, ◌∙◌, subst, length-append, arith, Option}
use Rattle.std.proofs.lemmas.Bool.{cases_lt}
use Rattle.std.proofs.lemmas.List.{append-nil}
use Rattle.fdr_bus.specs.declared.BusRecord.{BusRecord}
use Rattle.fdr_bus.specs.Records.{good_prefix}
use Rattle.fdr_deck.specs.State.{State, Tells}
use Rattle.fdr_deck.specs.Calls.{HasOneAnnounced, KeepsAnnounced, LeavesDisk}
use Rattle.fdr_deck.specs.Moments.{IsSoundDeck}
use Rattle.fdr_slot.specs.Limits.{IsInLimits}
use Rattle.fdr_recover.specs.Blocks.{Block}
use Rattle.fdr_ring.specs.declared.ring.Ring.{Ring}
use Rattle.fdr_trace.specs.Moments.{PullsForRecord}
use Rattle.fdr_trace.specs.Pulls.{PullsUntilDecided}
use Rattle.fdr_trace.proofs.Pulling.{PullsUntilDecided-kept, PullsUntilDecided-none}
use Rattle.fdr_twin.specs.declared.side.Side.{Side}
use Rattle.fdr_twin.specs.declared.side.Side.TheVariants.{First, Second}
use Rattle.fdr_twin.specs.Pair.{Pair, seen}
use Rattle.fdr_twin.specs.Same.{IsSameState}
use Rattle.fdr_twin.specs.Rest.{HasSameRest, PairElapses}
use Rattle.fdr_twin.specs.RestSound.{PairElapses-here, PairElapses-then}
use Rattle.fdr_twin.specs.Sound.{IsSoundPair}
use Rattle.fdr_twin.specs.Serving.{EachPairMoment}
use Rattle.fdr_recorder.specs.Past.{MayFeedRecording, RecordingPast, blocks_due_at, blocks_from, due_count, recorded_of, recording_with_record}
use Rattle.fdr_recorder.specs.Supplied.{owed_number_by, past_fed}
use Rattle.fdr_recorder.proofs.Joined.{recorded_of-fed}
use Rattle.fdr_recorder.proofs.NewBlocks.{recorded-long}
use Rattle.fdr_recorder.proofs.ReadRecords.{PullsUntilDecided-next}
use Rattle.fdr_recorder.proofs.Sessions.{lag_more, lag_still}
use Rattle.fdr_pair.specs.Living.{Follows, SideKept, SideMoment, SideNow}
use Rattle.fdr_pair.specs.PairPast.{RepresentsPair}
use Rattle.fdr_pair.specs.PairRecording.{AreSettled, IsSettledSide, PairRecordsAll, PairRecordsFirst}
use Rattle.fdr_pair.specs.Traces.{HasFedPair, IsPairBegun, IsPairLagMoment, TellsOnlySince, shown_on}
use Rattle.fdr_pair.specs.declared.rings.PairRings.{PairRings}
use Rattle.fdr_pair.specs.declared.session.PairSession.{PairSession}
use Rattle.fdr_pair.proofs.BothSides.{PairRecordsAll-here, PairRecordsAll-then, moment_here, ready_now}
use Rattle.fdr_pair.proofs.Going.{on}
use Rattle.fdr_pair.proofs.Onward.{moments_where, now_on}
use Rattle.fdr_pair.proofs.Idling.{IsIdleUntilPull, idle_now, idle_on, still_here, still_then}
use Rattle.fdr_pair.proofs.Pulling.{IsLeft, image_left, left, moments_left, now_left, pull_announced, pull_greatest, pull_idle, pull_in_time}
use Rattle.fdr_pair.proofs.Pulling.{pull_least, pull_low, pull_no_less, pull_told, pulls_seen}
use Rattle.fdr_pair.proofs.Servings.{now_quiet}
use Rattle.fdr_pair.proofs.SideCounts.{counted_here, counted_rest, counted_then}
use Rattle.fdr_pair.specs.SideCounts.{CountsBoth}
use Rattle.fdr_pair.proofs.KeptSides.{kept_here, kept_left, kept_then}
use Rattle.fdr_pair.proofs.NearLeft.{near_left}
use Rattle.fdr_pair.proofs.Nearness.{near_here, near_on_then}
use Rattle.fdr_pair.specs.Ahead.{StaysNearOn}
use Rattle.fdr_slot.specs.declared.image.Header.{Header}

-- nothing was pulled yet
few_first : (past : RecordingPast) (start : Pair) (n : ℕ) → n ≡ start.taken → TellsOnlySince past.first start n → start.greatest ≤ past.first
few_first past start n same few = ⊎_elim (λ most. most) (λ later. absurd (omega (arith, later, same))) few

-- the bytes pulled are as many
same_since : (past : RecordingPast) (start : Pair) (n k : ℕ) → n ≡ k → TellsOnlySince past.first start n → TellsOnlySince past.first start k
same_since past start n k same few = ⊎_elim (λ most. inl most) (λ later. inr (omega (arith, later, same))) few

-- before the first record
pub fed_none : (tells : Tells) (s : PairSession) (past : RecordingPast) (p : Pair) → IsSoundPair tells p → IsPairBegun tells s past p
    → RepresentsPair s (past_fed past []) → HasFedPair tells (past_fed past []) s.rings s [] p p
fed_none tells s past p sound is stands =
    let none : due_count (past_fed past []) ≡ 0 = omega (arith, stands.next, is.number) in
    let empty : recorded_of (past_fed past []) ≡ [] = ap (λ n. blocks_from (past_fed past []) 0 n) none in
    record {
      pulls = PullsUntilDecided-none tells (seen First p) [];
      time = PairElapses-here p sound.falls;
      counts = counted_here p;
      recorded = subst (λ (l : List Block). PairRecordsAll tells s.rings s.rings l p p) (sym empty) (PairRecordsAll-here tells s.rings p is.settled);
      greatest = λ few. let most = few_first past p p.taken (omega arith) few in omega (arith, most);
      first = λ stops m since few. moment_here tells First s.rings.first s.rings.header s.rings.next (recorded_of (past_fed past [])) p sound
          s.rings.first_follows is.settled.first
          (let most = few_first past p m.taken (now_quiet tells First p sound stops m since).pulled.taken few in omega (arith, most, is.number))
          stops m since;
      second = λ stops m since few. moment_here tells Second s.rings.second s.rings.header s.rings.next (recorded_of (past_fed past [])) p sound
          s.rings.second_follows is.settled.second
          (let most = few_first past p m.taken (now_quiet tells First p sound stops m since).pulled.taken few in omega (arith, most, is.number))
          stops m since;
      first_kept = kept_here tells First s.rings.first (recorded_of (past_fed past [])) p sound is.settled.first;
      second_kept = kept_here tells Second s.rings.second (recorded_of (past_fed past [])) p sound is.settled.second;
      in_time = λ stops m since few. let at = (now_quiet tells First p sound stops m since).pulled in
          record { pulled = inl (record { taken = at.taken; pulled_before = at.pulled_before }) };
      up = λ few. record {
        pulls = PullsUntilDecided-none tells (seen First p) [];
        least = λ some. absurd (omega (arith, some));
        announced = omega (arith, is.announced, none);
      };
      near = λ told side. near_here tells s.rings.header side p sound;
      idle = idle_now tells p sound;
      still = λ none side. still_here p side;
    }

module _ (tells : Tells) (past : RecordingPast) (rings : PairRings) (s : PairSession) (bytes : List ℕ) (start p : Pair) (sound : IsSoundPair tells p)
    (begins : rings.next ≡ past.first) (has : HasFedPair tells past rings s bytes start p) where
  -- the rings are on settled disks
  pub settled_fed : AreSettled tells s.rings p
  settled_fed = ready_now tells rings s.rings (recorded_of past) start p has.recorded

  few_now : TellsOnlySince past.first start p.taken → p.greatest ≤ s.rings.next
  few_now few = let most = has.greatest few in omega (arith, most, has.recorded.next, begins)

  -- more is pulled for the next record
  module _ (a b : State) (q : Pair) (here : IsSameState a (seen p.turned p)) (there : IsSameState b (seen q.turned q)) (rest : HasSameRest p q)
      (leaves : LeavesDisk a b) (sound_a : IsSoundDeck tells a) (more : List ℕ) (pulls : PullsUntilDecided tells a b bytes more)
      (reads : PullsForRecord tells a b bytes more past.records) (told : KeepsAnnounced a b) (fresh : a.taken < b.taken → HasOneAnnounced b)
      (begun : start.announced ≡ past.first) where
    same_blocks : recorded_of past ++ [] ≡ recorded_of past
    same_blocks = append-nil (recorded_of past)

    pulled : PullsUntilDecided tells (seen First start) (seen First q) [] (bytes ++ more)
    pulled = PullsUntilDecided-next tells (seen First start) (seen First p) (seen First q) bytes more has.pulls
        (pulls_seen tells a b p q sound here there rest leaves bytes more pulls)

    side_moments : (side : Side) (o u : Option Ring) → SideNow tells side o u (recorded_of past) start p
        → EachPairMoment tells start p (λ m. TellsOnlySince past.first start m.taken → SideMoment side o (recorded_of past) start m)
        → EachPairMoment tells p q (λ m. TellsOnlySince past.first start m.taken → SideMoment side u [] p m)
        → EachPairMoment tells start q (λ m. TellsOnlySince past.first start m.taken → SideMoment side o (recorded_of past) start m)
    side_moments side o u gone was is = subst
        (λ (l : List Block). EachPairMoment tells start q (λ m. TellsOnlySince past.first start m.taken → SideMoment side o l start m)) same_blocks
        (moments_where tells (λ m. TellsOnlySince past.first start m.taken) side (recorded_of past) [] start p q sound has.time rest.time o u gone was is)

    side_now : (side : Side) (o u : Option Ring) → SideNow tells side o u (recorded_of past) start p → SideNow tells side u u [] p q
        → SideNow tells side o u (recorded_of past) start q
    side_now side o u gone now = subst (λ (l : List Block). SideNow tells side o u l start q) same_blocks
        (now_on tells side (recorded_of past) [] start p q o u u gone now)

    -- the next number is announced before the pull
    stood : p.announced ≡ s.rings.next
    stood = let here = has.recorded.announced (omega (arith, begun, begins)) in omega (arith, here, has.recorded.next)

    enough : owed_number_by past past.records ≤ p.announced
    enough = omega (arith, stood, has.recorded.next, begins, recorded-long past)

    few_told : EachPairMoment tells p q (λ m. TellsOnlySince past.first start m.taken → m.announced ≤ s.rings.next)
    few_told stops m since few = ⊎_elim
        (λ early. let most = few_now (same_since past start m.taken p.taken early.0 few) in omega (arith, early.1, most))
        (λ late. omega (arith, late, stood))
        (pull_told tells a b p q sound here there rest leaves bytes more past.records reads stops m since)

    is_left : (side : Side) → IsLeft tells side p q
    is_left = left tells a b p q sound here there rest leaves bytes more past.records reads

    moments_pull : (side : Side) (u : Option Ring) → Follows s.rings.header s.rings.next u → IsSettledSide tells side u p
        → EachPairMoment tells p q (λ m. TellsOnlySince past.first start m.taken → SideMoment side u [] p m)
    moments_pull side u follows settled = moments_left tells (λ m. TellsOnlySince past.first start m.taken) side u s.rings.header s.rings.next p q sound
        (is_left side) few_told follows settled

    lag_pull : EachPairMoment tells p q (λ m. TellsOnlySince past.first start m.taken → IsPairLagMoment (owed_number_by past) start (bytes ++ more) m)
    lag_pull stops m since few = pull_in_time tells a b p q sound here there rest leaves (owed_number_by past) start bytes more past.records sound_a has.pulls
        enough pulls reads told fresh stops m since (λ same. has.up (same_since past start m.taken p.taken same few))

    idle_pull : EachPairMoment tells p q (IsIdleUntilPull start)
    idle_pull stops m since = ⊎_elim
        (λ is. ⊎_elim
        (λ later. inr (omega (arith, later, is.pulled.taken, has.pulls.takes.taken)))
        (λ none.
        let empty : length bytes ≡ 0 = omega (arith, none) in
        idle_on tells start p sound has.time has.idle (has.still empty) (omega (arith, empty, has.pulls.takes.taken)) (has.pulls.none empty) stops m is)
        (cases_lt 0 (length bytes)))
        (λ given. inr (omega (arith, given, has.pulls.takes.taken)))
        (pull_idle tells a b p q sound here there rest leaves bytes more past.records reads stops m since)

    near_pull : (side : Side) → StaysNearOn tells rings.header side p q
    near_pull side = near_left tells rings.header side p q (λ stops m since. image_left tells side p q sound (is_left side) stops m since)
        (pull_low tells a b p q sound here there rest leaves bytes more past.records reads) (is_left side).disk.no_more
        (pull_no_less tells a b p q sound here there rest leaves sound_a told)

    pub fed_pull : HasFedPair tells past rings s (bytes ++ more) start q
    fed_pull = record {
      pulls = pulled;
      time = PairElapses-then start p q has.time rest.time;
      counts = counted_then tells start p q sound has.time rest.time has.counts (counted_rest p q rest);
      recorded = record {
        first = side_now First rings.first s.rings.first has.recorded.first
            (now_left tells First s.rings.first p q (is_left First) settled_fed.first);
        second = side_now Second rings.second s.rings.second has.recorded.second
            (now_left tells Second s.rings.second p q (is_left Second) settled_fed.second);
        header = has.recorded.header;
        next = has.recorded.next;
        announced = λ is. pull_announced tells a b p q sound here there rest leaves told ∙ has.recorded.announced is;
      };
      greatest = λ few.
          let most = pull_greatest tells a b p q sound here there rest leaves s.rings.next bytes more sound_a pulls told fresh stood
          (λ same. few_now (same_since past start q.taken p.taken same few)) in
          omega (arith, most, has.recorded.next, begins);
      first = side_moments First rings.first s.rings.first has.recorded.first has.first
          (moments_pull First s.rings.first s.rings.first_follows settled_fed.first);
      second = side_moments Second rings.second s.rings.second has.recorded.second has.second
          (moments_pull Second s.rings.second s.rings.second_follows settled_fed.second);
      first_kept = kept_left tells First rings.first (recorded_of past) start p q sound has.time rest.time has.first_kept
          (λ stops m since. image_left tells First p q sound (is_left First) stops m since);
      second_kept = kept_left tells Second rings.second (recorded_of past) start p q sound has.time rest.time has.second_kept
          (λ stops m since. image_left tells Second p q sound (is_left Second) stops m since);
      in_time = on tells (λ m. TellsOnlySince past.first start m.taken → IsPairLagMoment (owed_number_by past) start (bytes ++ more) m) start p q has.time
          rest.time
          (λ stops m since few. lag_more (owed_number_by past) (seen First start) bytes more (shown_on First m) (has.in_time stops m since few)) lag_pull;
      up = λ few. record {
        pulls = pulled;
        least = pull_least tells a b p q sound here there rest leaves (owed_number_by past) start bytes more past.records sound_a has.pulls enough pulls
            reads told fresh (λ same. has.up (same_since past start q.taken p.taken same few));
        announced = omega (arith, enough, pull_announced tells a b p q sound here there rest leaves told);
      };
      near = λ told side. near_on_then tells rings.header side start p q has.time rest.time (has.near told side) (near_pull side);
      idle = on tells (IsIdleUntilPull start) start p q has.time rest.time has.idle idle_pull;
      still = λ none side. still_then start p q side (has.still (omega (arith, none, length-append bytes more)) side) (is_left side).disk;
    }

  -- blocks are recorded after those of the records so far
  module _ (q : Pair) (blocks : List Block) (records : PairRecordsFirst tells s.rings blocks p q) where
    -- nothing is pulled
    few_still : EachPairMoment tells p q (λ m. TellsOnlySince past.first start m.taken → TellsOnlySince past.first start p.taken)
    few_still stops m since few = same_since past start m.taken p.taken (records.numbers.pulled stops m since).taken few

    pub first_after : EachPairMoment tells start q
        (λ m. TellsOnlySince past.first start m.taken → SideMoment First rings.first (recorded_of past ++ blocks) start m)
    first_after = moments_where tells (λ m. TellsOnlySince past.first start m.taken) First (recorded_of past) blocks start p q sound has.time
        records.numbers.time rings.first s.rings.first has.recorded.first has.first
        (λ stops m since few. records.first (few_now (few_still stops m since few)) stops m since)

    pub second_after : EachPairMoment tells start q
        (λ m. TellsOnlySince past.first start m.taken → SideMoment Second rings.second (recorded_of past ++ blocks) start m)
    second_after = moments_where tells (λ m. TellsOnlySince past.first start m.taken) Second (recorded_of past) blocks start p q sound has.time
        records.numbers.time rings.second s.rings.second has.recorded.second has.second
        (λ stops m since few. records.second (few_now (few_still stops m since few)) stops m since)

    pub first_kept_after : EachPairMoment tells start q (SideKept First rings.first (recorded_of past ++ blocks) start)
    first_kept_after = kept_then tells First (recorded_of past) blocks start p q sound has.time records.numbers.time rings.first s.rings.first
        has.recorded.first has.first_kept records.first_kept

    pub second_kept_after : EachPairMoment tells start q (SideKept Second rings.second (recorded_of past ++ blocks) start)
    second_kept_after = kept_then tells Second (recorded_of past) blocks start p q sound has.time records.numbers.time rings.second s.rings.second
        has.recorded.second has.second_kept records.second_kept

    pub in_time_after : EachPairMoment tells start q
        (λ m. TellsOnlySince past.first start m.taken → IsPairLagMoment (owed_number_by past) start bytes m)
    in_time_after = on tells (λ m. TellsOnlySince past.first start m.taken → IsPairLagMoment (owed_number_by past) start bytes m) start p q has.time
        records.numbers.time has.in_time
        (λ stops m since few.
        let at = records.numbers.pulled stops m since in
        let now = few_still stops m since few in
        lag_still (owed_number_by past) tells (seen First start) (seen First p) bytes past.records (shown_on First m) (has.up now)
        (record { taken = at.taken; pulled_before = at.pulled_before }) (records.numbers.told (few_now now) stops m since))

    pub near_after : start.announced ≡ rings.next → (side : Side) → StaysNearOn tells rings.header side start q
    near_after told side =
        let here = has.recorded.announced told in
        near_on_then tells rings.header side start p q has.time records.numbers.time (has.near told side)
        (subst (λ (h : Header). StaysNearOn tells h side p q) has.recorded.header (records.near (omega (arith, here, has.recorded.next)) side))

    pub idle_after : 0 < length bytes → EachPairMoment tells start q (IsIdleUntilPull start)
    idle_after some = on tells (IsIdleUntilPull start) start p q has.time records.numbers.time has.idle
        (λ stops m since. let at = records.numbers.pulled stops m since in inr (omega (arith, at.taken, has.pulls.takes.taken, some)))

    pub time_after : PairElapses start q
    time_after = PairElapses-then start p q has.time records.numbers.time

    pub counts_after : CountsBoth start q
    counts_after = counted_then tells start p q sound has.time records.numbers.time has.counts records.numbers.counts

    pub pulls_after : PullsUntilDecided tells (seen First start) (seen First q) [] bytes
    pulls_after =
        let line = records.numbers.line in
        PullsUntilDecided-kept tells (seen First start) (seen First p) (seen First q) [] bytes has.pulls
        (record { input = line.input; taken = line.taken; pulled_before = line.pulled_before }) (omega (arith, line.input_faults))

  -- a record was fed
  module _ (q : Pair) (s' : PairSession) (r : BusRecord) (limits : IsInLimits past.header) (may : MayFeedRecording past r)
      (told : start.announced ≡ past.first) (some : 0 < length bytes)
      (records : PairRecordsFirst tells s.rings (blocks_due_at past r) p q)
      (recorded : PairRecordsAll tells s.rings s'.rings (blocks_due_at past r) p q) where
    joined : recorded_of past ++ blocks_due_at past r ≡ recorded_of (recording_with_record past r)
    joined = sym (recorded_of-fed past r limits may)

    fed_told : owed_number_by past (past.records ++ r ∷ []) ≤ q.announced
    fed_told =
        let here = has.recorded.announced (omega (arith, told, begins)) in
        let there = recorded.announced (omega (arith, here, has.recorded.next)) in
        let long = ap length joined in
        let count = recorded-long (recording_with_record past r) in
        omega (arith, there, has.recorded.next, begins, long, count, length-append (recorded_of past) (blocks_due_at past r))

    few_before : TellsOnlySince past.first start q.taken → TellsOnlySince past.first start p.taken
    few_before few = same_since past start q.taken p.taken records.numbers.line.taken few

    pub fed_record : HasFedPair tells (recording_with_record past r) rings s' bytes start q
    fed_record = record {
      pulls = pulls_after q (blocks_due_at past r) records;
      time = time_after q (blocks_due_at past r) records;
      counts = counts_after q (blocks_due_at past r) records;
      recorded = subst (λ (l : List Block). PairRecordsAll tells rings s'.rings l start q) joined
          (PairRecordsAll-then tells rings s.rings (recorded_of past) start p q has.recorded s'.rings (blocks_due_at past r) recorded);
      greatest = λ few.
          let most = records.numbers.greatest (few_now (few_before few)) in
          let long = ap length joined in
          omega (arith, most, has.recorded.next, begins, long, length-append (recorded_of past) (blocks_due_at past r));
      first = subst (λ (l : List Block). EachPairMoment tells start q
          (λ m. TellsOnlySince past.first start m.taken → SideMoment First rings.first l start m)) joined (first_after q (blocks_due_at past r) records);
      second = subst (λ (l : List Block). EachPairMoment tells start q
          (λ m. TellsOnlySince past.first start m.taken → SideMoment Second rings.second l start m)) joined (second_after q (blocks_due_at past r) records);
      first_kept = subst (λ (l : List Block). EachPairMoment tells start q (SideKept First rings.first l start)) joined
          (first_kept_after q (blocks_due_at past r) records);
      second_kept = subst (λ (l : List Block). EachPairMoment tells start q (SideKept Second rings.second l start)) joined
          (second_kept_after q (blocks_due_at past r) records);
      in_time = in_time_after q (blocks_due_at past r) records;
      up = λ few. record {
        pulls = pulls_after q (blocks_due_at past r) records;
        least = λ some.
            let was = (has.up (few_before few)).least some in
            let low = records.numbers.least (few_now (few_before few)) in
            let line = records.numbers.line in
            let same = ap (λ n. owed_number_by past (good_prefix (take (n - start.taken) bytes))) line.pulled_before in
            record {
              pull = record {
                begins = omega (arith, line.pulled_before, was.pull.begins);
                gave_bytes = omega (arith, line.pulled_before, line.taken, was.pull.gave_bytes);
                within_piece = omega (arith, line.pulled_before, line.taken, was.pull.within_piece);
              };
              within = omega (arith, line.taken, was.within);
              announced = omega (arith, same, was.announced, low);
            };
        announced = fed_told;
      };
      near = near_after q (blocks_due_at past r) records;
      idle = idle_after q (blocks_due_at past r) records some;
      still = λ none. absurd (omega (arith, none, some));
    }
