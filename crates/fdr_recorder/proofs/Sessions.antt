-- A trace that is recorded in a session, record by record.
use Rattle.std.proofs.Common.{◌≡◌, inl, inr, ⊎_elim, ℕ, ◌+◌, ◌-◌, ◌<◌, ◌≤◌, List, [], ◌∷◌, ◌++◌, length, ap, sym, ◌∙◌, subst}
use Rattle.std.proofs.Common.{length-append, arith, rules}
use Rattle.std.specs.Prelude.{IsTrue}
use Rattle.std.proofs.lemmas.Bool.{cases_lt}
use Rattle.std.proofs.lemmas.List.{take_all}
use Rattle.fdr_bus.specs.declared.BusRecord.{BusRecord}
use Rattle.fdr_deck.specs.State.{Moment, State, Tells}
use Rattle.fdr_deck.specs.Calls.{HasOneAnnounced, KeepsAnnounced, LeavesDisk}
use Rattle.fdr_deck.specs.Disk.{IsSettled}
use Rattle.fdr_deck.specs.Moments.{Elapses, EachMoment, HasSamePulls, IsSoundDeck}
use Rattle.fdr_deck.proofs.Moments.{EachMoment-then, EachMoment-weaken, Elapses-here, Elapses-then, KeepsAnnounced-least, KeepsAnnounced-greatest}
use Rattle.fdr_slot.specs.Limits.{IsInLimits}
use Rattle.fdr_slot.specs.declared.image.Header.{Header}
use Rattle.fdr_recover.specs.Blocks.{Block}
use Rattle.fdr_recover.specs.Images.{next_of, recovered_run}
use Rattle.fdr_ring.specs.Rings.{IsSureRing}
use Rattle.fdr_ring.specs.Runs.{IsTail}
use Rattle.fdr_trace.specs.Moments.{PullsForRecord}
use Rattle.fdr_trace.specs.Pulls.{PullsUntilDecided}
use Rattle.fdr_trace.proofs.Pulling.{PullsUntilDecided-kept, PullsUntilDecided-none}
use Rattle.fdr_recorder.specs.Keeping.{RecoversPrefix, RecoversAll}
use Rattle.fdr_recorder.specs.Past.{RecordingPast, MayFeedRecording, blocks_from, due_count, blocks_due_at, recorded_of, recording_with_record}
use Rattle.fdr_recorder.specs.Recording.{RecordsAllOf, IsNear, IsReady, RecordsFirstOf}
use Rattle.fdr_recorder.proofs.Adding.{IsRing-told, IsSureRing-told}
use Rattle.fdr_recorder.proofs.Composing.{RecordsAllOf-here, RecordsAllOf-then}
use Rattle.fdr_recorder.proofs.Joined.{recorded_of-fed}
use Rattle.fdr_recorder.proofs.Steps.{keeps_more, keeps_on, keeps_run, same_run}
use Rattle.fdr_recorder.specs.Lag.{IsLagMoment, KeepsUp}
use Rattle.fdr_recorder.specs.Supplied.{HasFed, SupplyMoment, owed_number_by}
use Rattle.fdr_recorder.proofs.Lag.{IsInTime-more, IsInTime-up, at_moment, least_up}
use Rattle.fdr_recorder.proofs.NewBlocks.{recorded-long}
use Rattle.fdr_recorder.proofs.ReadRecords.{PullsUntilDecided-next}

-- ---- lags

-- more may be pulled after it
pub lag_more : (owed : List BusRecord → ℕ) (first : State) (bytes more : List ℕ) (m : Moment) → IsLagMoment owed first bytes m
    → IsLagMoment owed first (bytes ++ more) m
lag_more owed first bytes more m at = record {
  pulled = ⊎_elim (λ here. inl here)
      (λ late. inr (IsInTime-more owed first.taken bytes more m.announced m.announced m.pulled_before m.taken (omega arith) late)) at.pulled;
}

-- while nothing is pulled
pub lag_still : (owed : List BusRecord → ℕ) (tells : Tells) (first now : State) (bytes : List ℕ) (records : List BusRecord) (m : Moment)
    → KeepsUp owed tells first now bytes records → HasSamePulls now m → now.least ≤ m.announced → IsLagMoment owed first bytes m
lag_still owed tells first now bytes records m up here least = record {
  pulled = ⊎_elim
      (λ some. inr (rw (here.pulled_before, here.taken) (IsInTime-up owed first.taken bytes now.least m.announced now.pulled_before now.taken least
      (up.least some))))
      (λ none. inl (record {
        taken = omega (arith, here.taken, up.pulls.takes.taken, none);
        pulled_before = here.pulled_before ∙ up.pulls.none (omega (arith, none));
      }))
      (cases_lt 0 (length bytes));
}

-- ---- what the calls of a session leave

-- calls that only pull change nothing of what was recorded
pub RecordsAllOf-pull : (tells : Tells) (h : Header) (next : ℕ) (new : List Block) (d0 d d' : State) → IsSoundDeck tells d → LeavesDisk d d'
    → KeepsAnnounced d d' → RecordsAllOf tells h next new d0 d → RecordsAllOf tells h next new d0 d'
RecordsAllOf-pull tells h next new d0 d d' sound leaves told has = record {
  fact = λ is. IsRing-told tells h (next + length new) d d' leaves (has.fact is);
  sure = λ is. IsSureRing-told tells h (next + length new) d d' leaves (has.sure is);
  keeps = λ bytes. subst (λ (l : List ℕ). RecoversAll h d0.held (recovered_run h d0.held) new l) (sym leaves.disk.held) (has.keeps bytes);
  last = λ bytes whole is. ap (λ (l : List ℕ). recovered_run h l) leaves.disk.held ∙ has.last bytes whole is;
  settled = λ stops is image left. has.settled stops is image (leaves.disk.no_more image left) ∙ sym leaves.disk.held;
  announced = λ is. told.announced ∙ has.announced is;
  greatest = λ le. omega (arith, has.greatest le, KeepsAnnounced-greatest tells d d' sound told);
  least = λ le. omega (arith, has.least le, KeepsAnnounced-least tells d d' sound told);
  near = λ mark near. let was = has.near mark near in record {
    announced = told.announced ∙ was.announced;
    least = omega (arith, was.least, KeepsAnnounced-least tells d d' sound told);
  };
  disk_faults = leaves.disk_faults ∙ has.disk_faults;
}

-- an image that has all the blocks keeps them
pub keeps_all : (h : Header) (entry image : List ℕ) (old new : List Block) (told : ℕ) → RecoversAll h entry old new image
    → told ≤ next_of h image → RecoversPrefix h entry old new told image
keeps_all h entry image old new told has le = record {
  kept = has.kept;
  count = length new;
  fits = omega arith;
  run = subst (λ (l : List Block). IsTail (h.slots - 2) (old ++ l) (recovered_run h image))
      (sym (take_all (length new) new (omega arith))) has.run;
  next = has.next;
  announced = le;
}

-- before the first record
pub HasFed-begun : (tells : Tells) (past : RecordingPast) (d : State) → IsSoundDeck tells d → due_count past ≡ 0
    → IsSureRing tells past.header past.first d → (IsTrue tells.stops → IsSettled d) → d.announced ≡ past.first
    → HasFed tells past [] d d
HasFed-begun tells past d sound none ring settled told =
    let h = past.header in
    let empty : recorded_of past ≡ [] = ap (λ n. blocks_from past 0 n) none in
    record {
      pulls = PullsUntilDecided-none tells d [];
      time = Elapses-here tells d sound;
      recorded = subst (λ (l : List Block). RecordsAllOf tells h past.first l d d) (sym empty) (RecordsAllOf-here tells h past.first d);
      moments = λ few stops m since.
          let now = sound.only_now stops m since in
          let next : past.first ≡ next_of h d.held = ring.ring.next (sound.stops_need_bytes stops) in
          let still : m.image ≡ d.held = settled stops m.image now.image in
          let at : next_of h m.image ≡ next_of h d.held = ap (λ (l : List ℕ). next_of h l) still in
          record {
            keeps = subst (λ (l : List ℕ). RecoversPrefix h d.held (recovered_run h d.held) (recorded_of past) m.announced l) (sym still)
                (keeps_run h d.held d.held (recorded_of past) m.announced (same_run h d.held) (omega (arith, now.greatest, few, next)));
            close = omega (arith, at, next);
            least = now.least;
            in_time = record { pulled = inl now.pulled };
          };
      up = λ few. record {
        pulls = PullsUntilDecided-none tells d [];
        least = λ some. absurd (omega (arith, some));
        announced = omega (arith, told, none);
      };
    }

module _ (tells : Tells) (past : RecordingPast) (d0 d d' : State) (bytes : List ℕ) (sound0 : IsSoundDeck tells d0)
    (ring : IsSureRing tells past.header past.first d0) (settled : IsTrue tells.stops → IsSettled d0) (told0 : d0.announced ≡ past.first)
    (has : HasFed tells past bytes d0 d)
  where
    near_first : IsNear past.first past.first d0
    near_first = record { announced = told0; least = omega arith }

    number : IsTrue tells.stops → past.first ≡ next_of past.header d0.held
    number stops = ring.ring.next (sound0.stops_need_bytes stops)

    -- more is pulled for the next record
    module _ (more : List ℕ) (sound : IsSoundDeck tells d) (pulls : PullsUntilDecided tells d d' bytes more)
        (reads : PullsForRecord tells d d' bytes more past.records) (leaves : LeavesDisk d d') (told : KeepsAnnounced d d')
        (fresh : d.taken < d'.taken → HasOneAnnounced d') (time : Elapses tells d d')
      where
        pull_moment : d0.greatest ≤ past.first → IsTrue tells.stops → (m : Moment) → d'.since d.clock m
            → SupplyMoment past d0 (recorded_of past) (bytes ++ more) m
        pull_moment few stops m since =
            let h = past.header in
            let at = reads.moments stops m since in
            let first = number stops in
            let all = has.recorded.keeps (sound0.stops_need_bytes stops) in
            let still : m.image ≡ d.held = has.recorded.settled stops (settled stops) m.image at.image in
            let most = has.recorded.greatest few in
            let near = has.recorded.near past.first near_first in
            let low = has.recorded.least few in
            let next : next_of h m.image ≡ next_of h d.held = ap (λ (l : List ℕ). next_of h l) still in
            record {
              keeps = subst (λ (l : List ℕ). RecoversPrefix h d0.held (recovered_run h d0.held) (recorded_of past) m.announced l) (sym still)
                  (keeps_all h d0.held d.held (recovered_run h d0.held) (recorded_of past) m.announced all
                  (omega (arith, at.greatest, most, all.next, first)));
              close = omega (arith, next, all.next, first, near.least, at.least);
              least = omega (arith, low, at.least);
              in_time = at_moment (owed_number_by past) tells d0 d d' bytes more past.records sound (has.up few) pulls reads told fresh m at;
            }

        before_pull : d0.greatest ≤ past.first → EachMoment tells d0 d (SupplyMoment past d0 (recorded_of past) (bytes ++ more))
        before_pull few = EachMoment-weaken tells d0 d (SupplyMoment past d0 (recorded_of past) bytes)
            (SupplyMoment past d0 (recorded_of past) (bytes ++ more)) (λ m at. search (rules, lag_more, at)) (has.moments few)

        pub HasFed-pull : HasFed tells past (bytes ++ more) d0 d'
        HasFed-pull = record {
          pulls = PullsUntilDecided-next tells d0 d d' bytes more has.pulls pulls;
          time = Elapses-then tells d0 d d' has.time time;
          recorded = RecordsAllOf-pull tells past.header past.first (recorded_of past) d0 d d' sound leaves told has.recorded;
          moments = λ few. EachMoment-then tells d0 d d' (SupplyMoment past d0 (recorded_of past) (bytes ++ more)) has.time time
              (before_pull few) (pull_moment few);
          up = λ few. record {
            pulls = PullsUntilDecided-next tells d0 d d' bytes more has.pulls pulls;
            least = least_up (owed_number_by past) tells d0 d d' bytes more past.records sound (has.up few) pulls reads told fresh;
            announced = omega (arith, told.announced, (has.up few).announced);
          };
        }

    -- blocks are recorded after those of the records so far
    module _ (blocks : List Block) (records : RecordsFirstOf tells past.header (past.first + length (recorded_of past)) blocks d d') where
      ready : d0.greatest ≤ past.first → IsTrue tells.stops → IsReady (past.first + length (recorded_of past)) d
      ready few stops = record { settled = has.recorded.settled stops (settled stops); greatest = has.recorded.greatest few }

      block_moment : d0.greatest ≤ past.first → IsTrue tells.stops → (m : Moment) → d'.since d.clock m
          → SupplyMoment past d0 (recorded_of past ++ blocks) bytes m
      block_moment few stops m since =
          let h = past.header in
          let at = records.moments (ready few stops) stops m since in
          record {
            keeps = keeps_on h d0.held d.held m.image (recovered_run h d0.held) (recorded_of past) blocks m.announced
                (has.recorded.keeps (sound0.stops_need_bytes stops)) at.image;
            close = records.close past.first (ready few stops) (has.recorded.near past.first near_first) stops m since;
            least = let low = has.recorded.least few in omega (arith, low, at.least);
            in_time = lag_still (owed_number_by past) tells d0 d bytes past.records m (has.up few) at.pulled at.least;
          }

      before_block : d0.greatest ≤ past.first → EachMoment tells d0 d (SupplyMoment past d0 (recorded_of past ++ blocks) bytes)
      before_block few = EachMoment-weaken tells d0 d (SupplyMoment past d0 (recorded_of past) bytes)
          (SupplyMoment past d0 (recorded_of past ++ blocks) bytes) (λ m at. search (rules, keeps_more, at)) (has.moments few)

      pub block_moments : d0.greatest ≤ past.first → EachMoment tells d0 d' (SupplyMoment past d0 (recorded_of past ++ blocks) bytes)
      block_moments few = EachMoment-then tells d0 d d' (SupplyMoment past d0 (recorded_of past ++ blocks) bytes) has.time records.time
          (before_block few) (block_moment few)

      pub block_time : Elapses tells d0 d'
      block_time = Elapses-then tells d0 d d' has.time records.time

      pub block_pulls : PullsUntilDecided tells d0 d' [] bytes
      block_pulls = PullsUntilDecided-kept tells d0 d d' [] bytes has.pulls records.input (omega (arith, records.input_faults))

    -- a record was fed
    module _ (r : BusRecord) (limits : IsInLimits past.header) (may : MayFeedRecording past r)
        (records : RecordsFirstOf tells past.header (past.first + length (recorded_of past)) (blocks_due_at past r) d d')
        (recorded : RecordsAllOf tells past.header (past.first + length (recorded_of past)) (blocks_due_at past r) d d')
      where
        joined : recorded_of past ++ blocks_due_at past r ≡ recorded_of (recording_with_record past r)
        joined = sym (recorded_of-fed past r limits may)

        fed_told : owed_number_by past (past.records ++ r ∷ []) ≤ d'.announced
        fed_told =
            let here = recorded.announced (has.recorded.announced told0) in
            let long = ap length joined in
            let count = recorded-long (recording_with_record past r) in
            omega (arith, here, long, count, length-append (recorded_of past) (blocks_due_at past r))

        pub HasFed-feed : HasFed tells (recording_with_record past r) bytes d0 d'
        HasFed-feed = record {
          pulls = block_pulls (blocks_due_at past r) records;
          time = block_time (blocks_due_at past r) records;
          recorded = subst (λ (l : List Block). RecordsAllOf tells past.header past.first l d0 d') joined
              (RecordsAllOf-then tells past.header past.first (recorded_of past) (blocks_due_at past r) d0 d d' has.recorded recorded);
          moments = λ few. subst (λ (l : List Block). EachMoment tells d0 d' (SupplyMoment past d0 l bytes)) joined
              (block_moments (blocks_due_at past r) records few);
          up = λ few. record {
            pulls = block_pulls (blocks_due_at past r) records;
            least = λ some. rw (records.input.pulled_before, records.input.taken) (IsInTime-up (owed_number_by past) d0.taken bytes d.least d'.least
                d.pulled_before d.taken (recorded.least (has.recorded.greatest few)) ((has.up few).least some));
            announced = fed_told;
          };
        }
