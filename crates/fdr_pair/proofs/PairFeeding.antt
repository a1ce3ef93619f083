-- The blocks that are due at a record, on two disks.
use Rattle.std.proofs.Common.{◌≡◌, ℕ, ◌+◌, ◌-◌, ◌^◌, ◌<◌, ◌≤◌, ◌⊎◌, inl, inr, List, []}
use Rattle.std.proofs.Common.{◌∷◌, ◌++◌, length, take, drop, Option, Some, None, ap, sym, refl, ◌∙◌, subst, arith}
use Rattle.std.proofs.lemmas.List.{take-append-drop}
use Rattle.std.proofs.lemmas.List.FromFn.{length-map-range_with_len}
use Rattle.fdr_bus.specs.declared.BusRecord.{BusRecord}
use Rattle.fdr_deck.specs.State.{Tells}
use Rattle.fdr_recover.specs.Blocks.{Block}
use Rattle.fdr_stream.specs.Kept.{StreamKept}
use Rattle.fdr_stream.specs.Past.{RepresentsStream, with_block as with_stream_block, stream_with_record}
use Rattle.fdr_twin.specs.Pair.{Pair}
use Rattle.fdr_twin.specs.Sound.{IsSoundPair}
use Rattle.fdr_recorder.specs.Past.{RecordingPast, recording_with_record, due_count, numbered_block, blocks_from, blocks_due_at, stream_past}
use Rattle.fdr_recorder.proofs.Feeding.{so_far, so_far-front, so_far-more}
use Rattle.fdr_pair.specs.PairRecording.{AreSettled, PairHasEnded, PairRecordsAll, PairRecordsFirst}
use Rattle.fdr_pair.specs.declared.rings.PairRings.{PairRings}
use Rattle.fdr_pair.proofs.BothSides.{PairRecordsAll-here, PairRecordsAll-then, PairRecordsFirst-here, PairRecordsFirst-more, PairRecordsFirst-then}

-- after some turns
pub record IsFeedingPair (tells : Tells) (rings : PairRings) (past : RecordingPast) (r : BusRecord) (k : StreamKept) (left : PairRings) (old now : Pair)
    (begun : Option BusRecord) (blocks : ℕ) : Type 0 where
  pub stands : RepresentsStream k (record { table = past.table; payload = past.header.payload; records = past.records; begun = begun; blocks = blocks })
  pub same : (begun ≡ None) ⊎ (begun ≡ Some r)
  pub since : due_count past ≤ blocks
  pub records : PairRecordsFirst tells rings (so_far past r blocks) old now
  pub recorded : PairRecordsAll tells rings left (so_far past r blocks) old now

pub far_long : (past : RecordingPast) (r : BusRecord) (blocks : ℕ) → length (so_far past r blocks) ≡ blocks - due_count past
far_long past r blocks = length-map-range_with_len (numbered_block (recording_with_record past r)) (due_count past) (blocks - due_count past)

pub feeding_first : (tells : Tells) (rings : PairRings) (past : RecordingPast) (r : BusRecord) (k : StreamKept) (p : Pair) → IsSoundPair tells p
    → AreSettled tells rings p → RepresentsStream k (stream_past past)
    → IsFeedingPair tells rings past r k rings p p None (due_count past)
feeding_first tells rings past r k p sound settled stands =
    let none : due_count past - due_count past ≡ 0 = omega arith in
    let empty : so_far past r (due_count past) ≡ [] = ap (λ m. blocks_from (recording_with_record past r) (due_count past) m) none in
    record {
      stands = stands;
      same = inl refl;
      since = omega arith;
      records = PairRecordsFirst-here tells rings _ p sound settled;
      recorded = subst (λ (l : List Block). PairRecordsAll tells rings rings l p p) (sym empty) (PairRecordsAll-here tells rings p settled);
    }

-- what is recorded so far is a front part of all that is due
pub so_far_of_due : (tells : Tells) (rings : PairRings) (past : RecordingPast) (r : BusRecord) (blocks : ℕ) (old now : Pair)
    → blocks ≤ due_count (recording_with_record past r) → PairRecordsFirst tells rings (so_far past r blocks) old now
    → PairRecordsFirst tells rings (blocks_due_at past r) old now
so_far_of_due tells rings past r blocks old now within is =
    let all : so_far past r blocks ++ drop (blocks - due_count past) (blocks_due_at past r) ≡ blocks_due_at past r =
    ap (λ (l : List Block). l ++ drop (blocks - due_count past) (blocks_due_at past r)) (sym (so_far-front past r blocks within))
    ∙ take-append-drop (blocks - due_count past) (blocks_due_at past r) in
    subst (λ (l : List Block). PairRecordsFirst tells rings l old now) all
    (PairRecordsFirst-more tells rings (so_far past r blocks) (drop (blocks - due_count past) (blocks_due_at past r)) old now is)

-- the number of the ring, after some turns
pub number_so_far : (tells : Tells) (rings : PairRings) (past : RecordingPast) (r : BusRecord) (k : StreamKept) (left : PairRings) (old now : Pair)
    (begun : Option BusRecord) (blocks : ℕ) → IsFeedingPair tells rings past r k left old now begun blocks
    → left.next ≡ rings.next + (blocks - due_count past)
number_so_far tells rings past r k left old now begun blocks was = was.recorded.next ∙ ap (λ n. rings.next + n) (far_long past r blocks)

-- a further block
module _ (tells : Tells) (rings : PairRings) (past : RecordingPast) (r : BusRecord) (k : StreamKept) (mid : PairRings) (old between now : Pair)
    (begun : Option BusRecord) (blocks : ℕ) (sound : IsSoundPair tells between)
    (was : IsFeedingPair tells rings past r k mid old between begun blocks) (b : Block) (is : b ≡ numbered_block (recording_with_record past r) blocks)
  where
    step_all : so_far past r (blocks + 1) ≡ so_far past r blocks ++ b ∷ []
    step_all = so_far-more past r blocks was.since ∙ ap (λ (x : Block). so_far past r blocks ++ x ∷ []) (sym is)

    pub records_step : PairRecordsFirst tells mid (b ∷ []) between now → PairRecordsFirst tells rings (so_far past r (blocks + 1)) old now
    records_step more = subst (λ (l : List Block). PairRecordsFirst tells rings l old now) (sym step_all)
        (PairRecordsFirst-then tells rings mid (so_far past r blocks) (b ∷ []) old between now sound was.records was.recorded more)

    pub feeding_step : (k' : StreamKept) (left : PairRings)
        → RepresentsStream k' (with_stream_block
        (record { table = past.table; payload = past.header.payload; records = past.records; begun = begun; blocks = blocks }) r)
        → PairRecordsFirst tells mid (b ∷ []) between now → PairRecordsAll tells mid left (b ∷ []) between now
        → IsFeedingPair tells rings past r k' left old now (Some r) (blocks + 1)
    feeding_step k' left stands records recorded = record {
      stands = stands;
      same = inr refl;
      since = omega (arith, was.since);
      records = records_step records;
      recorded = subst (λ (l : List Block). PairRecordsAll tells rings left l old now) (sym step_all)
          (PairRecordsAll-then tells rings mid (so_far past r blocks) old between now was.recorded left (b ∷ []) recorded);
    }

-- all blocks that are due were recorded, and the record is taken
module _ (tells : Tells) (rings : PairRings) (past : RecordingPast) (r : BusRecord) (k : StreamKept) (left : PairRings) (old now : Pair)
    (begun : Option BusRecord) (blocks : ℕ) (was : IsFeedingPair tells rings past r k left old now begun blocks) (k' : StreamKept)
    (taken : RepresentsStream k' (stream_with_record
    (record { table = past.table; payload = past.header.payload; records = past.records; begun = begun; blocks = blocks }) r))
  where
    all_due : blocks ≡ due_count (recording_with_record past r)
    all_due = taken.blocks refl

    pub stream_taken : RepresentsStream k' (stream_past (recording_with_record past r))
    stream_taken = subst (λ n. RepresentsStream k'
        (record { table = past.table; payload = past.header.payload; records = past.records ++ r ∷ []; begun = None; blocks = n })) all_due taken

    pub number_taken : rings.next ≡ past.first + due_count past → left.next ≡ past.first + due_count (recording_with_record past r)
    number_taken begins =
        let at = number_so_far tells rings past r k left old now begun blocks was in
        omega (arith, begins, at, was.since, all_due)

    pub records_taken : PairRecordsFirst tells rings (blocks_due_at past r) old now
    records_taken = subst (λ n. PairRecordsFirst tells rings (so_far past r n) old now) all_due was.records

    pub recorded_taken : PairRecordsAll tells rings left (blocks_due_at past r) old now
    recorded_taken = subst (λ n. PairRecordsAll tells rings left (so_far past r n) old now) all_due was.recorded

    pub room_taken : rings.next + length (blocks_due_at past r) ≤ 2 ^ 48
    room_taken = omega (arith, recorded_taken.next, left.bound)

-- there was no number for the next block
pub ended_due : (tells : Tells) (rings : PairRings) (past : RecordingPast) (r : BusRecord) (k : StreamKept) (left : PairRings) (old now : Pair)
    (begun : Option BusRecord) (blocks : ℕ) → IsFeedingPair tells rings past r k left old now begun blocks → left.next ≡ 2 ^ 48
    → blocks < due_count (recording_with_record past r) → PairHasEnded tells rings (blocks_due_at past r) old now
ended_due tells rings past r k left old now begun blocks was ends more =
    let at = number_so_far tells rings past r k left old now begun blocks was in
    let count : 2 ^ 48 - rings.next ≡ blocks - due_count past = omega (arith, ends, at) in
    let front : so_far past r blocks ≡ take (2 ^ 48 - rings.next) (blocks_due_at past r) =
    sym (so_far-front past r blocks (omega (arith, more))) ∙ ap (λ n. take n (blocks_due_at past r)) (sym count) in
    record {
      left = left;
      beyond = omega (arith, ends, at, more, was.since, far_long past r (due_count (recording_with_record past r)));
      recorded = subst (λ (l : List Block). PairRecordsAll tells rings left l old now) front was.recorded;
    }

-- there was no number for the last block
pub ended_rest : (tells : Tells) (rings : PairRings) (b : Block) (p : Pair) → AreSettled tells rings p → rings.next ≡ 2 ^ 48
    → PairHasEnded tells rings (b ∷ []) p p
ended_rest tells rings b p settled ends =
    let none : 2 ^ 48 - rings.next ≡ 0 = omega (arith, ends) in
    record {
      left = rings;
      beyond = omega (arith, ends);
      recorded = subst (λ n. PairRecordsAll tells rings rings (take n (b ∷ [])) p p) (sym none) (PairRecordsAll-here tells rings p settled);
    }
