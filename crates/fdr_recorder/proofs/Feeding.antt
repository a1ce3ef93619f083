-- The blocks that are recorded while a record is fed.
use Rattle.std.proofs.Common.{◌≡◌, ℕ, ◌+◌, ◌-◌, ◌^◌, ◌<◌, ◌≤◌, ◌⊎◌, inl, inr, List, []}
use Rattle.std.proofs.Common.{◌∷◌, ◌++◌, length, take, drop, Option, Some, None, ap, sym, refl, ◌∙◌, subst, arith}
use Rattle.std.proofs.lemmas.List.{take-append-drop}
use Rattle.std.proofs.lemmas.List.FromFn.{length-map-range_with_len, take-map-range_with_len, map-range_with_len_more}
use Rattle.fdr_bus.specs.declared.BusRecord.{BusRecord}
use Rattle.fdr_deck.specs.State.{State, Tells}
use Rattle.fdr_deck.specs.Moments.{IsSoundDeck}
use Rattle.fdr_slot.specs.declared.image.Header.{Header}
use Rattle.fdr_recover.specs.Blocks.{Block}
use Rattle.fdr_stream.specs.Blocks.{cut_block}
use Rattle.fdr_stream.specs.Kept.{StreamKept}
use Rattle.fdr_stream.specs.Past.{StreamPast, MayFeedStream, RepresentsStream, with_block as with_stream_block, stream_with_record}
use Rattle.fdr_ring.specs.Rings.{IsRing}
use Rattle.fdr_recorder.specs.Recording.{RecordsFirstOf, RecordsAllOf, HasEnded}
use Rattle.fdr_recorder.specs.Past.{RecordingPast, MayFeedRecording, recording_with_record, recorded_bytes}
use Rattle.fdr_recorder.specs.Past.{due_count, numbered_block, blocks_from, blocks_due_at, stream_past}
use Rattle.fdr_recorder.proofs.Composing.{RecordsAllOf-here, RecordsAllOf-then, RecordsFirstOf-here, RecordsFirstOf-more, RecordsFirstOf-then}

-- the blocks that were recorded of those due at a record
abbrev pub so_far : RecordingPast → BusRecord → ℕ → List Block
so_far past r blocks = blocks_from (recording_with_record past r) (due_count past) (blocks - due_count past)

-- after some turns
pub record IsFeeding (tells : Tells) (h : Header) (first : ℕ) (past : RecordingPast) (r : BusRecord) (k : StreamKept) (at : ℕ) (old now : State)
    (begun : Option BusRecord) (blocks : ℕ) : Type 0 where
  pub stands : RepresentsStream k (record { table = past.table; payload = past.header.payload; records = past.records; begun = begun; blocks = blocks })
  pub same : (begun ≡ None) ⊎ (begun ≡ Some r)
  pub since : due_count past ≤ blocks
  pub number : at ≡ first + (blocks - due_count past)
  pub records : RecordsFirstOf tells h first (so_far past r blocks) old now
  pub recorded : RecordsAllOf tells h first (so_far past r blocks) old now

-- the stream that a box contains
pub in_box : {k boxed : StreamKept} {past : StreamPast} → k ≡ boxed → RepresentsStream boxed past → RepresentsStream k past
in_box {k} {boxed} {past} is stands = subst (λ (x : StreamKept). RepresentsStream x past) (sym is) stands

pub MayStream-giving : (past : RecordingPast) (r : BusRecord) (begun : Option BusRecord) (blocks : ℕ) → MayFeedRecording past r → (begun ≡ None) ⊎
    (begun ≡ Some r)
    → MayFeedStream (record { table = past.table; payload = past.header.payload; records = past.records; begun = begun; blocks = blocks }) r
MayStream-giving past r begun blocks may same = record { order = may.order; in_time = may.in_time; unended = may.unended; same = same }

none_from : (past : RecordingPast) (r : BusRecord) (n : ℕ) → n ≡ 0 → blocks_from (recording_with_record past r) (due_count past) n ≡ []
none_from past r n none = ap (λ m. blocks_from (recording_with_record past r) (due_count past) m) none

pub IsFeeding-first : (tells : Tells) (h : Header) (first : ℕ) (past : RecordingPast) (r : BusRecord) (k : StreamKept) (d : State) → IsSoundDeck tells d
    → IsRing tells h first d → RepresentsStream k (stream_past past)
    → IsFeeding tells h first past r k first d d None (due_count past)
IsFeeding-first tells h first past r k d sound ring stands =
    let none : due_count past - due_count past ≡ 0 = omega arith in
    let empty = none_from past r (due_count past - due_count past) none in
    record {
      stands = stands;
      same = inl refl;
      since = omega arith;
      number = omega (arith, none);
      records = RecordsFirstOf-here tells h first _ d sound ring;
      recorded = subst (λ (l : List Block). RecordsAllOf tells h first l d d) (sym empty) (RecordsAllOf-here tells h first d);
    }

-- one block more
pub so_far-more : (past : RecordingPast) (r : BusRecord) (blocks : ℕ) → due_count past ≤ blocks
    → so_far past r (blocks + 1) ≡ so_far past r blocks ++ numbered_block (recording_with_record past r) blocks ∷ []
so_far-more past r blocks since =
    let more : blocks + 1 - due_count past ≡ blocks - due_count past + 1 = omega (arith, since) in
    let at : due_count past + (blocks - due_count past) ≡ blocks = omega (arith, since) in
    ap (λ n. blocks_from (recording_with_record past r) (due_count past) n) more
    ∙ map-range_with_len_more (numbered_block (recording_with_record past r)) (due_count past) (blocks - due_count past) blocks at

so_far-long : (past : RecordingPast) (r : BusRecord) (blocks : ℕ) → length (so_far past r blocks) ≡ blocks - due_count past
so_far-long past r blocks = length-map-range_with_len (numbered_block (recording_with_record past r)) (due_count past) (blocks - due_count past)

pub so_far-front : (past : RecordingPast) (r : BusRecord) (blocks : ℕ) → blocks ≤ due_count (recording_with_record past r)
    → take (blocks - due_count past) (blocks_due_at past r) ≡ so_far past r blocks
so_far-front past r blocks within =
    take-map-range_with_len (numbered_block (recording_with_record past r)) (due_count past) (due_count (recording_with_record past r) - due_count past)
    (blocks - due_count past)
    (omega (arith, within))

-- what is recorded so far is a front part of all that is due
pub RecordsFirstOf-due_count : (tells : Tells) (h : Header) (first : ℕ) (past : RecordingPast) (r : BusRecord) (blocks : ℕ) (old now : State)
    → blocks ≤ due_count (recording_with_record past r) → RecordsFirstOf tells h first (so_far past r blocks) old now
    → RecordsFirstOf tells h first (blocks_due_at past r) old now
RecordsFirstOf-due_count tells h first past r blocks old now within is =
    let all : so_far past r blocks ++ drop (blocks - due_count past) (blocks_due_at past r) ≡ blocks_due_at past r =
    ap (λ (l : List Block). l ++ drop (blocks - due_count past) (blocks_due_at past r)) (sym (so_far-front past r blocks within))
    ∙ take-append-drop (blocks - due_count past) (blocks_due_at past r) in
    subst (λ (l : List Block). RecordsFirstOf tells h first l old now) all
    (RecordsFirstOf-more tells h first (so_far past r blocks) (drop (blocks - due_count past) (blocks_due_at past r)) old now is)

module _ (tells : Tells) (h : Header) (first : ℕ) (past : RecordingPast) (r : BusRecord) (k : StreamKept) (at : ℕ) (old mid now : State)
    (begun : Option BusRecord) (blocks : ℕ)
    (sound : IsSoundDeck tells old) (begins : first ≡ past.first + due_count past) (was : IsFeeding tells h first past r k at old mid begun blocks) (b : Block)
    (is : b ≡ numbered_block (recording_with_record past r) blocks)
  where
    step_at : at ≡ first + length (so_far past r blocks)
    step_at = was.number ∙ ap (λ n. first + n) (sym (so_far-long past r blocks))

    step_all : so_far past r (blocks + 1) ≡ so_far past r blocks ++ b ∷ []
    step_all = so_far-more past r blocks was.since ∙ ap (λ (x : Block). so_far past r blocks ++ x ∷ []) (sym is)

    pub RecordsFirstOf-step : RecordsFirstOf tells h at (b ∷ []) mid now → RecordsFirstOf tells h first (so_far past r (blocks + 1)) old now
    RecordsFirstOf-step more = subst (λ (l : List Block). RecordsFirstOf tells h first l old now) (sym step_all)
        (RecordsFirstOf-then tells h first (so_far past r blocks) (b ∷ []) old mid now was.recorded sound was.records (subst (λ n. RecordsFirstOf tells h n
        (b ∷ []) mid now) step_at more))

    pub IsFeeding-step : (k' : StreamKept) (at' : ℕ)
        → RepresentsStream k' (with_stream_block
        (record { table = past.table; payload = past.header.payload; records = past.records; begun = begun; blocks = blocks }) r)
        → at' ≡ at + 1 → RecordsFirstOf tells h at (b ∷ []) mid now → RecordsAllOf tells h at (b ∷ []) mid now
        → IsFeeding tells h first past r k' at' old now (Some r) (blocks + 1)
    IsFeeding-step k' at' stands up records recorded = record {
      stands = stands;
      same = inr refl;
      since = omega (arith, was.since);
      number = omega (arith, up, was.number, was.since);
      records = RecordsFirstOf-step records;
      recorded = subst (λ (l : List Block). RecordsAllOf tells h first l old now) (sym step_all)
          (RecordsAllOf-then tells h first (so_far past r blocks) (b ∷ []) old mid now was.recorded
          (subst (λ n. RecordsAllOf tells h n (b ∷ []) mid now) step_at recorded));
    }

-- the block that is given next, with the ring's number
pub block_is : (past : RecordingPast) (r : BusRecord) (first at session blocks : ℕ) (bytes : List ℕ) → first ≡ past.first + due_count past
    → session ≡ past.session → at ≡ first + (blocks - due_count past) → due_count past ≤ blocks
    → bytes ≡ cut_block past.header.payload (recorded_bytes (recording_with_record past r)) blocks
    → ◌≡◌ {A = Block} (record { number = at; session = session; payload = bytes }) (numbered_block (recording_with_record past r) blocks)
block_is past r first at session blocks bytes begins of number since is =
    let same : at ≡ past.first + blocks = omega (arith, begins, number, since) in
    ap (λ (n : ℕ). record { number = n; session = session; payload = bytes }) same
    ∙ ap (λ (m : ℕ). record { number = past.first + blocks; session = m; payload = bytes }) of
    ∙ ap (λ (l : List ℕ). record { number = past.first + blocks; session = past.session; payload = l }) is

-- all blocks that are due were recorded, and the record is taken
module _ (tells : Tells) (h : Header) (first : ℕ) (past : RecordingPast) (r : BusRecord) (k : StreamKept) (at : ℕ) (old now : State) (begun : Option BusRecord)
    (blocks : ℕ)
    (was : IsFeeding tells h first past r k at old now begun blocks) (k' : StreamKept)
    (taken : RepresentsStream k' (stream_with_record
    (record { table = past.table; payload = past.header.payload; records = past.records; begun = begun; blocks = blocks }) r))
  where
    all_blocks : blocks ≡ due_count (recording_with_record past r)
    all_blocks = taken.blocks refl

    pub stream-taken : RepresentsStream k' (stream_past (recording_with_record past r))
    stream-taken = subst (λ n. RepresentsStream k'
        (record { table = past.table; payload = past.header.payload; records = past.records ++ r ∷ []; begun = None; blocks = n })) all_blocks taken

    pub number-taken : first ≡ past.first + due_count past → at ≡ past.first + due_count (recording_with_record past r)
    number-taken begins = omega (arith, begins, was.number, was.since, all_blocks)

    pub next-taken : at ≡ first + length (blocks_due_at past r)
    next-taken = was.number ∙ ap (λ n. first + (n - due_count past)) all_blocks ∙ ap (λ n. first + n)
        (sym (so_far-long past r (due_count (recording_with_record past r))))

    pub RecordsFirstOf-taken : RecordsFirstOf tells h first (blocks_due_at past r) old now
    RecordsFirstOf-taken = subst (λ n. RecordsFirstOf tells h first (so_far past r n) old now) all_blocks was.records

    pub RecordsAllOf-taken : RecordsAllOf tells h first (blocks_due_at past r) old now
    RecordsAllOf-taken = subst (λ n. RecordsAllOf tells h first (so_far past r n) old now) all_blocks was.recorded

-- there was no number for the next block
pub HasEnded-due_count : (tells : Tells) (h : Header) (first : ℕ) (past : RecordingPast) (r : BusRecord) (k : StreamKept) (at : ℕ) (old now : State)
    (begun : Option BusRecord) (blocks : ℕ)
    → IsFeeding tells h first past r k at old now begun blocks → at ≡ 2 ^ 48 → blocks < due_count (recording_with_record past r)
    → HasEnded tells h first (blocks_due_at past r) old now
HasEnded-due_count tells h first past r k at old now begun blocks was ends more =
    let count : 2 ^ 48 - first ≡ blocks - due_count past = omega (arith, ends, was.number) in
    let front : so_far past r blocks ≡ take (2 ^ 48 - first) (blocks_due_at past r) =
    sym (so_far-front past r blocks (omega (arith, more))) ∙ ap (λ n. take n (blocks_due_at past r)) (sym count) in
    record {
      beyond = omega (arith, ends, was.number, more, was.since, so_far-long past r (due_count (recording_with_record past r)));
      recorded = subst (λ (l : List Block). RecordsAllOf tells h first l old now) front was.recorded;
    }
