-- What a supply gives, record by record, and how it ends.
use Rattle.std.proofs.Common.{◌≡◌, ⊎_elim, ℕ, ◌+◌, ◌*◌, ◌<◌, ◌≤◌, true, false, List, [], ◌∷◌, ◌++◌, length, take, drop, map}
use Rattle.std.proofs.Common.{Some, Result, Ok, Err, ap, sym, refl, ◌∙◌, subst, get_or, arith, rules}
use Rattle.std.specs.Prelude.{◌||◌, IfOk, MatchResult}
use Rattle.std.specs.List.{slice_get}
use Rattle.std.proofs.lemmas.Bool.{cases_lt}
use Rattle.std.proofs.lemmas.List.{append-nil, length_push, take-append-drop, take_all, take_more}
use Rattle.std.proofs.lemmas.List.Folds.{list_any-append}
use Rattle.std.proofs.lemmas.Option.{get_or_from_slice_get, slice_get-get_or, slice_get_within}
use Rattle.fdr_bus.specs.declared.BusRecord.{BusRecord}
use Rattle.fdr_bus.specs.Records.{has_end, is_end, time_of}
use Rattle.fdr_bus.proofs.TraceLemmas.{Rises, has_end-push}
use Rattle.fdr_deck.specs.State.{State, Tells}
use Rattle.fdr_deck.specs.Moments.{IsSoundDeck}
use Rattle.fdr_table.specs.Rows.{TableRows}
use Rattle.fdr_gen.specs.Past.{GeneratorKept, GeneratorPast, RepresentsGenerator, generator_made, generator_with_record}
use Rattle.fdr_gen.specs.Trace.{generated_trace, most_frames, sender_of}
use Rattle.fdr_gen.proofs.Following.{trace_ends, trace_follows, trace_rises}
use Rattle.fdr_gen.proofs.Tracing.{length-trace}
use Rattle.fdr_trace.specs.Kept.{TraceKept}
use Rattle.fdr_trace.specs.Moments.{PullsForRecord}
use Rattle.fdr_trace.specs.Pulls.{PullsUntilDecided}
use Rattle.fdr_trace.specs.Reading.{IsNextRecord, IsTraceStopped, RepresentsTrace}
use Rattle.fdr_trace.specs.declared.TraceStop.{TraceStop}
use Rattle.fdr_trace.proofs.Pulling.{PullsUntilDecided-none}
use Rattle.fdr_recorder.specs.Past.{RecordingPast, MayFeedRecording}
use Rattle.fdr_trace.proofs.PullMoments.{PullsForRecord-none}
use Rattle.fdr_recorder.specs.Supplied.{past_fed}
use Rattle.fdr_recorder.specs.Supply.{RecordSupply, GivesNext, HasDrawn, HasGenerated, HasRead, HasRunOut, drawn_trace, left_to_draw, line_trace}
use Rattle.fdr_recorder.specs.Supply.{most_to_read, supplied_records}
use Rattle.fdr_recorder.proofs.Longer.{InOrder-good_prefix}
use Rattle.fdr_recorder.proofs.ReadRecords.{count_rises, good_with_next}

-- no record that is given comes before the one before it
pub supplied_records-rises : (from : RecordSupply) (bytes : List ℕ) → Rises 0 (supplied_records from bytes)
supplied_records-rises line_trace bytes = InOrder-good_prefix bytes
supplied_records-rises (drawn_trace t seed frames) bytes = trace_rises t seed frames

-- a session may be fed the next record
pub may_feed : (past : RecordingPast) (from : RecordSupply) (Gave : List ℕ → List BusRecord → Type 0) (bytes : List ℕ) (records : List BusRecord)
    (r : BusRecord) → GivesNext from Gave bytes records r → MayFeedRecording (past_fed past records) r
may_feed past from Gave bytes records r next = record { order = next.order; in_time = next.in_time; unended = next.unended }

-- ---- the next record of a trace on the input

next_of_line : (k k' : TraceKept) (bytes more : List ℕ) (records : List BusRecord) (r : BusRecord) → RepresentsTrace k bytes records
    → IsNextRecord k' (bytes ++ more) records r → GivesNext line_trace (HasRead line_trace k') (bytes ++ more) records r
next_of_line k k' bytes more records r reads next =
    let unended = ap has_end reads.good ∙ reads.unended.unended in
    let begins = good_with_next k' (bytes ++ more) records r next in
    search (rules, unended, begins, next)

-- the next of any trace that is read
pub line_gives : (from : RecordSupply) (k k' : TraceKept) (tells : Tells) (d d' : State) (bytes : List ℕ) (records : List BusRecord)
    (result : Result BusRecord TraceStop) → HasRead from k bytes records
    → (RepresentsTrace k bytes records → (more : List ℕ) × PullsUntilDecided tells d d' bytes more
    × MatchResult result (IsNextRecord k' (bytes ++ more) records) (IsTraceStopped tells d d' (bytes ++ more) records)
    × PullsForRecord tells d d' bytes more records)
    → (more : List ℕ) × PullsUntilDecided tells d d' bytes more
    × MatchResult result (GivesNext from (HasRead from k') (bytes ++ more) records) (HasRunOut from tells d d' (bytes ++ more) records)
    × PullsForRecord tells d d' bytes more records
line_gives line_trace k k' tells d d' bytes records (Ok r) is next =
    let at = next is in (at.0, at.1, next_of_line k k' bytes at.0 records r is at.2, at.3)
line_gives line_trace k k' tells d d' bytes records (Err why) is next =
    let at = next is in (at.0, at.1, record { input = refl; stopped = at.2 }, at.3)
line_gives (drawn_trace t seed frames) k k' tells d d' bytes records result is next = absurd is

pub line_fewer : (from : RecordSupply) (k k' : TraceKept) (tells : Tells) (d d' : State) (bytes : List ℕ) (records : List BusRecord)
    (result : Result BusRecord TraceStop) → HasRead from k bytes records
    → (RepresentsTrace k bytes records → (more : List ℕ) × PullsUntilDecided tells d d' bytes more
    × MatchResult result (IsNextRecord k' (bytes ++ more) records) (IsTraceStopped tells d d' (bytes ++ more) records)
    × PullsForRecord tells d d' bytes more records)
    → IfOk result (λ r. is_end r ≡ false → most_to_read k' < most_to_read k)
line_fewer line_trace k k' tells d d' bytes records (Ok r) is next = λ goes_on.
    let at = next is in
    count_rises k k' bytes (bytes ++ at.0) records r is (at.2.more goes_on)
line_fewer line_trace k k' tells d d' bytes records (Err why) is next = tt
line_fewer (drawn_trace t seed frames) k k' tells d d' bytes records result is next = absurd is

-- ---- the next record of a generator

has_no_end : (records : List BusRecord) (r : BusRecord) → has_end records ≡ false → is_end r ≡ false → has_end (records ++ r ∷ []) ≡ false
has_no_end records r before goes_on =
    list_any-append is_end records (r ∷ []) ∙ ap (λ b. b || (is_end r || false)) before ∙ ap (λ b. false || (b || false)) goes_on

module _ (g g' : GeneratorKept) (t : TableRows) (seed frames : ℕ) (bytes : List ℕ) (records : List BusRecord) (r : BusRecord)
    (is : HasGenerated g t seed frames bytes records) (got : slice_get (generated_trace t seed frames) (length records) ≡ Some r)
    (stands : RepresentsGenerator g' (record { table = t; seed = seed; frames = frames; given = length records + 1 }))
  where
    inside : length records < length (generated_trace t seed frames)
    inside = slice_get_within (generated_trace t seed frames) (length records) r got

    grown : records ++ r ∷ [] ≡ take (length records + 1) (generated_trace t seed frames)
    grown =
        let at : get_or (generated_trace t seed frames) (length records) r ≡ r =
        get_or_from_slice_get (generated_trace t seed frames) (length records) r r got in
        ap (λ (l : List BusRecord). l ++ r ∷ []) is.first
        ∙ ap (λ (x : BusRecord). take (length records) (generated_trace t seed frames) ++ x ∷ []) (sym at)
        ∙ sym (take_more (generated_trace t seed frames) (length records) r inside)

    -- the end is the last record
    whole : is_end r ≡ true → generated_trace t seed frames ≡ records ++ r ∷ []
    whole ends = ⊎_elim
        (λ (more : length records + 1 < length (generated_trace t seed frames)).
        let next = slice_get-get_or (generated_trace t seed frames) (length records + 1) r more in
        let follows = trace_follows t seed frames (length records + 1) (get_or (generated_trace t seed frames) (length records + 1) r) is.within next in
        let yes : has_end (records ++ r ∷ []) ≡ true = has_end-push records r ends in
        let no : has_end (records ++ r ∷ []) ≡ false = ap has_end grown ∙ follows.unended in
        absurd (let c : true ≡ false = sym yes ∙ no in cc))
        (λ (last : length (generated_trace t seed frames) ≤ length records + 1).
        sym (take_all (length records + 1) (generated_trace t seed frames) last) ∙ sym grown)
        (cases_lt (length records + 1) (length (generated_trace t seed frames)))

    -- all that is given begins with these
    begins : (later : List BusRecord) × (generated_trace t seed frames ≡ (records ++ r ∷ []) ++ later)
    begins =
        let left = drop (length records + 1) (generated_trace t seed frames) in
        (left, sym (take-append-drop (length records + 1) (generated_trace t seed frames)) ∙ ap (λ (l : List BusRecord). l ++ left) (sym grown))

    pub next_of_generator : GivesNext (drawn_trace t seed frames) (HasDrawn (drawn_trace t seed frames) g') (bytes ++ []) records r
    next_of_generator =
        let follows = trace_follows t seed frames (length records) r is.within got in
        let none : bytes ++ [] ≡ [] = append-nil bytes ∙ is.unpulled in
        record {
          order = subst (λ (l : List BusRecord). time_of l ≤ r.time) (sym is.first) follows.order;
          in_time = follows.in_time;
          unended = is.unended;
          begins = begins;
          more = λ goes_on. record {
            stands = subst (λ m. RepresentsGenerator g' (record { table = t; seed = seed; frames = frames; given = m }))
                (sym (length_push records r)) stands;
            first = grown ∙ ap (λ m. take m (generated_trace t seed frames)) (sym (length_push records r));
            unended = has_no_end records r is.unended goes_on;
            within = is.within;
            unpulled = none;
          };
          ends = whole;
          unpulled = none;
        }

    pub fewer_left : left_to_draw g' < left_to_draw g
    fewer_left =
        let long = length-trace t seed frames in
        let total : (k : GeneratorKept) (m : ℕ) → RepresentsGenerator k (record { table = t; seed = seed; frames = frames; given = m })
        → k.seconds * length k.senders ≡ 4 * frames * length (map sender_of t.params) = λ k m st.
        ap (λ x. x * length k.senders) st.seconds ∙ ap (λ l. 4 * frames * length l) st.senders in
        omega (arith, long, total g (length records) is.stands, total g' (length records + 1) stands, is.stands.given, stands.given, inside)

-- a generator isn't asked after the end
pub ends_before_none : (g : GeneratorKept) (t : TableRows) (seed frames : ℕ) (bytes : List ℕ) (records : List BusRecord)
    → HasGenerated g t seed frames bytes records → length records ≡ length (generated_trace t seed frames) → ⊥
ends_before_none g t seed frames bytes records is all =
    let whole : records ≡ generated_trace t seed frames =
    is.first ∙ take_all (length records) (generated_trace t seed frames) (omega (arith, all)) in
    let yes : has_end records ≡ true = ap has_end whole ∙ trace_ends t seed frames in
    let c : true ≡ false = sym yes ∙ is.unended in cc

-- ---- a generator, whatever it gives

pub generator_goes_on : (from : RecordSupply) (g : GeneratorKept) (bytes : List ℕ) (records : List BusRecord) → HasDrawn from g bytes records
    → ((past : GeneratorPast) → RepresentsGenerator g past → past.given ≡ length (generated_trace past.table past.seed past.frames)) → ⊥
generator_goes_on line_trace g bytes records is ends = is
generator_goes_on (drawn_trace t seed frames) g bytes records is ends = ends_before_none g t seed frames bytes records is
    (ends (record { table = t; seed = seed; frames = frames; given = length records }) is.stands)

-- what one record more of a generator is
abbrev pub GivesOne : GeneratorKept → GeneratorKept → BusRecord → Type 0
GivesOne g g' r = (past : GeneratorPast) → RepresentsGenerator g past
    → (Some r ≡ slice_get (generated_trace past.table past.seed past.frames) past.given) × RepresentsGenerator g' (generator_with_record past)

pub generator_gives : (from : RecordSupply) (g g' : GeneratorKept) (bytes : List ℕ) (records : List BusRecord) (r : BusRecord)
    (tells : Tells) (d : State) → IsSoundDeck tells d → HasDrawn from g bytes records → GivesOne g g' r
    → (more : List ℕ) × PullsUntilDecided tells d d bytes more × GivesNext from (HasDrawn from g') (bytes ++ more) records r
    × PullsForRecord tells d d bytes more records
generator_gives line_trace g g' bytes records r tells d sound is one = absurd is
generator_gives (drawn_trace t seed frames) g g' bytes records r tells d sound is one =
    let at = one (record { table = t; seed = seed; frames = frames; given = length records }) is.stands in (
      [],
      PullsUntilDecided-none tells d bytes,
      next_of_generator g g' t seed frames bytes records r is (sym at.0) at.1,
      PullsForRecord-none tells d bytes records sound,
    )

pub generator_fewer : (from : RecordSupply) (g g' : GeneratorKept) (bytes : List ℕ) (records : List BusRecord) (r : BusRecord)
    → HasDrawn from g bytes records → GivesOne g g' r → left_to_draw g' < left_to_draw g
generator_fewer line_trace g g' bytes records r is one = absurd is
generator_fewer (drawn_trace t seed frames) g g' bytes records r is one =
    let at = one (record { table = t; seed = seed; frames = frames; given = length records }) is.stands in
    fewer_left g g' t seed frames bytes records r is (sym at.0) at.1

-- a generator that was just made
pub drawn_made : (t : TableRows) (seed frames : ℕ) (g : GeneratorKept) → RepresentsGenerator g (generator_made t seed frames) → frames ≤ most_frames
    → HasDrawn (drawn_trace t seed frames) g [] []
drawn_made t seed frames g stands few = record { stands = stands; first = refl; unended = refl; within = few; unpulled = refl }
