-- What is recorded can be read back.
use Rattle.std.proofs.Common.{◌≡◌, ◌≢◌, ℕ, zero, suc, ◌+◌, ◌-◌, ◌*◌, ◌/◌, ◌<◌, ◌≤◌, inl, List, [], ◌∷◌, ◌++◌, length, length-append, map, take, drop, Option}
use Rattle.std.proofs.Common.{refl}
use Rattle.std.proofs.Common.{ap, sym, ◌∙◌, subst, arith}
use Rattle.std.specs.List.{flat_map, range_with_len}
use Rattle.std.proofs.lemmas.Grind.{flat_map-append}
use Rattle.std.specs.Prelude.{All}
use Rattle.std.proofs.lemmas.List.{append-nil, drop-append-le, length-drop, take_all}
use Rattle.std.proofs.lemmas.List.Elements.{All-cons, All-nil}
use Rattle.std.proofs.lemmas.List.FromFn.{length-map-range_with_len}
use Rattle.std.proofs.lemmas.Nat.{mod_below}
use Rattle.std.proofs.Math.Nat.{div-add-mod}
use Rattle.std.proofs.lemmas.List.Folds.{flat_map-map}
use Rattle.fdr_lists.proofs.Ranges.{range_more}
use Rattle.fdr_bus.specs.declared.BusRecord.{BusRecord}
use Rattle.fdr_bus.specs.Records.{good_prefix}
use Rattle.fdr_check.specs.Soundness.{IsSound}
use Rattle.fdr_deck.specs.State.{State, Tells}
use Rattle.fdr_deck.specs.Moments.{IsSoundDeck}
use Rattle.fdr_slot.specs.Limits.{IsInLimits}
use Rattle.fdr_recover.specs.Blocks.{Block}
use Rattle.fdr_recover.specs.Images.{recovered_run}
use Rattle.fdr_recover.specs.Stretches.{last_session}
use Rattle.fdr_recover.specs.ImageHeader.{header_in}
use Rattle.fdr_ring.specs.Runs.{last_blocks}
use Rattle.fdr_table.specs.Ranges.{IsInRange}
use Rattle.fdr_table.specs.Rows.{TableRows}
use Rattle.fdr_stream.specs.Blocks.{cut_block, blocks_of}
use Rattle.fdr_stream.proofs.Later.{take-block}
use Rattle.fdr_recorder.specs.Past.{RecordingPast, all_blocks, recorded_bytes, numbered_block, session_of}
use Rattle.fdr_readout.specs.Listing.{listing_of}
use Rattle.fdr_readout.proofs.ReadsBack.{stream_lists_back}
use Rattle.fdr_readout.proofs.Surviving.{surviving_run_listed}
use Rattle.fdr_top.specs.Stages.{EndsRecording, IsPastTable}
use Rattle.fdr_recorder.specs.Ends.{RecordingEnd}
use Rattle.fdr_recorder.specs.NewBlocks.{new_blocks, past_in}
use Rattle.fdr_recorder.specs.Supplied.{RecordsSupply}
use Rattle.fdr_recorder.specs.Supply.{line_trace}
use Rattle.fdr_recorder.proofs.Recordings.{RecordsBlocks-unbegun, none_pulled, nothing_started, starting_lag}
use Rattle.fdr_top.specs.Ends.{recording_answer}
use Rattle.fdr_top.specs.Record.{ListsSurvivors, ListsUndamaged, RecordsStream, RecordsTrace}
use Rattle.fdr_recover.specs.Payloads.{payloads_of, run_in}
use Rattle.fdr_top.specs.Sessions.{IsLastSession, sessions_of}
use Rattle.fdr_top.specs.Tables.{ByTable}
use Rattle.fdr_top.specs.declared.outcome.Outcome.{Outcome}
use Rattle.fdr_top.specs.declared.outcome.Outcome.TheVariants as outcome
use Rattle.fdr_top.proofs.Making.{table_or, table_told}
use Rattle.fdr_top.proofs.SessionLemmas.{is_last_session, last_session-drop, session_goes_on}
use Rattle.fdr_top.proofs.RecordingEnds.{fault_ends, image_by_answer, old_by_answer, stream_by_answer, trace_by_answer}
use Rattle.fdr_top.proofs.RecordLines.{all_past, limits_in, reading_past, refusal_told, refuses_no_version, refuses_nothing, told_end}

-- whole blocks of p bytes that hold n of them
enough : (p n : ℕ) → 0 < p → n ≤ p * ((n + p - 1) / p)
enough p n some = omega (arith, div-add-mod (n + p - 1) p, mod_below (n + p - 1) p some)

-- blocks one after another are the bytes that they were cut from
joined : (p : ℕ) (bytes : List ℕ) (n : ℕ) → flat_map (cut_block p bytes) (range_with_len 0 n) ≡ take (p * n) bytes
joined p bytes zero = let none : p * zero ≡ 0 = omega arith in ap (λ m. take m bytes) (sym none)
joined p bytes (suc n) =
    let one : suc n ≡ n + 1 = omega arith in
    let at : 0 + n ≡ n = omega arith in
    let last : flat_map (cut_block p bytes) (n ∷ []) ≡ cut_block p bytes n = append-nil (cut_block p bytes n) in
    ap (λ m. flat_map (cut_block p bytes) (range_with_len 0 m)) one
    ∙ ap (flat_map (cut_block p bytes)) (range_more 0 n ∙ ap (λ k. range_with_len 0 n ++ k ∷ []) at)
    ∙ flat_map-append (cut_block p bytes) (range_with_len 0 n) (n ∷ [])
    ∙ ap (λ (l : List ℕ). l ++ flat_map (cut_block p bytes) (n ∷ [])) (joined p bytes n)
    ∙ ap (λ (l : List ℕ). take (p * n) bytes ++ l) last
    ∙ sym (take-block p bytes n) ∙ ap (λ m. take (p * m) bytes) (sym one)

-- the payloads of all blocks of a recording are its stream
payloads_all : (past : RecordingPast) → IsInLimits past.header → payloads_of (all_blocks past) ≡ recorded_bytes past
payloads_all past limits =
    let p = past.header.payload in
    let bytes = recorded_bytes past in
    let n = (length bytes + p - 1) / p in
    let count : length (blocks_of p bytes) ≡ n = length-map-range_with_len (cut_block p bytes) 0 n in
    let low : 64 ≤ p = limits.least_payload in
    let fill : length bytes ≤ p * n = enough p (length bytes) (omega (arith, low)) in
    flat_map-map (λ (b : Block). b.payload) (numbered_block past) (range_with_len 0 (length (blocks_of p bytes)))
    ∙ ap (λ m. flat_map (cut_block p bytes) (range_with_len 0 m)) count
    ∙ joined p bytes n ∙ take_all (p * n) bytes fill

-- of a ring with room for them, all new blocks are left
all_left : (most : ℕ) (old new : List Block) → length new ≤ most → last_blocks most (old ++ new) ≡ drop (length (old ++ new) - most) old ++ new
all_left most old new fits = drop-append-le (length (old ++ new) - most) old new (omega (arith, length-append old new, fits))

-- the blocks of a recording are of one session
blocks_of_one : (past : RecordingPast) (places : List ℕ) → All (λ (b : Block). b.session ≡ past.session) (map (numbered_block past) places)
blocks_of_one past [] = All-nil (λ (b : Block). b.session ≡ past.session)
blocks_of_one past (i ∷ places) =
    All-cons (λ (b : Block). b.session ≡ past.session) (numbered_block past i) (map (numbered_block past) places) refl (blocks_of_one past places)

-- which isn't that of the last block before
session_is_new : (blocks : List Block) (k : ℕ) → 0 < length (drop k blocks) → last_session (drop k blocks) ≢ session_of blocks
session_is_new [] k some = absurd (omega (arith, some, length-drop {A = Block} k []))
session_is_new (b ∷ bs) k some = λ same. session_goes_on (last_session (b ∷ bs)) (sym (last_session-drop k (b ∷ bs) some) ∙ same)

-- what was recorded is the last session, and lists as what was sampled
pub lists_undamaged : (t : TableRows) (tells : Tells) (records : List BusRecord) (old new : State) (answer : Outcome) → IsInRange t → IsSound t
    → RecordsStream t tells records old new answer → EndsRecording answer → ListsUndamaged t tells records old new
lists_undamaged t tells records old new answer range sound blocks all bytes some fits =
    let has = blocks.recorded all bytes in
    let past : RecordingPast = past_in t old.held records in
    let limits = limits_in old.held (blocks.good (inl all) bytes).no_fault in
    let before : List Block = run_in old.held in
    let added : List Block = new_blocks t old.held records in
    let most : ℕ = (header_in old.held).slots - 1 in
    let kept : List Block = drop (length (before ++ added) - most) before in
    let run : run_in new.held ≡ kept ++ added = ap (λ h. recovered_run h new.held) has.header ∙ has.run ∙ all_left most before added fits in
    let last : IsLastSession added (kept ++ added) =
    is_last_session kept added (session_of before) some (blocks_of_one past (range_with_len 0 (length (blocks_of past.header.payload (recorded_bytes past)))))
    (session_is_new before (length (before ++ added) - most)) in (
      (last.0, ap sessions_of run ∙ last.1),
      ap (listing_of t) (payloads_all past limits) ∙ stream_lists_back t records range sound,
    )

-- and each run of its frames that survives is listed
pub lists_survivors : (t : TableRows) (records : List BusRecord) → IsInRange t → IsSound t → ListsSurvivors t records
lists_survivors t records range sound b q j m it = surviving_run_listed t records b q j m range sound it

records_end : (t : TableRows) (tells : Tells) (old new : State) (end : RecordingEnd) → IsInRange t → IsSound t
    → RecordsSupply line_trace t tells old new end → RecordsTrace t tells old new (recording_answer end)
records_end t tells old new end range sound is =
    let answer = recording_answer end in
    let blocks = stream_by_answer t tells (good_prefix is.pulled) old new end is.blocks in
    let ends = trace_by_answer tells old new is.pulled end is.ends in
    record {
      pulled = is.pulled;
      pulls = is.pulls;
      blocks = blocks;
      image = image_by_answer t tells old new end is.image;
      old_image = old_by_answer t tells old end is.version;
      in_time = is.in_time;
      trace = ends;
      whole = λ done told. told_end tells old new is.pulled answer is.pulls ends done told;
      trace_always = λ index why all told first. refusal_told tells old new is.pulled answer index why is.pulls ends all told first;
      survives = λ past. lists_survivors t (good_prefix is.pulled) range sound;
      undamaged = λ all. lists_undamaged t tells (good_prefix is.pulled) old new answer range sound blocks all;
    }

-- what was recorded of the trace on the input
pub records_line : (t : TableRows) (tells : Tells) (old new : State) (answer : Outcome) → IsInRange t → IsSound t
    → (end : RecordingEnd) × (answer ≡ recording_answer end) × RecordsSupply line_trace t tells old new end → RecordsTrace t tells old new answer
records_line t tells old new answer range sound is =
    subst (λ (x : Outcome). RecordsTrace t tells old new x) (sym is.1) (records_end t tells old new is.0 range sound is.2)

-- where the table isn't read, the deck isn't touched and nothing is recorded
pub records_nothing : (tells : Tells) (rest now : Option (List ℕ)) (d : State) (answer : Outcome) → IsSoundDeck tells d
    → (IsPastTable answer → ⊥) → ByTable rest now answer (λ (t : TableRows). RecordsTrace t tells d d answer)
records_nothing tells rest now d answer sound early =
    let t = table_or rest in
    let starts = nothing_started tells d sound in (
      t,
      table_told rest,
      λ past. absurd (early past),
      record {
        pulled = [];
        pulls = none_pulled tells d d starts.input starts.input_faults;
        blocks = RecordsBlocks-unbegun t tells (good_prefix []) d d (EndsRecording answer) (answer ≡ outcome.SeqEnd) starts
            (λ all. early (all_past answer all)) (λ e. early (subst IsPastTable (sym e) tt));
        image = refuses_nothing t tells d d answer early;
        old_image = refuses_no_version t tells d answer early;
        in_time = λ ready. starting_lag t tells d d starts ready;
        trace = fault_ends tells d d [] answer (λ all. early (reading_past answer all)) (λ index why e. early (subst IsPastTable (sym e) tt))
            (λ known. starts.input_faults);
        whole = λ done. absurd (early (subst IsPastTable (sym done) tt));
        trace_always = λ index why all. absurd (early (reading_past answer all));
        survives = λ past. absurd (early past);
        undamaged = λ all. absurd (early (all_past answer all));
      },
    )
