-- What two sides list of one recording.
use Rattle.std.proofs.Common.{◌≢◌, ◌≡◌, inl, inr, ⊎_elim, ℕ, zero, suc, ◌+◌, ◌-◌, ◌*◌, ◌/◌, ◌%◌, ◌<◌, ◌≤◌, Bool, true, false, List, [], ◌∷◌, ◌++◌, length}
use Rattle.std.proofs.Common.{map, take, drop}
use Rattle.std.proofs.Common.{refl, sym, ap, subst, ◌∙◌, arith, length-append}
use Rattle.std.specs.Prelude.{All, filter, max, nat_le}
use Rattle.std.specs.List.{flat_map, range_with_len}
use Rattle.std.proofs.lemmas.Bool.{cases_Bool, cond-true, cond-false, le-leb, leb-true}
use Rattle.std.proofs.lemmas.List.{append-nil, drop-append-le, length-drop, take_all}
use Rattle.std.proofs.lemmas.List.Concat.{flat_map-append}
use Rattle.std.proofs.lemmas.List.Elements.{All-cons, All-nil}
use Rattle.std.proofs.lemmas.List.Folds.{flat_map-map}
use Rattle.std.proofs.lemmas.List.FromFn.{length-map-range_with_len}
use Rattle.std.proofs.lemmas.Nat.{mod_below}
use Rattle.std.proofs.Math.Nat.{div-add-mod}
use Rattle.fdr_lists.proofs.Ranges.{range_more}
use Rattle.fdr_bus.specs.declared.BusRecord.{BusRecord}
use Rattle.fdr_check.specs.Soundness.{IsSound}
use Rattle.fdr_slot.specs.Limits.{IsInLimits}
use Rattle.fdr_recover.specs.Blocks.{Block}
use Rattle.fdr_recover.specs.Images.{recovered_run}
use Rattle.fdr_recover.specs.Payloads.{payloads_of}
use Rattle.fdr_recorder.specs.Past.{RecordingPast, all_blocks, recorded_bytes, numbered_block}
use Rattle.fdr_stream.specs.Blocks.{cut_block, blocks_of}
use Rattle.fdr_stream.proofs.Later.{take-block}
use Rattle.fdr_layout.specs.Samples.{Sample, ending_in}
use Rattle.fdr_table.specs.Ranges.{IsInRange}
use Rattle.fdr_table.specs.Rows.{TableRows}
use Rattle.fdr_recon.specs.Rows.{reach}
use Rattle.fdr_readout.specs.Listing.{listing_of, rows_at, row_line_of}
use Rattle.fdr_readout.specs.SampledRows.{sampled_row, sampled_rows}
use Rattle.fdr_readout.specs.Survival.{AreAmong, AreInBoth, Survives, lines_at, sampled_since}
use Rattle.fdr_readout.proofs.Among.{among_map}
use Rattle.fdr_readout.proofs.ReadsBack.{stream_lists_back}
use Rattle.fdr_readout.proofs.Surviving.{surviving_run_listed}
use Rattle.fdr_top.specs.Sessions.{IsLastSession, sessions_of}
use Rattle.fdr_top.proofs.SessionLemmas.{is_last_session, last_session-drop, session_goes_on}
use Rattle.fdr_recover.specs.ImageHeader.{header_in}
use Rattle.fdr_recover.specs.Stretches.{last_session}
use Rattle.fdr_recover.specs.Payloads.{run_in}
use Rattle.fdr_recorder.specs.NewBlocks.{new_blocks, past_in}
use Rattle.fdr_recorder.specs.Past.{session_of}
use Rattle.fdr_pair.specs.Brought.{brought_run}
use Rattle.fdr_laws.proofs.Bringing.{brought_session, brought_some}
use Rattle.fdr_laws.specs.Sides.{AreInStep, EndsWithBlocks, HasRoomForRecording, HoldsRecording, ListsBack, SurvivesInBoth}

-- ---- a recording in blocks

-- whole blocks of p bytes that hold n of them
enough : (p n : ℕ) → 0 < p → n ≤ p * ((n + p - 1) / p)
enough p n some = omega (arith, div-add-mod (n + p - 1) p, mod_below (n + p - 1) p some)

-- blocks one after another are the bytes that they were cut from
joined : (p : ℕ) (bytes : List ℕ) (n : ℕ) → flat_map (cut_block p bytes) (range_with_len 0 n) ≡ take (p * n) bytes
joined p bytes zero = let none : p * zero ≡ 0 = omega arith in ap (λ m. take m bytes) (sym none)
joined p bytes (suc n) =
    let one : suc n ≡ n + 1 = omega arith in
    let at : 0 + n ≡ n = omega arith in
    let last : flat_map (cut_block p bytes) (n ∷ []) ≡ cut_block p bytes n = append-nil (cut_block p bytes n) in
    ap (λ m. flat_map (cut_block p bytes) (range_with_len 0 m)) one
    ∙ ap (flat_map (cut_block p bytes)) (range_more 0 n ∙ ap (λ k. range_with_len 0 n ++ k ∷ []) at)
    ∙ flat_map-append (cut_block p bytes) (range_with_len 0 n) (n ∷ [])
    ∙ ap (λ (l : List ℕ). l ++ flat_map (cut_block p bytes) (n ∷ [])) (joined p bytes n)
    ∙ ap (λ (l : List ℕ). take (p * n) bytes ++ l) last
    ∙ sym (take-block p bytes n) ∙ ap (λ m. take (p * m) bytes) (sym one)

-- the payloads of all blocks of a recording are its stream
pub payloads_of_all : (past : RecordingPast) → IsInLimits past.header → payloads_of (all_blocks past) ≡ recorded_bytes past
payloads_of_all past limits =
    let p = past.header.payload in
    let bytes = recorded_bytes past in
    let n = (length bytes + p - 1) / p in
    let count : length (blocks_of p bytes) ≡ n = length-map-range_with_len (cut_block p bytes) 0 n in
    let low : 64 ≤ p = limits.least_payload in
    let fill : length bytes ≤ p * n = enough p (length bytes) (omega (arith, low)) in
    flat_map-map (λ (b : Block). b.payload) (numbered_block past) (range_with_len 0 (length (blocks_of p bytes)))
    ∙ ap (λ m. flat_map (cut_block p bytes) (range_with_len 0 m)) count
    ∙ joined p bytes n ∙ take_all (p * n) bytes fill

-- the blocks of a recording are of one session
blocks_of_one : (past : RecordingPast) (places : List ℕ) → All (λ (b : Block). b.session ≡ past.session) (map (numbered_block past) places)
blocks_of_one past [] = All-nil (λ (b : Block). b.session ≡ past.session)
blocks_of_one past (i ∷ places) =
    All-cons (λ (b : Block). b.session ≡ past.session) (numbered_block past i) (map (numbered_block past) places) refl (blocks_of_one past places)

some_left : (k : ℕ) (run : List Block) → 0 < length (drop k run) → 0 < length run
some_left k run some = omega (arith, some, length-drop k run)

pub side_lists_back : (past : RecordingPast) (run : List Block) (image : List ℕ) → IsInRange past.table → IsSound past.table
    → IsInLimits past.header → HoldsRecording past run image → ListsBack past image
side_lists_back past run image range sound limits is =
    let added : List Block = all_blocks past in
    let most : ℕ = past.header.slots - 1 in
    let over : ℕ = length (run ++ added) - most in
    let kept : List Block = drop over run in
    let held : recovered_run past.header image ≡ kept ++ added = is.holds ∙ drop-append-le over run added (omega (arith, length-append run added, is.fits)) in
    let last : IsLastSession added (kept ++ added) =
    is_last_session kept added past.session is.some (blocks_of_one past (range_with_len 0 (length (blocks_of past.header.payload (recorded_bytes past)))))
    (λ some same. is.session (some_left over run some) (sym (last_session-drop over run some) ∙ same)) in
    record {
      last = (last.0, ap sessions_of held ∙ last.1);
      listing = ap (listing_of past.table) (payloads_of_all past limits) ∙ stream_lists_back past.table past.records range sound;
    }

-- ---- rows of frames on both sides

more : {X : Type 0} (xs : List X) (y : X) (ys : List X) → AreAmong xs ys → AreAmong xs (y ∷ ys)
more [] y ys among = tt
more (x ∷ xs) y ys among = inr among

among_through : {X : Type 0} (xs ys zs : List X) → AreAmong xs ys → AreAmong ys zs → AreAmong xs zs
among_through [] ys zs one two = tt
among_through (x ∷ xs) [] zs one two = absurd one
among_through (x ∷ xs) (y ∷ ys) [] one two = absurd two
among_through (x ∷ xs) (y ∷ ys) (z ∷ zs) (inl here) (inl there) = inl (here.0 ∙ there.0, among_through xs ys zs here.1 there.1)
among_through (x ∷ xs) (y ∷ ys) (z ∷ zs) (inr rest) (inl there) = inr (among_through (x ∷ xs) ys zs rest there.1)
among_through (x ∷ xs) (y ∷ ys) (z ∷ zs) one (inr rest) = inr (among_through (x ∷ xs) (y ∷ ys) zs one rest)

-- a stronger test keeps fewer
among_filters : {X : Type 0} (p q : X → Bool) → ((x : X) → p x ≡ true → q x ≡ true) → (xs : List X) → AreAmong (filter p xs) (filter q xs)
among_filters p q less [] = tt
among_filters p q less (x ∷ xs) =
    let rest = among_filters p q less xs in
    ⊎_elim
    (λ (passes : p x ≡ true).
    subst (λ ys. AreAmong ys (filter q (x ∷ xs))) (sym (cond-true (p x) _ _ passes))
    (subst (AreAmong (x ∷ filter p xs)) (sym (cond-true (q x) _ _ (less x passes))) (inl (refl, rest))))
    (λ (fails : p x ≡ false).
    subst (λ ys. AreAmong ys (filter q (x ∷ xs))) (sym (cond-false (p x) _ _ fails)) (⊎_elim
    (λ (kept : q x ≡ true). subst (AreAmong (filter p xs)) (sym (cond-true (q x) _ _ kept)) (more (filter p xs) x (filter q xs) rest))
    (λ (out : q x ≡ false). subst (AreAmong (filter p xs)) (sym (cond-false (q x) _ _ out)) rest)
    (cases_Bool (q x))))
    (cases_Bool (p x))

since_later : (t : TableRows) (records : List BusRecord) (j n f : ℕ) → j ≤ n → AreAmong (sampled_since t records n f) (sampled_since t records j f)
unfolding sampled_since
since_later t records j n f later =
    let test = λ (from : ℕ) (s : Sample). nat_le (from + reach t.frame.words s.parts) f in
    among_map (sampled_row t records f) (filter (test n) (ending_in t (f % 16))) (filter (test j) (ending_in t (f % 16)))
    (among_filters (test n) (test j) (λ s yes_it. le-leb (j + reach t.frame.words s.parts) f
    (omega (arith, leb-true (n + reach t.frame.words s.parts) f yes_it)))
    (ending_in t (f % 16)))

rows_of_side : (t : TableRows) (records : List BusRecord) (b : List ℕ) (q j m n f : ℕ) → IsInRange t → IsSound t → Survives t records b q j m
    → j ≤ f → f < j + m → j ≤ n → AreAmong (sampled_since t records n f) (rows_at t b (q + 48 * t.frame.words * (f - j)))
rows_of_side t records b q j m n f range sound survives from within later =
    let at : j + (f - j) ≡ f = omega arith in
    among_through (sampled_since t records n f) (sampled_since t records j f) (rows_at t b (q + 48 * t.frame.words * (f - j)))
    (since_later t records j n f later)
    (subst (λ k. AreAmong (sampled_since t records j k) (rows_at t b (q + 48 * t.frame.words * (f - j)))) at
    ((surviving_run_listed t records b q j m range sound survives).rows (f - j) (omega arith)))

pub rows_on_both : (t : TableRows) (records : List BusRecord) (b c : List ℕ) (q j m r k l f : ℕ) → IsInRange t → IsSound t
    → SurvivesInBoth t records b q j m c r k l f
    → AreInBoth t (sampled_since t records (max j k) f) b (q + 48 * t.frame.words * (f - j)) c (r + 48 * t.frame.words * (f - k))
rows_on_both t records b c q j m r k l f range sound is =
    let rows = sampled_since t records (max j k) f in
    record {
      one = among_map (row_line_of t) rows (rows_at t b (q + 48 * t.frame.words * (f - j)))
          (rows_of_side t records b q j m (max j k) f range sound is.one is.from_one is.in_one (omega arith));
      other = among_map (row_line_of t) rows (rows_at t c (r + 48 * t.frame.words * (f - k)))
          (rows_of_side t records c r k l (max j k) f range sound is.other is.from_other is.in_other (omega arith));
    }

all_of_side : (t : TableRows) (records : List BusRecord) (b : List ℕ) (q j m f : ℕ) → IsInRange t → IsSound t → Survives t records b q j m
    → j ≤ f → f < j + m → f % 16 ≤ f - j → rows_at t b (q + 48 * t.frame.words * (f - j)) ≡ sampled_rows t records f
all_of_side t records b q j m f range sound survives from within begun =
    let at : j + (f - j) ≡ f = omega arith in
    let late : (j + (f - j)) % 16 ≤ f - j = subst (λ k. k % 16 ≤ f - j) (sym at) begun in
    (surviving_run_listed t records b q j m range sound survives).all_rows (f - j) (omega arith) late ∙ ap (sampled_rows t records) at

pub lines_on_both : (t : TableRows) (records : List BusRecord) (b c : List ℕ) (q j m r k l f : ℕ) → IsInRange t → IsSound t
    → SurvivesInBoth t records b q j m c r k l f → f % 16 ≤ f - max j k
    → lines_at t b (q + 48 * t.frame.words * (f - j)) ≡ lines_at t c (r + 48 * t.frame.words * (f - k))
unfolding lines_at
lines_on_both t records b c q j m r k l f range sound is begun =
    ap (flat_map (row_line_of t)) (all_of_side t records b q j m f range sound is.one is.from_one is.in_one (omega arith)
    ∙ sym (all_of_side t records c r k l f range sound is.other is.from_other is.in_other (omega arith)))

-- ---- what a recording leaves

-- the session of a recording isn't that of the last block before it
session_other : (run : List Block) → 0 < length run → last_session run ≢ session_of run
session_other [] some = absurd (omega (arith, some))
session_other (b ∷ bs) some = session_goes_on (last_session (b ∷ bs))

pub image_holds : (t : TableRows) (records : List BusRecord) (entry image : List ℕ)
    → EndsWithBlocks (header_in entry) (run_in entry) (new_blocks t entry records) image → HasRoomForRecording t entry records
    → HoldsRecording (past_in t entry records) (run_in entry) image
image_holds t records entry image ends room =
    record { holds = ends; some = room.some; fits = room.fits; session = session_other (run_in entry) }

pub brought_holds : (t : TableRows) (records : List BusRecord) (lead follower image : List ℕ) → IsInLimits (header_in lead)
    → AreInStep (header_in lead) lead follower
    → EndsWithBlocks (header_in lead) (brought_run (header_in lead) lead follower) (new_blocks t lead records) image
    → HasRoomForRecording t lead records → HoldsRecording (past_in t lead records) (brought_run (header_in lead) lead follower) image
brought_holds t records lead follower image limits step ends room = record {
  holds = ends;
  some = room.some;
  fits = room.fits;
  session = λ more is.
      session_other (run_in lead) (brought_some (header_in lead) lead follower limits step more)
      (sym (brought_session (header_in lead) lead follower limits step) ∙ is);
}
