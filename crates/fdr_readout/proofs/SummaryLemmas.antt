-- The summary of bits is what is counted of their entries.
use Rattle.std.proofs.Common.{◌≡◌, ℕ, ◌+◌, ◌-◌, ◌*◌, ◌%◌, ◌^◌, ◌<◌, ◌≤◌, true, false, cond, List, [], ◌∷◌, length, map, refl, ap, ◌∙◌}
use Rattle.std.proofs.Common.{arith, leb, length-append, suc}
use Rattle.std.proofs.lemmas.List.{length-map}
use Rattle.std.proofs.lemmas.List.FromFn.{length-range_with_len}
use Rattle.std.specs.Prelude.{Option, sum_by, filter}
use Rattle.std.specs.List.{flat_map, filter_map, range_with_len}
use Rattle.std.proofs.lemmas.List.Elements.{filter_map-append, filter-append}
use Rattle.std.proofs.lemmas.List.Sums.{length-filter, count_by-le-length}
use Rattle.fdr_lists.proofs.Filters.{filter_map_fewer}
use Rattle.fdr_bits.specs.Bits.{bits_in}
use Rattle.fdr_sync.specs.Frames.{is_frame_position}
use Rattle.fdr_sync.specs.Accepted.{accepted_frames, accepted_from, chosen_from, frame_positions}
use Rattle.fdr_sync.specs.Events.{Event, Frame, Gap, frame_of_event, events_of}
use Rattle.fdr_sync.proofs.EventLemmas.{frames_of_events}
use Rattle.fdr_table.specs.Rows.{TableRows}
use Rattle.fdr_check.specs.Soundness.{IsSound}
use Rattle.fdr_layout.specs.Samples.{samples, ending_in}
use Rattle.fdr_layout.proofs.ByLastPart.{ending_among}
use Rattle.fdr_layout.proofs.Few.{ending_few, samples_few}
use Rattle.fdr_recon.specs.declared.Row.{Row}
use Rattle.fdr_recon.specs.Rows.{ReadFrame, rows_of_frame, rows_looked_at, row_of, frame_at, cycle_of_frame}
use Rattle.fdr_readout.specs.declared.tally.Summary.{Summary}
use Rattle.fdr_readout.specs.Listing.{rows_at, accepted_to, frame_read}
use Rattle.fdr_readout.specs.Entries.{Entry, RowEntry, entries_at, entries_of, row_of_entry, is_frame_entry}
use Rattle.fdr_readout.specs.Summary.{Tallies, no_summary, rows_among, value_bits, listed_rows}

-- ---- what is counted of entries

rows_among_rows : (rows : List Row) → rows_among (map RowEntry rows) ≡ rows
rows_among_rows [] = refl
rows_among_rows (r ∷ rows) = ap (λ (rest : List Row). r ∷ rest) (rows_among_rows rows)

no_frame_among_rows : (rows : List Row) → filter is_frame_entry (map RowEntry rows) ≡ []
no_frame_among_rows [] = refl
no_frame_among_rows (r ∷ rows) = no_frame_among_rows rows

rows_of_events : (t : TableRows) (b : List ℕ) (es : List Event)
    → rows_among (flat_map (entries_at t b) es) ≡ flat_map (rows_at t b) (filter_map frame_of_event es)
unfolding entries_at
rows_of_events t b [] = refl
rows_of_events t b (Frame a ∷ es) =
    filter_map-append row_of_entry (map RowEntry (rows_at t b a)) (flat_map (entries_at t b) es)
    ∙ rw (rows_among_rows (rows_at t b a), rows_of_events t b es) refl
rows_of_events t b (Gap a n ∷ es) = rows_of_events t b es

frames_of_entries : (t : TableRows) (b : List ℕ) (es : List Event)
    → length (filter is_frame_entry (flat_map (entries_at t b) es)) ≡ length (filter_map frame_of_event es)
unfolding entries_at
frames_of_entries t b [] = refl
frames_of_entries t b (Frame a ∷ es) =
    rw (filter-append is_frame_entry (map RowEntry (rows_at t b a)) (flat_map (entries_at t b) es), no_frame_among_rows (rows_at t b a))
    (ap (λ n. suc n) (frames_of_entries t b es))
frames_of_entries t b (Gap a n ∷ es) = frames_of_entries t b es

pub rows_are : (t : TableRows) (b : List ℕ) → rows_among (entries_of t b) ≡ listed_rows t b
unfolding entries_of listed_rows
rows_are t b = rows_of_events t b (events_of b t.frame.words) ∙ ap (flat_map (rows_at t b)) (frames_of_events b t.frame.words)

pub frames_are : (t : TableRows) (b : List ℕ) → length (filter is_frame_entry (entries_of t b)) ≡ length (accepted_frames b t.frame.words)
unfolding entries_of
frames_are t b = frames_of_entries t b (events_of b t.frame.words) ∙ ap length (frames_of_events b t.frame.words)

-- ---- there are few of them

few_chosen : (len free : ℕ) (ps : List ℕ) → length (chosen_from len free ps) ≤ length ps
unfolding chosen_from
few_chosen len free [] = omega arith
few_chosen len free (p ∷ ps) =
    elim (leb free p) as (λ v. length (cond v (p ∷ chosen_from len (p + len) ps) (chosen_from len free ps)) ≤ length (p ∷ ps)) [
      | true ↦ omega (arith, few_chosen len (p + len) ps)
      | false ↦ omega (arith, few_chosen len free ps)
    ]

pub few_frames : (b : List ℕ) (w : ℕ) → length (accepted_frames b w) ≤ bits_in b
unfolding accepted_from
few_frames b w =
    let all = range_with_len 0 (bits_in b) in
    let test = is_frame_position b w in
    omega (arith, few_chosen (48 * w) 0 (frame_positions b w), length-filter test all, count_by-le-length test all, length-range_with_len 0 (bits_in b))

few_rows_of_frame : (t : TableRows) (frames : List ReadFrame) (i : ℕ) → IsSound t → length (rows_of_frame t frames i) ≤ 262144
unfolding rows_of_frame rows_looked_at ending_in ending_among
few_rows_of_frame t frames i sound =
    let cycle = cycle_of_frame t.frame (frame_at frames i).words in
    let fewer = filter_map_fewer (λ (r : Option Row). r) (rows_looked_at t frames i) in
    omega (arith, fewer, length-map (ending_in t cycle) (row_of t frames i), ending_few t.frame.words (samples t) cycle, samples_few t sound)

few_rows : (t : TableRows) (b : List ℕ) (xs : List ℕ) → IsSound t → length (flat_map (rows_at t b) xs) ≤ 262144 * length xs
unfolding rows_at
few_rows t b [] sound = omega arith
few_rows t b (x ∷ xs) sound =
    let before = accepted_to b t.frame.words x in
    let here = few_rows_of_frame t (map (frame_read b t.frame.words) before) (length before - 1) sound in
    omega (arith, length-append (rows_at t b x) (flat_map (rows_at t b) xs), here, few_rows t b xs sound)

pub few_listed : (t : TableRows) (b : List ℕ) → IsSound t → length (listed_rows t b) ≤ 262144 * length (accepted_frames b t.frame.words)
unfolding listed_rows
few_listed t b sound = few_rows t b (accepted_frames b t.frame.words) sound

-- ---- the summary

-- what is counted from nothing on, of entries of which the frames and the rows are known
pub counted_is : (entries : List Entry) (frames : ℕ) (rows : List Row) (now : Summary)
    → length (filter is_frame_entry entries) ≡ frames → rows_among entries ≡ rows → frames < 2 ^ 64 → length rows < 2 ^ 64 → Tallies no_summary now entries
    → now ≡ record { frames = frames; rows = length rows; sum = sum_by value_bits rows % 2 ^ 64 }
counted_is entries frames rows now frames_are rows_are few_frames few_rows h =
    let fits = h.fits (record { frames = omega arith; rows = omega arith; sum = omega arith }) in
    let frames_now : now.frames ≡ frames = omega (arith, rw frames_are at h.frames, fits.frames) in
    let rows_now : now.rows ≡ length rows = omega (arith, rw rows_are at h.rows, fits.rows) in
    let sum_now : now.sum ≡ sum_by value_bits rows % 2 ^ 64 = omega (arith, rw rows_are at h.sum, fits.sum) in
    rw (← frames_now, ← rows_now, ← sum_now) refl
