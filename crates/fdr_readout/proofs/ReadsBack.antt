-- The listing of a recording's bytes has its sampled rows and at most one gap, after them.
use Rattle.std.proofs.Common.{◌≡◌, ℕ, zero, suc, ◌+◌, ◌*◌, ◌<◌, List, ◌++◌, sym, ap, ◌∙◌, zero-add, arith}
use Rattle.std.specs.List.{range_with_len, flat_map}
use Rattle.std.proofs.lemmas.List.{append_assoc}
use Rattle.fdr_bits.specs.Bits.{bits_in}
use Rattle.fdr_bus.specs.declared.BusRecord.{BusRecord}
use Rattle.fdr_table.specs.Ranges.{IsInRange}
use Rattle.fdr_table.specs.Rows.{TableRows}
use Rattle.fdr_check.specs.Soundness.{IsSound}
use Rattle.fdr_sampler.specs.Stream.{stream_of}
use Rattle.fdr_sync.specs.Events.{events_from}
use Rattle.fdr_readout.specs.Listing.{gap_lines, rows_at, row_line_of, lines_of, listing_of}
use Rattle.fdr_readout.proofs.Recordable.{IsRecordable}
use Rattle.fdr_readout.specs.SampledRows.{sampled_rows, sampled_lines, whole_frames, sampled_listing}
use Rattle.fdr_readout.specs.Survival.{lines_at}
use Rattle.fdr_readout.proofs.Lines.{lines_from_here, lines_from_none}
use Rattle.fdr_readout.proofs.StreamFrames.{frame_place, some_words, none_behind, next_frame}
use Rattle.fdr_readout.proofs.RunFrames.{run_all_rows, whole_survives}
use Rattle.fdr_readout.proofs.SoundTables.{sound_recordable}

-- the lines of frame j of the bytes are the sampled ones
lines_read : (t : TableRows) (records : List BusRecord) (j : ℕ) → IsRecordable t → j < whole_frames t records
    → lines_at t (stream_of t records) (frame_place t.frame.words j) ≡ sampled_lines t records j
unfolding lines_at sampled_lines
lines_read t records j h early =
    let s = stream_of t records in
    let whole = whole_survives t records (whole_frames t records) h (omega arith) (omega arith) in
    let all = run_all_rows t records s 0 0 (whole_frames t records) h whole j early (omega arith) in
    ap (flat_map (row_line_of t)) (ap (rows_at t s) (sym (zero-add (frame_place t.frame.words j))) ∙ all ∙ ap (sampled_rows t records) (zero-add j))

-- the lines from frame j on, where d whole frames are left
lines_from_frame : (t : TableRows) (records : List BusRecord) (j d : ℕ) → IsRecordable t → j + d ≡ whole_frames t records →
    flat_map (lines_of t (stream_of t records)) (events_from (stream_of t records) t.frame.words (frame_place t.frame.words j))
    ≡ flat_map (sampled_lines t records) (range_with_len j d) ++ gap_lines (frame_place t.frame.words (whole_frames t records)) (bits_in (stream_of t records))
lines_from_frame t records j zero h left =
    let here : j ≡ whole_frames t records = omega arith in
    rw here (lines_from_none t (stream_of t records) (frame_place t.frame.words (whole_frames t records)) (none_behind t records h))
lines_from_frame t records j (suc d) h left =
    let w = t.frame.words in
    let b = stream_of t records in
    let early : j < whole_frames t records = omega arith in
    let next : 48 * w * j + 48 * w ≡ 48 * w * (j + 1) = omega arith in
    lines_from_here t b (frame_place w j) (some_words t records h) (next_frame t records h j early)
    ∙ rw (next, lines_read t records j h early, lines_from_frame t records (j + 1) d h (omega arith)) (sym (append_assoc (sampled_lines t records j) _ _))

-- what a recording sampled is what the listing of its bytes says
pub stream_lists_back : (t : TableRows) (records : List BusRecord) → IsInRange t → IsSound t → listing_of t (stream_of t records) ≡ sampled_listing t records
unfolding listing_of sampled_listing
stream_lists_back t records range sound =
    let start : 0 ≡ 48 * t.frame.words * 0 = omega arith in
    let h = sound_recordable t range sound in
    ap (λ free. flat_map (lines_of t (stream_of t records)) (events_from (stream_of t records) t.frame.words free)) start
    ∙ lines_from_frame t records 0 (whole_frames t records) h (omega arith)
