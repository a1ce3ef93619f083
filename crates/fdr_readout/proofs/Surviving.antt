-- What survives of a recording is listed.
use Rattle.std.proofs.Common.{◌≡◌, ℕ, ◌+◌, ◌*◌, ◌%◌, ◌<◌, ◌≤◌, List, sym, ap, ◌∙◌}
use Rattle.std.specs.List.{flat_map}
use Rattle.fdr_bus.specs.declared.BusRecord.{BusRecord}
use Rattle.fdr_table.specs.Ranges.{IsInRange}
use Rattle.fdr_table.specs.Rows.{TableRows}
use Rattle.fdr_check.specs.Soundness.{IsSound}
use Rattle.fdr_sampler.specs.Stream.{stream_of}
use Rattle.fdr_readout.specs.Listing.{rows_at, row_line_of}
use Rattle.fdr_readout.specs.SampledRows.{whole_frames}
use Rattle.fdr_readout.specs.Survival.{StandIn, IsClearBefore, Survives, AreListed, AreInBoth, sampled_since, lines_at}
use Rattle.fdr_readout.proofs.Among.{among_map}
use Rattle.fdr_readout.proofs.SoundTables.{sound_recordable}
use Rattle.fdr_readout.proofs.RunFrames.{run_in_a_row, run_rows, run_all_rows, run_lines, whole_survives}

-- a surviving run is listed, with the rows that were sampled
pub surviving_run_listed : (t : TableRows) (records : List BusRecord) (b : List ℕ) (q j m : ℕ) → IsInRange t → IsSound t → Survives t records b q j m →
    AreListed t records b q j m
surviving_run_listed t records b q j m range sound survives =
    let h = sound_recordable t range sound in
    record {
      accepted = run_in_a_row t records b q j m h survives;
      lines = run_lines t records b q j m h survives;
      rows = run_rows t records b q j m h survives;
      all_rows = run_all_rows t records b q j m h survives;
    }

-- the first whole frames of a recording survive in its own bytes
pub survives_itself : (t : TableRows) (records : List BusRecord) (m : ℕ) → IsInRange t → IsSound t → 1 ≤ m → m ≤ whole_frames t records →
    Survives t records (stream_of t records) 0 0 m
survives_itself t records m range sound some few = whole_survives t records m (sound_recordable t range sound) some few

-- frames survive wherever their bits stand, unless another frame reaches into them there
pub survives_elsewhere : (t : TableRows) (records : List BusRecord) (b c : List ℕ) (q r j m : ℕ) → Survives t records b q j m →
    StandIn b q (48 * t.frame.words * m) c r → IsClearBefore c t.frame.words r → Survives t records c r j m
survives_elsewhere t records b c q r j m survives stand clear = record {
  not_empty = survives.not_empty;
  whole = survives.whole;
  stand = record { within = stand.within; same = λ x low. stand.same x low ∙ survives.stand.same x low };
  clear = clear;
}

-- the rows of a run that survives in two bit lists are in both listings
pub rows_in_both : (t : TableRows) (records : List BusRecord) (b c : List ℕ) (q r j m : ℕ) → IsInRange t → IsSound t →
    Survives t records b q j m → Survives t records c r j m → (i : ℕ) → i < m →
    AreInBoth t (sampled_since t records j (j + i)) b (q + 48 * t.frame.words * i) c (r + 48 * t.frame.words * i)
rows_in_both t records b c q r j m range sound one other i early =
    let h = sound_recordable t range sound in
    let rows = sampled_since t records j (j + i) in
    record {
      one = among_map (row_line_of t) rows (rows_at t b (q + 48 * t.frame.words * i)) (run_rows t records b q j m h one i early);
      other = among_map (row_line_of t) rows (rows_at t c (r + 48 * t.frame.words * i)) (run_rows t records c r j m h other i early);
    }

-- and the frames whose superframe begins in the run have the same lines in both
pub lines_in_both : (t : TableRows) (records : List BusRecord) (b c : List ℕ) (q r j m : ℕ) → IsInRange t → IsSound t →
    Survives t records b q j m → Survives t records c r j m → (i : ℕ) → i < m → (j + i) % 16 ≤ i →
    lines_at t b (q + 48 * t.frame.words * i) ≡ lines_at t c (r + 48 * t.frame.words * i)
unfolding lines_at
lines_in_both t records b c q r j m range sound one other i early whole =
    let h = sound_recordable t range sound in
    ap (flat_map (row_line_of t)) (run_all_rows t records b q j m h one i early whole ∙ sym (run_all_rows t records c r j m h other i early whole))
