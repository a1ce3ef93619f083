-- The lines of events.
use Rattle.std.proofs.Common.{◌≡◌, ℕ, ◌*◌, ◌-◌, ◌<◌, List, [], ◌∷◌, ◌++◌, true, false}
use Rattle.std.proofs.Common.{sym, append_assoc, ltb, cond, ap, refl, ◌∙◌, arith}
use Rattle.std.proofs.lemmas.Bool.{cond-false, le-ltb}
use Rattle.std.proofs.lemmas.List.{append-nil}
use Rattle.std.proofs.lemmas.List.Concat.{flat_map-append}
use Rattle.fdr_listing.specs.Text.{gap_text}
use Rattle.std.specs.Prelude.{◌+◌}
use Rattle.std.specs.List.{flat_map}
use Rattle.fdr_bits.specs.Bits.{bits_in}
use Rattle.fdr_sync.specs.Frames.{IsFirstFrameFrom, HasNoFrameFrom}
use Rattle.fdr_sync.specs.Events.{Frame, Gap, gap_between, events_from}
use Rattle.fdr_sync.proofs.EventSteps.{events_from_first, events_from_none}
use Rattle.fdr_table.specs.Rows.{TableRows}
use Rattle.fdr_readout.specs.Listing.{gap_lines, lines_of}
use Rattle.fdr_readout.specs.Survival.{lines_at}

gap_lines_between : (t : TableRows) (b : List ℕ) (from end : ℕ) → flat_map (lines_of t b) (gap_between from end) ≡ gap_lines from end
unfolding lines_of gap_lines
gap_lines_between t b from end =
    elim (ltb from end) as (λ v. flat_map (lines_of t b) (cond v (Gap from (end - from) ∷ []) []) ≡ cond v (gap_text from (end - from)) [])
    [ true ↦ append-nil (gap_text from (end - from)) | false ↦ refl ]

-- the lines from a place on: those of the gap before the next frame, those of the frame, and those after it
pub lines_from_first : (t : TableRows) (b : List ℕ) (free p : ℕ) → 0 < t.frame.words → IsFirstFrameFrom b t.frame.words free p →
    flat_map (lines_of t b) (events_from b t.frame.words free) ≡ (gap_lines free p ++ lines_of t b (Frame p)) ++ flat_map (lines_of t b)
    (events_from b t.frame.words (p + 48 * t.frame.words))
lines_from_first t b free p some next =
    rw (events_from_first b t.frame.words free p some next, flat_map-append (lines_of t b) (gap_between free p) (Frame p ∷ _), gap_lines_between t b free p)
    (sym (append_assoc (gap_lines free p) (lines_of t b (Frame p)) _))

-- a frame at the very place where a search goes on
pub lines_from_here : (t : TableRows) (b : List ℕ) (p : ℕ) → 0 < t.frame.words → IsFirstFrameFrom b t.frame.words p p →
    flat_map (lines_of t b) (events_from b t.frame.words p) ≡ lines_at t b p ++ flat_map (lines_of t b) (events_from b t.frame.words (p + 48 * t.frame.words))
unfolding lines_of lines_at gap_lines
lines_from_here t b p some next =
    lines_from_first t b p p some next
    ∙ ap (λ (gap : List ℕ). (gap ++ lines_at t b p) ++ flat_map (lines_of t b) (events_from b t.frame.words (p + 48 * t.frame.words)))
    (cond-false _ (gap_text p (p - p)) [] (le-ltb p p (omega arith)))

-- the line of the last gap, where no frame is left
pub lines_from_none : (t : TableRows) (b : List ℕ) (free : ℕ) → HasNoFrameFrom b t.frame.words free
    → flat_map (lines_of t b) (events_from b t.frame.words free) ≡ gap_lines free (bits_in b)
lines_from_none t b free none = ap (flat_map (lines_of t b)) (events_from_none b t.frame.words free none) ∙ gap_lines_between t b free (bits_in b)
