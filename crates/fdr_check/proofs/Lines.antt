-- The lines of the report.
use Rattle.std.proofs.Common.{◌≡◌, ℕ, ◌+◌, ◌<◌, ◌≤◌, ◌++◌, List, length, get_or, take, ap, sym, ◌∙◌}
use Rattle.std.specs.List.{flat_map, enumerate_from}
use Rattle.std.proofs.lemmas.List.{append_assoc, take_all}
use Rattle.fdr_table.specs.Rows.{ParamRow, PlaceRow, TableRows}
use Rattle.fdr_check.specs.Occurrences.{occurrences}
use Rattle.fdr_check.specs.Report.{is_even, frame_line, param_line, report_of}
use Rattle.fdr_check.specs.Groups.{grouped}
use Rattle.fdr_check.proofs.Grouping.{group_at}
use Rattle.fdr_check.proofs.Slotting.{is_even_of}
use Rattle.fdr_check.proofs.Stretches.{flat_map-enumerate_from_more}

abbrev pub line_at : TableRows → ℕ × ParamRow → List ℕ
line_at t e = param_line (is_even t.frame.words t.places e.0 e.1.rate) e.1

abbrev pub first_line : TableRows → List ℕ
first_line t = frame_line t.frame.words (length t.params) (length (occurrences t.frame.words t.places))

pub line_step : (t : TableRows) (params : List ParamRow) (groups : List (List PlaceRow)) (i : ℕ) (p : ParamRow) (g : List PlaceRow) (w : ℕ)
    (front old new : List ℕ) → w ≡ t.frame.words → groups ≡ grouped t.places (length params) → i < length params → p ≡ get_or params i p
    → g ≡ get_or groups i g → old ≡ front ++ flat_map (line_at t) (enumerate_from 0 (take i params))
    → new ≡ old ++ param_line (is_even w g i p.rate) p → new ≡ front ++ flat_map (line_at t) (enumerate_from 0 (take (i + 1) params))
line_step t params groups i p g w front old new words are l is read so_far more =
    let before = flat_map (line_at t) (enumerate_from 0 (take i params)) in
    let even : is_even w g i p.rate ≡ is_even t.frame.words t.places i p.rate =
    ap (λ k. is_even k g i p.rate) words ∙ ap (λ ps. is_even t.frame.words ps i p.rate) (group_at t.places (length params) i groups g are l read)
    ∙ is_even_of t.frame.words t.places i p.rate in
    let line = param_line (is_even w g i p.rate) p in
    let here : line ≡ line_at t (i, get_or params i p) = ap (λ b. param_line b p) even ∙ ap (λ (x : ParamRow). line_at t (i, x)) is in
    more ∙ ap (λ xs. xs ++ line) so_far ∙ append_assoc front before line ∙ ap (λ xs. front ++ (before ++ xs)) here
    ∙ ap (λ xs. front ++ xs) (sym (flat_map-enumerate_from_more (line_at t) params i p l))

pub all_lines : (t : TableRows) (params : List ParamRow) (i : ℕ) (text : List ℕ) → params ≡ t.params → length params ≤ i
    → text ≡ first_line t ++ flat_map (line_at t) (enumerate_from 0 (take i params)) → text ≡ report_of t
unfolding report_of
all_lines t params i text same past so_far =
    so_far ∙ ap (λ ps. first_line t ++ flat_map (line_at t) (enumerate_from 0 ps)) (take_all i params past ∙ same)
