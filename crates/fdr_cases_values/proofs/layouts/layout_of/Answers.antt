use Rattle.std.proofs.Common.{◌≤◌, ◌*◌, length, sym, subst, arith}
use Rattle.std.proofs.lemmas.List.FromFn.{length-map-range_with_len}
use Rattle.fdr_frame.proofs.WordCounts.{word_count_bounds}
use Rattle.fdr_table.specs.Rows.{TableRows}
use Rattle.fdr_table.specs.Ranges.{IsInRange}
use Rattle.fdr_layout.specs.SlotParts.{Laid, laid_of, parts_in}
use Rattle.fdr_cases_values.proofs.layouts.layout_of.Goals as goal

slots_many : (t : TableRows) → IsInRange t → 4096 ≤ length (laid_of t).slots
slots_many t in_range =
    let bounds = word_count_bounds t.frame.words in_range.frame.words in
    omega (arith, bounds.0, length-map-range_with_len (parts_in t) 0 (64 * t.frame.words))

pub returns : goal.returns
returns c =
    subst (λ (l : Laid). 4096 ≤ length l.slots) (sym c.in-Ok.ensures) (slots_many c.in_ok-sound.sound c.holds.ensures.in_range)
