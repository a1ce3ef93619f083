use Rattle.std.proofs.Common.{◌≡◌, ◌==◌, take, true}
use Rattle.std.specs.List.{list_all, filter}
use Rattle.fdr_table.specs.Rows.{PlaceRow}
use Rattle.fdr_check.specs.Occurrences.{part_width}
use Rattle.fdr_check.proofs.parts.have_equal_widths.Given as goal

abbrev pub invariant-loop-place : goal.invariant-loop-place
invariant-loop-place l =
    list_all (λ (p : PlaceRow). p.width == part_width l.places l.param p.part) (filter (λ (p : PlaceRow). p.param == l.param) (take l.place-index l.places))
    ≡ true
