use Rattle.std.proofs.Common.{◌≡◌, ◌==◌, take, None}
use Rattle.std.specs.List.{find}
use Rattle.fdr_table.specs.Rows.{PlaceRow}
use Rattle.fdr_check.proofs.faults.first_on_sync.Given as goal

abbrev pub invariant-loop-place : goal.invariant-loop-place
invariant-loop-place l = find (λ (p : PlaceRow). p.word == 1) (take l.place-index l.places) ≡ None
