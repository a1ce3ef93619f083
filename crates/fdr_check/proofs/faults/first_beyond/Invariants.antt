use Rattle.std.proofs.Common.{◌≡◌, nat_lt, take, None}
use Rattle.std.specs.List.{find}
use Rattle.fdr_table.specs.Rows.{PlaceRow}
use Rattle.fdr_check.proofs.faults.first_beyond.Given as goal

abbrev pub invariant-loop-place : goal.invariant-loop-place
invariant-loop-place l = find (λ (p : PlaceRow). nat_lt l.words p.word) (take l.place-index l.places) ≡ None
