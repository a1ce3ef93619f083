use Rattle.std.proofs.Common.{◌≡◌, ◌%◌, ap, subst, ◌∙◌}
use Rattle.std.proofs.Math.Nat.{mod-eq_of_lt}
use Rattle.fdr_table.specs.Rows.{PlaceRow}
use Rattle.fdr_table.specs.Ranges.{IsPlaceInRange}
use Rattle.fdr_check.proofs.walk.first_frame.Goals as goal

pub returns-clause-first : goal.returns-clause-first
returns-clause-first c = c.from.ensures ∙ ap (λ (x : PlaceRow). x.cycle) c.place.view_is

pub returns-clause-own : goal.returns-clause-own
returns-clause-own c =
    subst (λ (x : PlaceRow). c.from.result % x.period ≡ x.cycle) c.place.view_is
    (ap (λ n. n % c.place.inside.period) c.from.ensures ∙ mod-eq_of_lt c.place.invariant.cycle)

pub returns-clause-in_range : goal.returns-clause-in_range
returns-clause-in_range c = subst IsPlaceInRange c.place.view_is c.place.invariant
