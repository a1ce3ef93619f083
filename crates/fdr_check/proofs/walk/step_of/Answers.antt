use Rattle.std.proofs.Common.{subst}
use Rattle.fdr_table.specs.Rows.{PlaceRow}
use Rattle.fdr_table.specs.Views.{place_view}
use Rattle.fdr_check.specs.Walks.{IsStep}
use Rattle.fdr_check.proofs.Walking.{step_single, step_many}
use Rattle.fdr_check.proofs.walk.step_of.Goals as goal

pub returns-then-place-eq0-clause-step : goal.returns-then-place-eq0-clause-step
returns-then-place-eq0-clause-step c =
    subst (λ (x : PlaceRow). IsStep c.args.words x c.args.words) c.place.view_is
    (step_single c.args.words (place_view c.place.inside) c.requires.some_words c.place.invariant.word_low c.if-place-eq0.true)

pub returns-else-place-eq0-clause-step : goal.returns-else-place-eq0-clause-step
returns-else-place-eq0-clause-step c =
    subst (λ (x : PlaceRow). IsStep c.args.words x c.place.inside.step) c.place.view_is (step_many c.args.words
    (place_view c.place.inside) c.if-place-eq0.false)
