use Rattle.std.proofs.Common.{◌≡◌, ◌∙◌, ap, sym, subst, ◌≤◌, length, List, Option}
use Rattle.std.specs.Prelude.{ℤ, pos, slice_get, unwrap_or}
use Rattle.std.proofs.lemmas.Int.{to_z-of_z}
use Rattle.circular_buffer.specs.Buffer.{Buffer}
use Rattle.fdr_exceed.specs.Exceedances.{highest}
use Rattle.fdr_exceed.specs.Windows.{IsWatched, unsurpassed}
use Rattle.fdr_exceed.proofs.Greatests.{front-read, front-watched, watched-fits}
use mir.Syntax.{w64}
use Rattle.fdr_exceed.proofs.window.Greatest.greatest.Goals as goal

pub returns-clause-greatest : goal.returns-clause-greatest
returns-clause-greatest c some =
    let values = c.self.inside.values.items in
    let front : c.unwrap_or.result ≡ unwrap_or (slice_get (unsurpassed values) 0) (pos 0) =
    c.unwrap_or.ensures ∙ ap (λ (o : Option ℤ). unwrap_or o (pos 0)) (c.copied.ensures ∙ c.front.ensures
    ∙ ap (λ (xs : List ℤ). slice_get xs 0) c.self.invariant.falls) in
    let watched : IsWatched c.unwrap_or.result = subst IsWatched (sym front) (front-watched values c.self.invariant.watched) in
    let some_values : 1 ≤ length values = subst (λ (b : Buffer ℤ). 1 ≤ length b.items) (sym c.self.view_is) some in
    to_z-of_z w64 c.unwrap_or.result (watched-fits c.unwrap_or.result watched) ∙ front ∙ front-read values some_values
    ∙ ap (λ (b : Buffer ℤ). highest b.items) c.self.view_is

pub returns-clause-watched : goal.returns-clause-watched
returns-clause-watched c =
    let values = c.self.inside.values.items in
    let front : c.unwrap_or.result ≡ unwrap_or (slice_get (unsurpassed values) 0) (pos 0) =
    c.unwrap_or.ensures ∙ ap (λ (o : Option ℤ). unwrap_or o (pos 0)) (c.copied.ensures ∙ c.front.ensures
    ∙ ap (λ (xs : List ℤ). slice_get xs 0) c.self.invariant.falls) in
    let watched : IsWatched c.unwrap_or.result = subst IsWatched (sym front) (front-watched values c.self.invariant.watched) in
    subst IsWatched (sym (to_z-of_z w64 c.unwrap_or.result (watched-fits c.unwrap_or.result watched))) watched
