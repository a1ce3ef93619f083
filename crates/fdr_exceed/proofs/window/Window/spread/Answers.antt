use Rattle.std.proofs.Common.{◌≡◌, ◌∙◌, ap, sym, ◌≤◌, ◌==◌, true, length, Some, None, arith}
use Rattle.std.specs.Prelude.{ℤ, ◌+ℤ◌, if◌then◌else◌}
use Rattle.std.proofs.lemmas.Bool.{cond-true}
use Rattle.std.proofs.lemmas.Bool.Decides.{nat_tests}
use Rattle.std.proofs.lemmas.Int.{to_z-of_z}
use Rattle.circular_buffer.specs.Buffer.{Buffer}
use Rattle.fdr_exceed.specs.Exceedances.{spread}
use Rattle.fdr_exceed.proofs.Signs.{signs-spread, sum-fits}
use Rattle.fdr_exceed.proofs.Greatests.{watched-fits}
use mir.Syntax.{w64}
use mir.Val.{to_z, of_z}
use Rattle.fdr_exceed.proofs.window.Window.spread.Goals as goal

pub returns-then-is_full : goal.returns-then-is_full
returns-then-is_full c =
    let high = c.self.inside.high in
    let x = c.greatest.result in
    let y = c.greatest-then-is_full.result in
    let full : (length high.items == high.capacity) ≡ true = sym c.is_full.ensures ∙ c.if-is_full.true in
    let some : 1 ≤ length high.items = grind (arith, nat_tests, c.self.invariant.some_room) in
    let first = to_z-of_z w64 x (watched-fits x c.greatest.ensures.watched) in
    let second = to_z-of_z w64 y (watched-fits y c.greatest-then-is_full.ensures.watched) in
    let sum = to_z-of_z w64 (x +ℤ y) (sum-fits x y c.greatest.ensures.watched c.greatest-then-is_full.ensures.watched) in
    let is_spread = signs-spread high c.self.inside.low x y c.self.invariant some c.greatest.ensures.greatest c.greatest-then-is_full.ensures.greatest in
    ap Some
    (ap (λ (n : ℤ). to_z w64 (of_z w64 (n +ℤ to_z w64 (of_z w64 y)))) first ∙ ap (λ (n : ℤ). to_z w64 (of_z w64 (x +ℤ n))) second ∙ sum ∙ is_spread)
    ∙ sym (cond-true _ _ _ full)
    ∙ ap (λ (b : Buffer ℤ). if length b.items == b.capacity then Some (spread b.items) else None) c.self.view_is
