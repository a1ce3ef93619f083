use Rattle.std.proofs.Common.{◌≡◌, ◌∙◌, ap, Some, arith}
use Rattle.std.specs.Prelude.{ℤ, slice_get}
use Rattle.circular_buffer.specs.Buffer.{Buffer}
use Rattle.fdr_exceed.proofs.Falling.{unsurpassed-leaves}
use Rattle.fdr_exceed.proofs.window.leave.Goals as goal

pub returns-then-is_first-clause-first : goal.returns-then-is_first-clause-first
returns-then-is_first-clause-first c x rest same falls =
    let items = c.args.falling.now.items in
    let h = c.is_first.ensures in
    let k = c.in-Some.is in
    let here : slice_get items 0 ≡ Some x = grind arith in
    ap (λ (b : Buffer ℤ). b.items) c.pop_front.ensures.items ∙ unsurpassed-leaves x rest items falls here
