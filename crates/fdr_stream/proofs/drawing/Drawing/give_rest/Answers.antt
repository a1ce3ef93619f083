use Rattle.std.proofs.Common.{◌≡◌, ◌≤◌, ℕ, List, ◌++◌, length, ap, ◌∙◌, arith, length-append, rules}
use Rattle.std.proofs.lemmas.Grind.{common_steps}
use Rattle.fdr_stream.specs.Packing.{last_byte}
use Rattle.fdr_stream.specs.Kept.{StreamKept}
use Rattle.fdr_stream.proofs.PackingLemmas.{length-last_byte}
use Rattle.fdr_stream.proofs.drawing.Drawing.give_rest.Goals as goal

-- all that wait fit a block
few : (c : goal.After-give-arg-2-1) → c.len-count.result ≤ c.args.self.now.payload
few c =
    let k = c.args.self.now in
    let left : c.self.inside.waiting.items ≡ k.bytes ++ last_byte k.odd = ap (λ (x : StreamKept). x.bytes) (c.self.view_is ∙ c.fill_byte.ensures) in
    omega (
      arith,
      c.len-count.ensures.len,
      ap (λ (xs : List ℕ). length xs) left,
      length-append k.bytes (last_byte k.odd),
      length-last_byte k.odd,
      c.requires.few,
    )

pub give-requires-clause-room : goal.give-requires-clause-room
give-requires-clause-room c =
    omega (arith, few c, ap (λ (x : StreamKept). x.payload) (c.self.view_is ∙ c.fill_byte.ensures), c.self.invariant.room)

pub give-requires-clause-fits : goal.give-requires-clause-fits
give-requires-clause-fits c = omega (arith, few c, c.requires.room)

pub returns-clause-count : goal.returns-clause-count
returns-clause-count c = search rules

pub returns-clause-rest : goal.returns-clause-rest
returns-clause-rest c = grind (arith, common_steps) steps 2000000

pub returns-clause-left : goal.returns-clause-left
returns-clause-left c = grind (arith, common_steps) steps 2000000
