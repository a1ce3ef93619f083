use Rattle.std.proofs.Common.{◌≡◌, ℕ, List, length, subst, arith}
use Rattle.std.specs.Prelude.{◌↔◌, IsTrue, Contains}
use Rattle.fdr_deck.specs.Memory.{Memory, IsListed}
use Rattle.fdr_deck.proofs.memory.MemDeck.fails.Goals as goal

pub returns : goal.returns
returns c =
    let next : c.len.result ≡ length c.self.inside.entries.items = omega (arith, c.len.ensures, c.self.inside.entries.ok) in
    subst (λ (m : Memory). IsTrue c.is_listed.result ↔ IsListed m) c.self.view_is
    (subst (λ (n : ℕ). IsTrue c.is_listed.result ↔ Contains c.self.inside.failing.items n) next
    (subst (λ (l : List ℕ). IsTrue c.is_listed.result ↔ Contains l c.len.result) c.deref.ensures.value c.is_listed.ensures))
