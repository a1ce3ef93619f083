use Rattle.std.proofs.Common.{◌≡◌, ℕ, List, length, subst, arith}
use Rattle.std.specs.Prelude.{◌↔◌, IsTrue, Contains}
use Rattle.fdr_twin.specs.TwinMemory.{TwinMemory, IsTwinListed}
use Rattle.fdr_twin.proofs.memory.MemTwin.is_listed.Goals as goal

pub returns : goal.returns
returns c =
    let next : c.len.result ≡ length c.self.inside.entries.items = omega (arith, c.len.ensures, c.self.inside.entries.ok) in
    subst (λ (m : TwinMemory). IsTrue c.is_among.result ↔ IsTwinListed m) c.self.view_is
    (subst (λ (n : ℕ). IsTrue c.is_among.result ↔ Contains c.self.inside.failing.items n) next
    (subst (λ (l : List ℕ). IsTrue c.is_among.result ↔ Contains l c.len.result) c.deref.ensures.value c.is_among.ensures))
