use Rattle.std.proofs.Common.{refl, sym}
use Rattle.fdr_twin.proofs.TwinSides.{whole_more, fits_view, held_view}
use Rattle.fdr_twin.proofs.memory.MemTwin.enter_changed.Goals as goal

pub invariant_of-self : goal.invariant_of-self
invariant_of-self c =
    whole_more _ _ _ _ _ _ _ _ _ c.self.inside.turned c.args.call c.self.invariant c.in-Ok.ensures.items refl refl refl
    (fits_view _ _ c.args.call c.self.view_is c.requires.inside) _ _
    (rw c.in-First.is (sym (rw (held_view _ _ c.self.view_is, c.in-First.is, c.self.invariant.first_held) at c.requires.is)))
    (rw c.in-First.is refl)

pub invariant_of-self-in-Second : goal.invariant_of-self-in-Second
invariant_of-self-in-Second c =
    whole_more _ _ _ _ _ _ _ _ _ c.self.inside.turned c.args.call c.self.invariant c.in-Ok.ensures.items refl refl refl
    (fits_view _ _ c.args.call c.self.view_is c.requires.inside) _ _
    (rw c.in-Second.is refl)
    (rw c.in-Second.is (sym (rw (held_view _ _ c.self.view_is, c.in-Second.is, c.self.invariant.second_held) at c.requires.is)))
