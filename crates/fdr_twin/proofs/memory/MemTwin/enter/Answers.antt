use Rattle.std.proofs.Common.{refl}
use Rattle.fdr_twin.proofs.TwinSides.{whole_kept, fits_view}
use Rattle.fdr_twin.proofs.memory.MemTwin.enter.Goals as goal

pub invariant_of-self : goal.invariant_of-self
invariant_of-self c =
    whole_kept _ _ _ _ _ _ _ _ _ c.self.inside.turned c.args.call c.self.invariant c.in-Ok.ensures.items refl refl refl
    (fits_view _ _ c.args.call c.self.view_is c.requires.inside) c.requires.kept
