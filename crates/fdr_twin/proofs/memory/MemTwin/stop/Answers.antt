use Rattle.std.proofs.Common.{subst, rules}
use Rattle.fdr_deck.specs.Memory.{MayStopWithin}
use Rattle.fdr_twin.specs.declared.side.Side.TheVariants.{First, Second}
use Rattle.fdr_twin.specs.TwinMemory.{TwinMemory, memory_on}
use Rattle.fdr_twin.proofs.memory.MemTwin.stop.Goals as goal

pub returns-clause-first_left : goal.returns-clause-first_left
returns-clause-first_left c =
    subst (λ (m : TwinMemory). MayStopWithin (memory_on First m) c.args.call c.in_ok-first.first.items) c.self.view_is
    (rw (c.deref.ensures.value, c.deref-2.ensures.value) at c.in_ok-first.ensures.left)

pub returns-clause-second_left : goal.returns-clause-second_left
returns-clause-second_left c =
    subst (λ (m : TwinMemory). MayStopWithin (memory_on Second m) c.args.call c.in_ok-second.second.items) c.self.view_is
    (rw (c.deref-3.ensures.value, c.deref-4.ensures.value) at c.in_ok-second.ensures.left)

pub returns-clause-second_image : goal.returns-clause-second_image
returns-clause-second_image c = search rules
