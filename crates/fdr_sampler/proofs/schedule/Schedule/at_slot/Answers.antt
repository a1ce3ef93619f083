use Rattle.std.proofs.Common.{◌<◌, ℕ, List, length, sym, ap, ◌∙◌, subst, arith}
use Rattle.fdr_layout.specs.Flat.{segment, AreStarts}
use Rattle.fdr_layout.specs.SlotParts.{Laid}
use Rattle.fdr_sampler.specs.Schedule.{SlotStep, slot_steps}
use Rattle.fdr_sampler.proofs.Scheduling.{schedule_starts, schedule_long, schedule_slot}
use Rattle.fdr_sampler.proofs.schedule.Schedule.at_slot.Goals as goal

pub steps_at-requires-clause-starts : goal.steps_at-requires-clause-starts
steps_at-requires-clause-starts c =
    let s = c.self.inside in
    subst (λ (begins : List ℕ). AreStarts begins (length c.deref-2.result.now)) (sym c.deref.ensures.value)
    (subst (λ (flat : List SlotStep). AreStarts s.starts.items (length flat)) (sym c.deref-2.ensures.value)
    (schedule_starts s.layout s.starts.items s.steps.items c.self.invariant))

pub steps_at-requires-clause-within : goal.steps_at-requires-clause-within
steps_at-requires-clause-within c =
    let s = c.self.inside in
    let long = schedule_long s.layout s.starts.items s.steps.items c.self.invariant in
    omega (arith, ap length c.deref.ensures.value, long, c.requires, ap (λ (l : Laid). length l.slots) c.self.view_is)

pub returns-clause-steps : goal.returns-clause-steps
returns-clause-steps c =
    let s = c.self.inside in
    let slot = c.args.slot in
    let below : slot < length s.layout.slots = omega (arith, c.requires, ap (λ (l : Laid). length l.slots) c.self.view_is) in
    c.steps_at.ensures ∙ ap (λ (begins : List ℕ). segment begins c.deref-2.result.now slot) c.deref.ensures.value
    ∙ ap (λ (flat : List SlotStep). segment s.starts.items flat slot) c.deref-2.ensures.value
    ∙ schedule_slot s.layout s.starts.items s.steps.items slot c.self.invariant below ∙ ap (λ (l : Laid). slot_steps l slot) c.self.view_is
