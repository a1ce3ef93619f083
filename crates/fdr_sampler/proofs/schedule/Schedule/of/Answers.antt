use Rattle.std.proofs.Common.{◌≡◌, ◌+◌, ◌<◌, ℕ, List, length, map, ap, ◌∙◌, subst, below_more, arith}
use Rattle.std.proofs.lemmas.Grind.{common_steps, moves}
use Rattle.std.specs.List.{All, flat_map, range_with_len}
use Rattle.fdr_layout.specs.Samples.{Sample}
use Rattle.fdr_layout.specs.SlotParts.{SlotPart}
use Rattle.fdr_layout.proofs.Flats.{ends}
use Rattle.fdr_sampler.specs.Kept.{slot_parts}
use Rattle.fdr_sampler.specs.Schedule.{steps_in, slot_steps}
use Rattle.fdr_sampler.proofs.Scheduling.{steps_on, starts_on}
use Rattle.fdr_sampler.proofs.schedule.Schedule.of.Goals as goal

pub loop-slot-preserved : goal.loop-slot-preserved
loop-slot-preserved c =
    let l = c.args.layout in
    let slot = c.loop-slot.slot in
    let firsts = c.deref-in-loop-slot.result.now in
    let own : steps_in c.deref.result.now firsts l slot ≡ slot_steps l slot =
    ap (λ (ps : List ℕ). steps_in ps firsts l slot) (c.deref.ensures.value ∙ c.in_ok-owners.ensures ∙ c.requires.owners)
    ∙ ap (λ (ks : List ℕ). steps_in (map (λ (s : Sample). s.param) l.samples) ks l slot) (c.deref-in-loop-slot.ensures.value ∙ c.in_ok-firsts.ensures) in
    let steps = c.in_ok-add_steps.ensures.steps ∙ steps_on l c.loop-slot.steps.items _ slot c.loop-slot.invariant.steps own in
    record {
      steps = steps;
      starts = c.in_ok-push-2.ensures ∙ starts_on l c.loop-slot.starts.items c.add_steps.new.steps.items slot c.len.result c.loop-slot.invariant.starts steps
          (omega (arith, c.len.ensures));
      numbers = below_more (λ k. All (λ (a : SlotPart). a.sample < length l.samples) (slot_parts l k)) slot c.loop-slot.invariant.numbers
          c.in_ok-add_steps.ensures.numbers;
    }

pub invariant_of-result : goal.invariant_of-result
invariant_of-result c =
    let l = c.args.layout in
    let inv = c.loop-slot.invariant in
    let all : c.loop-slot.slot ≡ length l.slots = omega (arith, c.loop-slot-test.false, c.loop-slot.auto.slot-end, c.requires.slots) in
    record {
      steps = subst (λ n. c.loop-slot.steps.items ≡ flat_map (slot_steps l) (range_with_len 0 n)) all inv.steps;
      starts = subst (λ n. c.loop-slot.starts.items ≡ map (ends (slot_steps l)) (range_with_len 0 (n + 1))) all inv.starts;
      numbers = λ k below. inv.numbers k (omega (arith, below, all));
    }

pub returns-in_err-owners : goal.returns-in_err-owners
returns-in_err-owners c = grind (arith, moves) steps 2000000

pub returns-in_err-firsts : goal.returns-in_err-firsts
returns-in_err-firsts c = grind (arith, moves) steps 2000000

pub returns-in_err-starts : goal.returns-in_err-starts
returns-in_err-starts c = grind (arith, moves) steps 2000000

pub add_steps-requires-clause-owners : goal.add_steps-requires-clause-owners
add_steps-requires-clause-owners c = grind (arith, common_steps) steps 2000000

pub add_steps-requires-clause-firsts : goal.add_steps-requires-clause-firsts
add_steps-requires-clause-firsts c = grind (arith, common_steps) steps 2000000
