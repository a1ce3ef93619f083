use Rattle.std.proofs.Common.{◌≡◌, ◌<◌, ◌≤◌, ◌∷◌, ◌++◌, List, [], length, get_or, map, sym, ap, ◌∙◌, subst}
use Rattle.std.specs.List.{All}
use Rattle.std.proofs.lemmas.List.{append-nil, take_all}
use Rattle.std.proofs.lemmas.Option.{get_or_from_slice_get}
use Rattle.fdr_layout.specs.SlotParts.{SlotPart}
use Rattle.fdr_sampler.specs.Kept.{slot_parts}
use Rattle.fdr_sampler.specs.Schedule.{SlotStep, step_of}
use Rattle.fdr_sampler.proofs.Scheduling.{steps_more}
use Rattle.fdr_sampler.proofs.schedule.add_steps.Goals as goal

pub loop-part-init : goal.loop-part-init
loop-part-init c = sym (append-nil c.args.steps.now.items)

pub loop-part-preserved : goal.loop-part-preserved
loop-part-preserved c =
    let items = c.at_slot-part-items.result.now in
    let parts = slot_parts c.args.layout.now c.args.slot in
    let same : items ≡ parts = sym (get_or_from_slice_get c.args.layout.now.slots c.args.slot items [] c.at_slot-part-items.ensures.parts) in
    let i = c.loop-part.part-index in
    let a = c.part-item.result in
    c.in_ok-push.ensures ∙ ap (λ (xs : List SlotStep). xs ++ c.of.result ∷ []) c.loop-part.invariant
    ∙ steps_more (step_of c.args.owners.now c.args.firsts.now c.args.slot) c.args.steps.now.items parts i a c.of.result
    (subst (λ (xs : List SlotPart). i < length xs) same c.loop-part-test.true) (c.part-item.is ∙ ap (λ xs. get_or xs i a) same) c.of.ensures

pub returns-clause-steps : goal.returns-clause-steps
returns-clause-steps c =
    let items = c.at_slot-part-items.result.now in
    let parts = slot_parts c.args.layout.now c.args.slot in
    let same : items ≡ parts = sym (get_or_from_slice_get c.args.layout.now.slots c.args.slot items [] c.at_slot-part-items.ensures.parts) in
    let i = c.loop-part.part-index in
    let all : length parts ≤ i = subst (λ (xs : List SlotPart). length xs ≤ i) same c.loop-part-test.false in
    c.loop-part.invariant
    ∙ ap (λ xs. c.args.steps.now.items ++ map (step_of c.args.owners.now c.args.firsts.now c.args.slot) xs) (take_all i parts all)

pub returns-clause-numbers : goal.returns-clause-numbers
returns-clause-numbers c =
    let items = c.at_slot-part-items.result.now in
    let same : items ≡ slot_parts c.args.layout.now c.args.slot =
    sym (get_or_from_slice_get c.args.layout.now.slots c.args.slot items [] c.at_slot-part-items.ensures.parts) in
    subst (All (λ (a : SlotPart). a.sample < length c.args.layout.now.samples)) same c.at_slot-part-items.ensures.numbers
