use Rattle.std.proofs.Common.{◌≡◌, ℕ, ◌+◌, ◌-◌, ◌/◌, ◌%◌, ◌<◌, ◌≤◌, List, [], ◌∷◌, ◌++◌, length, length-set, map, take, refl, sym, ap, ◌∙◌, subst, arith}
use Rattle.std.proofs.lemmas.Grind.{elements}
use Rattle.std.specs.Prelude.{slice_set}
use Rattle.std.specs.List.{All}
use Rattle.std.proofs.lemmas.List.{get_or-map, length-map, take_all, take_more, take_more_set, map_push}
use Rattle.std.proofs.lemmas.List.Elements.{All-push}
use Rattle.fdr_check.specs.Occurrences.{cycle_of}
use Rattle.fdr_layout.specs.Listed.{sample_in}
use Rattle.fdr_layout.specs.Samples.{Part, first_at}
use Rattle.fdr_layout.specs.SlotParts.{SlotPart, plain_parts}
use Rattle.fdr_recon.specs.declared.plans.Field.{Field}
use Rattle.fdr_recon.specs.Plans.{RowPlan, field_plan, FitsWord}
use Rattle.fdr_recon.specs.Rows.{reach}
use Rattle.fdr_recon.proofs.KeptRows.{parts_of_listed, reach_is}
use Rattle.fdr_recon.proofs.plans.plan_of.Goals as goal

pub field_of-requires-clause-ends : goal.field_of-requires-clause-ends
field_of-requires-clause-ends c =
    let l = c.args.layout.now in
    let e = c.args.sample.now in
    let items = c.parts-part-items.result.now in
    let i = c.loop-part.part-index in
    let a = c.part-item.result in
    let plain : SlotPart → Part = λ x. x.part in
    let Up : Part → Type 0 = λ p. cycle_of c.args.words p.at ≤ c.args.cycle in
    let parts = parts_of_listed l l e items refl c.parts-part-items.ensures.parts in
    let at = subst (All Up) (sym parts) c.requires.ends.parts i a.part (omega (arith, length-map items plain, c.loop-part-test.true)) in
    subst Up (get_or-map plain items i a a.part c.loop-part-test.true ∙ ap plain (sym c.part-item.is)) at

pub loop-part-preserved : goal.loop-part-preserved
loop-part-preserved c =
    let items = c.parts-part-items.result.now in
    let i = c.loop-part.part-index in
    let a = c.part-item.result in
    let x = c.field_of.result in
    let before = c.loop-part.fields in
    let inv = c.loop-part.invariant in
    let plain : SlotPart → Part = λ y. y.part in
    let f = field_plan c.args.words c.args.cycle in
    let at : c.from-in-loop-part.result ≡ c.loop-part.count = c.from-in-loop-part.ensures in
    let room : c.loop-part.count < length before = omega (arith, inv.long, inv.count, c.loop-part-test.true, c.parts-part-items.ensures.four_parts) in
    let set : take (c.loop-part.count + 1) (slice_set before c.from-in-loop-part.result x) ≡ take c.loop-part.count before ++ x ∷ [] =
    ap (λ n. take (c.loop-part.count + 1) (slice_set before n x)) at ∙ take_more_set before c.loop-part.count x room in
    let more : map f (plain_parts (take (i + 1) items)) ≡ map f (plain_parts (take i items)) ++ f a.part ∷ [] =
    ap (λ ys. map f (plain_parts ys)) (take_more items i a c.loop-part-test.true ∙ ap (λ y. take i items ++ y ∷ []) (sym c.part-item.is))
    ∙ ap (map f) (map_push plain (take i items) a) ∙ map_push f (plain_parts (take i items)) a.part in
    record {
      long = length-set before c.from-in-loop-part.result x ∙ inv.long;
      count = ap (λ n. n + 1) inv.count;
      fields = set ∙ ap (λ ys. ys ++ x ∷ []) inv.fields ∙ ap (λ y. map f (plain_parts (take i items)) ++ y ∷ []) c.field_of.ensures.field ∙ sym more;
      fit = subst (All FitsWord) (sym set) (All-push FitsWord (take c.loop-part.count before) x inv.fit c.field_of.ensures.fits);
    }

pub returns : goal.returns
returns c =
    let l = c.args.layout.now in
    let e = c.args.sample.now in
    let w = c.args.words in
    let items = c.parts-part-items.result.now in
    let i = c.loop-part.part-index in
    let s = sample_in l e in
    let first = c.requires.listed.first in
    let f = field_plan w c.args.cycle in
    let all : take i items ≡ items = take_all i items (omega (arith, c.loop-part-test.false)) in
    let fields : take c.loop-part.count c.loop-part.fields ≡ map f s.parts =
    c.loop-part.invariant.fields ∙ ap (λ ys. map f (plain_parts ys)) all
    ∙ ap (map f) (parts_of_listed l l e items refl c.parts-part-items.ensures.parts) in
    let slot : c.from-slot.result ≡ first_at s.parts / 12 = c.from-slot.ensures ∙ first in
    let far : c.saturating_sub.result ≡ reach w s.parts =
    reach_is s w w c.args.cycle e.first c.saturating_sub.result refl c.requires.ends first
    (c.saturating_sub.ensures ∙ ap (λ n. n - c.frame_of.result) c.from-2.ensures ∙ ap (λ n. c.args.cycle - n) c.frame_of.ensures) in
    let Plan : ℕ → ℕ → ℕ → List Field → RowPlan = λ d subframe word ys. record { param = e.param; reach = d; subframe = subframe; word = word; fields = ys } in
    ap (λ d. Plan d c.subframe_of.result c.word_of.result (take c.loop-part.count c.loop-part.fields)) far
    ∙ ap (λ n. Plan (reach w s.parts) n c.word_of.result (take c.loop-part.count c.loop-part.fields)) (c.subframe_of.ensures ∙ ap (λ k. k / w % 4 + 1) slot)
    ∙ ap (λ n. Plan (reach w s.parts) (first_at s.parts / 12 / w % 4 + 1) n (take c.loop-part.count c.loop-part.fields))
    (c.word_of.ensures ∙ ap (λ k. k % w + 1) slot)
    ∙ ap (Plan (reach w s.parts) (first_at s.parts / 12 / w % 4 + 1) (first_at s.parts / 12 % w + 1)) fields

pub parts-part-items-requires : goal.parts-part-items-requires
parts-part-items-requires c = grind (arith, elements) steps 2000000
