use Rattle.std.proofs.Common.{◌≡◌, ℕ, List, length, refl, sym, ap, subst, arith}
use Rattle.std.proofs.lemmas.Grind.{elements}
use Rattle.std.proofs.lemmas.List.{with_items_is}
use Rattle.fdr_sampler.specs.Kept.{SamplerKept, raw_number_at, slot_parts, HaveValues, IsDrawnWord}
use Rattle.fdr_sampler.specs.View.{sampler_kept}
use Rattle.fdr_table.specs.Rows.{FrameRow}
use Rattle.fdr_sampler.specs.Past.{RepresentsSampler}
use Rattle.fdr_sampler.proofs.Standing.{DrawsData, slot_word-stands, Stands-next}
use Rattle.fdr_sampler.proofs.sampler.Sampler.next_word.Goals as goal

draws : (c : goal.After-self-3-1) → DrawsData (sampler_kept c.self.inside) c.slot_within-slot.result c.data_word-plain.new.raws c.data_word-plain.result
draws c =
    let inside = c.self.inside in
    let slot = c.slot_within-slot.result in
    let plain = c.data_word-plain.result in
    let after = c.data_word-plain.new.raws in
    let Draws : ℕ → List ℕ → Type 0 = λ w raws. (value : ℕ → ℕ)
    → HaveValues value inside.schedule slot (raw_number_at w inside.slots_drawn inside.held.sources inside.held.words) raws
    → IsDrawnWord value (slot_parts inside.schedule slot) raws after plain in
    let words = ap (λ (f : FrameRow). f.words) c.frame.view_is in
    record {
      slot_is = c.slot_within-slot.ensures.slot;
      below = c.slot_within-slot.ensures.below;
      word = subst (λ w. Draws w inside.raws.items) words
          (subst (Draws c.frame.inside.words) c.deref_mut.ensures.value c.data_word-plain.ensures.word);
    }

pub returns-clause-word : goal.returns-clause-word
returns-clause-word c = λ past st.
    let inside = c.self.inside in
    let stood : RepresentsSampler (sampler_kept inside) past = subst (λ (k : SamplerKept). RepresentsSampler k past) (sym c.self.view_is) st in
    slot_word-stands (sampler_kept inside) past c.slot_within-slot.result c.data_word-plain.new.raws c.data_word-plain.result c.word_with-word.result stood
    (draws c) c.word_with-word.ensures.word

pub returns-clause-stands : goal.returns-clause-stands
returns-clause-stands c = λ past st.
    let inside = c.self.inside in
    let stood : RepresentsSampler (sampler_kept inside) past = subst (λ (k : SamplerKept). RepresentsSampler k past) (sym c.self.view_is) st in
    let len : length c.data_word-plain.new.raws ≡ inside.raws.len = omega (arith, c.data_word-plain.auto.raws, c.deref_mut.ensures.len) in
    Stands-next (sampler_kept inside) _ past c.slot_within-slot.result c.data_word-plain.new.raws c.data_word-plain.result stood (draws c)
    (with_items_is inside.raws c.data_word-plain.new.raws len) refl refl refl refl refl

pub invariant_of-self : goal.invariant_of-self
invariant_of-self c = grind (arith, elements) steps 2000000
