use Rattle.std.proofs.Common.{◌≡◌, ◌+◌, ◌-◌, ◌≤◌, ap, sym, subst, arith}
use Rattle.fdr_sampler.specs.Empty.{HasEmptyRun, IsEmptyRun}
use Rattle.fdr_sampler.specs.Kept.{SamplerKept}
use Rattle.fdr_sampler.specs.SlotWord.{slot_within}
use Rattle.fdr_sampler.specs.View.{sampler_kept}
use Rattle.fdr_sampler.specs.Past.{RepresentsSampler, sampler_with_words}
use Rattle.fdr_sampler.proofs.EmptyRuns.{Stands-empty, run_rest, words_empty}
use Rattle.fdr_sampler.proofs.sampler.Sampler.draw_empty_slots.Goals as goal

-- this many slots are empty
run : (c : goal.After-self-2-1)
    → HasEmptyRun c.self.inside.frame c.self.inside.schedule (slot_within c.self.inside.frame.words c.self.inside.slots_drawn) c.min-count.result
run c = λ j less. c.self.invariant.2.slots j (omega (arith, less, c.min-count.ensures))

pub returns-clause-zeros : goal.returns-clause-zeros
returns-clause-zeros c = λ past st k less.
    let inside = sampler_kept c.self.inside in
    words_empty inside past c.min-count.result k (subst (λ (x : SamplerKept). RepresentsSampler x past) (sym c.self.view_is) st) (run c) less

pub returns-clause-empty : goal.returns-clause-empty
returns-clause-empty c =
    let Run : SamplerKept → Type 0 = λ k. HasEmptyRun k.frame k.laid (slot_within k.frame.words k.slots_drawn) c.min-count.result in
    subst Run c.self.view_is (run c)

-- all that come next in the superframe, where there was room for more
pub returns-clause-all : goal.returns-clause-all
returns-clause-all c = λ fewer.
    let runs : c.self.inside.next_empty_slots ≡ c.min-count.result = omega (arith, fewer, c.min-count.ensures) in
    let Run : SamplerKept → Type 0 = λ k. IsEmptyRun k.frame k.laid (slot_within k.frame.words k.slots_drawn) c.min-count.result in
    let f = c.self.inside.frame in
    subst Run c.self.view_is (subst (IsEmptyRun f c.self.inside.schedule (slot_within f.words c.self.inside.slots_drawn)) runs c.self.invariant.2)

pub returns-clause-stands : goal.returns-clause-stands
returns-clause-stands c = λ past st.
    let inside = sampler_kept c.self.inside in
    subst (λ n. RepresentsSampler (record inside { slots_drawn = c.self.inside.slots_drawn + n }) (sampler_with_words past c.min-count.result))
    (sym c.from.ensures)
    (Stands-empty inside past c.min-count.result (subst (λ (x : SamplerKept). RepresentsSampler x past) (sym c.self.view_is) st) (run c))

pub invariant_of-self : goal.invariant_of-self
invariant_of-self c =
    let inside = c.self.inside in
    let inv = c.self.invariant in
    let f = inside.frame in
    let drawn = ap (λ (k : SamplerKept). k.slots_drawn) c.self.view_is in
    let few : c.min-count.result ≤ inside.next_empty_slots = omega (arith, c.min-count.ensures) in (
      record {
        words = inv.0.words;
        slots = inv.0.slots;
        params = inv.0.params;
        held = inv.0.held;
        raws = inv.0.raws;
        slots_drawn = omega (arith, drawn, c.from.ensures, c.min-count.ensures, c.requires);
      },
      inv.1,
      subst (λ n. IsEmptyRun f inside.schedule (slot_within f.words (inside.slots_drawn + n)) (inside.next_empty_slots - c.min-count.result))
          (sym c.from.ensures)
          (run_rest f inside.schedule inside.slots_drawn inside.next_empty_slots c.min-count.result inv.0.words inv.2 few),
    )
