use Rattle.std.proofs.Common.{◌≡◌, ◌<◌, ◌≤◌, ◌/◌, ◌%◌, ◌+◌, ℕ, ℤ, Option, Some, refl, sym, ap, ◌∙◌, subst, arith, to_z, of_z}
use Rattle.std.specs.Int.{w64}
use Rattle.std.proofs.lemmas.Int.{to_z-of_z}
use Rattle.std.proofs.lemmas.Option.{slice_get_within}
use Rattle.fdr_layout.specs.Samples.{first_at}
use Rattle.fdr_recon.specs.declared.Row.{Row}
use Rattle.fdr_recon.specs.Kept.{RebuildKept, IsSmallValue, kept_counter}
use Rattle.fdr_recon.specs.Plans.{RowPlan}
use Rattle.fdr_recon.specs.Rows.{reach}
use Rattle.fdr_recon.proofs.KeptRows.{kept_row-none, kept_row-some}
use Rattle.fdr_recon.proofs.past.Rebuild.row_of.Goals as goal

pub returns-then-plan-self-clause-row : goal.returns-then-plan-self-clause-row
returns-then-plan-self-clause-row c s is of ends =
    let k = c.args.self.now in
    let d : c.plan.inside.reach ≡ reach k.frame.words s.parts = ap (λ (p : RowPlan). p.reach) (c.plan.view_is ∙ is) in
    let joined : c.self.inside.joined ≡ k.joined = ap (λ (x : RebuildKept). x.joined) c.self.view_is in
    let far : k.joined < c.plan.inside.reach = omega (arith, joined, c.if-plan-self.true) in
    sym (kept_row-none k s c.plan.inside.reach d far)

pub returns-clause-row : goal.returns-clause-row
returns-clause-row c s is of ends =
    let k = c.args.self.now in
    let plan = c.plan.inside in
    let all = c.plan.view_is ∙ is in
    let d : plan.reach ≡ reach k.frame.words s.parts = ap (λ (p : RowPlan). p.reach) all in
    let joined : c.self.inside.joined ≡ k.joined = ap (λ (x : RebuildKept). x.joined) c.self.view_is in
    let near : plan.reach ≤ k.joined = omega (arith, joined, c.if-plan-self.false) in
    let value : ℤ = to_z w64 (of_z w64 c.value.result) in
    let row : ℕ → ℕ → ℕ → Option Row = λ subframe word param. Some (record {
      counter = c.counter.result;
      subframe = subframe;
      word = word;
      param = param;
      value = value;
    }) in
    ap (λ n. row n plan.word plan.param) (ap (λ (p : RowPlan). p.subframe) all)
    ∙ ap (λ n. row (first_at s.parts / 12 / k.frame.words % 4 + 1) n plan.param) (ap (λ (p : RowPlan). p.word) all)
    ∙ ap (λ n. row (first_at s.parts / 12 / k.frame.words % 4 + 1) (first_at s.parts / 12 % k.frame.words + 1) n) (ap (λ (p : RowPlan). p.param) all)
    ∙ sym (kept_row-some k s k.frame.words (first_at s.parts / 12) plan.reach c.counter.result s.param value refl refl d near
    (c.counter.ensures.counter ∙ ap (kept_counter k) c.from.ensures) refl
    (to_z-of_z w64 c.value.result (record { sfits = c.value.type_inv }) ∙ c.value.ensures.value s is of ends))

pub returns-clause-range : goal.returns-clause-range
returns-clause-range c =
    let k = c.args.self.now in
    let known = c.requires in
    let param : c.plan.inside.param ≡ known.0.param = ap (λ (p : RowPlan). p.param) (c.plan.view_is ∙ known.1) in
    let within = slice_get_within k.params known.0.param known.2.param known.2.found in
    let is = c.plan.invariant in
    record {
      counter = c.counter.ensures.twelve_bits;
      subframe_low = is.2;
      subframe_high = is.3;
      word_low = is.4;
      word_high = is.5;
      param = omega (arith, param, within);
      value = subst IsSmallValue (sym (to_z-of_z w64 c.value.result (record { sfits = c.value.type_inv }))) c.value.ensures.small;
    }
