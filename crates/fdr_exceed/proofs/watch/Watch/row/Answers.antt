use Rattle.std.proofs.Common.{◌≡◌, ◌∙◌, ◌+◌, ◌<◌, ℕ, ◌++◌, ◌∷◌, [], Option, ap, sym, refl, subst, List, length, arith}
use Rattle.std.specs.Prelude.{All, ℤ, slice_index}
use Rattle.std.proofs.lemmas.List.{with_items_is}
use Rattle.circular_buffer.specs.Buffer.{Buffer}
use Rattle.fdr_exceed.specs.declared.hits.Hits.{Hits}
use Rattle.fdr_exceed.specs.declared.rule.Rule.{Rule}
use Rattle.fdr_exceed.specs.declared.watch.Exceedance.{Exceedance}
use Rattle.fdr_exceed.specs.Exceedances.{RowStep}
use Rattle.fdr_exceed.specs.View.{watch_kept}
use Rattle.fdr_exceed.specs.Watching.{AreNexts, AreSources, AreWindows, IsNextOf, IsWithinHits, RepresentsWatch, WatchKept}
use Rattle.fdr_exceed.proofs.Sharing.{windows-ahead, windows-behind}
use Rattle.fdr_exceed.proofs.Standing.{stands-given}
use Rattle.fdr_exceed.proofs.watch.Watch.row.Goals as goal

pub start_of-start-requires-clause-first : goal.start_of-start-requires-clause-first
start_of-start-requires-clause-first c =
    subst (λ (xs : List ℕ). (p : ℕ) → p < length xs → IsNextOf c.deref.result.now 0 p (slice_index xs p)) (sym c.deref-2.ensures.value)
    (subst (λ (rs : List Rule). (p : ℕ) → p < length c.self.inside.first.items → IsNextOf rs 0 p (slice_index c.self.inside.first.items p))
    (sym c.deref.ensures.value) c.self.invariant.first)

pub step_rules-requires-clause-start : goal.step_rules-requires-clause-start
step_rules-requires-clause-start c =
    subst (λ (rs : List Rule). IsNextOf rs 0 c.args.row.now.param c.start_of-start.result) (c.deref.ensures.value ∙ sym c.deref-3.ensures.value)
    c.start_of-start.ensures

pub step_rules-requires-clause-next : goal.step_rules-requires-clause-next
step_rules-requires-clause-next c =
    subst (AreNexts c.deref-3.result.now) (sym c.deref-4.ensures.value)
    (subst (λ (rs : List Rule). AreNexts rs c.self.inside.next.items) (sym c.deref-3.ensures.value) c.self.invariant.next)

pub step_rules-requires-clause-sources : goal.step_rules-requires-clause-sources
step_rules-requires-clause-sources c =
    subst (AreSources c.deref-3.result.now) (sym c.deref-5.ensures.value)
    (subst (λ (rs : List Rule). AreSources rs c.self.inside.sources.items) (sym c.deref-3.ensures.value) c.self.invariant.sources)

pub step_rules-requires-clause-windows : goal.step_rules-requires-clause-windows
step_rules-requires-clause-windows c =
    ap (length {A = Option (Buffer ℤ)}) c.deref_mut.ensures.value ∙ c.self.invariant.windows ∙ sym (ap (length {A = Rule}) c.deref-3.ensures.value)

pub invariant_of-self : goal.invariant_of-self
invariant_of-self c =
    let inv = c.self.invariant in
    let long : length c.step_rules.new.hits ≡ c.self.inside.hits.len = omega (arith, c.step_rules.auto.hits, c.deref_mut-2.ensures.len) in
    let items = with_items_is c.self.inside.hits c.step_rules.new.hits long in
    let wide : length c.step_rules.new.windows ≡ c.self.inside.windows.len = omega (arith, c.step_rules.auto.windows, c.deref_mut.ensures.len) in
    let short = subst (All (IsWithinHits c.self.inside.rows)) (sym c.deref_mut-2.ensures.value) inv.short in
    record {
      rules = inv.rules;
      hits = ap (length {A = Hits}) items ∙ c.step_rules.auto.hits ∙ ap (length {A = Hits}) c.deref_mut-2.ensures.value ∙ inv.hits;
      windows = ap (length {A = Option (Buffer ℤ)}) (with_items_is c.self.inside.windows c.step_rules.new.windows wide)
          ∙ c.step_rules.auto.windows ∙ ap (length {A = Option (Buffer ℤ)}) c.deref_mut.ensures.value ∙ inv.windows;
      sources = inv.sources;
      first = inv.first;
      next = inv.next;
      room = c.step_rules.ensures.room ∙ inv.room;
      due = subst (λ (rs : List Rule). All (λ (e : Exceedance). e.rule < length rs) c.step_rules.new.due.items) c.deref-3.ensures.value
          c.step_rules.ensures.within;
      short = subst (All (IsWithinHits (c.self.inside.rows + 1))) (sym items) (c.step_rules.ensures.longer c.self.inside.rows short);
    }

pub returns-clause-stands : goal.returns-clause-stands
returns-clause-stands c steps taken stands =
    let r = c.args.row.now in
    let kept = watch_kept c.self.inside in
    let before = subst (λ (w : WatchKept). RepresentsWatch w steps taken) (sym c.self.view_is) stands in
    let nothing = ap (λ (w : WatchKept). w.due) c.self.view_is ∙ c.requires.nothing_due in
    let long : length c.step_rules.new.hits ≡ c.self.inside.hits.len = omega (arith, c.step_rules.auto.hits, c.deref_mut-2.ensures.len) in
    let wide : length c.step_rules.new.windows ≡ c.self.inside.windows.len = omega (arith, c.step_rules.auto.windows, c.deref_mut.ensures.len) in
    let items = with_items_is c.self.inside.windows c.step_rules.new.windows wide in
    let behind = windows-behind kept.rules c.deref-3.result.now kept.sources c.deref-5.result.now steps kept.windows c.deref_mut.result.now
    c.deref-3.ensures.value c.deref-5.ensures.value c.deref_mut.ensures.value before.windows in
    let now : AreWindows kept.rules kept.sources (steps ++ RowStep r ∷ []) c.step_rules.new.windows =
    windows-ahead kept.rules c.deref-3.result.now kept.sources c.deref-5.result.now (steps ++ RowStep r ∷ []) c.step_rules.new.windows
    c.deref-3.ensures.value c.deref-5.ensures.value (c.step_rules.ensures.windows steps behind) in
    stands-given kept _ c.deref-3.result.now c.deref_mut-2.result.now c.step_rules.new.hits c.step_rules.new.due.items steps
    (RowStep r) taken before nothing
    c.deref-3.ensures.value c.deref_mut-2.ensures.value refl refl (subst (AreWindows kept.rules kept.sources (steps ++ RowStep r ∷ [])) (sym items) now)
    (with_items_is c.self.inside.hits c.step_rules.new.hits long) refl
    (c.step_rules.ensures.hits steps behind) (c.step_rules.ensures.due steps behind)
