use Rattle.std.proofs.Common.{◌≡◌, ◌∙◌, ◌<◌, ◌++◌, ◌∷◌, [], Option, ap, sym, refl, subst, List, length, arith}
use Rattle.std.specs.Prelude.{All, ℤ}
use Rattle.std.proofs.lemmas.List.{with_items_is}
use Rattle.circular_buffer.specs.Buffer.{Buffer}
use Rattle.fdr_exceed.specs.declared.hits.Hits.{Hits}
use Rattle.fdr_exceed.specs.declared.rule.Rule.{Rule}
use Rattle.fdr_exceed.specs.declared.watch.Exceedance.{Exceedance}
use Rattle.fdr_exceed.specs.Exceedances.{ResetStep}
use Rattle.fdr_exceed.specs.View.{watch_kept}
use Rattle.fdr_exceed.specs.Watching.{AreWindows, IsWithinHits, RepresentsWatch, WatchKept}
use Rattle.fdr_exceed.proofs.Sharing.{windows-reset-at}
use Rattle.fdr_exceed.proofs.Standing.{stands-given}
use Rattle.fdr_exceed.proofs.watch.Watch.reset.Goals as goal

pub reset_rules-requires-clause-count : goal.reset_rules-requires-clause-count
reset_rules-requires-clause-count c =
    ap (length {A = Hits}) c.deref_mut-2.ensures.value ∙ c.self.invariant.hits ∙ sym (ap (length {A = Rule}) c.deref.ensures.value)

pub invariant_of-self : goal.invariant_of-self
invariant_of-self c =
    let inv = c.self.invariant in
    let long : length c.reset_rules.new.hits ≡ c.self.inside.hits.len = omega (arith, c.reset_rules.auto.hits, c.deref_mut-2.ensures.len) in
    let items = with_items_is c.self.inside.hits c.reset_rules.new.hits long in
    let wide : length c.clear_windows.new.windows ≡ c.self.inside.windows.len = omega (arith, c.clear_windows.auto.windows, c.deref_mut.ensures.len) in
    let short = subst (All (IsWithinHits c.self.inside.rows)) (sym c.deref_mut-2.ensures.value) inv.short in
    record {
      rules = inv.rules;
      hits = ap (length {A = Hits}) items ∙ c.reset_rules.auto.hits ∙ ap (length {A = Hits}) c.deref_mut-2.ensures.value ∙ inv.hits;
      windows = ap (length {A = Option (Buffer ℤ)}) (with_items_is c.self.inside.windows c.clear_windows.new.windows wide)
          ∙ c.clear_windows.auto.windows ∙ ap (length {A = Option (Buffer ℤ)}) c.deref_mut.ensures.value ∙ inv.windows;
      sources = inv.sources;
      first = inv.first;
      next = inv.next;
      room = c.reset_rules.ensures.room ∙ inv.room;
      due = subst (λ (rs : List Rule). All (λ (e : Exceedance). e.rule < length rs) c.reset_rules.new.due.items) c.deref.ensures.value
          c.reset_rules.ensures.within;
      short = subst (All (IsWithinHits c.self.inside.rows)) (sym items) (c.reset_rules.ensures.shorter c.self.inside.rows short);
    }

pub returns-clause-stands : goal.returns-clause-stands
returns-clause-stands c steps taken stands =
    let kept = watch_kept c.self.inside in
    let inv = c.self.invariant in
    let before = subst (λ (w : WatchKept). RepresentsWatch w steps taken) (sym c.self.view_is) stands in
    let nothing = ap (λ (w : WatchKept). w.due) c.self.view_is ∙ c.requires.nothing_due in
    let long : length c.reset_rules.new.hits ≡ c.self.inside.hits.len = omega (arith, c.reset_rules.auto.hits, c.deref_mut-2.ensures.len) in
    let wide : length c.clear_windows.new.windows ≡ c.self.inside.windows.len = omega (arith, c.clear_windows.auto.windows, c.deref_mut.ensures.len) in
    let items = with_items_is c.self.inside.windows c.clear_windows.new.windows wide in
    let now : AreWindows kept.rules kept.sources (steps ++ ResetStep ∷ []) c.clear_windows.new.windows =
    windows-reset-at kept.rules kept.sources steps kept.windows c.deref_mut.result.now c.clear_windows.new.windows inv.sources inv.windows
    c.deref_mut.ensures.value c.clear_windows.ensures before.windows in
    stands-given kept _ c.deref.result.now c.deref_mut-2.result.now c.reset_rules.new.hits c.reset_rules.new.due.items steps
    ResetStep taken before nothing
    c.deref.ensures.value c.deref_mut-2.ensures.value refl refl (subst (AreWindows kept.rules kept.sources (steps ++ ResetStep ∷ [])) (sym items) now)
    (with_items_is c.self.inside.hits c.reset_rules.new.hits long) refl
    (c.reset_rules.ensures.hits steps) (c.reset_rules.ensures.due steps)
