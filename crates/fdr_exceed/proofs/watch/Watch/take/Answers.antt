use Rattle.std.proofs.Common.{◌≡◌, ◌∙◌, ap, sym, refl, subst, ◌<◌, ◌≤◌, ◌+◌, ℕ, List, length, Option, Some, None, arith}
use Rattle.std.specs.Prelude.{option_map, slice_get}
use Rattle.std.specs.Option.{option_to_list}
use Rattle.circular_buffer.specs.Buffer.{Buffer}
use Rattle.fdr_exceed.specs.declared.rule.Rule.{Rule}
use Rattle.fdr_exceed.specs.declared.watch.Exceedance.{Exceedance}
use Rattle.fdr_exceed.specs.Exceedances.{exceedances}
use Rattle.fdr_exceed.specs.Lines.{exceed_text}
use Rattle.fdr_exceed.specs.View.{watch_kept}
use Rattle.fdr_exceed.specs.Watching.{RepresentsWatch, WatchKept, line_due, no_rule, rule_at}
use Rattle.fdr_exceed.proofs.Standing.{due-empty, due-first, due-none, due-one-less, kept-less, stands-take}
use Rattle.fdr_exceed.proofs.Stepping.{read-at}
use Rattle.fdr_exceed.proofs.watch.Watch.take.Goals as goal

pub invariant_of-self : goal.invariant_of-self
invariant_of-self c = kept-less (watch_kept c.self.inside) _ _ _ c.pop_front.new.self c.self.invariant c.pop_front.ensures.items

pub invariant_of-self-2 : goal.invariant_of-self-2
invariant_of-self-2 c = kept-less (watch_kept c.self.inside) _ _ _ c.pop_front.new.self c.self.invariant c.pop_front.ensures.items

pub returns-in_err-exceedance-clause-line : goal.returns-in_err-exceedance-clause-line
returns-in_err-exceedance-clause-line c steps taken stands =
    let kept = watch_kept c.self.inside in
    let before = subst (λ (w : WatchKept). RepresentsWatch w steps taken) (sym c.self.view_is) stands in
    let due = c.pop_front.new.self.items in
    let next : WatchKept = record { rules = kept.rules; hits = kept.hits; windows = kept.windows; sources = kept.sources; due = due; rows = kept.rows } in
    let takes = stands-take kept next steps taken before refl refl refl refl (ap (λ (b : Buffer Exceedance). b.items) c.pop_front.ensures.items) in
    let none : slice_get kept.due 0 ≡ None = sym c.pop_front.ensures.value ∙ c.in_err-exceedance.was in
    c.from_residual.ensures ∙ sym (ap (option_map (line_due kept.rules)) none) ∙ takes.here
    ∙ ap (λ (w : WatchKept). slice_get (exceedances w.rules steps) taken) c.self.view_is

pub returns-in_err-exceedance-clause-stands : goal.returns-in_err-exceedance-clause-stands
returns-in_err-exceedance-clause-stands c steps taken stands =
    let kept = watch_kept c.self.inside in
    let before = subst (λ (w : WatchKept). RepresentsWatch w steps taken) (sym c.self.view_is) stands in
    let due = c.pop_front.new.self.items in
    let next : WatchKept = record { rules = kept.rules; hits = kept.hits; windows = kept.windows; sources = kept.sources; due = due; rows = kept.rows } in
    let takes = stands-take kept next steps taken before refl refl refl refl (ap (λ (b : Buffer Exceedance). b.items) c.pop_front.ensures.items) in
    let none : slice_get kept.due 0 ≡ None = sym c.pop_front.ensures.value ∙ c.in_err-exceedance.was in
    subst (λ (o : Option (List ℕ)). RepresentsWatch next steps (taken + length (option_to_list o)))
    (ap (option_map (line_due kept.rules)) none ∙ sym c.from_residual.ensures) takes.stands

pub returns-in_err-exceedance-clause-none : goal.returns-in_err-exceedance-clause-none
returns-in_err-exceedance-clause-none c = λ is.
    due-none (watch_kept c.self.inside).due c.pop_front.new.self.items (sym c.pop_front.ensures.value ∙ c.in_err-exceedance.was)
    (ap (λ (b : Buffer Exceedance). b.items) c.pop_front.ensures.items)

pub returns-in_err-exceedance-clause-fewer : goal.returns-in_err-exceedance-clause-fewer
returns-in_err-exceedance-clause-fewer c =
    let none : slice_get (watch_kept c.self.inside).due 0 ≡ None = sym c.pop_front.ensures.value ∙ c.in_err-exceedance.was in
    let left = due-none (watch_kept c.self.inside).due c.pop_front.new.self.items none (ap (λ (b : Buffer Exceedance). b.items) c.pop_front.ensures.items) in
    omega (
      arith,
      ap (length {A = Exceedance}) left,
      ap (λ (o : Option (List ℕ)). length (option_to_list o)) c.from_residual.ensures,
      ap (length {A = Exceedance}) (due-empty (watch_kept c.self.inside).due none),
      ap (λ (w : WatchKept). length w.due) c.self.view_is,
    )

pub index-rule-requires : goal.index-rule-requires
index-rule-requires c =
    let kept = watch_kept c.self.inside in
    let e = c.in_ok-exceedance.exceedance in
    let within = due-first (length kept.rules) kept.due e c.self.invariant.due (sym c.pop_front.ensures.value ∙ c.in_ok-exceedance.was) in
    omega (arith, within, c.self.inside.rules.ok.0)

pub exceed_line-requires : goal.exceed_line-requires
exceed_line-requires c =
    let kept = watch_kept c.self.inside in
    let e = c.in_ok-exceedance.exceedance in
    let within = due-first (length kept.rules) kept.due e c.self.invariant.due (sym c.pop_front.ensures.value ∙ c.in_ok-exceedance.was) in
    subst (λ (q : Rule). q.decimals ≤ 9) (sym c.index-rule.ensures) (c.self.invariant.rules.each e.rule c.index-rule.result.now within).decimals

pub returns-clause-none : goal.returns-clause-none
returns-clause-none c = λ is. absurd (cc)

pub returns-clause-fewer : goal.returns-clause-fewer
returns-clause-fewer c =
    let first : slice_get (watch_kept c.self.inside).due 0 ≡ Some c.in_ok-exceedance.exceedance = sym c.pop_front.ensures.value ∙ c.in_ok-exceedance.was in
    due-one-less (watch_kept c.self.inside).due c.pop_front.new.self.items c.in_ok-exceedance.exceedance first
    (ap (λ (b : Buffer Exceedance). b.items) c.pop_front.ensures.items)
    ∙ ap (λ (w : WatchKept). length w.due) c.self.view_is

pub returns-clause-line : goal.returns-clause-line
returns-clause-line c steps taken stands =
    let kept = watch_kept c.self.inside in
    let before = subst (λ (w : WatchKept). RepresentsWatch w steps taken) (sym c.self.view_is) stands in
    let due = c.pop_front.new.self.items in
    let next : WatchKept = record { rules = kept.rules; hits = kept.hits; windows = kept.windows; sources = kept.sources; due = due; rows = kept.rows } in
    let takes = stands-take kept next steps taken before refl refl refl refl (ap (λ (b : Buffer Exceedance). b.items) c.pop_front.ensures.items) in
    let e = c.in_ok-exceedance.exceedance in
    let first : slice_get kept.due 0 ≡ Some e = sym c.pop_front.ensures.value ∙ c.in_ok-exceedance.was in
    let within : e.rule < length kept.rules = due-first (length kept.rules) kept.due e c.self.invariant.due first in
    let rule : c.index-rule.result.now ≡ rule_at kept.rules e.rule = read-at kept.rules e.rule c.index-rule.result.now no_rule within c.index-rule.ensures in
    ap Some (c.exceed_line.ensures ∙ ap (λ (q : Rule). exceed_text q e.list) rule) ∙ sym (ap (option_map (line_due kept.rules)) first) ∙ takes.here
    ∙ ap (λ (w : WatchKept). slice_get (exceedances w.rules steps) taken) c.self.view_is

pub returns-clause-stands : goal.returns-clause-stands
returns-clause-stands c steps taken stands =
    let kept = watch_kept c.self.inside in
    let before = subst (λ (w : WatchKept). RepresentsWatch w steps taken) (sym c.self.view_is) stands in
    let due = c.pop_front.new.self.items in
    let next : WatchKept = record { rules = kept.rules; hits = kept.hits; windows = kept.windows; sources = kept.sources; due = due; rows = kept.rows } in
    let takes = stands-take kept next steps taken before refl refl refl refl (ap (λ (b : Buffer Exceedance). b.items) c.pop_front.ensures.items) in
    let e = c.in_ok-exceedance.exceedance in
    let first : slice_get kept.due 0 ≡ Some e = sym c.pop_front.ensures.value ∙ c.in_ok-exceedance.was in
    subst (λ (o : Option Exceedance). RepresentsWatch next steps (taken + length (option_to_list (option_map (line_due kept.rules) o)))) first takes.stands
