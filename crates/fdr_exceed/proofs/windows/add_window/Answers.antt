use Rattle.std.proofs.Common.{◌≡◌, ◌∙◌, ap, sym, subst, ◌+◌, ◌++◌, ◌∷◌, [], ℕ, List, None, arith}
use Rattle.std.specs.Prelude.{slice_index}
use Rattle.fdr_exceed.specs.declared.rule.Rule.{Rule}
use Rattle.fdr_exceed.specs.Watching.{HasWindow, HaveWindows, no_rule, rule_at}
use Rattle.fdr_exceed.proofs.Sharing.{both-on-ok, have-own, have-shared}
use Rattle.fdr_exceed.proofs.Stepping.{read-at}
use Rattle.fdr_exceed.proofs.windows.add_window.Goals as goal

pub returns-in-Some : goal.returns-in-Some
returns-in-Some c =
    let rules = c.args.rules.now in
    let i = c.args.i in
    let j = c.in-Some.j in
    let had = c.requires.had in
    let sources = c.args.sources.now.items in
    let h = c.in-Some.ensures in
    let read : c.index.result.now ≡ slice_index sources j = read-at sources j c.index.result.now 0 (omega (arith, h.before, had.places)) c.index.ensures in
    both-on-ok c.push_both.result c.push_both.ensures.window c.push_both.ensures.source (λ windows places.
    subst (λ ws. HaveWindows rules (i + 1) ws c.push_both.new.sources.items) (sym windows)
    (subst (λ (ss : List ℕ). HaveWindows rules (i + 1) (c.args.windows.now.items ++ None ∷ []) ss)
    (sym (places ∙ ap (λ (s : ℕ). sources ++ s ∷ []) read))
    (have-shared rules i j c.args.windows.now.items sources had h.before h.kind h.param h.rows)))

pub returns-in_ok-new_window-in-None : goal.returns-in_ok-new_window-in-None
returns-in_ok-new_window-in-None c =
    let rules = c.args.rules.now in
    let i = c.args.i in
    let rule = c.index-rules-i.result in
    let w = c.in_ok-new_window-in-None.field-0 in
    let rule_is : rule ≡ rule_at rules i = read-at rules i rule no_rule c.requires.within c.index-rules-i.is in
    let has : HasWindow (rule_at rules i).kind (rule_at rules i).count w [] =
    subst (λ (q : Rule). HasWindow q.kind q.count w []) rule_is c.in_ok-new_window-in-None.ensures in
    both-on-ok c.push_both-in-None.result c.push_both-in-None.ensures.window c.push_both-in-None.ensures.source (λ windows places.
    subst (λ ws. HaveWindows rules (i + 1) ws c.push_both-in-None.new.sources.items) (sym windows)
    (subst (λ (ss : List ℕ). HaveWindows rules (i + 1) (c.args.windows.now.items ++ w ∷ []) ss) (sym places)
    (have-own rules i c.args.windows.now.items c.args.sources.now.items w c.requires.had has)))
