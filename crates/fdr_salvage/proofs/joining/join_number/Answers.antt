use Rattle.std.proofs.Common.{◌++◌, ◌+◌, [], ◌∷◌, sym, ap, ◌∙◌, subst, arith}
use Rattle.std.proofs.lemmas.Grind.{common_steps}
use Rattle.std.specs.Prelude.{All, vec_len}
use Rattle.fdr_recover.proofs.Handing.{ok_then}
use Rattle.fdr_salvage.specs.Runs.{HasBlockNumbers}
use Rattle.fdr_salvage.proofs.Joins.{run_of, join_with, join_apart, join_first, bounds_with, none_popped}
use Rattle.fdr_salvage.proofs.joining.join_number.Goals as goal

pub returns-in_default-clause-joined : goal.returns-in_default-clause-joined
returns-in_default-clause-joined c = λ blocks b number is.
    let none = none_popped c.args.runs.now.items c.pop.new.self.items (vec_len c.args.runs.now) c.pop.result c.args.runs.now.ok.0
    c.pop.ensures.variant.1 c.in_default.is c.pop.ensures.items in
    ok_then _ _ c.begin_run.result
    (λ begun. begun
    ∙ ap (λ rs. rs ++ run_of c.args.number (c.args.number + 1) ∷ []) none.1
    ∙ ap (λ n. run_of n (n + 1) ∷ []) (sym number)
    ∙ sym (join_first blocks b (sym is ∙ none.0)))
    c.begin_run.ensures.begun

pub returns-then-last-number-clause-joined : goal.returns-then-last-number-clause-joined
returns-then-last-number-clause-joined c = λ blocks b number is.
    let last = c.in-Some.last in
    let rest = c.pop.new.self.items in
    let next = c.if-last-number.true in
    ok_then _ _ c.push.result
    (λ pushed. pushed
    ∙ ap (λ n. rest ++ run_of last.first (n + 1) ∷ []) (sym next)
    ∙ sym (join_with blocks b rest last (sym is ∙ c.in-Some.ensures.items) (next ∙ sym number)))
    c.push.ensures.pushed

pub returns-then-last-number-clause-within : goal.returns-then-last-number-clause-within
returns-then-last-number-clause-within c =
    ok_then _ _ c.push.result
    (λ pushed. subst (All HasBlockNumbers) (sym pushed)
    (bounds_with c.pop.new.self.items c.in-Some.last c.args.number (subst (All HasBlockNumbers) c.in-Some.ensures.items c.requires.within)
    c.if-last-number.true c.requires.fits))
    c.push.ensures.pushed

pub returns-clause-joined : goal.returns-clause-joined
returns-clause-joined c = λ blocks b number is.
    let last = c.in-Some.last in
    let rest = c.pop.new.self.items in
    ok_then _ _ c.begin_run-2.result
    (λ begun. begun
    ∙ ap (λ rs. rs ++ run_of c.args.number (c.args.number + 1) ∷ []) c.in_ok-push.ensures.pushed
    ∙ ap (λ n. (rest ++ last ∷ []) ++ run_of n (n + 1) ∷ []) (sym number)
    ∙ sym (join_apart blocks b rest last (sym is ∙ c.in-Some.ensures.items) (λ same. c.if-last-number.false (same ∙ number))))
    c.begin_run-2.ensures.begun

pub returns-then-last-number-clause-more : goal.returns-then-last-number-clause-more
returns-then-last-number-clause-more c = grind (arith, common_steps) steps 2000000

pub returns-then-last-number-clause-only : goal.returns-then-last-number-clause-only
returns-then-last-number-clause-only c = omega arith
