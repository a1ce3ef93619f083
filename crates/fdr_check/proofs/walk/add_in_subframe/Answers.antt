use Rattle.std.proofs.Common.{◌≡◌, ℕ, ◌+◌, ◌*◌, ◌++◌, List, ap, sym, subst, ◌∙◌, append-nil}
use Rattle.std.specs.Result.{OnOk}
use Rattle.fdr_check.specs.Walks.{slots_on, subframe_slots}
use Rattle.fdr_check.proofs.Walking.{occurs_as_tested, in_subframe, not_in_subframe}
use Rattle.fdr_check.proofs.walk.add_in_subframe.Goals as goal

pub returns-then-has_subframe : goal.returns-then-has_subframe
returns-then-has_subframe c =
    let p = c.args.place.now in
    let w = c.args.words in
    let f = c.args.frame in
    let s = c.args.subframe in
    let here = occurs_as_tested _ p f s _ c.place.view_is c.requires.subframe c.requires.frame (sym c.if-has_subframe.ensures) in
    let same : slots_on w p ((4 * f + c.from.result) * w) ≡ subframe_slots w p (4 * f + s) =
    ap (λ x. slots_on w p ((4 * f + x) * w)) c.from.ensures ∙ sym (in_subframe w p (4 * f + s) here) in
    subst (λ (xs : List ℕ). OnOk c.add_words.result (c.add_words.new.slots.items ≡ c.args.slots.now.items ++ xs)) same c.add_words.ensures

pub returns-else-has_subframe : goal.returns-else-has_subframe
returns-else-has_subframe c =
    let p = c.args.place.now in
    let f = c.args.frame in
    let s = c.args.subframe in
    let off = occurs_as_tested _ p f s _ c.place.view_is c.requires.subframe c.requires.frame (sym c.if-has_subframe.ensures) in
    sym (append-nil c.args.slots.now.items) ∙ ap (λ xs. c.args.slots.now.items ++ xs) (sym (not_in_subframe c.args.words p (4 * f + s) off))
