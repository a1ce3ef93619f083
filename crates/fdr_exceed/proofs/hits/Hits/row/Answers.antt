use Rattle.std.proofs.Common.{◌≡◌, ◌∙◌, ap, sym, rules, [], ◌∷◌, ◌++◌, Some, None}
use Rattle.std.specs.Prelude.{ℤ}
use Rattle.std.proofs.lemmas.Int.{to_z-of_z}
use Rattle.fdr_exceed.specs.Exceedances.{exceedance_of, hit_at, values_of}
use Rattle.fdr_exceed.specs.Watching.{one_longer}
use Rattle.fdr_exceed.proofs.HitLists.{ended-hit, ended-none, list-hit, list-none, values-push}
use mir.Syntax.{w64}
use mir.Val.{SFits}
use Rattle.fdr_exceed.proofs.hits.Hits.row.Goals as goal

pub returns-in-Some-clause-hits : goal.returns-in-Some-clause-hits
returns-in-Some-clause-hits c rows compares are =
    let rule = c.args.rule.now in
    let r = c.args.row.now in
    let fits : SFits w64 c.in-Some.x = search rules in
    let x = to_z-of_z w64 c.in-Some.x fits in
    let hit : hit_at rule (values_of rows ++ r.value ∷ []) ≡ Some c.in-Some.x =
    ap (hit_at rule) (sym (values-push rows r)) ∙ sym (c.hit.ensures (values_of (rows ++ r ∷ [])) compares) ∙ c.in-Some.is in
    record {
      list = ap Some (c.longer.ensures ∙ ap (λ (y : ℤ). one_longer rule.kind c.args.self.now.list r y) x
          ∙ ap (λ o. one_longer rule.kind o r c.in-Some.x) are.list)
          ∙ sym (list-hit rule rows r c.in-Some.x hit);
    }

pub returns-in-Some-clause-ended : goal.returns-in-Some-clause-ended
returns-in-Some-clause-ended c rows compares are =
    let rule = c.args.rule.now in
    let r = c.args.row.now in
    let hit : hit_at rule (values_of rows ++ r.value ∷ []) ≡ Some c.in-Some.x =
    ap (hit_at rule) (sym (values-push rows r)) ∙ sym (c.hit.ensures (values_of (rows ++ r ∷ [])) compares) ∙ c.in-Some.is in
    sym (ended-hit rule rows r c.in-Some.x hit)

pub returns-in-None-clause-hits : goal.returns-in-None-clause-hits
returns-in-None-clause-hits c rows compares are =
    let rule = c.args.rule.now in
    let r = c.args.row.now in
    let none : hit_at rule (values_of rows ++ r.value ∷ []) ≡ None =
    ap (hit_at rule) (sym (values-push rows r)) ∙ sym (c.hit.ensures (values_of (rows ++ r ∷ [])) compares) ∙ c.in-None.is in
    record { list = sym (list-none rule rows r none) }

pub returns-in-None-clause-ended : goal.returns-in-None-clause-ended
returns-in-None-clause-ended c rows compares are =
    let rule = c.args.rule.now in
    let r = c.args.row.now in
    let none : hit_at rule (values_of rows ++ r.value ∷ []) ≡ None =
    ap (hit_at rule) (sym (values-push rows r)) ∙ sym (c.hit.ensures (values_of (rows ++ r ∷ [])) compares) ∙ c.in-None.is in
    c.exceedance_of.ensures ∙ ap (exceedance_of rule) are.list ∙ sym (ended-none rule rows r none)
