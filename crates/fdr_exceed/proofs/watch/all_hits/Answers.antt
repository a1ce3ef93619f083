use Rattle.std.proofs.Common.{◌≡◌, ap, sym, subst, ◌<◌, [], ◌∷◌, ◌++◌, List, length, length-append, rules, arith, ⊎_elim}
use Rattle.std.specs.Prelude.{All}
use Rattle.std.proofs.lemmas.Bool.{cases_lt}
use Rattle.std.proofs.lemmas.List.{get_or_append_left}
use Rattle.std.proofs.lemmas.List.Elements.{All-append, All-cons, All-nil}
use Rattle.std.proofs.Math.Seq.{get_or-append_seam}
use Rattle.fdr_recon.specs.declared.Row.{Row}
use Rattle.fdr_exceed.specs.declared.hits.Hits.{Hits}
use Rattle.fdr_exceed.specs.Watching.{IsHits, IsWithinHits, hits_of_rule, no_hits, rule_at}
use Rattle.fdr_exceed.proofs.Stepping.{none-within, rows-before}
use Rattle.fdr_exceed.proofs.watch.all_hits.Goals as goal

pub returns-clause-hits : goal.returns-clause-hits
returns-clause-hits c = λ k within.
    let rule = rule_at c.args.rules.now k in
    let before : k < c.loop-rule._rule-index = omega (arith, within, c.loop-rule-test.false) in
    subst (λ (rows : List Row). IsHits rule rows (hits_of_rule c.loop-rule.hits.items k)) (sym (rows-before rule)) (c.loop-rule.invariant.each k before)

pub loop-rule-preserved : goal.loop-rule-preserved
loop-rule-preserved c =
    let all = c.args.rules.now in
    let inv = c.loop-rule.invariant in
    let hits = c.loop-rule.hits.items in
    let n = c.loop-rule._rule-index in
    let h = c.new.result in
    let more : c.push.new.self.items ≡ hits ++ h ∷ [] = search rules in
    record {
      count = omega (arith, ap (length {A = Hits}) more, length-append hits (h ∷ []), inv.count);
      each = λ k low. subst (λ (xs : List Hits). IsHits (rule_at all k) [] (hits_of_rule xs k)) (sym more)
          (⊎_elim
          (λ before. subst (IsHits (rule_at all k) []) (sym (get_or_append_left hits (h ∷ []) no_hits k (omega (arith, inv.count)))) (inv.each k before))
          (λ here. let same : length hits ≡ k = omega (arith, inv.count) in
          subst (λ j. IsHits (rule_at all k) [] (hits_of_rule (hits ++ h ∷ []) j)) same
          (subst (IsHits (rule_at all k) []) (sym (get_or-append_seam hits h [] no_hits)) (c.new.ensures.hits (rule_at all k))))
          (cases_lt k n));
      short = subst (All (IsWithinHits 0)) (sym more) (All-append (IsWithinHits 0) hits (h ∷ []) inv.short (All-cons (IsWithinHits 0) h []
          (none-within 0 h c.new.ensures.none) (All-nil (IsWithinHits 0))));
    }
