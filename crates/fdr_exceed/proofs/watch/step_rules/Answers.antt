use Rattle.std.proofs.Common.{◌≡◌, ◌∙◌, ap, sym, refl, subst, ◌+◌, ◌<◌, ◌++◌, ◌∷◌, [], set, length, arith}
use Rattle.std.specs.Prelude.{All, slice_index}
use Rattle.std.proofs.lemmas.Int.{to_z-of_z}
use Rattle.std.proofs.lemmas.List.{get_or-set_other}
use Rattle.std.proofs.lemmas.List.Elements.{All-nil, All-set}
use Rattle.fdr_exceed.specs.declared.watch.Exceedance.{Exceedance}
use Rattle.fdr_exceed.specs.declared.rule.Rule.{Rule}
use Rattle.fdr_exceed.specs.Exceedances.{RowStep, compared, rows_since, values_of}
use Rattle.fdr_exceed.specs.Watching.{IsWithinHits, hits_of_rule, no_hits, no_rule, rule_at}
use Rattle.fdr_exceed.proofs.Greatests.{watched-fits}
use Rattle.fdr_exceed.proofs.Sharing.{compared-own, none-pushed, one-pushed, others-pushed, windows-row}
use Rattle.fdr_exceed.proofs.Stepping.{IsOfRules, all-given, given-on, none-given, others-given, read-at, row-ends, row-goes, with_ended-few}
use Rattle.fdr_exceed.proofs.Stepping.{with_ended-inside, within-more}
use mir.Syntax.{w64}
use Rattle.fdr_exceed.proofs.watch.step_rules.Goals as goal

pub loop-i-init : goal.loop-i-init
loop-i-init c =
    let rules = c.args.rules.now in
    let due = c.args.due.now.items in
    record {
      within = c.requires.start.within;
      here = c.requires.start.here;
      given = λ steps windows are.
          others-given rules steps c.args.row.now 0 c.args.start c.args.hits.now due c.args.row.now.param
          (none-given rules steps (RowStep c.args.row.now) c.args.hits.now due are c.requires.nothing_due) c.requires.start refl;
      pushed = others-pushed rules c.args.sources.now c.args.row.now 0 c.args.start c.args.row.now.param c.args.windows.now c.args.windows.now
          (none-pushed rules c.args.sources.now c.args.row.now c.args.windows.now) c.requires.start refl;
      same = λ k low. refl;
      few = omega (arith, ap (length {A = Exceedance}) c.requires.nothing_due);
      room = c.requires.room;
      inside = subst (All (IsOfRules (length rules))) (sym c.requires.nothing_due) (All-nil (IsOfRules (length rules)));
      longer = λ n all. within-more n c.args.hits.now all;
    }

pub loop-i-preserved : goal.loop-i-preserved
loop-i-preserved c =
    let rules = c.args.rules.now in
    let r = c.args.row.now in
    let i = c.loop-i.i in
    let m = slice_index c.args.next.now i in
    let inv = c.loop-i.invariant in
    let hits = c.loop-i.hits in
    let rule = c.index-rules-i-in-loop-i.result in
    let first = c.index-rules-i.result in
    let old = hits_of_rule hits i in
    let new = c.row-ended.new.self in
    let within : i < length rules = c.loop-i-test.true in
    let count : length hits ≡ length rules = c.loop-i.auto.hits ∙ c.requires.count in
    let rule_is : rule ≡ rule_at rules i = read-at rules i rule no_rule within c.index-rules-i-in-loop-i.is in
    let first_is : first ≡ rule_at rules i = read-at rules i first no_rule within c.index-rules-i.is in
    let value = to_z-of_z w64 r.value (watched-fits r.value c.requires.watched) in
    let next = c.requires.next.each i within in
    let own = inv.here within in
    let inside : i < length c.loop-i.windows = omega (arith, within, c.loop-i.auto.windows, c.requires.windows) in
    let pushed = one-pushed rules c.args.sources.now r i c.args.windows.now c.loop-i.windows c.compared-x.new.windows first _ inv.pushed inside own first_is
    value c.compared-x.ensures.windows in
    let same : rule.param ≡ r.param = ap (λ (q : Rule). q.param) rule_is ∙ own in
    record {
      within = next.within;
      here = λ more. next.here more ∙ own;
      given = λ steps windows are.
          let rows = rows_since (rule_at rules i) steps in
          let compares = compared-own rules c.args.sources.now c.args.windows.now c.compared-x.new.windows steps r i c.compared-x.result first _
          c.requires.sources pushed windows within own first_is value c.compared-x.ensures.value in
          let at_rule : c.compared-x.result ≡ compared rule.kind rule.count (values_of (rows ++ r ∷ [])) =
          compares ∙ ap (λ (q : Rule). compared q.kind q.count (values_of (rows ++ r ∷ []))) (sym rule_is) in
          others-given rules steps r (i + 1) m (set hits i new) c.add.new.due.items (rule_at rules i).param
          (given-on rules steps (RowStep r) i hits c.loop-i.due.items c.add.new.due.items rule old new c.row-ended.result (inv.given steps windows are) within
          count rule_is refl (row-goes rule r old new rows same (c.row-ended.ensures.hits rows at_rule))
          (row-ends rule r old c.row-ended.result rows same (c.row-ended.ensures.ended rows at_rule))
          c.add.ensures.items)
          next own;
      pushed = others-pushed rules c.args.sources.now r (i + 1) m (rule_at rules i).param c.args.windows.now c.compared-x.new.windows pushed next own;
      same = λ k low. get_or-set_other hits i k new no_hits (omega (arith, low, next.from)) ∙ inv.same k (omega (arith, low, next.from));
      few = omega (arith, ap (length {A = Exceedance}) c.add.ensures.items, with_ended-few c.loop-i.due.items i c.row-ended.result i inv.few, next.from);
      room = c.add.ensures.room ∙ inv.room;
      inside = subst (All (IsOfRules (length rules))) (sym c.add.ensures.items)
          (with_ended-inside c.loop-i.due.items i c.row-ended.result (length rules) inv.inside within);
      longer = λ n all.
          let first : IsWithinHits n old = subst (IsWithinHits n) (sym (inv.same i (omega arith))) (all i no_hits (omega (arith, within, c.requires.count))) in
          All-set (IsWithinHits (n + 1)) hits i new (c.row-ended.ensures.longer n first) (inv.longer n all);
    }

pub returns-clause-hits : goal.returns-clause-hits
returns-clause-hits c steps windows are =
    let rules = c.args.rules.now in
    let all : c.loop-i.i ≡ length rules = omega (arith, c.loop-i.invariant.within, c.loop-i-test.false) in
    (all-given rules steps (RowStep c.args.row.now) c.loop-i.i c.loop-i.hits c.loop-i.due.items (c.loop-i.invariant.given steps windows are) all).0

pub returns-clause-windows : goal.returns-clause-windows
returns-clause-windows c steps windows =
    let rules = c.args.rules.now in
    let all : c.loop-i.i ≡ length rules = omega (arith, c.loop-i.invariant.within, c.loop-i-test.false) in
    windows-row rules c.args.sources.now steps c.args.row.now c.loop-i.i c.args.windows.now c.loop-i.windows c.requires.sources c.loop-i.invariant.pushed all
    windows
