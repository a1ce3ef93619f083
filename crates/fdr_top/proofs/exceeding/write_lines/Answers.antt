use Rattle.std.proofs.Common.{◌≡◌, ◌+◌, ℕ, List, [], ◌++◌, length, take, refl, sym, ◌∙◌, subst}
use Rattle.std.proofs.lemmas.Result.{err_from_is_err_and}
use Rattle.fdr_exceed.specs.Exceedances.{WatchStep, exceedances}
use Rattle.fdr_exceed.specs.Watching.{RepresentsWatch, WatchKept}
use Rattle.fdr_exceed.specs.declared.rule.Rule.{Rule}
use Rattle.fdr_top.proofs.WatchLines.{HasPutLines, put_none, put_one, put_failed, put_last, put_stands, put_all}
use Rattle.fdr_top.proofs.exceeding.write_lines.Given.{Over}
use Rattle.fdr_top.proofs.exceeding.write_lines.Goals.{In_default}
use Rattle.fdr_top.proofs.exceeding.write_lines.Goals as goal

pub loop-line-init : goal.loop-line-init
loop-line-init g c = record {
  put = λ steps taken stands. put_none (g.O.Sink.written c.args.out.now) c.args.buffer.now c.args.watch.now steps taken stands;
  rules = refl;
  rows = refl;
  no_fault = refl;
}

pub loop-line-preserved : goal.loop-line-preserved
loop-line-preserved g c = record {
  put = λ steps taken stands.
      let had = c.loop-line.invariant.put steps taken stands in
      let stood = c.in-Some.ensures.stands steps _ had.stands in
      put_one _ _ _ _ _ _ c.loop-line.watch steps taken c.in-Some.line had (sym (c.in-Some.ensures.line steps _ had.stands))
      c.put_line.new.watch (c.put_line.ensures.rules ∙ c.take.ensures.rules)
      (subst (λ (w : WatchKept). RepresentsWatch w steps (taken + length had.lines + 1)) (sym c.in_ok-put_line.ensures.same) stood)
      c.in_ok-put_line.ensures.all;
  rules = c.put_line.ensures.rules ∙ c.take.ensures.rules ∙ c.loop-line.invariant.rules;
  rows = c.put_line.ensures.rows ∙ c.take.ensures.rows ∙ c.loop-line.invariant.rows;
  no_fault = c.in_ok-put_line.ensures.no_fault ∙ c.loop-line.invariant.no_fault;
}

pub returns-in_err-put_line-clause-part : goal.returns-in_err-put_line-clause-part
returns-in_err-put_line-clause-part g c = λ steps taken stands.
    let had = c.loop-line.invariant.put steps taken stands in
    let failed = put_failed _ _ _ _ _ [] c.loop-line.watch steps taken c.in-Some.line had (sym (c.in-Some.ensures.line steps _ had.stands))
    c.in_err-put_line.ensures.part in
    let p = err_from_is_err_and c.from_residual.result c.from_residual.ensures.1 in
    rw (p.1, ← c.loop-line.invariant.rules) failed

-- all lines were taken
last : (g : Over) (c : In_default g) (steps : List WatchStep) (taken : ℕ) → RepresentsWatch c.args.watch.now steps taken
    → HasPutLines (g.O.Sink.written c.args.out.now) (g.O.Sink.written c.loop-line.out) c.args.buffer.now c.loop-line.buffer c.take.new.self steps taken
last g c steps taken stands =
    let had = c.loop-line.invariant.put steps taken stands in
    put_last _ _ _ _ c.loop-line.watch c.take.new.self steps taken had c.take.ensures.rules (c.in_default.ensures.stands steps _ had.stands)

pub returns-clause-stands : goal.returns-clause-stands
returns-clause-stands g c = λ steps taken stands.
    put_stands _ _ _ _ c.take.new.self steps taken (last g (goal.at.returns-clause-stands g c).In_default steps taken stands) (c.in_default.ensures.none refl)

pub returns-clause-all : goal.returns-clause-all
returns-clause-all g c = λ steps taken stands.
    let had = last g (goal.at.returns-clause-all g c).In_default steps taken stands in
    let all = put_all _ _ _ _ c.take.new.self steps taken had (c.in_default.ensures.none refl) in
    let rules : c.take.new.self.rules ≡ c.args.watch.now.rules = c.take.ensures.rules ∙ c.loop-line.invariant.rules in
    (had.lines, subst (λ (rs : List Rule). exceedances rs steps ≡ take taken (exceedances rs steps) ++ had.lines) rules all, had.emits)
