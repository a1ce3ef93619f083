use Rattle.std.proofs.Common.{Err, ap, arith, refl, sym, ◌∙◌}
use Rattle.fdr_top.proofs.Images.{OnlyLooks-looked, header_not_memory}
use Rattle.fdr_top.proofs.RecoveredImages.{none_recovered, run_recovered, run_remembered, unrecovered}
use Rattle.fdr_top.proofs.Results.{err_same, ok_not_err}
use Rattle.fdr_top.proofs.recovering.recover.Goals as goal

pub returns-in-Err : goal.returns-in-Err
returns-in-Err g c =
    let head = c.read_image_header.ensures in
    let e = c.in-Err.ensures in
    record {
      works = λ image t. unrecovered image t _ c.in-Err.fault c.refusal.ensures (OnlyLooks-looked _ _ _ head.learns head.disk head.disk_work)
          (λ x. e.only.0 (ap Err x)) (λ x. e.only.1 (ap Err x)) (λ told why x. e.first_fault told why (ap Err x)) (λ why x. e.small why (ap Err x))
          (λ x. e.cause (ap Err x)) (λ other. (e.succeeds (λ x. other (err_same _ _ x))).disk_faults) refl refl;
      memory = λ none. absurd (header_not_memory c.in-Err.fault (sym c.refusal.ensures ∙ none));
    }

pub returns-in_default : goal.returns-in_default
returns-in_default g c =
    let head = c.read_image_header.ensures in
    record {
      works = λ image t. none_recovered image t _ refl (OnlyLooks-looked _ _ _ head.learns head.disk head.disk_work)
          (c.in-Ok.ensures.succeeds (ok_not_err _ _)).disk_faults refl refl;
      memory = λ none. record { long = omega (arith, c.in-Ok.ensures.whole); good = c.in-Ok.ensures.good };
    }

pub returns : goal.returns
returns g c =
    let head = c.read_image_header.ensures in
    let wrote = c.write_run.ensures in
    record {
      works = λ image t. run_recovered image t _ _ c.in-Ok.header (g.met.D.Deck.sound c.args.deck.now)
          (OnlyLooks-looked _ _ _ head.learns head.disk head.disk_work) wrote.looks c.in-Ok.ensures.read c.in-Ok.ensures.good c.in-Ok.ensures.whole
          (c.in-Ok.ensures.succeeds (ok_not_err _ _)).disk_faults wrote.answer wrote.all wrote.part wrote.disk_fault wrote.write_fault wrote.disk_unfailed
          wrote.sink_unfailed;
      memory = λ none. absurd (run_remembered _ wrote.answer none);
    }
