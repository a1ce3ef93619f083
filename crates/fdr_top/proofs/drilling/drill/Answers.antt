use Rattle.std.proofs.Common.{ap}
use Rattle.fdr_words.specs.Forms.{drill_image}
use Rattle.fdr_top.proofs.Answering.{has_cause, image_recorded, left_all, writes_other}
use Rattle.fdr_top.proofs.Drilled.{drill_done}
use Rattle.fdr_top.proofs.drilling.drill.Goals as goal

pub returns-clause-works : goal.returns-clause-works
returns-clause-works g c = λ path image.
    let form = drill_image path image c.args.seed c.args.frames in
    let answer = c.drill_image.ensures.answer path image in
    record {
      answer = answer;
      refusal = λ nothing. let same = c.drill_image.ensures.unwritten (writes_other _ _ nothing tt) (writes_other _ _ nothing tt) in
          left_all _ (ap g.O.Sink.written same) (ap g.O.Sink.faults same) (c.drill_image.ensures.untouched nothing)
          c.drill_image.ensures.learns (c.drill_image.ensures.announced nothing) c.drill_image.ensures.input;
      stops = λ has. c.drill_image.ensures.stops;
      unused = image_recorded form _ (λ no. absurd (no tt)) tt tt (λ none. none) (λ unused. c.drill_image.ensures.input) (λ pulls. absurd pulls);
      causes = has_cause form _ answer (λ pulls. absurd pulls) (λ text. c.drill_image.ensures.write_fault) (λ image. c.drill_image.ensures.disk_fault);
      no_fault_passed_over = record {
        input = λ read covers. c.drill_image.ensures.input.faults;
        write = λ other covers. c.drill_image.ensures.no_write_fault other;
        disk = λ other. c.drill_image.ensures.no_disk_fault other;
      };
      does = c.drill_image.ensures.drills;
      complete = λ whole faultless. drill_done path image _ _ _ _ _ _ _ _ _ answer c.drill_image.ensures.drills whole.0 whole.1
          (λ e. faultless.disk tt (c.drill_image.ensures.disk_fault e)) (λ e. faultless.sink tt (c.drill_image.ensures.write_fault e));
    }
