use Rattle.std.proofs.Common.{ap, refl}
use Rattle.fdr_words.specs.Forms.{exceed_image}
use Rattle.fdr_top.proofs.Answering.{has_cause}
use Rattle.fdr_top.proofs.ExceededImages.{exceed_done}
use Rattle.fdr_top.proofs.ListedImages.{of_blocks_begun}
use Rattle.fdr_top.proofs.exceeding.exceed.Goals as goal

pub returns-clause-works : goal.returns-clause-works
returns-clause-works g c = λ path image.
    let answer = c.list_exceedances.ensures.answer path image in
    let lists = c.list_exceedances.ensures.lists in
    record {
      answer = answer;
      refusal = λ nothing.
          let same = c.list_exceedances.ensures.unwritten (λ read. of_blocks_begun _ read nothing) in
          record {
            written = ap g.O.Sink.written same;
            faults = ap g.O.Sink.faults same;
            disk = lists.disk;
            extent = lists.learns;
            announced = c.list_exceedances.ensures.announced;
            input = λ first. c.list_exceedances.ensures.before_input first;
          };
      stops = λ has nothing. lists.stops;
      unused = record {
        input = λ unused. absurd (unused tt);
        disk = λ unused. absurd (unused tt);
        announced = λ unused. c.list_exceedances.ensures.announced;
        memory = λ pulls none. absurd pulls;
        bits = λ pulls. absurd pulls;
        text = λ no. absurd (no tt);
        rules = λ pulls. c.list_exceedances.ensures.bounded;
      };
      causes = has_cause (exceed_image path image) _ answer (λ pulls. c.list_exceedances.ensures.input_fault)
          (λ text. c.list_exceedances.ensures.write_fault) (λ image. c.list_exceedances.ensures.disk_fault);
      no_fault_passed_over = record {
        input = λ read covers. c.list_exceedances.ensures.no_input_fault read;
        write = λ other covers. c.list_exceedances.ensures.no_write_fault other (λ failed. covers ((refl, tt), failed));
        disk = λ other. c.list_exceedances.ensures.no_disk_fault other;
      };
      does = lists;
      complete = λ whole faultless. exceed_done path image _ _ _ _ _ _ _ _ _ answer lists whole.0 whole.1 whole.2 whole.3
          (λ e. faultless.input tt (c.list_exceedances.ensures.input_fault e)) (λ e. faultless.disk tt (c.list_exceedances.ensures.disk_fault e))
          (λ e. faultless.sink tt (c.list_exceedances.ensures.write_fault e));
    }
