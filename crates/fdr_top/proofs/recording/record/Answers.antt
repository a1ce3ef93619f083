use Rattle.std.proofs.Common.{refl}
use Rattle.fdr_words.specs.Forms.{record_line}
use Rattle.fdr_top.proofs.Answering.{has_cause, image_recorded, left_all, memory_writes}
use Rattle.fdr_top.proofs.Readable.{records_line}
use Rattle.fdr_top.proofs.RecordLines.{record_done}
use Rattle.fdr_top.proofs.recording.record.Goals as goal

pub returns-clause-works : goal.returns-clause-works
returns-clause-works g c = λ path image written faults.
    let answer = c.record_line.ensures.answer path image in
    let does = records_line _ _ _ _ _ c.requires.in_range c.requires.sound c.record_line.ensures.records in
    record {
      answer = answer;
      refusal = λ nothing. left_all _ refl refl (c.record_line.ensures.untouched nothing) c.record_line.ensures.learns
          (c.record_line.ensures.announced nothing) (c.record_line.ensures.input nothing);
      stops = λ has. c.record_line.ensures.stops;
      unused = image_recorded (record_line path image) _ (λ no. (refl, refl)) tt tt (λ none. none) (λ unused. absurd (unused tt))
          (λ pulls memory. c.record_line.ensures.input (memory_writes _ memory));
      causes = has_cause (record_line path image) _ answer (λ pulls. c.record_line.ensures.input_fault) (λ text. absurd text)
          (λ image. c.record_line.ensures.disk_fault);
      no_fault_passed_over = record {
        input = λ read covers. c.record_line.ensures.no_input_fault read (λ cut. covers (λ rules. rules, cut));
        write = λ other covers. refl;
        disk = λ other. c.record_line.ensures.no_disk_fault other;
      };
      does = does;
      complete = λ whole faultless. record_done path image _ _ _ _ _ answer does whole.0 whole.1 whole.2 whole.3
          (λ e. faultless.input tt (c.record_line.ensures.input_fault e)) (λ e. faultless.disk tt (c.record_line.ensures.disk_fault e));
    }
