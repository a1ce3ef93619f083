use Rattle.std.proofs.Common.{ap, refl}
use Rattle.fdr_words.specs.Forms.{list_image}
use Rattle.fdr_pieces.proofs.Pulling.{LeavesStops-look}
use Rattle.fdr_top.proofs.Answering.{has_cause, image_unused, left_all, passes_keeps}
use Rattle.fdr_top.proofs.ListedImages.{list_done}
use Rattle.fdr_top.proofs.listing.list.Goals as goal

pub returns-clause-works : goal.returns-clause-works
returns-clause-works g c = λ path image.
    let answer = c.list_image.ensures.answer path image in
    let looks = c.list_image.ensures.lists.looks in
    record {
      answer = answer;
      refusal = λ nothing. let same = c.list_image.ensures.unwritten nothing in
          left_all _ (ap g.O.Sink.written same) (ap g.O.Sink.faults same) looks.disk looks.learns looks.disk_work.passes.announced.announced
          (passes_keeps _ _ _ looks.disk_work.passes);
      stops = λ has nothing. LeavesStops-look _ _ _ looks.disk_work;
      unused = image_unused (list_image path image) _ (λ no. absurd (no tt)) tt (λ none. none) (λ none. none) looks.disk_work.passes;
      causes = has_cause (list_image path image) _ answer (λ pulls. absurd pulls) (λ text. c.list_image.ensures.write_fault)
          (λ image. c.list_image.ensures.disk_fault);
      no_fault_passed_over = record {
        input = λ read covers. looks.disk_work.passes.input_faults;
        write = λ other covers. c.list_image.ensures.no_write_fault other (λ failed. covers ((refl, tt), failed));
        disk = λ other. c.list_image.ensures.no_disk_fault other;
      };
      does = c.list_image.ensures.lists;
      complete = λ whole faultless. list_done path image _ _ _ _ _ _ _ _ _ answer c.list_image.ensures.lists whole.0 whole.1
          (λ e. faultless.disk tt (c.list_image.ensures.disk_fault e)) (λ e. faultless.sink tt (c.list_image.ensures.write_fault e));
    }
