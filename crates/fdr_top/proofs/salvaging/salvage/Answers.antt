use Rattle.std.proofs.Common.{ap, refl}
use Rattle.fdr_words.specs.Forms.{salvage_image}
use Rattle.fdr_pieces.proofs.Pulling.{LeavesStops-look}
use Rattle.fdr_top.proofs.Answering.{has_cause, image_unused, left_all, passes_keeps}
use Rattle.fdr_top.proofs.Salvages.{salvage_done}
use Rattle.fdr_top.proofs.salvaging.salvage.Goals as goal

pub returns-clause-works : goal.returns-clause-works
returns-clause-works g c = λ path image.
    let form = salvage_image path image c.args.ring in
    let answer = c.salvage_image.ensures.answer path image in
    let looks = c.salvage_image.ensures.salvages.looks in
    record {
      answer = answer;
      refusal = λ nothing. let same = c.salvage_image.ensures.unwritten nothing in
          left_all _ (ap g.O.Sink.written same) (ap g.O.Sink.faults same) looks.disk looks.learns looks.disk_work.passes.announced.announced
          (passes_keeps _ _ _ looks.disk_work.passes);
      stops = λ has nothing. LeavesStops-look _ _ _ looks.disk_work;
      unused = image_unused form _ (λ no. absurd (no tt)) tt (λ none. none) (λ none. none) looks.disk_work.passes;
      causes = has_cause form _ answer (λ pulls. absurd pulls) (λ text. c.salvage_image.ensures.write_fault)
          (λ image. c.salvage_image.ensures.disk_fault);
      no_fault_passed_over = record {
        input = λ read covers. looks.disk_work.passes.input_faults;
        write = λ other covers. c.salvage_image.ensures.no_write_fault other (λ failed. covers ((refl, tt), failed));
        disk = λ other. c.salvage_image.ensures.no_disk_fault other;
      };
      does = c.salvage_image.ensures.salvages;
      complete = λ whole faultless. salvage_done path image c.args.ring _ _ _ _ _ _ _ _ _ answer (g.met.D.Deck.sound c.args.deck.now)
          c.salvage_image.ensures.salvages whole.0 whole.1
          (λ e. faultless.disk tt (c.salvage_image.ensures.disk_fault e)) (λ e. faultless.sink tt (c.salvage_image.ensures.write_fault e));
    }
