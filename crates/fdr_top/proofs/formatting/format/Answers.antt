use Rattle.std.proofs.Common.{inl, inr, refl}
use Rattle.fdr_words.specs.Forms.{format_image}
use Rattle.fdr_top.proofs.Answering.{has_cause, image_unused, making_done, making_refusal, making_stops}
use Rattle.fdr_top.proofs.formatting.format.Goals as goal

pub returns : goal.returns
returns g c = record {
  works = λ path image written faults.
      let form = format_image path image c.args.slots c.args.payload in
      let own = c.make_image.ensures.answer path image in
      record {
        answer = inr own;
        refusal = making_refusal path image c.args.slots c.args.payload _ _ own c.make_image.ensures.makes refl refl;
        stops = λ has nothing. making_stops path image c.args.slots c.args.payload _ _ _ _ _ own c.make_image.ensures.makes nothing;
        unused = image_unused form _ (λ no. (refl, refl)) tt (λ none. none) (λ none. none) c.make_image.ensures.makes.disk_work.passes;
        causes = has_cause form _ (inr own) (λ pulls. absurd pulls) (λ text. absurd text) (λ image. c.make_image.ensures.makes.cause);
        no_fault_passed_over = record {
          input = λ read covers. c.make_image.ensures.makes.disk_work.passes.input_faults;
          write = λ other covers. refl;
          disk = λ other. c.make_image.ensures.no_disk_fault other;
        };
        does = c.make_image.ensures.makes;
        complete = λ whole faultless. inl (making_done path image c.args.slots c.args.payload _ _ _ _ _ own c.make_image.ensures.makes
            whole.0 whole.1 (faultless.disk tt));
      };
}
