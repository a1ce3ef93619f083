use Rattle.std.proofs.Common.{List, sym, subst, ◌∙◌, arith}
use Rattle.fdr_layout.specs.Samples.{Sample}
use Rattle.fdr_layout.specs.Drafts.{AreDrafted}
use Rattle.fdr_layout.proofs.Drafting.{no_samples_of, samples_of_more}
use Rattle.fdr_layout.proofs.drafts.add_samples.Goals as goal

pub loop-index-init : goal.loop-index-init
loop-index-init c =
    let d = c.args.draft.now in
    record {
      samples = λ ss is. subst (λ (xs : List Sample). AreDrafted xs d.list.items d.lasts.items d.parts.items d.starts.items)
          (sym (no_samples_of c.args.words c.args.places.now c.args.param ss)) is;
      count = omega arith;
      parts = c.requires.parts;
    }

pub loop-index-preserved : goal.loop-index-preserved
loop-index-preserved c =
    let d = c.add_sample.new.draft in
    record {
      samples = λ ss is. subst (λ (xs : List Sample). AreDrafted xs d.list.items d.lasts.items d.parts.items d.starts.items)
          (samples_of_more c.args.words c.args.places.now c.args.param c.loop-index.index c.deref.result.now ss (c.deref.ensures.value
          ∙ c.in_ok-carriers.ensures))
          (c.in_ok-add_sample.ensures.sample _ (c.loop-index.invariant.samples ss is));
      count = omega (arith, c.in_ok-add_sample.ensures.count, c.loop-index.invariant.count);
      parts = c.in_ok-add_sample.ensures.parts;
    }
