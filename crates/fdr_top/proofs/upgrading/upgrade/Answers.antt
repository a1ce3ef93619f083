use Rattle.std.proofs.Common.{inr, inl, refl, []}
use Rattle.fdr_words.specs.Forms.{upgrade_image}
use Rattle.fdr_top.proofs.Answering.{has_cause, image_unused, left_all, passes_keeps}
use Rattle.fdr_top.proofs.Commands.{own_not_memory}
use Rattle.fdr_top.proofs.Upgrades.{upgrade_done}
use Rattle.fdr_top.proofs.upgrading.upgrade.Goals as goal

pub returns-clause-works : goal.returns-clause-works
returns-clause-works g c = λ image t written faults.
    let form = upgrade_image image in
    let own = c.upgrade_image.ensures.answer image in
    let does = c.upgrade_image.ensures.upgrades in
    record {
      answer = inr own;
      refusal = λ nothing. left_all _ refl refl (c.upgrade_image.ensures.untouched nothing) does.learns does.disk_work.passes.announced.announced
          (passes_keeps _ _ _ does.disk_work.passes);
      stops = λ has. c.upgrade_image.ensures.stops;
      unused = image_unused form _ (λ no. (refl, refl)) tt (λ none. none) (λ none. none) does.disk_work.passes;
      causes = has_cause form _ (inr own) (λ pulls. absurd pulls) (λ text. absurd text) (λ image. c.upgrade_image.ensures.disk_fault);
      no_fault_passed_over = record {
        input = λ read covers. does.disk_work.passes.input_faults;
        write = λ other covers. refl;
        disk = λ other. c.upgrade_image.ensures.no_disk_fault other;
      };
      does = does;
      complete = λ whole faultless. inl (upgrade_done image _ _ _ _ own does whole.0 whole.1
          (λ e. faultless.disk tt (c.upgrade_image.ensures.disk_fault e)));
    }

pub returns-clause-memory : goal.returns-clause-memory
returns-clause-memory g c = λ e. own_not_memory (upgrade_image []) _ (c.upgrade_image.ensures.answer []) e
