-- What `exceed` means.
use Rattle.std.proofs.Common.{◌≡◌, ◌⊎◌, ⊎_elim, inl, inr, ℕ, ◌≤◌, true, false, List, ◌++◌, length, Some, None, IsTrue, refl, sym, ap, ◌∙◌, subst, le-leb}
use Rattle.std.proofs.lemmas.Bool.{cases_eq}
use Rattle.std.proofs.lemmas.List.{append-nil}
use Rattle.fdr_io.specs.declared.Input.TheVariants as input
use Rattle.fdr_exceed.specs.RuleFaults.{rules_fault}
use Rattle.fdr_exceed.specs.Rules.{most_rule_bytes}
use Rattle.fdr_exceed.specs.declared.fault.RuleFault.{RuleFault}
use Rattle.fdr_recover.specs.ImageHeader.{IsFor, header_in, image_fault_of}
use Rattle.fdr_table.specs.Rows.{TableRows}
use Rattle.fdr_words.specs.Forms.{exceed_image}
use Rattle.fdr_load.specs.Supplies.{Supplied}
use Rattle.fdr_top.specs.Answers.{IsOwn}
use Rattle.fdr_top.specs.Commands.{RunsCommand}
use Rattle.fdr_top.specs.Exceed.{ExceedsImage, exceedances_in}
use Rattle.fdr_top.specs.Runs.{CommandRun}
use Rattle.fdr_top.specs.Stages.{IsPastTable}
use Rattle.fdr_top.specs.declared.outcome.Outcome.{Outcome}
use Rattle.fdr_top.specs.declared.outcome.Outcome.TheVariants as outcome
use Rattle.fdr_top.specs.Meaning.{Effect, answers, at_start, stays, writes}
use Rattle.fdr_top.specs.Doing.{Becomes, IsTold, Refines}
use Rattle.fdr_top.proofs.MeaningWords.{Core, by_image, by_rules}
use Rattle.fdr_top.proofs.MeaningLeft.{refused, wrote_nothing}
use Rattle.fdr_top.proofs.MeaningByTable.{means_by_table}
use Rattle.fdr_top.proofs.MeaningImages.{image_or, image_reads, image_refuses, none_left, words_told, read_all, read_cut, read_failed}
use Rattle.fdr_top.proofs.MeaningInputs.{MeansInput, by_any, came_all, came_cut, came_part, gave_cut, gave_part}

-- ---- how rules decide

pub rules_read : (t : TableRows) (bytes : List ℕ) (work : Effect) → rules_fault t bytes ≡ None
    → by_rules t (record { bytes = bytes; failed = false }) work ≡ work
rules_read t bytes work none = rw none refl

rules_refuse : (t : TableRows) (bytes : List ℕ) (work : Effect) (row : ℕ) (f : RuleFault) → rules_fault t bytes ≡ Some (row, f)
    → by_rules t (record { bytes = bytes; failed = false }) work ≡ answers at_start (outcome.RuleRefused row f)
rules_refuse t bytes work row f is = rw is refl

rules_fail : (t : TableRows) (bytes : List ℕ) (work : Effect) → length bytes ≤ most_rule_bytes
    → by_rules t (record { bytes = bytes; failed = true }) work ≡ answers at_start (outcome.ReadFault input.Line)
rules_fail t bytes work few = rw (le-leb (length bytes) most_rule_bytes few) refl

module _ (table path : List ℕ) (r : CommandRun) (told : IsTold (exceed_image table path) r) (runs : RunsCommand (exceed_image table path) r) where
  abbrev exceeded : TableRows → Supplied → Effect
  exceeded t came = writes (exceedances_in t came.bytes r.work.old.held) outcome.Done

  abbrev exceeds : TableRows → Supplied → Effect
  exceeds t came = by_image t r.work.old.held (by_rules t came (exceeded t came))

  module _ (t : TableRows) (does : ExceedsImage t r.work.tells r.work.old r.work.new r.work.written_before r.work.written_now
      r.work.sink_before r.work.sink_now r.work.answer) where
    exceed_left : Becomes stays r.work.tells r.work.old r.work.new
    exceed_left = (does.disk, does.learns.bytes (told.image tt), runs.unused.announced (λ no. no))

    -- the image isn't refused, where the answer isn't that
    exceed_for : (a : Outcome) → r.work.answer ≡ a → IsPastTable a → (a ≡ outcome.DiskFault → ⊥)
        → ((why : _) → a ≡ outcome.ImageRefused why → ⊥) → ((image words : ℕ) → a ≡ outcome.WordsDiffer image words → ⊥)
        → IsFor t.frame.words r.work.old.held
    exceed_for a e past not_disk not_refused not_differ =
        let none = none_left (image_fault_of r.work.old.held) (λ why is. ⊎_elim
        (λ f. not_refused why (sym e ∙ f)) (λ f. not_disk (sym e ∙ f))
        (does.image.header.refused_always why (subst IsPastTable (sym e) past) (told.image tt) is)) in
        ⊎_elim
        (λ (same : (header_in r.work.old.held).words ≡ t.frame.words). record { no_fault = none; words = same })
        (λ (differ : (header_in r.work.old.held).words ≡ t.frame.words → ⊥). absurd (⊎_elim
        (λ f. not_differ (header_in r.work.old.held).words t.frame.words (sym e ∙ f)) (λ f. not_disk (sym e ∙ f))
        (does.image.words_always (header_in r.work.old.held).words (subst IsPastTable (sym e) past) (told.image tt)
        (record { no_fault = none; words = refl }) differ)))
        (cases_eq (header_in r.work.old.held).words t.frame.words)

    -- the rules were all that the input has
    all_rules : (r.work.answer ≡ outcome.Done) ⊎ (r.work.answer ≡ outcome.WriteFault) → IsTrue r.work.tells.input → r.work.old.input ≡ does.pulled
    all_rules done line = does.pieces.takes.input line ∙ ap (λ (x : List ℕ). does.pulled ++ x) (does.end done line) ∙ append-nil does.pulled

    -- the meaning where the rules have no fault
    abbrev IsRead : List ℕ → Type 0
    IsRead bytes = exceeds t (came_part bytes) ≡ writes (exceedances_in t does.pulled r.work.old.held) outcome.Done

    read_rules : (r.work.answer ≡ outcome.Done) ⊎ (r.work.answer ≡ outcome.WriteFault) → IsRead does.pulled
    read_rules done =
        image_reads t r.work.old.held (by_rules t (came_part does.pulled) (exceeded t (came_part does.pulled))) (does.good done (told.image tt))
        ∙ rules_read t does.pulled (exceeded t (came_part does.pulled)) (does.no_fault (⊎_elim (λ d. inl d) (λ w. inr (inl w)) done))

    read_all_rules : (r.work.answer ≡ outcome.Done) ⊎ (r.work.answer ≡ outcome.WriteFault) → IsTrue r.work.tells.input → IsRead r.work.old.input
    read_all_rules done line = subst IsRead (sym (all_rules done line)) (read_rules done)

    refuses_rules : (bytes : List ℕ) (row : ℕ) (f : RuleFault) → r.work.answer ≡ outcome.RuleRefused row f → rules_fault t bytes ≡ Some (row, f)
        → Refines (exceed_image table path) (exceeds t (came_part bytes)) r.work
    refuses_rules bytes row f e is =
        refused (exceed_image table path) r (exceeds t (came_part bytes)) (outcome.RuleRefused row f) told runs e tt at_start
        (image_reads t r.work.old.held (by_rules t (came_part bytes) (exceeded t (came_part bytes)))
        (exceed_for (outcome.RuleRefused row f) e tt (λ g. cc) (λ why g. cc) (λ image words g. cc))
        ∙ rules_refuse t bytes (exceeded t (came_part bytes)) row f is)

    exceed_at : (a : Outcome) → r.work.answer ≡ a → IsOwn (exceed_image table path) a → MeansInput (exceed_image table path) (exceeds t) r.work
    exceed_at outcome.Done e own = record {
      came = came_part does.pulled;
      given = gave_part r.work does.pulled does.pieces.takes;
      refines = read_all (exceed_image table path) r (exceeds t (came_part does.pulled)) (exceedances_in t does.pulled r.work.old.held) exceed_left
          (read_rules (inl e)) e (does.text e (told.image tt));
      all = λ line uncut disk. read_all (exceed_image table path) r (exceeds t (came_all r.work)) (exceedances_in t does.pulled r.work.old.held) exceed_left
          (read_all_rules (inl e) line) e (does.text e (told.image tt));
    }
    exceed_at outcome.WriteFault e own = record {
      came = came_part does.pulled;
      given = gave_part r.work does.pulled does.pieces.takes;
      refines = read_cut (exceed_image table path) r (exceeds t (came_part does.pulled)) (exceedances_in t does.pulled r.work.old.held) exceed_left
          tt (read_rules (inr e)) e (runs.causes.write e) (does.part (inr (inl e)) (told.image tt));
      all = λ line uncut disk. read_cut (exceed_image table path) r (exceeds t (came_all r.work)) (exceedances_in t does.pulled r.work.old.held) exceed_left
          tt (read_all_rules (inr e) line) e (runs.causes.write e) (does.part (inr (inl e)) (told.image tt));
    }
    exceed_at outcome.DiskFault e own =
        let work = by_rules t (came_part does.pulled) (exceeded t (came_part does.pulled)) in
        let read = rules_read t does.pulled (exceeded t (came_part does.pulled)) (does.no_fault (inr (inr e))) in record {
          came = came_part does.pulled;
          given = gave_part r.work does.pulled does.pieces.takes;
          refines = read_failed (exceed_image table path) r (exceeds t (came_part does.pulled)) (exceedances_in t does.pulled r.work.old.held) exceed_left tt
              (⊎_elim (λ meant. inl (meant ∙ read)) (λ refusal. inr refusal) (image_or t r.work.old.held work))
              e (runs.causes.disk e) (does.part (inr (inr e)) (told.image tt))
              (⊎_elim (λ quiet. inl quiet.1) (λ ended. inr (image_reads t r.work.old.held work (ended.1 (told.image tt)) ∙ read)) (does.cut e));
          all = λ line uncut disk. absurd (disk e);
        }
    exceed_at (outcome.ImageRefused why) e own = by_any (exceed_image table path) (exceeds t) r.work does.pulled does.pieces.takes (λ came.
        refused (exceed_image table path) r (exceeds t came) (outcome.ImageRefused why) told runs e tt at_start
        (image_refuses t r.work.old.held (by_rules t came (exceeded t came)) why (does.image.header.refused why e (told.image tt))))
    exceed_at (outcome.WordsDiffer image words) e own = by_any (exceed_image table path) (exceeds t) r.work does.pulled does.pieces.takes (λ came.
        refused (exceed_image table path) r (exceeds t came) (outcome.WordsDiffer image words) told runs e tt at_start
        (words_told t r.work.tells r.work.old r.work.new r.work.answer image words does.image (told.image tt) e (by_rules t came (exceeded t came))))
    exceed_at (outcome.RuleRefused row f) e own = record {
      came = came_part does.pulled;
      given = gave_part r.work does.pulled does.pieces.takes;
      refines = refuses_rules does.pulled row f e (does.rules row f e);
      all = λ line uncut disk. refuses_rules r.work.old.input row f e (does.rules_of_input row f e line);
    }
    exceed_at (outcome.ReadFault input.Line) e own =
        let for = exceed_for (outcome.ReadFault input.Line) e tt (λ g. cc) (λ why g. cc) (λ image words g. cc) in
        let meant = image_reads t r.work.old.held (by_rules t (came_cut does.pulled) (exceeded t (came_cut does.pulled))) for
        ∙ rules_fail t does.pulled (exceeded t (came_cut does.pulled)) (does.few e) in record {
          came = came_cut does.pulled;
          given = gave_cut r.work does.pulled does.pieces.takes (runs.causes.input e);
          refines = subst (λ (x : Effect). Refines (exceed_image table path) x r.work) (sym meant) (inl (record {
            answer = e;
            text = wrote_nothing r.work.written_before r.work.written_now (does.unwritten (λ read. absurd (unread e read)));
            image = exceed_left;
          }));
          all = λ line uncut disk. absurd (cc);
        }
      where
        unread : r.work.answer ≡ outcome.ReadFault input.Line
            → (r.work.answer ≡ outcome.Done) ⊎ ((r.work.answer ≡ outcome.WriteFault) ⊎ (r.work.answer ≡ outcome.DiskFault)) → ⊥
        unread is (inl d) = let c : outcome.ReadFault input.Line ≡ outcome.Done = sym is ∙ d in cc
        unread is (inr (inl w)) = let c : outcome.ReadFault input.Line ≡ outcome.WriteFault = sym is ∙ w in cc
        unread is (inr (inr d)) = let c : outcome.ReadFault input.Line ≡ outcome.DiskFault = sym is ∙ d in cc
    exceed_at a e own = absurd own

  pub means_exceed : Core (exceed_image table path) r
  means_exceed = means_by_table (exceed_image table path)
      (λ t came image. by_image t image (by_rules t came (writes (exceedances_in t came.bytes image) outcome.Done))) r told runs refl (λ g. refl)
      (λ why. let d = runs.carries_out.3 in record {
        came = came_part d.pulled;
        image = r.work.old.held;
        given = λ yes. gave_part r.work d.pulled d.pieces.takes;
        held = λ yes. refl;
        pulled = tt;
      })
      runs.carries_out (λ past own. let i = exceed_at runs.carries_out.0 runs.carries_out.3 r.work.answer refl own in record {
        rest = record { came = i.came; image = r.work.old.held; given = λ yes. i.given; held = λ yes. refl; pulled = tt };
        does = i.refines;
        all = i.all;
      })
