-- What `recover`, `upgrade`, `list`, `salvage` and `format` mean.
use Rattle.std.proofs.Common.{◌≡◌, ⊎_elim, inl, inr, ℕ, List, [], refl, sym, subst}
use Rattle.fdr_io.specs.declared.Input.TheVariants as input
use Rattle.fdr_load.specs.Tables.{table_in}
use Rattle.fdr_table.specs.Rows.{TableRows}
use Rattle.fdr_words.specs.Forms.{recover_image, list_image, upgrade_image}
use Rattle.fdr_top.specs.Answers.{IsOwn, MayAnswer}
use Rattle.fdr_top.specs.Commands.{RunsCommand}
use Rattle.fdr_top.specs.List.{ListsImage, listing_in}
use Rattle.fdr_top.specs.Runs.{CommandRun}
use Rattle.fdr_top.specs.Upgrade.{UpgradesImage}
use Rattle.fdr_top.specs.declared.outcome.Outcome.{Outcome}
use Rattle.fdr_top.specs.declared.outcome.Outcome.TheVariants as outcome
use Rattle.fdr_top.specs.Meaning.{Given, with_all}
use Rattle.fdr_top.specs.Meaning.{Effect, at_start, changes, raised, stays, writes}
use Rattle.fdr_top.specs.Doing.{Becomes, IsTold, Refines}
use Rattle.fdr_top.proofs.MeaningWords.{Core, by_header, by_image}
use Rattle.fdr_top.proofs.MeaningLeft.{no_memory, refused, wrote_nothing}
use Rattle.fdr_top.proofs.MeaningByTable.{means_unpulled, nothing}
use Rattle.fdr_top.proofs.MeaningImages.{header_or, header_reads, header_refuses, image_or, image_reads, image_refuses}
use Rattle.fdr_top.proofs.MeaningImages.{failed_silent, looked, words_told, read_all, read_cut, read_failed}

-- ---- recover

pub means_recover : (path : List ℕ) (r : CommandRun) → IsTold (recover_image path) r → RunsCommand (recover_image path) r → Core (recover_image path) r
means_recover path r told runs =
    let means = (runs.carries_out (table_in [])).means (told.image tt) in
    let g : Given = record { table = nothing; input = nothing; image = r.work.old.held } in record {
      g = g;
      given = record { table = λ no. absurd (cc); input = λ no. absurd no; image = λ yes. refl };
      pulled = tt;
      does = means g refl;
      all = λ line uncut disk. means (with_all r.work.old.input g) refl;
    }

-- ---- upgrade

module _ (path : List ℕ) (r : CommandRun) (told : IsTold (upgrade_image path) r) (runs : RunsCommand (upgrade_image path) r) where
  abbrev upgrades : Effect
  upgrades = by_header r.work.old.held (changes raised)

  module _ (does : UpgradesImage r.work.tells r.work.old r.work.new r.work.answer) where
    upgrade_at : (a : Outcome) → r.work.answer ≡ a → MayAnswer (upgrade_image path) a → Refines (upgrade_image path) upgrades r.work
    upgrade_at outcome.Done e may =
        subst (λ (x : Effect). Refines (upgrade_image path) x r.work) (sym (header_reads r.work.old.held (changes raised) (does.good e (told.image tt))))
        (inl (record {
          answer = e;
          text = wrote_nothing r.work.written_before r.work.written_now (runs.unused.text (λ no. no)).0;
          image = (does.held e (told.image tt), does.settled e);
        }))
    upgrade_at outcome.DiskFault e may = failed_silent (upgrade_image path) upgrades (changes raised) r.work tt
        (header_or r.work.old.held (changes raised)) refl e (runs.causes.disk e) (runs.unused.text (λ no. no)).0
    upgrade_at (outcome.ImageRefused why) e may = refused (upgrade_image path) r upgrades (outcome.ImageRefused why) told runs e tt at_start
        (header_refuses r.work.old.held (changes raised) why (does.header.refused why e (told.image tt)))
    upgrade_at outcome.NoMemory e may = no_memory (upgrade_image path) r upgrades runs told e
    upgrade_at outcome.WriteFault e may = absurd may
    upgrade_at (outcome.TableRefused row f) e may = absurd (cc)
    upgrade_at (outcome.ReadFault input.Table) e may = absurd (cc)
    upgrade_at (outcome.ReadFault input.Line) e may = absurd may
    upgrade_at (outcome.WordsDiffer image table) e may = absurd may
    upgrade_at a e may = absurd may

  pub means_upgrade : Core (upgrade_image path) r
  means_upgrade = record {
    g = record { table = nothing; input = nothing; image = r.work.old.held };
    given = record { table = λ no. absurd (cc); input = λ no. absurd no; image = λ yes. refl };
    pulled = tt;
    does = upgrade_at (runs.carries_out (table_in [])) r.work.answer refl runs.answers;
    all = λ line uncut disk. upgrade_at (runs.carries_out (table_in [])) r.work.answer refl runs.answers;
  }

-- ---- list

module _ (table path : List ℕ) (r : CommandRun) (told : IsTold (list_image table path) r) (runs : RunsCommand (list_image table path) r) where
  abbrev listed : TableRows → Effect
  listed t = writes (listing_in t r.work.old.held) outcome.Done

  abbrev lists : TableRows → Effect
  lists t = by_image t r.work.old.held (listed t)

  module _ (t : TableRows) (does : ListsImage t r.work.tells r.work.old r.work.new r.work.written_before r.work.written_now r.work.sink_before
      r.work.sink_now r.work.answer) where
    list_left : Becomes stays r.work.tells r.work.old r.work.new
    list_left = looked r.work.tells r.work.old r.work.new (told.image tt) does.looks

    list_at : (a : Outcome) → r.work.answer ≡ a → IsOwn (list_image table path) a → Refines (list_image table path) (lists t) r.work
    list_at outcome.Done e own = read_all (list_image table path) r (lists t) (listing_in t r.work.old.held) list_left
        (image_reads t r.work.old.held (listed t) (does.good (inl e) (told.image tt))) e (does.text e (told.image tt))
    list_at outcome.WriteFault e own = read_cut (list_image table path) r (lists t) (listing_in t r.work.old.held) list_left
        tt (image_reads t r.work.old.held (listed t) (does.good (inr e) (told.image tt))) e (runs.causes.write e) (does.part (told.image tt))
    list_at outcome.DiskFault e own = read_failed (list_image table path) r (lists t) (listing_in t r.work.old.held) list_left
        tt (image_or t r.work.old.held (listed t)) e (runs.causes.disk e) (does.part (told.image tt))
        (⊎_elim (λ quiet. inl quiet) (λ for. inr (image_reads t r.work.old.held (listed t) (for (told.image tt)))) does.begun)
    list_at (outcome.ImageRefused why) e own = refused (list_image table path) r (lists t) (outcome.ImageRefused why) told runs e tt at_start
        (image_refuses t r.work.old.held (listed t) why (does.image.header.refused why e (told.image tt)))
    list_at (outcome.WordsDiffer image words) e own =
        refused (list_image table path) r (lists t) (outcome.WordsDiffer image words) told runs e tt at_start
        (words_told t r.work.tells r.work.old r.work.new r.work.answer image words does.image (told.image tt) e (listed t))
    list_at (outcome.ReadFault input.Line) e own = absurd own
    list_at a e own = absurd own

  pub means_list : Core (list_image table path) r
  means_list = means_unpulled (list_image table path) (λ t image. by_image t image (writes (listing_in t image) outcome.Done)) r told runs refl
      (λ g. refl) (λ no. no) tt r.work.old.held (λ yes. refl) runs.carries_out
      (λ past own. list_at runs.carries_out.0 runs.carries_out.3 r.work.answer refl own)
