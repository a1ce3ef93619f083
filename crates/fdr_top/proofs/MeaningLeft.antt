-- What a run leaves as it was, and refusals.
use Rattle.std.proofs.Common.{◌≡◌, ◌≢◌, ◌⊎◌, ⊎_elim, inl, inr, ℕ, List, [], Option, refl, sym, ◌∙◌, subst}
use Rattle.fdr_io.specs.Told.{followed_by}
use Rattle.fdr_io.proofs.Telling.{followed_by-nil}
use Rattle.fdr_words.specs.Forms.{Form, ImageUse, has_no_image, makes_image, records_in_image, reads_image, upgrades_image, command_uses}
use Rattle.fdr_io.specs.declared.Input.TheVariants as input
use Rattle.fdr_top.specs.Answers.{HasImage, IsImageRecorded, IsImageUsed, KeepsInputAndFaults, PullsLast}
use Rattle.fdr_top.specs.Commands.{RunsCommand}
use Rattle.fdr_top.specs.InputTexts.{WritesFront}
use Rattle.fdr_top.specs.Leaves.{LeavesAll, LeavesUnused}
use Rattle.fdr_top.specs.Runs.{CommandRun, WorkRun}
use Rattle.fdr_top.specs.Stages.{IsBeforeInput, IsPastTable, WritesNothing}
use Rattle.fdr_top.specs.declared.outcome.Outcome.{Outcome}
use Rattle.fdr_top.specs.declared.outcome.Outcome.TheVariants as outcome
use Rattle.fdr_top.specs.Meaning.{Effect, Step, answers, stays}
use Rattle.fdr_top.specs.Doing.{Becomes, DoesAll, IsTold, Refines}

-- a command has an image or it hasn't
image_or_not : (kind : ImageUse) → IsImageUsed kind ⊎ (IsImageUsed kind → ⊥)
image_or_not has_no_image = inr (λ no. no)
image_or_not makes_image = inl tt
image_or_not records_in_image = inl tt
image_or_not reads_image = inl tt
image_or_not upgrades_image = inl tt

recorded_used : (kind : ImageUse) → IsImageRecorded kind → IsImageUsed kind
recorded_used records_in_image is = tt
recorded_used kind is = absurd is

pub has_image : (form : Form) → HasImage form ⊎ (HasImage form → ⊥)
has_image form = image_or_not (command_uses form).work

-- nothing was written
pub wrote_nothing : (before now : Option (List ℕ)) → now ≡ before → now ≡ followed_by before []
wrote_nothing before now same = same ∙ sym (followed_by-nil before)

pub front_nothing : (text : List ℕ) (before now : Option (List ℕ)) → now ≡ before → WritesFront text before now
front_nothing text before now same = (0, wrote_nothing before now same)

-- an image that isn't there, or that was left, stays
pub stays_left : (form : Form) (r : CommandRun) → IsTold form r → LeavesUnused form r.work → LeavesAll r.work
    → Becomes stays r.work.tells r.work.old r.work.new
stays_left form r told unused all = ⊎_elim
    (λ (has : HasImage form). (all.disk, all.extent.bytes (told.image has), all.announced))
    (λ (none : HasImage form → ⊥). (all.disk, (unused.disk none).extent, all.announced))
    (has_image form)

pub stays_unused : (form : Form) (r : WorkRun) → LeavesUnused form r → (HasImage form → ⊥) → Becomes stays r.tells r.old r.new
stays_unused form r unused none =
    let l = unused.disk none in (l.disk, l.extent, unused.announced (λ records. none (recorded_used (command_uses form).work records)))

-- a refusal that leaves all
pub refused : (form : Form) (r : CommandRun) (m : Effect) (a : Outcome) → IsTold form r → RunsCommand form r → r.work.answer ≡ a → WritesNothing a
    → (step : Step) → m ≡ answers step a → Refines form m r.work
refused form r m a told runs is nothing step meant =
    let all : LeavesAll r.work = runs.refusal (subst WritesNothing (sym is) nothing) in
    let does : DoesAll (answers step a) r.work = record {
      answer = is;
      text = wrote_nothing r.work.written_before r.work.written_now all.written;
      image = stays_left form r told runs.unused all;
    } in
    inl (subst (λ (x : Effect). DoesAll x r.work) (sym meant) does)

-- memory ended
pub no_memory : (form : Form) (r : CommandRun) (m : Effect) → RunsCommand form r → IsTold form r → r.work.answer ≡ outcome.NoMemory → Refines form m r.work
no_memory form r m runs told is =
    let all : LeavesAll r.work = runs.refusal (subst WritesNothing (sym is) tt) in
    inr (inr (inr (record { answer = is; text = all.written; image = stays_left form r told runs.unused all })))

-- where the work wasn't done, nothing was pulled
early : (a : Outcome) → (IsPastTable a → ⊥) → a ≢ outcome.NoMemory → WritesNothing a × IsBeforeInput a
early outcome.Usage past memory = (tt, tt)
early (outcome.TableRefused row f) past memory = (tt, tt)
early (outcome.ReadFault input.Table) past memory = (tt, tt)
early (outcome.ReadFault input.Line) past memory = absurd (past tt)
early outcome.NoMemory past memory = absurd (memory refl)
early a past memory = absurd (past tt)

pub idle_keeps : (form : Form) (r : CommandRun) → RunsCommand form r → PullsLast form
    → (r.work.answer ≡ outcome.NoMemory) ⊎ ((IsPastTable r.work.answer → ⊥) × (r.work.answer ≢ outcome.NoMemory))
    → KeepsInputAndFaults r.work.old r.work.new
idle_keeps form r runs last why = ⊎_elim
    (λ none. runs.unused.memory last none)
    (λ not. let e = early r.work.answer not.0 not.1 in (runs.refusal e.0).input e.1)
    why
