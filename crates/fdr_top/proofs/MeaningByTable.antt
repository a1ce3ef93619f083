-- What commands mean by their table.
use Rattle.std.proofs.Common.{◌≡◌, ◌≢◌, ◌⊎◌, inl, inr, ℕ, ◌≤◌, true, false, List, [], length, Option, Some, None, IfSome, refl, sym, ◌∙◌, subst, ap}
use Rattle.std.proofs.Common.{le-leb, IsTrue}
use Rattle.fdr_io.specs.Told.{preceded_by}
use Rattle.fdr_io.specs.declared.Input.TheVariants as input
use Rattle.fdr_load.specs.Tables.{IsAccepted, IsTableRefused, table_in}
use Rattle.fdr_table.specs.Bounds.{most_table_bytes}
use Rattle.fdr_table.specs.Rows.{TableRows}
use Rattle.fdr_table.specs.declared.fault.TableFault.{TableFault}
use Rattle.fdr_words.specs.Forms.{Form}
use Rattle.fdr_load.specs.Supplies.{Supplied}
use Rattle.fdr_top.specs.Answers.{HasImage, IsOwn, MayAnswer, PullsInput, ReadsTable}
use Rattle.fdr_top.specs.Commands.{DoesWork, RunsCommand}
use Rattle.fdr_top.specs.Runs.{CommandRun}
use Rattle.fdr_top.specs.Stages.{IsPastTable}
use Rattle.fdr_top.specs.Tables.{ByTable, ReadsItsTable}
use Rattle.fdr_top.specs.declared.outcome.Outcome.{Outcome}
use Rattle.fdr_top.specs.declared.outcome.Outcome.TheVariants as outcome
use Rattle.fdr_top.proofs.MeaningWords.{Core, IsPulled}
use Rattle.fdr_top.specs.Meaning.{Effect, Given, answers, at_table, by_table, meaning, with_all}
use Rattle.fdr_top.specs.Doing.{GaveInput, GaveTable, IsTold, Refines, WasGiven}
use Rattle.fdr_top.proofs.MeaningInputs.{came_all}
use Rattle.fdr_top.proofs.MeaningLeft.{no_memory, refused}
use Rattle.fdr_top.proofs.TableAnswers.{taken_is_all}

-- nothing came
abbrev pub nothing : Supplied
nothing = record { bytes = []; failed = false }

-- ---- how the table decides

pub by_accepted : (bytes : List ℕ) (work : TableRows → Effect) → IsAccepted bytes
    → by_table (record { bytes = bytes; failed = false }) work ≡ work (table_in bytes)
by_accepted bytes work accepted = rw accepted refl

pub by_refused : (bytes : List ℕ) (work : TableRows → Effect) (row : ℕ) (f : TableFault) → IsTableRefused bytes row f
    → by_table (record { bytes = bytes; failed = false }) work ≡ answers at_table (outcome.TableRefused row f)
by_refused bytes work row f is = rw is refl

pub by_failed : (bytes : List ℕ) (work : TableRows → Effect) → length bytes ≤ most_table_bytes
    → by_table (record { bytes = bytes; failed = true }) work ≡ answers at_table (outcome.ReadFault input.Table)
by_failed bytes work few = rw (le-leb (length bytes) most_table_bytes few) refl

-- what was taken of a source to its end is all that it tells
pub taken_told : (old new : Option (List ℕ)) (taken : List ℕ) → old ≡ preceded_by taken new → IfSome new (λ left. left ≡ [])
    → IfSome old (λ bytes. taken ≡ bytes)
taken_told None new taken is end = tt
taken_told (Some bytes) new taken is end = sym (taken_is_all (Some bytes) new taken bytes is end refl)

-- bytes of a table that is refused
refused_bytes : (old new : Option (List ℕ)) (answer : Outcome) (row : ℕ) (f : TableFault) → ReadsItsTable old new answer
    → answer ≡ outcome.TableRefused row f → (bytes : List ℕ) × IsTableRefused bytes row f × IfSome old (λ all. bytes ≡ all)
refused_bytes None new answer row f reads e = let r = reads.refused_taken row f e in (r.0, r.1, tt)
refused_bytes (Some bytes) new answer row f reads e = (bytes, reads.refused row f bytes e refl, refl)

-- bytes of a table that wasn't read
some_bytes : (old : Option (List ℕ)) → (bytes : List ℕ) × IfSome old (λ all. bytes ≡ all)
some_bytes None = ([], tt)
some_bytes (Some bytes) = (bytes, refl)

-- an answer past the table that may be given is the command's own
pub past_own : (form : Form) (a : Outcome) → IsPastTable a → MayAnswer form a → IsOwn form a
past_own form outcome.Usage past may = past
past_own form (outcome.TableRefused row f) past may = past
past_own form (outcome.ReadFault input.Table) past may = past
past_own form outcome.NoMemory past may = past
past_own form a past may = may

-- ---- a command with a table

-- what was given besides a table
pub record GaveRest (form : Form) (r : CommandRun) : Type 0 where
  pub came : Supplied
  pub image : List ℕ
  pub given : PullsInput form → GaveInput came r.work
  pub held : HasImage form → image ≡ r.work.old.held
  pub pulled : IsPulled form came.bytes r

-- what was given of an input to a command without an image
abbrev pub line_rest : (form : Form) (r : CommandRun) (came : Supplied) → GaveInput came r.work → (HasImage form → ⊥)
    → IsPulled form came.bytes r → GaveRest form r
line_rest form r came given none pulled = record { came = came; image = []; given = λ yes. given; held = λ has. absurd (none has); pulled = pulled }

-- what is known where the work was done: what was given for it, and that it refines its meaning by that
pub record MeansWork (form : Form) (work : Supplied → List ℕ → Effect) (r : CommandRun) : Type 0 where
  pub rest : GaveRest form r
  pub does : Refines form (work rest.came rest.image) r.work
  pub all : IsTrue r.work.tells.input → rest.came.failed ≡ false → r.work.answer ≢ outcome.DiskFault
      → Refines form (work (came_all r.work) rest.image) r.work

module _ (form : Form) (work : TableRows → Supplied → List ℕ → Effect) (r : CommandRun) (told : IsTold form r) (runs : RunsCommand form r)
    (reads : ReadsTable form)
    (same : (g : Given) → meaning form g ≡ by_table g.table (λ t. work t g.input g.image))
    (idle : (r.work.answer ≡ outcome.NoMemory) ⊎ ((IsPastTable r.work.answer → ⊥) × (r.work.answer ≢ outcome.NoMemory)) → GaveRest form r)
    (by : ByTable r.rest_before r.rest_now r.work.answer (λ t. DoesWork form t r.work))
    (does : IsPastTable r.work.answer → IsOwn form r.work.answer → MeansWork form (work by.0) r) where
  -- the answer is that of the table
  given_of : (table : Supplied) (rest : GaveRest form r) → GaveTable table r
      → WasGiven form (record { table = table; input = rest.came; image = rest.image }) r
  given_of table rest of_table = record { table = λ yes. of_table; input = rest.given; image = rest.held }

  whole : (bytes : List ℕ) → IfSome r.rest_before (λ all. bytes ≡ all) → GaveTable (record { bytes = bytes; failed = false }) r
  whole bytes is = record { whole = λ no. is; cut = λ yes. absurd (cc) }

  means_past : IsPastTable r.work.answer → Core form r
  means_past past =
      let read = by.2 past in
      let bytes = read.0 in
      let accepted = read.1 in
      let is = taken_told r.rest_before r.rest_now bytes read.3 ((runs.table reads).accepted_at_end past) in
      let w = does past (past_own form r.work.answer past runs.answers) in
      let rest = w.rest in
      let g : Given = record { table = record { bytes = bytes; failed = false }; input = rest.came; image = rest.image } in
      let by_it = λ (came : Supplied). by_accepted bytes (λ (t : TableRows). work t came rest.image) accepted
      ∙ ap (λ (t : TableRows). work t came rest.image) (sym read.2) in
      record {
        g = g;
        given = given_of (record { bytes = bytes; failed = false }) rest (whole bytes is);
        pulled = rest.pulled;
        does = subst (λ (m : Effect). Refines form m r.work) (sym (same g ∙ by_it rest.came)) w.does;
        all = λ line uncut disk. subst (λ (m : Effect). Refines form m r.work)
            (sym (same (with_all r.work.old.input g) ∙ by_it (came_all r.work))) (w.all line uncut disk);
      }

  -- what was given where the work wasn't done
  means_idle : (table : Supplied) → GaveTable table r
      → (r.work.answer ≡ outcome.NoMemory) ⊎ ((IsPastTable r.work.answer → ⊥) × (r.work.answer ≢ outcome.NoMemory))
      → ((came : Supplied) (image : List ℕ) → Refines form (by_table table (λ t. work t came image)) r.work) → Core form r
  means_idle table of_table why refines =
      let i = idle why in
      record {
        g = record { table = table; input = i.came; image = i.image };
        given = given_of table i of_table;
        pulled = i.pulled;
        does = subst (λ (m : Effect). Refines form m r.work) (sym (same (record { table = table; input = i.came; image = i.image })))
            (refines i.came i.image);
        all = λ line uncut disk. subst (λ (m : Effect). Refines form m r.work)
            (sym (same (record { table = table; input = came_all r.work; image = i.image }))) (refines (came_all r.work) i.image);
      }

  means_refused : (row : ℕ) (f : TableFault) → r.work.answer ≡ outcome.TableRefused row f → Core form r
  means_refused row f e =
      let found = refused_bytes r.rest_before r.rest_now r.work.answer row f (runs.table reads) e in
      let bytes = found.0 in
      let no = found.1 in
      let is = found.2 in
      means_idle (record { bytes = bytes; failed = false }) (whole bytes is)
      (inr (λ past. subst IsPastTable e past, λ none. let c : outcome.TableRefused row f ≡ outcome.NoMemory = sym e ∙ none in cc))
      (λ came image. refused form r (by_table (record { bytes = bytes; failed = false }) (λ t. work t came image))
      (outcome.TableRefused row f) told runs e tt at_table
      (by_refused bytes (λ t. work t came image) row f no))

  means_failed : r.work.answer ≡ outcome.ReadFault input.Table → Core form r
  means_failed e =
      let cut = (runs.table reads).fault_within_limit e in
      means_idle (record { bytes = cut.0; failed = true })
      (record { whole = λ no. absurd (cc); cut = λ yes. (runs.table_cause e, cut.2) })
      (inr (λ past. subst IsPastTable e past, λ none. let c : outcome.ReadFault input.Table ≡ outcome.NoMemory = sym e ∙ none in cc))
      (λ came image. refused form r (by_table (record { bytes = cut.0; failed = true }) (λ t. work t came image))
      (outcome.ReadFault input.Table) told runs e tt at_table
      (by_failed cut.0 (λ t. work t came image) cut.1))

  means_none : r.work.answer ≡ outcome.NoMemory → Core form r
  means_none e =
      let found = some_bytes r.rest_before in
      let bytes = found.0 in
      let is = found.1 in
      means_idle (record { bytes = bytes; failed = false }) (whole bytes is) (inl e)
      (λ came image. no_memory form r (by_table (record { bytes = bytes; failed = false }) (λ t. work t came image)) runs told e)

  means_at : (a : Outcome) → r.work.answer ≡ a → MayAnswer form a → Core form r
  means_at outcome.Usage e may = absurd may
  means_at (outcome.TableRefused row f) e may = means_refused row f e
  means_at (outcome.ReadFault input.Table) e may = means_failed e
  means_at outcome.NoMemory e may = means_none e
  means_at a e may = means_past (subst IsPastTable (sym e) tt)

  -- a command with a table means what its work means
  pub means_by_table : Core form r
  means_by_table = means_at r.work.answer refl runs.answers

-- a command that pulls nothing: what is given of an input says nothing
pub means_unpulled : (form : Form) (work : TableRows → List ℕ → Effect) (r : CommandRun) → IsTold form r → RunsCommand form r → ReadsTable form
    → ((g : Given) → meaning form g ≡ by_table g.table (λ t. work t g.image)) → (PullsInput form → ⊥) → IsPulled form [] r
    → (image : List ℕ) → (HasImage form → image ≡ r.work.old.held)
    → (by : ByTable r.rest_before r.rest_now r.work.answer (λ t. DoesWork form t r.work))
    → (IsPastTable r.work.answer → IsOwn form r.work.answer → Refines form (work by.0 image) r.work) → Core form r
means_unpulled form work r told runs reads same none pulled image held by does =
    let rest : GaveRest form r = record { came = nothing; image = image; given = λ pulls. absurd (none pulls); held = held; pulled = pulled } in
    means_by_table form (λ t came i. work t i) r told runs reads same (λ why. rest) by
    (λ past own. let d = does past own in record { rest = rest; does = d; all = λ line uncut disk. d })
