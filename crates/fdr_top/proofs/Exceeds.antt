-- What of the exceedances in blocks is written.
use Rattle.std.proofs.Common.{◌≡◌, ℕ, ◌≤◌, ◌^◌, List, [], ◌∷◌, ◌++◌, Option, Result, length, take, ap, sym, refl, ◌∙◌, subst, arith}
use Rattle.std.proofs.Common.{append_assoc, length-append}
use Rattle.std.specs.Prelude.{OnOk, OnErr}
use Rattle.std.proofs.lemmas.List.Concat.{flat_map-append}
use Rattle.std.proofs.lemmas.List.Elements.{filter_map-append}
use Rattle.fdr_io.specs.Faults.{Rose}
use Rattle.fdr_io.specs.Output.{Emits, EmitsPart}
use Rattle.fdr_io.specs.Told.{followed_by}
use Rattle.fdr_io.proofs.OutputSteps.{finished_part}
use Rattle.fdr_check.specs.Soundness.{IsSound}
use Rattle.fdr_recover.specs.Blocks.{Block}
use Rattle.fdr_recover.specs.Payloads.{payloads_of}
use Rattle.fdr_table.specs.Rows.{TableRows}
use Rattle.fdr_exceed.specs.Exceedances.{WatchStep, ResetStep, exceedances}
use Rattle.fdr_exceed.specs.Watching.{RepresentsWatch, WatchKept}
use Rattle.fdr_exceed.specs.declared.rule.Rule.{Rule}
use Rattle.fdr_readout.specs.Entries.{Entry, row_of_entry}
use Rattle.fdr_readout.specs.Summary.{rows_among}
use Rattle.fdr_top.specs.Exceed.{ExceedsRead, decided_exceedances, entry_steps, exceedances_of_blocks, steps_of_blocks, steps_of_entries, text_of_lines}
use Rattle.fdr_top.specs.Exceeding.{FailsInEntries, FailsInSteps, GivesSteps, HasTakenLines, TakesEntries, WriterKept, rows_with}
use Rattle.fdr_top.specs.ExceedSound.{fails_after, fails_ahead}
use Rattle.fdr_top.specs.Sessions.{entries_of_blocks}
use Rattle.fdr_top.specs.SessionsTaken.{decided_of_blocks}
use Rattle.fdr_frame.specs.WordCount.{IsWordCount}
use Rattle.fdr_io.proofs.Telling.{followed_by-nil}
use Rattle.fdr_top.proofs.ExceedSteps.{steps_of_blocks_is}
use Rattle.fdr_top.proofs.ReadLines.{drained_after}
use Rattle.fdr_top.proofs.SessionEntries.{decided_of_none}
use Rattle.fdr_top.proofs.SessionSummaries.{few_rows_of_blocks}
use Rattle.fdr_top.proofs.WatchLines.{written_after}

-- before the first step no line is ended
no_lines : (rules : List Rule) → exceedances rules [] ≡ []
unfolding exceedances
no_lines rules = refl

pub none_taken : (w : WatchKept) → RepresentsWatch w [] 0 → HasTakenLines w []
none_taken w stands = subst (RepresentsWatch w []) (sym (ap (length {A = List ℕ}) (no_lines w.rules))) stands

-- what the first steps end
first_lines : (rules : List Rule) (more : List WatchStep) (lines : List (List ℕ)) → exceedances rules ([] ++ more) ≡ exceedances rules [] ++ lines
    → exceedances rules more ≡ lines
first_lines rules more lines ended = ended ∙ ap (λ (ls : List (List ℕ)). ls ++ lines) (no_lines rules)

-- nothing was read
pub none_exceeded : (rules : List Rule) (t : TableRows) (version : ℕ) (whole : List Block) (written : Option (List ℕ)) → IsWordCount t.frame.words
    → ExceedsRead rules t version whole written written
unfolding decided_exceedances
none_exceeded rules t version whole written count = record {
  read = [];
  unread = whole;
  parted = refl;
  text = sym (ap (λ (es : List Entry). followed_by written (text_of_lines (exceedances rules (steps_of_entries es)))) (decided_of_none t version count)
      ∙ ap (λ (ls : List (List ℕ)). followed_by written (text_of_lines ls)) (no_lines rules) ∙ followed_by-nil written);
}

-- a watch that was given nothing yet, and blocks by a table
module _ (o : Option (List ℕ)) (before : WriterKept) (t : TableRows) (version : ℕ) (run : List Block) (empty : before.waits ≡ [])
    (no_rows : before.watch.rows ≡ 0) (stands : RepresentsWatch before.watch [] 0) (sound : IsSound t) (short : length (payloads_of run) ≤ 2 ^ 28) where
  abbrev all : List Entry
  all = entries_of_blocks t version run

  abbrev rules : List Rule
  rules = before.watch.rules

  few : rows_with before all ≤ 2 ^ 63
  few = omega (arith, no_rows, few_rows_of_blocks t version run sound short)

  few_first : (entries rest : List Entry) → all ≡ entries ++ rest → rows_with before entries ≤ 2 ^ 63
  few_first entries rest is =
      omega (
        arith,
        few,
        ap (λ (es : List Entry). length (rows_among es)) is,
        ap length (filter_map-append row_of_entry entries rest),
        length-append (rows_among entries) (rows_among rest),
      )

  -- a part of the lines was written
  part_written : (q : Option (List ℕ)) → FailsInSteps o q before [] (steps_of_entries all ++ ResetStep ∷ [])
      → (k : ℕ) × (q ≡ followed_by o (take k (exceedances_of_blocks rules t version run)))
  unfolding exceedances_of_blocks
  part_written q fails =
      let lines : exceedances rules (steps_of_entries all ++ ResetStep ∷ []) ≡ fails.lines =
      first_lines rules (steps_of_entries all ++ ResetStep ∷ []) fails.lines fails.ended in
      let whole : text_of_lines (exceedances rules (steps_of_blocks t version run)) ≡ text_of_lines fails.lines =
      ap (λ (steps : List WatchStep). text_of_lines (exceedances rules steps)) (sym (steps_of_blocks_is t version run)) ∙ ap text_of_lines lines in (
        fails.emits.count,
        fails.emits.written ∙ ap (λ (w : List ℕ). followed_by o (take fails.emits.count (w ++ text_of_lines fails.lines))) empty
            ∙ ap (λ (w : List ℕ). followed_by o (take fails.emits.count w)) (sym whole),
      )

  -- where all entries were taken
  module _ (p : Option (List ℕ)) (now : WriterKept) (taken : TakesEntries o p before now all) where
    pub gave : GivesSteps o p before now [] (steps_of_entries all)
    gave = taken.given few [] (none_taken before.watch stands)

    pub all_written : (q : Option (List ℕ)) (lines : List (List ℕ))
        → exceedances now.watch.rules (steps_of_entries all ++ ResetStep ∷ []) ≡ exceedances now.watch.rules (steps_of_entries all) ++ lines
        → q ≡ followed_by p (now.waits ++ text_of_lines lines) → q ≡ followed_by o (exceedances_of_blocks rules t version run)
    unfolding exceedances_of_blocks
    all_written q lines ended written =
        let first : exceedances rules (steps_of_entries all) ≡ gave.lines = first_lines rules (steps_of_entries all) gave.lines gave.ended in
        let whole : exceedances rules (steps_of_entries all ++ ResetStep ∷ []) ≡ gave.lines ++ lines =
        subst (λ (rs : List Rule). exceedances rs (steps_of_entries all ++ ResetStep ∷ []) ≡ exceedances rs (steps_of_entries all) ++ lines) taken.rules ended
        ∙ ap (λ (ls : List (List ℕ)). ls ++ lines) first in
        let text : text_of_lines (exceedances rules (steps_of_blocks t version run)) ≡ text_of_lines gave.lines ++ text_of_lines lines =
        ap (λ (steps : List WatchStep). text_of_lines (exceedances rules steps)) (sym (steps_of_blocks_is t version run)) ∙ ap text_of_lines whole
        ∙ flat_map-append (λ (l : List ℕ). l) gave.lines lines in
        let emits : Emits o p [] (now.waits ++ text_of_lines lines) (text_of_lines gave.lines ++ text_of_lines lines) = record {
          gone = gave.emits.gone;
          written = gave.emits.written;
          waits = sym (append_assoc gave.emits.gone now.waits (text_of_lines lines))
              ∙ ap (λ (w : List ℕ). w ++ text_of_lines lines) (gave.emits.waits ∙ ap (λ (w : List ℕ). w ++ text_of_lines gave.lines) empty);
        } in
        written_after o p q [] (now.waits ++ text_of_lines lines) (text_of_lines gave.lines ++ text_of_lines lines) emits written
        ∙ ap (followed_by o) (sym text)

    pub end_failed : (q : Option (List ℕ)) → FailsInSteps p q now (steps_of_entries all) (ResetStep ∷ [])
        → (k : ℕ) × (q ≡ followed_by o (take k (exceedances_of_blocks rules t version run)))
    end_failed q fails = part_written q (fails_after o p q before now [] (steps_of_entries all) (ResetStep ∷ []) taken.rules gave fails)

  -- where the sink failed in them
  pub blocks_failed_part : (p : Option (List ℕ)) → FailsInEntries o p before all
      → (k : ℕ) × (p ≡ followed_by o (take k (exceedances_of_blocks rules t version run)))
  blocks_failed_part p fails =
      part_written p (fails_ahead o p before [] (steps_of_entries all) (ResetStep ∷ []) (fails few [] (none_taken before.watch stands)))

  -- where the first of them were taken, and what waited went out or a part of it
  pub first_part : {E : Type 0} (p q : Option (List ℕ)) (now : WriterKept) (entries rest : List Entry) (r : Result (Unit {0}) E)
      → TakesEntries o p before now entries → all ≡ entries ++ rest → OnOk r (q ≡ followed_by p now.waits)
      → OnErr r ((k : ℕ) × (q ≡ followed_by p (take k now.waits)))
      → (k : ℕ) × (q ≡ followed_by o (take k (exceedances_of_blocks rules t version run)))
  first_part p q now entries rest r taken is wrote cut =
      let some : GivesSteps o p before now [] (steps_of_entries entries) = taken.given (few_first entries rest is) [] (none_taken before.watch stands) in
      let emits : Emits o p [] now.waits (text_of_lines some.lines) =
      subst (λ (w : List ℕ). Emits o p w now.waits (text_of_lines some.lines)) empty some.emits in
      let part = finished_part o p q now.waits (text_of_lines some.lines) r emits wrote cut in
      let stopped : FailsInSteps o q before [] (steps_of_entries entries) = record {
        lines = some.lines;
        ended = some.ended;
        emits = subst (λ (w : List ℕ). EmitsPart o q w (text_of_lines some.lines)) (sym empty) (record { count = part.0; written = part.1 });
      } in
      let steps : steps_of_entries entries ++ (steps_of_entries rest ++ ResetStep ∷ []) ≡ steps_of_entries all ++ ResetStep ∷ [] =
      sym (append_assoc (steps_of_entries entries) (steps_of_entries rest) (ResetStep ∷ []))
      ∙ ap (λ (s : List WatchStep). s ++ ResetStep ∷ []) (sym (ap steps_of_entries is ∙ flat_map-append entry_steps entries rest)) in
      part_written q (subst (FailsInSteps o q before []) steps
      (fails_ahead o q before [] (steps_of_entries entries) (steps_of_entries rest ++ ResetStep ∷ []) stopped))

  -- and where all that waited went out, these are the lines that the blocks decide which were read
  pub first_read : {E : Type 0} (p q : Option (List ℕ)) (now : WriterKept) (read unread : List Block) (rest : List Entry) (f_start f_mid f_now : ℕ)
      (r : Result (Unit {0}) E) → run ≡ read ++ unread → TakesEntries o p before now (decided_of_blocks t version read)
      → all ≡ decided_of_blocks t version read ++ rest → f_mid ≡ f_start → OnOk r (q ≡ followed_by p now.waits) → OnErr r (Rose f_mid f_now)
      → (Rose f_start f_now → ⊥) → ExceedsRead rules t version run o q
  unfolding decided_exceedances
  first_read p q now read unread rest f_start f_mid f_now r parted taken is kept wrote cause none =
      let entries = decided_of_blocks t version read in
      let some : GivesSteps o p before now [] (steps_of_entries entries) = taken.given (few_first entries rest is) [] (none_taken before.watch stands) in
      let emits : Emits o p [] now.waits (text_of_lines some.lines) =
      subst (λ (w : List ℕ). Emits o p w now.waits (text_of_lines some.lines)) empty some.emits in
      let lines : exceedances rules (steps_of_entries entries) ≡ some.lines = first_lines rules (steps_of_entries entries) some.lines some.ended in
      record {
        read = read;
        unread = unread;
        parted = parted;
        text = drained_after o p q now.waits (text_of_lines some.lines) f_start f_mid f_now r emits kept wrote cause none
            ∙ ap (λ (ls : List (List ℕ)). followed_by o (text_of_lines ls)) (sym lines);
      }
