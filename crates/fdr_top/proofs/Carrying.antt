-- From the work of a command to the command.
use Rattle.std.proofs.Common.{◌≡◌, ◌≢◌, ◌⊎◌, ⊎_elim, inl, inr, refl, ℕ, ◌+◌, List, [], Option, Some, None, ap, sym, ◌∙◌, subst, arith}
use Rattle.std.specs.Prelude.{IfSome, IsSome, false, true}
use Rattle.fdr_io.specs.Faults.{Rose}
use Rattle.fdr_io.specs.Told.{preceded_by}
use Rattle.fdr_io.proofs.Telling.{preceded_by-nil}
use Rattle.fdr_io.specs.declared.Input.TheVariants as input
use Rattle.fdr_deck.specs.State.{State, Tells}
use Rattle.fdr_deck.specs.Moments.{IsSoundDeck}
use Rattle.fdr_check.specs.Soundness.{IsSound}
use Rattle.fdr_table.specs.Bounds.{most_table_bytes}
use Rattle.fdr_table.specs.Rows.{TableRows}
use Rattle.fdr_words.specs.Forms.{Form, check_table, stream_line, list_bits, encode_bytes}
use Rattle.fdr_words.specs.Forms.{decode_levels, format_image, record_line, recover_image, list_image, upgrade_image, salvage_image, exceed_image}
use Rattle.fdr_words.specs.Forms.{drill_image}
use Rattle.fdr_words.specs.Forms.{table_path}
use Rattle.fdr_top.specs.Stages.{IsOfTable}
use Rattle.fdr_pieces.proofs.Pulling.{LeavesStops-here}
use Rattle.fdr_top.specs.Answers.{IsOwn, KeepsInputAndFaults, ReadsTable, WritesText}
use Rattle.fdr_top.specs.Commands.{ByItsTable, CarriesOut, DoesWork, RunsCommand, Works}
use Rattle.fdr_top.specs.Complete.{ByAccepted, TellsAccepted}
use Rattle.fdr_top.specs.Leaves.{HasCause, LeavesAll, LeavesUnused, PassesOverNoFault}
use Rattle.fdr_load.specs.Limits.{TakesAtMost}
use Rattle.fdr_io.specs.Limits.{piece_bytes}
use Rattle.fdr_top.specs.Runs.{CommandRun, WorkRun}
use Rattle.fdr_load.specs.Tables.{IsAccepted, table_in}
use Rattle.fdr_top.specs.Tables.{ReadsItsTable}
use Rattle.fdr_top.specs.declared.outcome.Outcome.{Outcome}
use Rattle.fdr_top.specs.declared.outcome.Outcome.TheVariants as outcome
use Rattle.fdr_top.specs.Check.{Reports}
use Rattle.fdr_top.proofs.Answering.{has_cause, report_done}
use Rattle.fdr_top.proofs.Commands.{memory_may, memory_past, own_begun, own_not_table, table_may}
use Rattle.fdr_top.proofs.Drilled.{drills_nothing}
use Rattle.fdr_top.proofs.Images.{OnlyLooks-here}
use Rattle.fdr_top.proofs.RecoveredImages.{recovers_nothing}
use Rattle.fdr_top.proofs.ItsTable.{accepted_left, by_table, read_accepted}
use Rattle.fdr_top.proofs.ListedImages.{lists_nothing}
use Rattle.fdr_top.proofs.Making.{makes_nothing, table_or, table_told}
use Rattle.fdr_top.proofs.Readable.{records_nothing}
use Rattle.fdr_top.proofs.TableAnswers.{table_not_past, taken_is_all}
use Rattle.fdr_top.proofs.Salvages.{salvages_nothing}
use Rattle.fdr_top.proofs.ExceededImages.{exceeds_nothing}
use Rattle.fdr_top.proofs.Upgrades.{upgrades_nothing}

-- no bytes of a table are few
pub TakesAtMost-none : (n : ℕ) (told : Option (List ℕ)) → TakesAtMost n told told
TakesAtMost-none n told = ([], omega arith, sym (preceded_by-nil told))

-- a run that changed nothing
abbrev pub idle : Tells → State → Option (List ℕ) → ℕ → Outcome → WorkRun
idle tells d written s answer = record {
  tells = tells;
  old = d;
  new = d;
  written_before = written;
  written_now = written;
  sink_before = s;
  sink_now = s;
  answer = answer;
}

keeps_line : (d : State) → KeepsInputAndFaults d d
keeps_line d = record { input = refl; taken = refl; pulled_before = refl; faults = refl }

pub idle_leaves_all : (tells : Tells) (d : State) (written : Option (List ℕ)) (s : ℕ) (answer : Outcome) → LeavesAll (idle tells d written s answer)
idle_leaves_all tells d written s answer = record {
  written = refl;
  faults = refl;
  disk = record { held = refl; no_more = λ image leaves. leaves; no_less = λ image leaves. leaves };
  extent = record { bytes = λ told. refl; stops = λ told. refl; known = λ some. refl };
  announced = refl;
  input = λ first. keeps_line d;
}

-- a run that leaves the deck as it was uses nothing of it
pub still_unused : (form : Form) (tells : Tells) (d : State) (before now : Option (List ℕ)) (s t : ℕ) (answer : Outcome)
    → ((WritesText form → ⊥) → (now ≡ before) × (t ≡ s))
    → LeavesUnused form
    (record { tells = tells; old = d; new = d; written_before = before; written_now = now; sink_before = s; sink_now = t; answer = answer })
still_unused form tells d before now s t answer quiet = record {
  text = quiet;
  input = λ unused. keeps_line d;
  disk = λ unused. record {
    disk = record { held = refl; no_more = λ image leaves. leaves; no_less = λ image leaves. leaves };
    extent = refl;
    disk_faults = refl;
  };
  announced = λ unused. refl;
  memory = λ pulls none. keeps_line d;
  bits = λ pulls. omega arith;
  rules = λ rules. omega arith;
}

-- no fault of the deck or the sink is an answer that reading the table gives
pub table_has_cause : (tells : Tells) (d : State) (written : Option (List ℕ)) (s : ℕ) (answer : Outcome) → IsOfTable answer
    → HasCause (idle tells d written s answer)
table_has_cause tells d written s answer of = record {
  input = λ e. absurd (rw e at of);
  write = λ e. absurd (rw e at of);
  disk = λ e. absurd (rw e at of);
}

idle_passes : (form : Form) (tells : Tells) (d : State) (written : Option (List ℕ)) (s : ℕ) (answer : Outcome)
    → PassesOverNoFault form (idle tells d written s answer)
idle_passes form tells d written s answer = record { input = λ read covers. refl; write = λ other covers. refl; disk = λ other. refl }

-- where memory ends before the work is begun, it is as promised
pub idle_works : (form : Form) (t : TableRows) (tells : Tells) (d : State) (written : Option (List ℕ)) (s : ℕ)
    → IsSoundDeck tells d → DoesWork form t (idle tells d written s outcome.NoMemory) → Works form t (idle tells d written s outcome.NoMemory)
idle_works form t tells d written s sound does = record {
  stops = λ has nothing. LeavesStops-here tells d sound;
  answer = inl refl;
  refusal = λ nothing. idle_leaves_all tells d written s outcome.NoMemory;
  unused = still_unused form tells d written written s s outcome.NoMemory (λ no. (refl, refl));
  causes = table_has_cause tells d written s outcome.NoMemory tt;
  no_fault_passed_over = idle_passes form tells d written s outcome.NoMemory;
  does = does;
  complete = λ whole faultless. inr refl;
}

-- a report of a table is the work of `check`
pub check_works : (path : List ℕ) (t : TableRows) (tells : Tells) (d : State) (before now : Option (List ℕ)) (s u : ℕ) (answer : Outcome)
    → (answer ≡ outcome.NoMemory) ⊎ IsOwn (check_table path) answer → Reports t before now answer
    → (answer ≡ outcome.WriteFault → Rose s u) → (answer ≢ outcome.WriteFault → u ≡ s) → (answer ≡ outcome.NoMemory → now ≡ before)
    → Works (check_table path) t (record {
      tells = tells;
      old = d;
      new = d;
      written_before = before;
      written_now = now;
      sink_before = s;
      sink_now = u;
      answer = answer;
    })
check_works path t tells d before now s u answer own reports sink quiet memory = record {
  answer = own;
  refusal = λ nothing. ⊎_elim
      (λ (ended : answer ≡ outcome.NoMemory). record {
        written = memory ended;
        faults = quiet (λ e. absurd (let c : outcome.WriteFault ≡ outcome.NoMemory = sym e ∙ ended in cc));
        disk = record { held = refl; no_more = λ image leaves. leaves; no_less = λ image leaves. leaves };
        extent = record { bytes = λ told. refl; stops = λ told. refl; known = λ some. refl };
        announced = refl;
        input = λ first. keeps_line d;
      })
      (λ of. absurd (own_begun (check_table path) answer (λ none. none) (λ none. none) (λ none. none) of nothing))
      own;
  stops = λ has. absurd has;
  unused = still_unused (check_table path) tells d before now s u answer (λ no. absurd (no tt));
  causes = has_cause (check_table path) _ own (λ pulls. absurd pulls) (λ text. sink) (λ image. absurd image);
  no_fault_passed_over = record { input = λ read covers. refl; write = λ other covers. quiet other; disk = λ other. refl };
  does = λ past. reports;
  complete = λ whole faultless. report_done path answer own (λ e. faultless.sink tt (sink e));
}

-- ---- the table that a form's command reads

its_table : (path : Option (List ℕ)) (old new : Option (List ℕ)) (t : TableRows) (answer : Outcome) (P : TableRows → Type 0) → IsSome path
    → (taken : List ℕ) × IsAccepted taken × (t ≡ table_in taken) × (old ≡ preceded_by taken new) → IfSome new (λ left. left ≡ []) → P t
    → ByItsTable path old new answer P
its_table None old new t answer P some read end holds = absurd (let e : false ≡ true = some in cc)
its_table (Some path) old new t answer P some read end holds = by_table old new t answer P read end holds

accepted_holds : (path : Option (List ℕ)) (old new : Option (List ℕ)) (t : TableRows) (P : TableRows → Type 0)
    → (taken : List ℕ) × IsAccepted taken × (t ≡ table_in taken) × (old ≡ preceded_by taken new) → IfSome new (λ left. left ≡ [])
    → ByAccepted path old P → P t
accepted_holds None old new t P read end holds = holds t
accepted_holds (Some path) old new t P read end holds =
    let same : t ≡ table_in holds.0.0 = read.2 ∙ ap table_in (sym (taken_is_all old new read.0 holds.0.0 read.3 end holds.0.1)) in
    subst P (sym same) holds.1

accepted_told : (path rest : Option (List ℕ)) (P : TableRows → Type 0) → IsSome path → ByAccepted path rest P → TellsAccepted rest
accepted_told None rest P some whole = absurd (let e : false ≡ true = some in cc)
accepted_told (Some path) rest P some whole = whole.0

-- ---- the command

-- by a table that was read, its work is as promised, and so is the command
pub carried : (form : Form) (r : CommandRun) (t : TableRows) → ReadsTable form
    → (taken : List ℕ) × IsAccepted taken × (t ≡ table_in taken) × (r.rest_before ≡ preceded_by taken r.rest_now)
    → IfSome r.rest_now (λ left. left ≡ []) → IsSound t → TakesAtMost (most_table_bytes + piece_bytes) r.rest_before r.rest_now
    → r.table_now ≡ r.table_before → Works form t r.work → RunsCommand form r
carried form r t reads read end sound bounded quiet works = record {
  answers = memory_may form r.work.answer works.answer;
  table = λ reads. read_accepted r.rest_before r.rest_now t r.work.answer read end sound (memory_past form r.work.answer works.answer);
  bounded = bounded;
  refusal = works.refusal;
  stops = works.stops;
  unused = works.unused;
  table_cause = λ e. absurd (own_not_table form r.work.answer works.answer e);
  no_table_fault = λ other. quiet;
  causes = works.causes;
  no_fault_passed_over = works.no_fault_passed_over;
  carries_out = its_table (table_path form) r.rest_before r.rest_now t r.work.answer _ reads read end works.does;
  complete = λ whole faultless.
      works.complete (accepted_holds (table_path form) r.rest_before r.rest_now t _ read end whole) faultless.work;
}

-- a command without a table does its work
pub carried_alone : (form : Form) (r : CommandRun) → table_path form ≡ None → r.table_now ≡ r.table_before
    → TakesAtMost (most_table_bytes + piece_bytes) r.rest_before r.rest_now → ((t : TableRows) → Works form t r.work) → RunsCommand form r
carried_alone form r none quiet bounded works = record {
  answers = memory_may form r.work.answer (works (table_or None)).answer;
  table = λ reads. absurd (let e : false ≡ true = rw none at reads in cc);
  bounded = bounded;
  refusal = (works (table_or None)).refusal;
  stops = (works (table_or None)).stops;
  unused = (works (table_or None)).unused;
  table_cause = λ e. absurd (own_not_table form r.work.answer (works (table_or None)).answer e);
  no_table_fault = λ other. quiet;
  causes = (works (table_or None)).causes;
  no_fault_passed_over = (works (table_or None)).no_fault_passed_over;
  carries_out = rw none (λ t. (works t).does);
  complete = λ whole faultless. (works (table_or None)).complete (rw none at whole (table_or None)) faultless.work;
}

-- where its table isn't read or is refused, a command does nothing
pub does_nothing : (form : Form) (r : CommandRun) (tells : Tells) (d : State) (written : Option (List ℕ)) (s : ℕ) (answer : Outcome)
    → r.work ≡ idle tells d written s answer → IsSoundDeck tells d → ReadsTable form → IsOfTable answer → CarriesOut form r
does_nothing (check_table path) r tells d written s answer same sound reads of =
    rw same (table_or r.rest_before, table_told r.rest_before, λ past. absurd (table_not_past answer of past), λ past. absurd (table_not_past answer of past))
does_nothing (stream_line path) r tells d written s answer same sound reads of =
    rw same (table_or r.rest_before, table_told r.rest_before, λ past. absurd (table_not_past answer of past), λ past. absurd (table_not_past answer of past))
does_nothing (list_bits path) r tells d written s answer same sound reads of =
    rw same (table_or r.rest_before, table_told r.rest_before, λ past. absurd (table_not_past answer of past), λ past. absurd (table_not_past answer of past))
does_nothing encode_bytes r tells d written s answer same sound reads of = absurd (let e : false ≡ true = reads in cc)
does_nothing decode_levels r tells d written s answer same sound reads of = absurd (let e : false ≡ true = reads in cc)
does_nothing (format_image path image slots payload) r tells d written s answer same sound reads of =
    rw same (makes_nothing tells r.rest_before r.rest_now slots payload d answer sound (inr of))
does_nothing (record_line path image) r tells d written s answer same sound reads of =
    rw same (records_nothing tells r.rest_before r.rest_now d answer sound (table_not_past answer of))
does_nothing (recover_image image) r tells d written s answer same sound reads of = absurd (let e : false ≡ true = reads in cc)
does_nothing (list_image path image) r tells d written s answer same sound reads of =
    rw same (lists_nothing tells r.rest_before r.rest_now d written _ _ answer sound (inr of))
does_nothing (upgrade_image image) r tells d written s answer same sound reads of = absurd (let e : false ≡ true = reads in cc)
does_nothing (salvage_image path image ring) r tells d written s answer same sound reads of =
    rw same (salvages_nothing ring tells r.rest_before r.rest_now d written _ _ answer sound (inr of))
does_nothing (exceed_image path image) r tells d written s answer same sound reads of =
    rw same (
      table_or r.rest_before,
      table_told r.rest_before,
      λ past. absurd (table_not_past answer of past),
      exceeds_nothing
          (table_or r.rest_before) tells d written _ _ answer sound (table_not_past answer of),
    )
does_nothing (drill_image path image seed frames) r tells d written s answer same sound reads of =
    rw same (drills_nothing seed frames tells r.rest_before r.rest_now d written answer sound (table_not_past answer of))

-- where its table isn't read or is refused, the command is as promised
pub table_refused : (form : Form) (r : CommandRun) (tells : Tells) (d : State) (written : Option (List ℕ)) (s : ℕ) (answer : Outcome)
    → r.work ≡ idle tells d written s answer → IsSoundDeck tells d → ReadsTable form → IsOfTable answer
    → ReadsItsTable r.rest_before r.rest_now answer → TakesAtMost (most_table_bytes + piece_bytes) r.rest_before r.rest_now
    → (answer ≡ outcome.ReadFault input.Table → Rose r.table_before r.table_now)
    → (answer ≢ outcome.ReadFault input.Table → r.table_now ≡ r.table_before) → RunsCommand form r
table_refused form r tells d written s answer same sound reads of table bounded cause quiet = record {
  answers = rw same (table_may form answer reads of);
  table = λ reads. rw same table;
  bounded = bounded;
  refusal = λ nothing. rw same (idle_leaves_all tells d written s answer);
  stops = λ has nothing. rw same (LeavesStops-here tells d sound);
  unused = rw same (still_unused form tells d written written s s answer (λ no. (refl, refl)));
  table_cause = rw same cause;
  no_table_fault = rw same quiet;
  causes = rw same (table_has_cause tells d written s answer of);
  no_fault_passed_over = rw same (idle_passes form tells d written s answer);
  carries_out = does_nothing form r tells d written s answer same sound reads of;
  complete = λ whole faultless. rw same (accepted_left r.rest_before r.rest_now answer of table
      (accepted_told (table_path form) r.rest_before _ reads whole) (λ e. faultless.table reads (cause e)));
}

-- where memory ends before a command begins, nothing is done
nothing_carried : (form : Form) (r : CommandRun) (tells : Tells) (d : State) (written : Option (List ℕ)) (s : ℕ)
    → r.work ≡ idle tells d written s outcome.NoMemory → IsSoundDeck tells d → CarriesOut form r
nothing_carried (recover_image image) r tells d written s same sound = rw same (λ t. recovers_nothing image _ refl refl (OnlyLooks-here tells d sound))
nothing_carried (upgrade_image image) r tells d written s same sound = rw same (λ t. upgrades_nothing tells d sound)
nothing_carried encode_bytes r tells d written s same sound = rw same (λ t past. absurd past)
nothing_carried decode_levels r tells d written s same sound = rw same (λ t past. absurd past)
nothing_carried form r tells d written s same sound = does_nothing form r tells d written s outcome.NoMemory same sound refl tt

nothing_read : (rest : Option (List ℕ)) → ReadsItsTable rest rest outcome.NoMemory
nothing_read rest = record {
  refused = λ row f bytes e told. absurd (cc);
  refused_taken = λ row f e. absurd (cc);
  refused_always = λ row f bytes told no. tt;
  refused_at_end = λ row f bytes e told few. absurd (cc);
  accepted = λ past. absurd past;
  accepted_at_end = λ past. absurd past;
  sound = λ bytes past told. absurd past;
  fault_within_limit = λ e. absurd (cc);
}

pub nothing_done : (form : Form) (r : CommandRun) (tells : Tells) (d : State) (written : Option (List ℕ)) (s : ℕ)
    → r.work ≡ idle tells d written s outcome.NoMemory → r.rest_now ≡ r.rest_before → r.table_now ≡ r.table_before → IsSoundDeck tells d
    → RunsCommand form r
nothing_done form r tells d written s same rest quiet sound = record {
  answers = rw same tt;
  table = λ reads. rw (same, rest) (nothing_read r.rest_before);
  bounded = rw rest (TakesAtMost-none (most_table_bytes + piece_bytes) r.rest_before);
  refusal = λ nothing. rw same (idle_leaves_all tells d written s outcome.NoMemory);
  stops = λ has nothing. rw same (LeavesStops-here tells d sound);
  unused = rw same (still_unused form tells d written written s s outcome.NoMemory (λ no. (refl, refl)));
  table_cause = rw same (λ e. absurd (cc));
  no_table_fault = λ other. quiet;
  causes = rw same (table_has_cause tells d written s outcome.NoMemory tt);
  no_fault_passed_over = rw same (idle_passes form tells d written s outcome.NoMemory);
  carries_out = nothing_carried form r tells d written s same sound;
  complete = λ whole faultless. rw same (inr refl);
}
