-- What `record` and `drill` mean.
use Rattle.std.proofs.Common.{◌≡◌, inl, inr, ℕ, ◌-◌, false, List, [], ◌++◌, length, IsTrue, refl, sym, ap, ◌∙◌, subst, ◌≤◌, take, arith}
use Rattle.fdr_io.specs.Told.{followed_by}
use Rattle.fdr_io.specs.declared.Input.TheVariants as input
use Rattle.fdr_bus.specs.declared.BusRecord.{BusRecord}
use Rattle.fdr_bus.specs.Records.{good_prefix}
use Rattle.fdr_slot.specs.declared.image.Header.{Header}
use Rattle.fdr_recover.specs.Blocks.{Block}
use Rattle.fdr_recover.specs.ImageHeader.{header_in}
use Rattle.fdr_recover.specs.Payloads.{run_in}
use Rattle.fdr_recover.specs.Images.{recovered_run}
use Rattle.fdr_ring.specs.Runs.{last_blocks}
use Rattle.fdr_gen.specs.Trace.{generated_trace}
use Rattle.fdr_recorder.specs.NewBlocks.{new_blocks, next_in}
use Rattle.fdr_table.specs.Rows.{TableRows}
use Rattle.fdr_words.specs.Forms.{record_line, drill_image}
use Rattle.fdr_load.specs.Supplies.{Supplied}
use Rattle.fdr_top.specs.Answers.{IsOwn}
use Rattle.fdr_top.specs.Commands.{RunsCommand}
use Rattle.fdr_top.specs.Drill.{DrillsImage, drill_line, drill_text}
use Rattle.fdr_top.specs.InputTexts.{WritesFront}
use Rattle.fdr_top.specs.Record.{RecordsTrace}
use Rattle.fdr_top.specs.Runs.{CommandRun}
use Rattle.fdr_top.specs.Sessions.{summary_of_blocks}
use Rattle.fdr_top.specs.Stages.{EndsRecording}
use Rattle.fdr_top.specs.declared.outcome.Outcome.{Outcome}
use Rattle.fdr_top.specs.declared.outcome.Outcome.TheVariants as outcome
use Rattle.fdr_top.specs.Meaning.{Effect, at_work, drilled, gets, records, trace_answer}
use Rattle.fdr_top.specs.Doing.{IsTold, Refines}
use Rattle.fdr_top.proofs.MeaningWords.{Core, in_image}
use Rattle.fdr_top.proofs.MeaningLeft.{wrote_nothing}
use Rattle.fdr_top.proofs.MeaningByTable.{means_by_table, means_unpulled}
use Rattle.fdr_top.proofs.MeaningInputs.{MeansInput, by_any, came_all, came_cut, came_part, gave_cut, gave_part}
use Rattle.fdr_top.proofs.MeaningTraces.{IsSameTrace, done_ends, done_same, failed_ends, refused_ends, refused_same}
use Rattle.fdr_slot.specs.Limits.{sequence_end}
use Rattle.fdr_top.proofs.RecordLines.{limits_in}
use Rattle.fdr_top.proofs.FirstBlocks.{first_fewer, first_same}
use Rattle.fdr_top.proofs.MeaningRecordings.{record_all, record_differs, record_failed, record_old, record_refused, record_some, records_works}

-- ---- record

module _ (table path : List ℕ) (r : CommandRun) (told : IsTold (record_line table path) r) (runs : RunsCommand (record_line table path) r) where
  abbrev recording : TableRows → Supplied → Effect
  recording t came = records r.work.old.held (new_blocks t r.work.old.held (good_prefix came.bytes)) [] (trace_answer came)

  abbrev recorded : TableRows → Supplied → Effect
  recorded t came = in_image t r.work.old.held (recording t came)

  silent : r.work.written_now ≡ r.work.written_before
  silent = (runs.unused.text (λ no. no)).0

  module _ (t : TableRows) (does : RecordsTrace t r.work.tells r.work.old r.work.new r.work.answer) where
    abbrev pulled : List ℕ
    pulled = does.pulled

    -- these bytes make as many blocks or more, and the same ones as far as there are numbers
    abbrev IsMore : List ℕ → Type 0
    IsMore bytes = (length (new_blocks t r.work.old.held (good_prefix pulled)) ≤ length (new_blocks t r.work.old.held (good_prefix bytes)))
        × (take (sequence_end - next_in r.work.old.held) (new_blocks t r.work.old.held (good_prefix bytes))
        ≡ take (sequence_end - next_in r.work.old.held) (new_blocks t r.work.old.held (good_prefix pulled)))

    -- it means what is recorded of what was pulled
    abbrev MeansPulled : Type 0
    MeansPulled = (i : MeansInput (record_line table path) (recorded t) r.work) × (i.came.bytes ≡ pulled)

    -- all was recorded of the trace that these bytes have
    all_recorded : (came : Supplied) (a : Outcome) → r.work.answer ≡ a → EndsRecording a → good_prefix came.bytes ≡ good_prefix pulled → trace_answer came ≡ a
        → Refines (record_line table path) (recorded t came) r.work
    all_recorded came a e all same ends =
        let ended = subst EndsRecording (sym e) all in
        subst (λ (x : Effect). Refines (record_line table path) x r.work)
        (sym (ap (λ (x : List BusRecord). in_image t r.work.old.held (records r.work.old.held (new_blocks t r.work.old.held x) [] (trace_answer came))) same
        ∙ ap (λ (x : Outcome). in_image t r.work.old.held (records r.work.old.held (new_blocks t r.work.old.held (good_prefix pulled)) [] x)) ends
        ∙ record_all (record_line table path) r told runs tt t does.image does.old_image (good_prefix pulled) does.blocks [] a ended))
        (inl (record {
          answer = e;
          text = wrote_nothing r.work.written_before r.work.written_now silent;
          image = does.blocks.recorded ended (told.image tt);
        }))

    record_ended : (a : Outcome) → r.work.answer ≡ a → EndsRecording a
        → ((bytes : List ℕ) → IsSameTrace pulled bytes → trace_answer (record { bytes = bytes; failed = false }) ≡ a)
        → (IsTrue r.work.tells.input → IsSameTrace pulled r.work.old.input) → MeansPulled
    record_ended a e all ends same = (
      record {
        came = came_part pulled;
        given = gave_part r.work pulled does.pulls.takes;
        refines = all_recorded (came_part pulled) a e all refl (ends pulled (refl, refl));
        all = λ line uncut disk. let so = same line in all_recorded (came_all r.work) a e all so.0 (ends r.work.old.input so);
      },
      refl,
    )

    -- the image was refused, whatever came
    record_any : ((came : Supplied) → Refines (record_line table path) (recorded t came) r.work) → MeansPulled
    unfolding by_any
    record_any refines = (by_any (record_line table path) (recorded t) r.work pulled does.pulls.takes refines, refl)

    record_at : (a : Outcome) → r.work.answer ≡ a → IsOwn (record_line table path) a → MeansPulled
    record_at outcome.Done e own = record_ended outcome.Done e tt
        (λ bytes. done_ends r.work.tells r.work.old r.work.new pulled r.work.answer does.pulls does.trace bytes e)
        (done_same r.work.tells r.work.old r.work.new pulled r.work.answer does.pulls does.trace e)
    record_at (outcome.TraceRefused index why) e own = record_ended (outcome.TraceRefused index why) e tt
        (λ bytes. refused_ends r.work.tells r.work.old r.work.new pulled r.work.answer does.pulls does.trace bytes index why e)
        (refused_same r.work.tells r.work.old r.work.new pulled r.work.answer does.pulls does.trace index why e)
    record_at (outcome.ReadFault input.Line) e own = (
      record {
        came = came_cut pulled;
        given = gave_cut r.work pulled does.pulls.takes (runs.causes.input e);
        refines = all_recorded (came_cut pulled) (outcome.ReadFault input.Line) e tt refl
            (failed_ends r.work.tells r.work.old r.work.new pulled r.work.answer does.pulls does.trace e);
        all = λ line uncut disk. absurd (cc);
      },
      refl,
    )
    record_at outcome.SeqEnd e own =
        let held = r.work.old.held in
        let limits = limits_in held (does.blocks.good (inr e) (told.image tt)).no_fault in
        let few : sequence_end - next_in held ≤ length (new_blocks t held (good_prefix pulled)) - 1 = omega (arith, does.blocks.beyond e (told.image tt)) in (
          record {
            came = came_part pulled;
            given = gave_part r.work pulled does.pulls.takes;
            refines = record_some (record_line table path) r told runs tt t does.image does.old_image (good_prefix pulled) does.blocks []
                (trace_answer (came_part pulled))
                (new_blocks t held (good_prefix pulled)) e silent (omega arith) refl;
            all = λ line uncut disk.
                let so : IsMore r.work.old.input = subst IsMore (sym (does.pulls.takes.input line))
                (first_fewer t held pulled r.work.new.input limits, first_same t held pulled r.work.new.input limits (sequence_end - next_in held) few) in
                record_some (record_line table path) r told runs tt t does.image does.old_image (good_prefix pulled) does.blocks []
                (trace_answer (came_all r.work))
                (new_blocks t held (good_prefix r.work.old.input)) e silent so.0 so.1;
          },
          refl,
        )
    record_at outcome.DiskFault e own = (
      record {
        came = came_part pulled;
        given = gave_part r.work pulled does.pulls.takes;
        refines = record_failed (record_line table path) r told runs tt t does.image does.old_image (recording t (came_part pulled))
            (records_works r.work.old.held (new_blocks t r.work.old.held (good_prefix pulled)) [] (trace_answer (came_part pulled))) e
            silent;
        all = λ line uncut disk. absurd (disk e);
      },
      refl,
    )
    record_at (outcome.ImageRefused why) e own =
        record_any (λ came. record_refused (record_line table path) r told runs tt t does.image does.old_image (recording t came) why e)
    record_at (outcome.WordsDiffer image words) e own =
        record_any (λ came. record_differs (record_line table path) r told runs tt t does.image does.old_image (recording t came) image words e)
    record_at outcome.OldVersion e own =
        record_any (λ came. record_old (record_line table path) r told runs tt t does.image does.old_image (recording t came) e)
    record_at a e own = absurd own

  pub means_record : Core (record_line table path) r
  means_record =
      let d = runs.carries_out.3 in
      means_by_table (record_line table path)
      (λ t came image. in_image t image (records image (new_blocks t image (good_prefix came.bytes)) [] (trace_answer came))) r told runs refl (λ g. refl)
      (λ why. record {
        came = came_part d.pulled;
        image = r.work.old.held;
        given = λ yes. gave_part r.work d.pulled d.pulls.takes;
        held = λ yes. refl;
        pulled = (runs, refl);
      })
      runs.carries_out (λ past own. let i = record_at runs.carries_out.0 d r.work.answer refl own in record {
        rest = record { came = i.0.came; image = r.work.old.held; given = λ yes. i.0.given; held = λ yes. refl; pulled = (runs, i.1) };
        does = i.0.refines;
        all = i.0.all;
      })

-- ---- drill

-- the line of a drill, by what the image was
line_of_drill : (t : TableRows) (old new : List ℕ) (blocks : List Block) → header_in new ≡ header_in old
    → recovered_run (header_in old) new ≡ last_blocks ((header_in old).slots - 1) (run_in old ++ blocks)
    → drill_line t (length blocks) new ≡ drilled t old blocks
line_of_drill t old new blocks header run =
    ap (λ (h : Header). drill_text (length blocks) (summary_of_blocks t h.version (recovered_run h new))) header
    ∙ ap (λ (x : List Block). drill_text (length blocks) (summary_of_blocks t (header_in old).version x)) run

module _ (table path : List ℕ) (seed frames : ℕ) (r : CommandRun) (told : IsTold (drill_image table path seed frames) r)
    (runs : RunsCommand (drill_image table path seed frames) r) where
  abbrev drilling : TableRows → Effect
  drilling t = records r.work.old.held (new_blocks t r.work.old.held (generated_trace t seed frames))
      (drilled t r.work.old.held (new_blocks t r.work.old.held (generated_trace t seed frames))) outcome.Done

  abbrev drills : TableRows → Effect
  drills t = in_image t r.work.old.held (drilling t)

  module _ (t : TableRows) (does : DrillsImage t seed frames r.work.tells r.work.old r.work.new r.work.written_before r.work.written_now r.work.answer) where
    abbrev new : List Block
    new = new_blocks t r.work.old.held (generated_trace t seed frames)

    meant : EndsRecording r.work.answer → drills t ≡ record { step = at_work; answer = outcome.Done; text = drilled t r.work.old.held new; image = gets new }
    meant ended = record_all (drill_image table path seed frames) r told runs tt t does.image does.old_image (generated_trace t seed frames) does.blocks
        (drilled t r.work.old.held new) outcome.Done ended

    line : EndsRecording r.work.answer → drill_line t (length new) r.work.new.held ≡ drilled t r.work.old.held new
    line ended =
        let adds = does.blocks.recorded ended (told.image tt) in
        line_of_drill t r.work.old.held r.work.new.held new adds.header adds.run

    drill_at : (a : Outcome) → r.work.answer ≡ a → IsOwn (drill_image table path seed frames) a
        → Refines (drill_image table path seed frames) (drills t) r.work
    drill_at outcome.Done e own =
        let ended = subst EndsRecording (sym e) tt in
        subst (λ (x : Effect). Refines (drill_image table path seed frames) x r.work) (sym (meant ended)) (inl (record {
          answer = e;
          text = does.text e (told.image tt) ∙ ap (followed_by r.work.written_before) (line ended);
          image = does.blocks.recorded ended (told.image tt);
        }))
    drill_at outcome.WriteFault e own =
        let ended = subst EndsRecording (sym e) tt in
        subst (λ (x : Effect). Refines (drill_image table path seed frames) x r.work) (sym (meant ended)) (inr (inl (
          tt,
          record {
            answer = e;
            step = refl;
            cause = runs.causes.write e;
            text = subst (λ (x : List ℕ). WritesFront x r.work.written_before r.work.written_now) (line ended) (does.part e (told.image tt));
            image = does.blocks.recorded ended (told.image tt);
          },
        )))
    drill_at outcome.SeqEnd e own =
        record_some (drill_image table path seed frames) r told runs tt t does.image does.old_image (generated_trace t seed frames) does.blocks
        (drilled t r.work.old.held new) outcome.Done new e
        (does.silent (λ f. let c : outcome.SeqEnd ≡ outcome.Done = sym e ∙ f in cc) (λ f. let c : outcome.SeqEnd ≡ outcome.WriteFault = sym e ∙ f in cc))
        (omega arith) refl
    drill_at outcome.DiskFault e own =
        record_failed (drill_image table path seed frames) r told runs tt t does.image does.old_image (drilling t)
        (records_works r.work.old.held new (drilled t r.work.old.held new) outcome.Done) e
        (does.silent (λ f. let c : outcome.DiskFault ≡ outcome.Done = sym e ∙ f in cc)
        (λ f. let c : outcome.DiskFault ≡ outcome.WriteFault = sym e ∙ f in cc))
    drill_at (outcome.ImageRefused why) e own =
        record_refused (drill_image table path seed frames) r told runs tt t does.image does.old_image (drilling t) why e
    drill_at (outcome.WordsDiffer image words) e own =
        record_differs (drill_image table path seed frames) r told runs tt t does.image does.old_image (drilling t) image words e
    drill_at outcome.OldVersion e own = record_old (drill_image table path seed frames) r told runs tt t does.image does.old_image (drilling t) e
    drill_at (outcome.ReadFault input.Line) e own = absurd own
    drill_at a e own = absurd own

  pub means_drill : Core (drill_image table path seed frames) r
  means_drill = means_unpulled (drill_image table path seed frames)
      (λ t image. in_image t image (records image (new_blocks t image (generated_trace t seed frames))
      (drilled t image (new_blocks t image (generated_trace t seed frames))) outcome.Done)) r told runs refl (λ g. refl) (λ no. no) tt
      r.work.old.held (λ yes. refl) runs.carries_out
      (λ past own. drill_at runs.carries_out.0 runs.carries_out.3 r.work.answer refl own)
