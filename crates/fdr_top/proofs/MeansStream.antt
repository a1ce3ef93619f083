-- What `stream` means.
use Rattle.std.proofs.Common.{◌≡◌, ◌≢◌, ⊎_elim, inl, inr, ℕ, false, List, [], IsTrue, refl, sym, ap, ◌∙◌}
use Rattle.fdr_io.specs.Faults.{Rose}
use Rattle.fdr_io.specs.Told.{followed_by}
use Rattle.fdr_io.specs.declared.Input.TheVariants as input
use Rattle.fdr_bus.specs.declared.BusRecord.{BusRecord}
use Rattle.fdr_bus.specs.Records.{good_prefix}
use Rattle.fdr_sampler.specs.Stream.{stream_of}
use Rattle.fdr_table.specs.Rows.{TableRows}
use Rattle.fdr_words.specs.Forms.{stream_line}
use Rattle.fdr_load.specs.Supplies.{Supplied}
use Rattle.fdr_top.specs.Answers.{IsOwn}
use Rattle.fdr_top.specs.Commands.{RunsCommand}
use Rattle.fdr_top.specs.Runs.{CommandRun}
use Rattle.fdr_top.specs.Stream.{StreamsTrace}
use Rattle.fdr_top.specs.declared.outcome.Outcome.{Outcome}
use Rattle.fdr_top.specs.declared.outcome.Outcome.TheVariants as outcome
use Rattle.fdr_top.proofs.MeaningWords.{Core}
use Rattle.fdr_top.specs.Meaning.{Effect, stays, trace_answer, writes}
use Rattle.fdr_top.specs.Doing.{Becomes, IsTold}
use Rattle.fdr_top.proofs.MeaningLeft.{idle_keeps, stays_unused}
use Rattle.fdr_top.proofs.MeaningByTable.{line_rest, means_by_table}
use Rattle.fdr_top.proofs.MeaningInputs.{MeansInput, came_cut, came_part, gave_cut, gave_none, gave_part, rose_or}
use Rattle.fdr_top.proofs.MeaningTraces.{IsSameTrace, done_ends, done_same, failed_ends, refused_ends, refused_same}

module _ (path : List ℕ) (r : CommandRun) (told : IsTold (stream_line path) r) (runs : RunsCommand (stream_line path) r) where
  stream_left : Becomes stays r.work.tells r.work.old r.work.new
  stream_left = stays_unused (stream_line path) r.work runs.unused (λ no. no)

  abbrev streams : TableRows → Supplied → Effect
  streams t came = writes (stream_of t (good_prefix came.bytes)) (trace_answer came)

  module _ (t : TableRows) (does : StreamsTrace t r.work.tells r.work.old r.work.new r.work.written_before r.work.written_now r.work.answer) where
    abbrev pulled : List ℕ
    pulled = does.streams.pulled

    -- the trace ended so, and all was written
    stream_ended : (a : Outcome) → r.work.answer ≡ a → a ≢ outcome.WriteFault
        → ((bytes : List ℕ) → IsSameTrace pulled bytes
        → trace_answer (record { bytes = bytes; failed = false }) ≡ a)
        → (IsTrue r.work.tells.input
        → IsSameTrace pulled r.work.old.input)
        → MeansInput (stream_line path) (streams t) r.work
    stream_ended a e not_write ends same =
        let here : r.work.written_now ≡ followed_by r.work.written_before (stream_of t (good_prefix pulled)) =
        does.streams.text (λ f. not_write (sym e ∙ f)) in
        record {
          came = came_part pulled;
          given = gave_part r.work pulled does.streams.pulls.takes;
          refines = inl (record { answer = e ∙ sym (ends pulled (refl, refl)); text = here; image = stream_left });
          all = λ line uncut disk. let so = same line in inl (record {
            answer = e ∙ sym (ends r.work.old.input so);
            text = here ∙ ap (λ (x : List BusRecord). followed_by r.work.written_before (stream_of t x)) (sym so.0);
            image = stream_left;
          });
        }

    stream_at : (a : Outcome) → r.work.answer ≡ a → IsOwn (stream_line path) a → MeansInput (stream_line path) (streams t) r.work
    stream_at outcome.Done e own = stream_ended outcome.Done e (λ f. cc)
        (λ bytes. done_ends r.work.tells r.work.old r.work.new pulled r.work.answer does.streams.pulls does.streams.ends bytes e)
        (done_same r.work.tells r.work.old r.work.new pulled r.work.answer does.streams.pulls does.streams.ends e)
    stream_at (outcome.TraceRefused index why) e own = stream_ended (outcome.TraceRefused index why) e (λ f. cc)
        (λ bytes. refused_ends r.work.tells r.work.old r.work.new pulled r.work.answer does.streams.pulls does.streams.ends bytes index why e)
        (refused_same r.work.tells r.work.old r.work.new pulled r.work.answer does.streams.pulls does.streams.ends index why e)
    stream_at (outcome.ReadFault input.Line) e own = record {
      came = came_cut pulled;
      given = gave_cut r.work pulled does.streams.pulls.takes (runs.causes.input e);
      refines = inl (record {
        answer = e ∙ sym (failed_ends r.work.tells r.work.old r.work.new pulled r.work.answer does.streams.pulls does.streams.ends e);
        text = does.streams.text (λ f. let c : outcome.ReadFault input.Line ≡ outcome.WriteFault = sym e ∙ f in cc);
        image = stream_left;
      });
      all = λ line uncut disk. absurd (cc);
    }
    stream_at outcome.WriteFault e own = ⊎_elim
        (λ (failed : Rose r.work.old.input_faults r.work.new.input_faults). record {
          came = came_cut pulled;
          given = gave_cut r.work pulled does.streams.pulls.takes failed;
          refines = inr (inl (tt, record { answer = e; step = refl; cause = runs.causes.write e; text = does.streams.part; image = stream_left }));
          all = λ line uncut disk. absurd (cc);
        })
        (λ (quiet : Rose r.work.old.input_faults r.work.new.input_faults → ⊥). record {
          came = came_part pulled;
          given = gave_part r.work pulled does.streams.pulls.takes;
          refines = inr (inl (tt, record { answer = e; step = refl; cause = runs.causes.write e; text = does.streams.part; image = stream_left }));
          all = λ line uncut disk.
              inr (inl (tt, record { answer = e; step = refl; cause = runs.causes.write e; text = does.part_of_whole line quiet; image = stream_left }));
        })
        (rose_or r.work.old.input_faults r.work.new.input_faults)
    stream_at a e own = absurd own

  pub means_stream : Core (stream_line path) r
  means_stream = means_by_table (stream_line path) (λ t came image. writes (stream_of t (good_prefix came.bytes)) (trace_answer came)) r told runs refl
      (λ g. refl)
      (λ why. line_rest (stream_line path) r (came_part []) (gave_none r.work (idle_keeps (stream_line path) r runs tt why)) (λ no. no) tt)
      runs.carries_out (λ past own.
      let i = stream_at runs.carries_out.0 (runs.carries_out.3 past) r.work.answer refl own in
      record { rest = line_rest (stream_line path) r i.came i.given (λ no. no) tt; does = i.refines; all = i.all })
