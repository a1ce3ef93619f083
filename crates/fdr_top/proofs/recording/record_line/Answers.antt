use Rattle.std.proofs.Common.{◌≡◌, ◌∙◌, ap, refl, sym, inl, inr, subst, Ok, Err, rules}
use Rattle.fdr_trace.specs.declared.TraceStop.TheVariants as stop
use Rattle.fdr_recorder.specs.Supply.{line_trace}
use Rattle.fdr_recorder.specs.declared.error.SessionFault.TheVariants as session
use Rattle.fdr_recorder.specs.declared.source.SourceEnd.TheVariants as source
use Rattle.fdr_recorder.proofs.Recordings.{RecordsSupply-nothing}
use Rattle.fdr_words.specs.Forms.{record_line}
use Rattle.fdr_top.specs.Answers.{IsOwn}
use Rattle.fdr_top.specs.Ends.{session_refusal, source_answer}
use Rattle.fdr_top.specs.Stages.{WritesNothing}
use Rattle.fdr_pieces.proofs.Pulling.{LeavesStops-here, LeavesStops-look}
use Rattle.fdr_top.proofs.RecordingEnds.{is_disk_fault, is_no_memory, keeps_line, refused_at_start}
use Rattle.fdr_top.proofs.Results.{memory_not_disk, memory_not_input}
use Rattle.fdr_top.proofs.SourceEnds.{refusal_not_input, refusal_own_record, source_begun, source_failed, source_not_disk, source_not_memory, source_own}
use Rattle.fdr_top.proofs.recording.record_line.Goals as goal

-- where there is no room for the trace
pub returns-in_default : goal.returns-in_default
returns-in_default g c = record {
  memory = λ e. inl refl;
  records = (
    Err session.NoMemory,
    refl,
    RecordsSupply-nothing line_trace _ _ _ (g.met.D.Deck.sound c.args.deck.now),
  );
  answer = λ path image. inl refl;
  untouched = λ nothing. record { held = refl; no_more = λ image leaves. leaves; no_less = λ image leaves. leaves };
  stops = λ nothing. LeavesStops-here _ _ (g.met.D.Deck.sound c.args.deck.now);
  announced = search rules;
  input = λ nothing. record { input = refl; taken = refl; pulled_before = refl; faults = refl };
  learns = record { bytes = λ told. refl; stops = λ told. refl; known = λ some. refl };
  input_fault = λ e. absurd (memory_not_input e);
  disk_fault = λ e. absurd (memory_not_disk e);
  no_disk_fault = search rules;
  no_input_fault = search rules;
}

-- where all is recorded
pub returns-in-Ok-record_source : goal.returns-in-Ok-record_source
returns-in-Ok-record_source g c = record {
  memory = λ e. absurd (source_not_memory c.in-Ok-record_source.recorded.end (sym c.source_answer.ensures ∙ e));
  records = (
    Ok c.in-Ok-record_source.recorded.end,
    c.source_answer.ensures,
    c.in-Ok-record_source.ensures.recorded line_trace c.in-Ok.ensures,
  );
  answer = λ path image.
      inr (subst (IsOwn (record_line path image)) (sym c.source_answer.ensures) (source_own path image c.in-Ok-record_source.recorded.end));
  untouched = λ nothing. absurd (source_begun c.in-Ok-record_source.recorded.end (subst WritesNothing c.source_answer.ensures nothing));
  stops = λ nothing. absurd (source_begun c.in-Ok-record_source.recorded.end (subst WritesNothing c.source_answer.ensures nothing));
  announced = λ nothing. absurd (source_begun c.in-Ok-record_source.recorded.end (subst WritesNothing c.source_answer.ensures nothing));
  input = λ nothing. absurd (source_begun c.in-Ok-record_source.recorded.end (subst WritesNothing c.source_answer.ensures nothing));
  learns = c.record_source.ensures.learns;
  input_fault = λ e. c.in-Ok-record_source.ensures.input_fault (source_failed c.in-Ok-record_source.recorded.end (sym c.source_answer.ensures ∙ e));
  disk_fault = λ e. absurd (source_not_disk c.in-Ok-record_source.recorded.end (sym c.source_answer.ensures ∙ e));
  no_disk_fault = λ other. c.in-Ok-record_source.ensures.no_disk_fault;
  no_input_fault = λ read covers.
      (c.in-Ok-record_source.ensures.recorded line_trace c.in-Ok.ensures).ends.no_fault tt (λ e.
      let same : c.in-Ok-record_source.recorded.end ≡ source.Stopped stop.Failed = cc in
      read (c.source_answer.ensures ∙ ap source_answer same));
}

-- where the session is refused or cut short
pub returns : goal.returns
returns g c = record {
  memory = λ e.
      let is = is_no_memory c.in-Err.fault (sym c.session_refusal.ensures ∙ e) in
      inr (record { long = c.in-Err.ensures.memory is; good = λ told. (c.in-Err.ensures.memory_good is told).no_fault });
  records = (Err c.in-Err.fault, c.session_refusal.ensures, c.in-Err.ensures.ended line_trace c.in-Ok.ensures);
  answer = λ path image. rw c.session_refusal.ensures (refusal_own_record path image c.in-Err.fault);
  untouched = λ nothing. c.in-Err.ensures.untouched (refused_at_start c.in-Err.fault (subst WritesNothing c.session_refusal.ensures nothing));
  stops = λ nothing. LeavesStops-look _ _ _ (c.in-Err.ensures.looked (refused_at_start c.in-Err.fault (subst WritesNothing c.session_refusal.ensures nothing)));
  announced = λ nothing. c.in-Err.ensures.announced (refused_at_start c.in-Err.fault (subst WritesNothing c.session_refusal.ensures nothing));
  input = λ nothing. keeps_line _ _ (c.in-Err.ensures.input (refused_at_start c.in-Err.fault (subst WritesNothing c.session_refusal.ensures nothing)));
  learns = c.record_source.ensures.learns;
  input_fault = λ e. absurd (refusal_not_input c.in-Err.fault (sym c.session_refusal.ensures ∙ e));
  disk_fault = λ e. c.in-Err.ensures.disk_fault (is_disk_fault c.in-Err.fault (sym c.session_refusal.ensures ∙ e));
  no_disk_fault = λ other. c.in-Err.ensures.no_fault_if_cut (λ e. other (c.session_refusal.ensures ∙ ap session_refusal e));
  no_input_fault = search rules;
}
