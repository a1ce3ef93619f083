use Rattle.std.proofs.Common.{◌∙◌, ap, refl, sym, inl, inr, ⊎_elim, arith, rules}
use Rattle.fdr_recorder.specs.Supply.{drawn_trace}
use Rattle.fdr_recorder.proofs.SessionEnds.{keeps_input_then}
use Rattle.fdr_recorder.proofs.Supplies.{drawn_made}
use Rattle.fdr_top.specs.Ends.{session_refusal}
use Rattle.fdr_top.specs.declared.outcome.Outcome.TheVariants as outcome
use Rattle.fdr_pieces.proofs.Pulling.{LeavesStops-look, LeavesStops-then}
use Rattle.fdr_top.proofs.Drilled.{drill_cut, drill_shut, drill_told, learns_then}
use Rattle.fdr_top.proofs.ListedImages.{of_blocks_begun, of_blocks_drill}
use Rattle.fdr_top.proofs.Answering.{memory_writes, passes_keeps}
use Rattle.fdr_top.proofs.RecordLines.{refuses_nothing}
use Rattle.fdr_top.proofs.RecordingEnds.{is_disk_fault, is_no_memory, keeps_line, refusal_not_write, refusal_own_drill, refused_at_start}
use Rattle.fdr_top.proofs.Results.{err_same, memory_not_disk, memory_not_write, ok_not_err, rose_after, rose_later}
use Rattle.fdr_top.proofs.Openings.{opening_own_drill, shut_unwritten}
use Rattle.fdr_top.proofs.drilling.drill_image.Goals as goal

pub record_source-requires : goal.record_source-requires
record_source-requires g c = (
  drawn_trace c.args.sound.now c.args.seed c.args.frames,
  drawn_made c.args.sound.now c.args.seed c.args.frames _ c.in-Ok-new.ensures c.requires.frame_limit,
)

-- where the image isn't opened
pub returns-in-Err : goal.returns-in-Err
returns-in-Err g c = record {
  answer = λ path image. opening_own_drill path image c.args.seed c.args.frames c.in-Err.answer c.in-Err.ensures.shut;
  drills =
      drill_shut c.args.sound.now _ _ _ _ _ _ c.in-Err.answer c.requires.in_range c.requires.sound (g.met.D.Deck.sound c.args.deck.now)
      c.open_image.ensures.looks c.in-Err.ensures.shut c.in-Err.ensures.refused;
  untouched = λ nothing. c.open_image.ensures.looks.disk;
  stops = λ nothing. LeavesStops-look _ _ _ c.open_image.ensures.looks.disk_work;
  announced = λ nothing. c.open_image.ensures.looks.disk_work.passes.announced.announced;
  input = passes_keeps _ _ _ c.open_image.ensures.looks.disk_work.passes;
  learns = c.open_image.ensures.looks.learns;
  disk_fault = c.in-Err.ensures.disk_fault;
  write_fault = λ e. absurd (shut_unwritten c.in-Err.answer c.in-Err.ensures.shut e);
  no_disk_fault = λ other. c.in-Err.ensures.no_disk_fault (λ e. other (err_same _ _ e));
  no_write_fault = search rules;
  memory = c.in-Err.ensures.memory;
  unwritten = search rules;
}

-- where there is no room for the generator
pub returns-in_default : goal.returns-in_default
returns-in_default g c = record {
  answer = λ path image. inl refl;
  drills =
      drill_shut c.args.sound.now _ _ _ _ _ _ outcome.NoMemory c.requires.in_range c.requires.sound (g.met.D.Deck.sound c.args.deck.now)
      c.open_image.ensures.looks tt (refuses_nothing _ _ _ _ outcome.NoMemory (λ past. past));
  untouched = λ nothing. c.open_image.ensures.looks.disk;
  stops = λ nothing. LeavesStops-look _ _ _ c.open_image.ensures.looks.disk_work;
  announced = λ nothing. c.open_image.ensures.looks.disk_work.passes.announced.announced;
  input = passes_keeps _ _ _ c.open_image.ensures.looks.disk_work.passes;
  learns = c.open_image.ensures.looks.learns;
  disk_fault = λ e. absurd (memory_not_disk e);
  write_fault = λ e. absurd (memory_not_write e);
  no_disk_fault = λ other. c.in-Ok.ensures.no_disk_fault (ok_not_err _ _);
  no_write_fault = search rules;
  memory = λ e.
      let opened = c.in-Ok.ensures.opened in
      record { long = omega (arith, opened.whole); good = λ told. (opened.image told).no_fault };
  unwritten = search rules;
}

-- where the summary is written
pub returns : goal.returns
returns g c = record {
  answer = λ path image. inr (of_blocks_drill path image c.args.seed c.args.frames c.write_summary.result c.write_summary.ensures.answer);
  drills =
      let s = g.met.D.Deck.sound in
      let e = c.in-Ok-record_source.ensures in
      let begun = drawn_made c.args.sound.now c.args.seed c.args.frames _ c.in-Ok-new.ensures c.requires.frame_limit in
      drill_told c.args.sound.now c.args.seed c.args.frames _ _ _ _ _ c.in-Ok.reader.header c.in-Ok-record_source.recorded.blocks
      c.in-Ok-record_source.recorded.end _ _ _ (s c.args.deck.now) (s c.record_source.new.deck) c.open_image.ensures.looks
      (e.recorded (drawn_trace c.args.sound.now c.args.seed c.args.frames) begun) c.write_summary.ensures.looks
      c.write_summary.ensures.answer c.in-Ok.ensures.opened.header e.blocks c.requires.in_range c.requires.sound
      c.write_summary.ensures.text c.write_summary.ensures.part (λ x. ap g.O.Sink.written (c.write_summary.ensures.unread x));
  untouched = λ nothing. absurd (of_blocks_begun c.write_summary.result c.write_summary.ensures.answer nothing);
  stops = λ nothing. absurd (of_blocks_begun c.write_summary.result c.write_summary.ensures.answer nothing);
  announced = λ nothing. absurd (of_blocks_begun c.write_summary.result c.write_summary.ensures.answer nothing);
  input =
      let opened = c.open_image.ensures.looks.disk_work.passes in
      let read = c.write_summary.ensures.looks.disk_work.passes in
      let left = c.in-Ok-record_source.ensures.unpulled tt in
      keeps_line _ _ (keeps_input_then _ _ _ _
      (keeps_input_then _ _ _ _ (opened.input, opened.input_faults) refl left.0 left.1) refl read.input read.input_faults);
  learns = learns_then _ _ _ _ _ c.open_image.ensures.looks.learns c.in-Ok-record_source.ensures.learns c.write_summary.ensures.looks.extent;
  disk_fault = λ fails.
      rose_later _ _ _ c.open_image.ensures.looks.disk_work.passes.disk_faults
      (rose_after _ _ _ c.in-Ok-record_source.ensures.no_disk_fault (c.write_summary.ensures.disk_fault fails));
  write_fault = c.write_summary.ensures.write_fault;
  no_disk_fault = λ other.
      c.write_summary.ensures.no_disk_fault other ∙ c.in-Ok-record_source.ensures.no_disk_fault ∙ c.in-Ok.ensures.no_disk_fault (ok_not_err _ _);
  no_write_fault = c.write_summary.ensures.no_write_fault;
  memory = λ e. absurd (of_blocks_begun c.write_summary.result c.write_summary.ensures.answer (memory_writes _ e));
  unwritten = λ not_done not_failed.
      ⊎_elim
      (λ done. absurd (not_done done))
      (λ rest. ⊎_elim (λ failed. absurd (not_failed failed)) (λ unread. c.write_summary.ensures.unread unread) rest)
      c.write_summary.ensures.answer;
}

-- where the session was refused or cut short
pub returns-in-Err-record_source : goal.returns-in-Err-record_source
returns-in-Err-record_source g c = record {
  answer = λ path image. rw c.session_refusal.ensures (refusal_own_drill path image c.args.seed c.args.frames c.in-Err-record_source.fault);
  drills =
      let e = c.in-Err-record_source.ensures in
      let begun = drawn_made c.args.sound.now c.args.seed c.args.frames _ c.in-Ok-new.ensures c.requires.frame_limit in
      rw c.session_refusal.ensures (drill_cut c.args.sound.now _ _ _ _ _ _ _ c.in-Err-record_source.fault c.requires.in_range c.requires.sound
      (g.met.D.Deck.sound c.args.deck.now) c.open_image.ensures.looks
      (e.ended (drawn_trace c.args.sound.now c.args.seed c.args.frames) begun));
  untouched = λ nothing.
      let looked = c.open_image.ensures.looks.disk in
      let left = c.in-Err-record_source.ensures.untouched
      (refused_at_start c.in-Err-record_source.fault (rw c.session_refusal.ensures at nothing)) in
      record {
        held = left.held ∙ looked.held;
        no_more = λ image leaves. looked.no_more image (left.no_more image leaves);
        no_less = λ image leaves. left.no_less image (looked.no_less image leaves);
      };
  stops = λ nothing. LeavesStops-then _ _ _ _ (LeavesStops-look _ _ _ c.open_image.ensures.looks.disk_work) c.open_image.ensures.looks.disk
      (LeavesStops-look _ _ _ (c.in-Err-record_source.ensures.looked
      (refused_at_start c.in-Err-record_source.fault (rw c.session_refusal.ensures at nothing))));
  announced = λ nothing.
      c.in-Err-record_source.ensures.announced (refused_at_start c.in-Err-record_source.fault (rw c.session_refusal.ensures at nothing))
      ∙ c.open_image.ensures.looks.disk_work.passes.announced.announced;
  input =
      let opened = c.open_image.ensures.looks.disk_work.passes in
      let left = c.in-Err-record_source.ensures.unpulled tt in
      keeps_line _ _ (keeps_input_then _ _ _ _ (opened.input, opened.input_faults) refl left.0 left.1);
  learns = learns_then _ _ _ _ _ c.open_image.ensures.looks.learns c.in-Err-record_source.ensures.learns refl;
  disk_fault = λ fails.
      rose_later _ _ _ c.open_image.ensures.looks.disk_work.passes.disk_faults
      (c.in-Err-record_source.ensures.disk_fault (is_disk_fault c.in-Err-record_source.fault (sym c.session_refusal.ensures ∙ fails)));
  write_fault = λ fails. absurd (refusal_not_write c.in-Err-record_source.fault (sym c.session_refusal.ensures ∙ fails));
  no_disk_fault = λ other.
      c.in-Err-record_source.ensures.no_fault_if_cut (λ e. other (c.session_refusal.ensures ∙ ap session_refusal e))
      ∙ c.in-Ok.ensures.no_disk_fault (ok_not_err _ _);
  no_write_fault = search rules;
  memory = λ e.
      let is = is_no_memory c.in-Err-record_source.fault (sym c.session_refusal.ensures ∙ e) in
      record { long = c.in-Err-record_source.ensures.memory is; good = λ told. (c.in-Ok.ensures.opened.image told).no_fault };
  unwritten = search rules;
}
