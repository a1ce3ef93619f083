use Rattle.std.proofs.Common.{inl, inr, ⊎_elim}
use Rattle.fdr_words.specs.Forms.{stream_line}
use Rattle.fdr_top.proofs.Answering.{begun_leaves, has_cause, line_unused, streams_line}
use Rattle.fdr_top.proofs.Commands.{own_not_memory, own_past, uncovered_line}
use Rattle.fdr_top.proofs.TableAnswers.{past_not_memory}
use Rattle.fdr_top.proofs.TraceAnswers.{stream_done, stream_reads}
use Rattle.fdr_top.proofs.streaming.stream.Goals as goal

pub returns : goal.returns
returns g c = record {
  works = λ path.
      let answer = c.stream_sound.ensures.answer path in
      record {
        answer = answer;
        refusal = begun_leaves (stream_line path) _ (λ none. none) (λ none. none) (λ none. none) answer
            c.stream_sound.ensures.disk c.stream_sound.ensures.announced c.stream_sound.ensures.no_memory c.stream_sound.ensures.no_memory_faults;
        stops = λ has. absurd has;
        unused = line_unused (stream_line path) _ (λ no. absurd (no tt)) tt c.stream_sound.ensures.disk c.stream_sound.ensures.announced
            c.stream_sound.ensures.no_memory_input (λ none. absurd none) (λ rules. rules);
        causes = has_cause (stream_line path) _ answer (λ pulls. c.stream_sound.ensures.input_fault) (λ text. c.stream_sound.ensures.write_fault)
            (λ image. absurd image);
        no_fault_passed_over = record {
          input = λ read covers. uncovered_line (stream_line path) _ _ _ answer c.stream_sound.ensures.no_memory_input
              (λ own written. (c.stream_sound.ensures.streams (own_not_memory (stream_line path) _ own)).ends.no_fault
              (stream_reads path _ own written) read) (λ cut. covers (λ rules. rules, cut));
          write = λ other covers. c.stream_sound.ensures.no_write_fault other;
          disk = λ other. c.stream_sound.ensures.disk.disk_faults;
        };
        does = λ past. ⊎_elim
            (λ memory. absurd (past_not_memory _ past memory))
            (λ of. streams_line path _ _ _ _ _ _ _ c.requires.in_range c.requires.sound (c.stream_sound.ensures.streams (past_not_memory _ past)) of
            (c.stream_sound.ensures.part_of_whole (past_not_memory _ past)))
            answer;
        complete = λ whole faultless. ⊎_elim
            (λ memory. inr memory)
            (λ of. inl (stream_done path _ _ _ _ _ _ _ (c.stream_sound.ensures.streams (past_not_memory _ (own_past (stream_line path) _ of))) of
            whole.0 whole.1 (λ e. faultless.input tt (c.stream_sound.ensures.input_fault e)) (λ e. faultless.sink tt (c.stream_sound.ensures.write_fault e))))
            answer;
      };
}
