use Rattle.std.proofs.Common.{inl, inr, ⊎_elim}
use Rattle.fdr_words.specs.Forms.{encode_bytes}
use Rattle.fdr_top.proofs.Answering.{begun_leaves, has_cause, line_done, line_unused}
use Rattle.fdr_top.proofs.Commands.{own_not, own_not_memory, uncovered_line}
use Rattle.fdr_top.proofs.TableAnswers.{past_not_memory}
use Rattle.fdr_top.proofs.encoding.encode.Goals as goal
use Rattle.fdr_top.specs.declared.outcome.Outcome.TheVariants as outcome

pub returns : goal.returns
returns g c = record {
  works = λ t.
      let answer = c.encode_bits.ensures.answer in
      record {
        answer = answer;
        refusal = begun_leaves encode_bytes _ (λ none. none) (λ none. none) (λ none. none) answer
            c.encode_bits.ensures.disk c.encode_bits.ensures.announced c.encode_bits.ensures.no_memory c.encode_bits.ensures.no_memory_faults;
        stops = λ has. absurd has;
        unused = line_unused encode_bytes _ (λ no. absurd (no tt)) tt c.encode_bits.ensures.disk c.encode_bits.ensures.announced
            c.encode_bits.ensures.no_memory_input (λ pulls. c.encode_bits.ensures.bounded) (λ rules. rules);
        causes = has_cause encode_bytes _ answer (λ pulls. c.encode_bits.ensures.input_fault) (λ text. c.encode_bits.ensures.write_fault)
            (λ image. absurd image);
        no_fault_passed_over = record {
          input = λ read covers. uncovered_line encode_bytes _ _ _ answer c.encode_bits.ensures.no_memory_input
              (λ own written. c.encode_bits.ensures.no_input_fault read written) (λ cut. covers (λ rules. rules, cut));
          write = λ other covers. c.encode_bits.ensures.no_write_fault other;
          disk = λ other. c.encode_bits.ensures.disk.disk_faults;
        };
        does = λ past. c.encode_bits.ensures.encodes (past_not_memory _ past);
        complete = λ whole faultless. ⊎_elim
            (λ memory. inr memory)
            (λ own. inl (line_done encode_bytes _ _ _ _ _ _ _ own (λ x. x) (λ x. x) (λ x. x) (λ x. x) (λ x. x) (λ x. x)
            (c.encode_bits.ensures.encodes (own_not_memory encode_bytes _ own)).encodes whole.0 whole.1
            (λ e. faultless.input tt (c.encode_bits.ensures.input_fault e)) (λ e. faultless.sink tt (c.encode_bits.ensures.write_fault e))
            (λ at e. own_not encode_bytes _ (outcome.CellFault at) answer (λ x. absurd (cc)) (λ x. x) e)))
            answer;
      };
}
