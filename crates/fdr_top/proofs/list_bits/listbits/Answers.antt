use Rattle.std.proofs.Common.{inl, inr, ⊎_elim}
use Rattle.fdr_words.specs.Forms.{list_bits}
use Rattle.fdr_top.proofs.Answering.{begun_leaves, has_cause, line_done, line_unused}
use Rattle.fdr_top.proofs.Commands.{own_not, own_not_memory, uncovered_line}
use Rattle.fdr_top.proofs.TableAnswers.{past_not_memory}
use Rattle.fdr_top.proofs.list_bits.listbits.Goals as goal
use Rattle.fdr_top.specs.declared.outcome.Outcome.TheVariants as outcome

pub returns : goal.returns
returns g c = record {
  works = λ path.
      let answer = c.list_line.ensures.answer path in
      record {
        answer = answer;
        refusal = begun_leaves (list_bits path) _ (λ none. none) (λ none. none) (λ none. none) answer
            c.list_line.ensures.disk c.list_line.ensures.announced c.list_line.ensures.no_memory c.list_line.ensures.no_memory_faults;
        stops = λ has. absurd has;
        unused = line_unused (list_bits path) _ (λ no. absurd (no tt)) tt c.list_line.ensures.disk c.list_line.ensures.announced
            c.list_line.ensures.no_memory_input (λ pulls. c.list_line.ensures.bounded) (λ rules. rules);
        causes = has_cause (list_bits path) _ answer (λ pulls. c.list_line.ensures.input_fault) (λ text. c.list_line.ensures.write_fault)
            (λ image. absurd image);
        no_fault_passed_over = record {
          input = λ read covers. uncovered_line (list_bits path) _ _ _ answer c.list_line.ensures.no_memory_input
              (λ own written. c.list_line.ensures.no_input_fault read written) (λ cut. covers (λ rules. rules, cut));
          write = λ other covers. c.list_line.ensures.no_write_fault other;
          disk = λ other. c.list_line.ensures.disk.disk_faults;
        };
        does = λ past. c.list_line.ensures.lists (past_not_memory _ past);
        complete = λ whole faultless. ⊎_elim
            (λ memory. inr memory)
            (λ own. inl (line_done (list_bits path) _ _ _ _ _ _ _ own (λ x. x) (λ x. x) (λ x. x) (λ x. x) (λ x. x) (λ x. x)
            (c.list_line.ensures.lists (own_not_memory (list_bits path) _ own)).lists whole.0 whole.1
            (λ e. faultless.input tt (c.list_line.ensures.input_fault e)) (λ e. faultless.sink tt (c.list_line.ensures.write_fault e))
            (λ at e. own_not (list_bits path) _ (outcome.CellFault at) answer (λ x. absurd (cc)) (λ x. x) e)))
            answer;
      };
}
