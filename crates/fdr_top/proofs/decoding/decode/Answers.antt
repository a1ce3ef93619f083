use Rattle.std.proofs.Common.{◌≡◌, inl, inr, ⊎_elim, ap, sym, ◌∙◌, List, ℕ, Some, None}
use Rattle.std.proofs.lemmas.List.{take_all}
use Rattle.fdr_biphase.specs.Cells.{bits_of_bytes}
use Rattle.fdr_biphase.specs.Phases.{missing_place}
use Rattle.fdr_pieces.specs.Limits.{most_input_bytes}
use Rattle.fdr_words.specs.Forms.{decode_levels}
use Rattle.fdr_top.proofs.Answering.{begun_leaves, has_cause, line_done, line_unused}
use Rattle.fdr_top.proofs.Commands.{own_not_memory, uncovered_line}
use Rattle.fdr_top.proofs.TableAnswers.{past_not_memory}
use Rattle.fdr_top.proofs.decoding.decode.Goals as goal

pub returns : goal.returns
returns g c = record {
  works = λ t.
      let answer = c.decode_levels.ensures.answer in
      record {
        answer = answer;
        refusal = begun_leaves decode_levels _ (λ none. none) (λ none. none) (λ none. none) answer
            c.decode_levels.ensures.disk c.decode_levels.ensures.announced c.decode_levels.ensures.no_memory c.decode_levels.ensures.no_memory_faults;
        stops = λ has. absurd has;
        unused = line_unused decode_levels _ (λ no. absurd (no tt)) tt c.decode_levels.ensures.disk c.decode_levels.ensures.announced
            c.decode_levels.ensures.no_memory_input (λ pulls. c.decode_levels.ensures.bounded) (λ rules. rules);
        causes = has_cause decode_levels _ answer (λ pulls. c.decode_levels.ensures.input_fault) (λ text. c.decode_levels.ensures.write_fault)
            (λ image. absurd image);
        no_fault_passed_over = record {
          input = λ read covers. uncovered_line decode_levels _ _ _ answer c.decode_levels.ensures.no_memory_input
              (λ own written. c.decode_levels.ensures.no_input_fault read written) (λ cut. covers (λ rules. rules, cut));
          write = λ other covers. c.decode_levels.ensures.no_write_fault other;
          disk = λ other. c.decode_levels.ensures.disk.disk_faults;
        };
        does = λ past. c.decode_levels.ensures.decodes (past_not_memory _ past);
        complete = λ whole faultless. ⊎_elim
            (λ memory. inr memory)
            (λ own. inl (line_done decode_levels _ _ _ _ _ _ _ own (λ x. x) (λ x. x) (λ x. x) (λ x. x) (λ x. x) (λ x. x)
            (c.decode_levels.ensures.decodes (own_not_memory decode_levels _ own)).decodes whole.0 whole.1
            (λ e. faultless.input tt (c.decode_levels.ensures.input_fault e)) (λ e. faultless.sink tt (c.decode_levels.ensures.write_fault e))
            (λ at e. let found = (c.decode_levels.ensures.decodes (own_not_memory decode_levels _ own)).missing_of_line at e whole.0 in
            let none = ap (λ (xs : List ℕ). missing_place (bits_of_bytes xs)) (take_all most_input_bytes _ whole.1) ∙ whole.2 in
            let c : Some at ≡ None = sym found ∙ none in cc)))
            answer;
      };
}
