use Rattle.std.proofs.Common.{sym, ◌∙◌, inl, inr, ap, subst, refl, [], rules}
use Rattle.fdr_readout.specs.Reading.{ReadsEvents, decided_past}
use Rattle.fdr_readout.specs.TakersSound.{text_laws}
use Rattle.fdr_readout.proofs.Taking.{taken_nothing}
use Rattle.fdr_trace.proofs.Pulling.{LeavesDisk-here}
use Rattle.fdr_top.proofs.ListedLines.{in_time_none}
use Rattle.fdr_top.proofs.InputTexts.{end_fault, end_not_memory, end_not_write, end_own}
use Rattle.fdr_words.specs.Forms.{list_bits}
use Rattle.fdr_top.specs.Answers.{IsOwn}
use Rattle.fdr_top.specs.InputTexts.{answer_of}
use Rattle.fdr_top.proofs.Results.{kept_bounded, memory_not_input, memory_not_write, write_not_input, write_not_memory}
use Rattle.fdr_top.proofs.list_bits.list_line.Goals as goal

pub write_line-requires : goal.write_line-requires
write_line-requires g c =
    let l = c.in-Ok.listing in
    let fresh : ReadsEvents l.table.now l.reader (decided_past l.table.now.frame.words []) = rw c.in-Ok.ensures.table c.in-Ok.ensures.fresh in
    record {
      fresh = record {
        table = refl;
        taken = taken_nothing _ _ (text_laws g.O.Sink.written) l.table.now l.reader [] c.args.out.now fresh;
        empty = c.in-Ok.ensures.empty;
        in_time = in_time_none l.table.now (g.O.Sink.written c.args.out.now) fresh.count;
      };
    }

-- where all was pulled
pub returns-in-Ok-write_line : goal.returns-in-Ok-write_line
returns-in-Ok-write_line g c = record {
  answer = λ path. inr (subst (IsOwn (list_bits path)) (sym c.answer_of.ensures) (end_own (list_bits path) c.in-Ok-write_line.end tt tt));
  lists = λ not. rw (← c.in-Ok.ensures.table, c.answer_of.ensures) c.in-Ok-write_line.ensures.all;
  input_fault = λ fails. c.in-Ok-write_line.ensures.input_fault (end_fault c.in-Ok-write_line.end (sym c.answer_of.ensures ∙ fails));
  no_input_fault = λ not_read not_written. c.in-Ok-write_line.ensures.no_input_fault (λ e. not_read (c.answer_of.ensures ∙ ap answer_of e));
  write_fault = λ fails. absurd (end_not_write c.in-Ok-write_line.end (sym c.answer_of.ensures ∙ fails));
  no_write_fault = λ other. c.in-Ok-write_line.ensures.no_fault;
  no_memory = λ memory. absurd (end_not_memory c.in-Ok-write_line.end (sym c.answer_of.ensures ∙ memory));
  no_memory_faults = λ memory. absurd (end_not_memory c.in-Ok-write_line.end (sym c.answer_of.ensures ∙ memory));
  no_memory_input = λ memory. absurd (end_not_memory c.in-Ok-write_line.end (sym c.answer_of.ensures ∙ memory));
  disk = c.write_line.ensures.disk;
  announced = c.write_line.ensures.announced;
  bounded = c.write_line.ensures.bounded;
}

-- where the sink fails
pub returns : goal.returns
returns g c = record {
  answer = λ path. inr tt;
  lists = λ not. rw (← c.in-Ok.ensures.table) c.in-Err.ensures.part;
  input_fault = λ e. absurd (write_not_input e);
  no_input_fault = λ other more. absurd (more refl);
  write_fault = λ e. c.in-Err.ensures.write_fault;
  no_write_fault = λ other. absurd (other refl);
  no_memory = λ e. absurd (write_not_memory e);
  no_memory_faults = λ e. absurd (write_not_memory e);
  no_memory_input = λ e. absurd (write_not_memory e);
  disk = c.write_line.ensures.disk;
  announced = c.write_line.ensures.announced;
  bounded = c.write_line.ensures.bounded;
}

-- where there is no room for a listing
pub returns-in_default : goal.returns-in_default
returns-in_default g c = record {
  answer = λ path. inl refl;
  lists = λ not. absurd (not refl);
  input_fault = λ e. absurd (memory_not_input e);
  no_input_fault = search rules;
  write_fault = λ e. absurd (memory_not_write e);
  no_write_fault = search rules;
  no_memory = search rules;
  no_memory_faults = search rules;
  no_memory_input = λ memory. record { input = refl; taken = refl; pulled_before = refl; faults = refl };
  disk = LeavesDisk-here _;
  announced = search rules;
  bounded = kept_bounded _ _ _ _ refl;
}
