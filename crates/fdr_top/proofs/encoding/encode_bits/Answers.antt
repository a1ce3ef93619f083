use Rattle.std.proofs.Common.{sym, ◌∙◌, inr, ap, subst}
use Rattle.fdr_top.proofs.InputTexts.{end_fault, end_not_memory, end_not_write, end_own}
use Rattle.fdr_words.specs.Forms.{encode_bytes}
use Rattle.fdr_top.specs.Answers.{IsOwn}
use Rattle.fdr_top.specs.InputTexts.{answer_of}
use Rattle.fdr_top.proofs.Coding.{encoded_first}
use Rattle.fdr_top.proofs.encoding.encode_bits.Goals as goal

pub write_levels-requires : goal.write_levels-requires
write_levels-requires g c = record { fresh = encoded_first _ _ c.new-2.ensures c.in-Ok.ensures }

pub returns-in-Ok-write_levels-clause-answer : goal.returns-in-Ok-write_levels-clause-answer
returns-in-Ok-write_levels-clause-answer g c =
    inr (subst (IsOwn encode_bytes) (sym c.answer_of.ensures) (end_own encode_bytes c.in-Ok-write_levels.end tt tt))

pub returns-in-Ok-write_levels-clause-encodes : goal.returns-in-Ok-write_levels-clause-encodes
returns-in-Ok-write_levels-clause-encodes g c = λ not. rw c.answer_of.ensures c.in-Ok-write_levels.ensures.all

pub returns-in-Ok-write_levels-clause-input_fault : goal.returns-in-Ok-write_levels-clause-input_fault
returns-in-Ok-write_levels-clause-input_fault g c = λ fails.
    c.in-Ok-write_levels.ensures.input_fault (end_fault c.in-Ok-write_levels.end (sym c.answer_of.ensures ∙ fails))

pub returns-in-Ok-write_levels-clause-no_input_fault : goal.returns-in-Ok-write_levels-clause-no_input_fault
returns-in-Ok-write_levels-clause-no_input_fault g c = λ not_read not_written.
    c.in-Ok-write_levels.ensures.no_input_fault (λ e. not_read (c.answer_of.ensures ∙ ap answer_of e))

pub returns-in-Ok-write_levels-clause-write_fault : goal.returns-in-Ok-write_levels-clause-write_fault
returns-in-Ok-write_levels-clause-write_fault g c = λ fails. absurd (end_not_write c.in-Ok-write_levels.end (sym c.answer_of.ensures ∙ fails))

pub returns-in-Ok-write_levels-clause-no_memory : goal.returns-in-Ok-write_levels-clause-no_memory
returns-in-Ok-write_levels-clause-no_memory g c = λ memory. absurd (end_not_memory c.in-Ok-write_levels.end (sym c.answer_of.ensures ∙ memory))

pub returns-in-Ok-write_levels-clause-no_memory_faults : goal.returns-in-Ok-write_levels-clause-no_memory_faults
returns-in-Ok-write_levels-clause-no_memory_faults g c = λ memory.
    absurd (end_not_memory c.in-Ok-write_levels.end (sym c.answer_of.ensures ∙ memory))

pub returns-in-Ok-write_levels-clause-no_memory_input : goal.returns-in-Ok-write_levels-clause-no_memory_input
returns-in-Ok-write_levels-clause-no_memory_input g c = λ memory.
    absurd (end_not_memory c.in-Ok-write_levels.end (sym c.answer_of.ensures ∙ memory))

pub returns-clause-encodes : goal.returns-clause-encodes
returns-clause-encodes g c = λ not. c.in-Err.ensures.part
