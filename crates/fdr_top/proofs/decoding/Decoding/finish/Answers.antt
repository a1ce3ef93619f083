use Rattle.std.proofs.Common.{◌++◌, List, Bool, ap, ◌∙◌}
use Rattle.fdr_io.proofs.OutputSteps.{failed_or_not}
use Rattle.fdr_biphase.specs.Cells.{bits_of_bytes}
use Rattle.fdr_biphase.specs.Packed.{answered_byte, bytes_of_bits, decoded_bytes}
use Rattle.fdr_biphase.specs.Phases.{cell_bits}
use Rattle.fdr_biphase.proofs.Texts.{bits_of_all}
use Rattle.fdr_top.proofs.Coding.{on_err, on_ok, rest_cut, rest_part, rest_written}
use Rattle.fdr_top.proofs.decoding.Decoding.finish.Goals as goal

pub returns-in_err-add_answer-clause-part : goal.returns-in_err-add_answer-clause-part
returns-in_err-add_answer-clause-part g c = λ bytes before had.
    failed_or_not _ (rest_cut before.written _ _ _ had.decoded (answered_byte c.finish-last.result) (decoded_bytes bytes) had.emits
    c.in_err-add_answer.ensures.part (c.finish-last.ensures.all bytes had.decoded had.reader))

pub returns-in_err-add_answer-clause-missed_part : goal.returns-in_err-add_answer-clause-missed_part
returns-in_err-add_answer-clause-missed_part g c = λ bytes at before had more.
    failed_or_not _ (rest_cut before.written _ _ _ had.decoded (answered_byte c.finish-last.result) (decoded_bytes (bytes ++ more)) had.emits
    c.in_err-add_answer.ensures.part (ap (λ (xs : List Bool). bytes_of_bits (cell_bits xs)) (bits_of_all bytes more)
    ∙ c.finish-last.ensures.missing (bits_of_bytes bytes) had.decoded at had.reader (bits_of_bytes more)))

pub returns-clause-all : goal.returns-clause-all
returns-clause-all g c = λ bytes before had.
    on_ok c.finish.result (rest_written before.written _ _ _ _ _ had.decoded (answered_byte c.finish-last.result) (decoded_bytes bytes) had.emits
    c.in_ok-add_answer.ensures.all (c.finish-last.ensures.all bytes had.decoded had.reader)) c.finish.ensures.all

pub returns-clause-part : goal.returns-clause-part
returns-clause-part g c = λ bytes before had.
    on_err c.finish.result (rest_part before.written _ _ _ _ _ had.decoded (answered_byte c.finish-last.result) (decoded_bytes bytes) had.emits
    c.in_ok-add_answer.ensures.all (c.finish-last.ensures.all bytes had.decoded had.reader)) c.finish.ensures.part

pub returns-clause-missed : goal.returns-clause-missed
returns-clause-missed g c = λ bytes at before had more.
    on_ok c.finish.result (rest_written before.written _ _ _ _ _ had.decoded (answered_byte c.finish-last.result) (decoded_bytes (bytes ++ more)) had.emits
    c.in_ok-add_answer.ensures.all (ap (λ (xs : List Bool). bytes_of_bits (cell_bits xs)) (bits_of_all bytes more)
    ∙ c.finish-last.ensures.missing (bits_of_bytes bytes) had.decoded at had.reader (bits_of_bytes more))) c.finish.ensures.all

pub returns-clause-missed_part : goal.returns-clause-missed_part
returns-clause-missed_part g c = λ bytes at before had more.
    on_err c.finish.result (rest_part before.written _ _ _ _ _ had.decoded (answered_byte c.finish-last.result) (decoded_bytes (bytes ++ more)) had.emits
    c.in_ok-add_answer.ensures.all (ap (λ (xs : List Bool). bytes_of_bits (cell_bits xs)) (bits_of_all bytes more)
    ∙ c.finish-last.ensures.missing (bits_of_bytes bytes) had.decoded at had.reader (bits_of_bytes more))) c.finish.ensures.part
