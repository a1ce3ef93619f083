use Rattle.std.proofs.Common.{[], ◌∙◌, refl, arith, rules}
use Rattle.std.proofs.lemmas.Grind.{common_steps}
use Rattle.fdr_io.proofs.OutputSteps.{whole_is_part}
use Rattle.fdr_top.proofs.TraceAnswers.{streamed_part}
use Rattle.fdr_top.proofs.Records.{Streams-part, Streams-failed, Streams-all}
use Rattle.fdr_top.proofs.Results.{rose_after, write_not_input}
use Rattle.fdr_top.proofs.streaming.stream_trace.Goals as goal

pub write_rest-requires-clause-fed : goal.write_rest-requires-clause-fed
write_rest-requires-clause-fed c = grind (arith, common_steps) steps 2000000

-- where a block isn't written
pub returns-in-Err : goal.returns-in-Err
returns-in-Err g c = record {
  answer = λ path. tt;
  streams = λ t fresh. Streams-part t _ _ _ _ _ (c.in-Err.ensures.part t fresh);
  input_fault = λ e. absurd (write_not_input e);
  write_fault = λ e. c.in-Err.ensures.cause;
  no_write_fault = λ other. absurd (other refl);
  part_of_whole = λ t fresh told quiet. (c.in-Err.ensures.part t fresh).part_of_whole told;
  disk = c.stream_records.ensures.disk;
  announced = c.stream_records.ensures.announced;
}

-- where all is written
pub returns-in-Ok-write_rest : goal.returns-in-Ok-write_rest
returns-in-Ok-write_rest g c = record {
  answer = λ path. let r = c.requires in (c.in-Ok.ensures.all r.0 r.1).own path;
  streams = λ t fresh.
      let to = c.in-Ok.ensures.all t fresh in
      Streams-all t _ _ _ _ _ _ _ c.in-Ok.answer to (c.in-Ok-write_rest.ensures.all t _ _ to.streamed);
  input_fault = search rules;
  write_fault = search rules;
  no_write_fault = λ other. c.in-Ok-write_rest.ensures.no_fault ∙ c.in-Ok.ensures.no_fault;
  part_of_whole = λ t fresh told quiet.
      let to = c.in-Ok.ensures.all t fresh in
      streamed_part [] t _ _ _ _ _ _ _ c.in-Ok.answer to told quiet (whole_is_part _ _ _ (c.in-Ok-write_rest.ensures.all t _ _ to.streamed));
  disk = c.stream_records.ensures.disk;
  announced = c.stream_records.ensures.announced;
}

-- where the last bytes aren't
pub returns-in-Err-write_rest : goal.returns-in-Err-write_rest
returns-in-Err-write_rest g c = record {
  answer = λ path. tt;
  streams = λ t fresh.
      let to = c.in-Ok.ensures.all t fresh in
      Streams-failed t _ _ _ _ _ _ _ c.in-Ok.answer to (c.in-Err-write_rest.ensures.part t _ _ to.streamed);
  input_fault = λ e. absurd (write_not_input e);
  write_fault = λ e. rose_after _ _ _ c.in-Ok.ensures.no_fault c.in-Err-write_rest.ensures.cause;
  no_write_fault = λ other. absurd (other refl);
  part_of_whole = λ t fresh told quiet.
      let to = c.in-Ok.ensures.all t fresh in
      streamed_part [] t _ _ _ _ _ _ _ c.in-Ok.answer to told quiet (c.in-Err-write_rest.ensures.part t _ _ to.streamed);
  disk = c.stream_records.ensures.disk;
  announced = c.stream_records.ensures.announced;
}
