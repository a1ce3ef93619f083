use Rattle.std.proofs.Common.{[], inr, arith}
use Rattle.std.proofs.lemmas.Grind.{moves}
use Rattle.fdr_words.specs.Forms.{stream_line}
use Rattle.fdr_top.proofs.Commands.{own_not_memory}
use Rattle.fdr_top.proofs.streaming.stream_sound.Goals as goal

pub returns-in-Ok-clause-answer : goal.returns-in-Ok-clause-answer
returns-in-Ok-clause-answer g c = λ path. inr (c.stream_trace.ensures.answer path)

pub returns-in-Ok-clause-no_memory : goal.returns-in-Ok-clause-no_memory
returns-in-Ok-clause-no_memory g c = λ memory. absurd (own_not_memory (stream_line []) _ (c.stream_trace.ensures.answer []) memory)

pub returns-in-Ok-clause-no_memory_faults : goal.returns-in-Ok-clause-no_memory_faults
returns-in-Ok-clause-no_memory_faults g c = λ memory. absurd (own_not_memory (stream_line []) _ (c.stream_trace.ensures.answer []) memory)

pub returns-in-Ok-clause-no_memory_input : goal.returns-in-Ok-clause-no_memory_input
returns-in-Ok-clause-no_memory_input g c = λ memory. absurd (own_not_memory (stream_line []) _ (c.stream_trace.ensures.answer []) memory)

pub returns-in-Ok-clause-streams : goal.returns-in-Ok-clause-streams
returns-in-Ok-clause-streams g c = λ some. c.stream_trace.ensures.streams c.args.sound.now c.in-Ok.ensures

pub returns-in-Ok-clause-part_of_whole : goal.returns-in-Ok-clause-part_of_whole
returns-in-Ok-clause-part_of_whole g c = λ some. c.stream_trace.ensures.part_of_whole c.args.sound.now c.in-Ok.ensures

pub returns-in-Ok-clause-input_fault : goal.returns-in-Ok-clause-input_fault
returns-in-Ok-clause-input_fault c = grind (arith, moves) steps 2000000

pub returns-in-Ok-clause-write_fault : goal.returns-in-Ok-clause-write_fault
returns-in-Ok-clause-write_fault c = grind (arith, moves) steps 2000000
