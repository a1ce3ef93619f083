use Rattle.std.proofs.Common.{◌∙◌, arith}
use Rattle.std.proofs.lemmas.List.{take_rest, length-drop}
use Rattle.fdr_io.proofs.Telling.{followed_by-take}
use Rattle.fdr_io.proofs.sinks.write_whole.Goals as goal

pub loop-sent-preserved : goal.loop-sent-preserved
loop-sent-preserved g c =
    let taken = rw (take_rest c.args.bytes.now c.loop-sent.sent, c.loop-sent.invariant.gone) at c.in_ok-sent.ensures.taken in
    let bound = rw (take_rest c.args.bytes.now c.loop-sent.sent) at c.in_ok-sent.ensures.bound in
    record {
      within = omega (arith, bound, length-drop c.loop-sent.sent c.args.bytes.now);
      gone = taken ∙ followed_by-take _ c.args.bytes.now c.loop-sent.sent c.in_ok-sent.field-0;
      no_fault = c.in_ok-sent.ensures.no_fault ∙ c.loop-sent.invariant.no_fault;
    }
