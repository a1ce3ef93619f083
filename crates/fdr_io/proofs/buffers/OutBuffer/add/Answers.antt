use Rattle.std.proofs.Common.{◌+◌, ◌++◌, take, length, ap, ◌∙◌, arith, rules}
use Rattle.std.proofs.lemmas.List.{append-nil}
use Rattle.std.proofs.lemmas.Result.{on_err_weaker, on_ok_weaker}
use Rattle.fdr_io.specs.Told.{followed_by}
use Rattle.fdr_io.proofs.Telling.{followed_by-append-take, followed_by-followed_by, telling}
use Rattle.fdr_io.proofs.OutputSteps.{EmitsPart-waiting, failed_or_not}
use Rattle.fdr_io.proofs.buffers.OutBuffer.add.Goals as goal

pub returns-then-bytes-gt-CAPACITY-clause-part : goal.returns-then-bytes-gt-CAPACITY-clause-part
returns-then-bytes-gt-CAPACITY-clause-part g c =
    on_err_weaker c.write_whole.result
    (λ sent. record {
      count = length c.args.self.now + sent.0;
      written = sent.1 ∙ ap (λ told. followed_by told (take sent.0 c.args.bytes.now)) c.in_ok-finish.ensures.all
          ∙ followed_by-append-take _ c.args.self.now c.args.bytes.now sent.0;
    })
    c.write_whole.ensures.part

pub returns-then-bytes-gt-CAPACITY-clause-all : goal.returns-then-bytes-gt-CAPACITY-clause-all
returns-then-bytes-gt-CAPACITY-clause-all g c =
    on_ok_weaker c.write_whole.result
    (λ sent. record {
      gone = c.args.self.now ++ c.args.bytes.now;
      written = sent ∙ ap (λ told. followed_by told c.args.bytes.now) c.in_ok-finish.ensures.all ∙ followed_by-followed_by _ c.args.self.now c.args.bytes.now;
      waits = rw c.finish.ensures.empty (append-nil _);
    })
    c.write_whole.ensures.whole

pub returns-in_err-finish-clause-part : goal.returns-in_err-finish-clause-part
returns-in_err-finish-clause-part g c =
    failed_or_not c.from_residual.result (EmitsPart-waiting _ _ c.args.self.now c.args.bytes.now c.in_err-finish.ensures.part)

pub returns-then-bytes-self-clause-all : goal.returns-then-bytes-self-clause-all
returns-then-bytes-self-clause-all c = grind (arith, telling)

pub returns-then-bytes-self-clause-part : goal.returns-then-bytes-self-clause-part
returns-then-bytes-self-clause-part c = grind (arith, telling)

pub returns-then-bytes-self-clause-dropped : goal.returns-then-bytes-self-clause-dropped
returns-then-bytes-self-clause-dropped c = grind (arith, telling)

pub returns-then-bytes-self-clause-held : goal.returns-then-bytes-self-clause-held
returns-then-bytes-self-clause-held c = search rules

pub returns-then-bytes-self-clause-cause : goal.returns-then-bytes-self-clause-cause
returns-then-bytes-self-clause-cause c = grind (arith, telling)

pub returns-then-bytes-self-clause-no_fault : goal.returns-then-bytes-self-clause-no_fault
returns-then-bytes-self-clause-no_fault c = grind (arith, telling)

pub returns-then-bytes-self-clause-monotone : goal.returns-then-bytes-self-clause-monotone
returns-then-bytes-self-clause-monotone c = grind (arith, telling)
