use Rattle.std.proofs.lemmas.Result.{IfOk-at_ok}
use Rattle.fdr_cases_streams.proofs.streams.stream_by.Goals as goal

pub returns : goal.returns
returns g c = (_, IfOk-at_ok _ c.expect.ensures c.new.ensures)
