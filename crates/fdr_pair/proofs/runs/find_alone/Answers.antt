use Rattle.fdr_pair.proofs.FoundRuns.{looks_scanned}
use Rattle.fdr_pair.proofs.runs.find_alone.Goals as goal

pub returns-in-Ok-clause-looks : goal.returns-in-Ok-clause-looks
returns-in-Ok-clause-looks g c =
    looks_scanned _ _ _ _ (g.met.T.Twin.sound_pair c.args.twin.now) c.scan_on.ensures.serves c.scan_on.ensures.counts c.scan_on.ensures.content

pub returns-in-Err-clause-looks : goal.returns-in-Err-clause-looks
returns-in-Err-clause-looks g c =
    looks_scanned _ _ _ _ (g.met.T.Twin.sound_pair c.args.twin.now) c.scan_on.ensures.serves c.scan_on.ensures.counts c.scan_on.ensures.content
