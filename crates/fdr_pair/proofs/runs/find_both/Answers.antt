use Rattle.fdr_pair.proofs.Bringing.{no_fault_then}
use Rattle.fdr_pair.proofs.FoundRuns.{looks_scanned, looks_then, none_scanned, found_back, refused_back}
use Rattle.fdr_pair.proofs.runs.find_both.Goals as goal

pub returns-in_default-clause-looks : goal.returns-in_default-clause-looks
returns-in_default-clause-looks g c =
    looks_then _ _ _ _ (g.met.T.Twin.sound_pair c.scan_on.new.twin)
    (looks_scanned _ _ _ _ (g.met.T.Twin.sound_pair c.args.twin.now) c.scan_on.ensures.serves c.scan_on.ensures.counts c.scan_on.ensures.content)
    c.find_alone.ensures.looks

pub returns-in-Err-clause-looks : goal.returns-in-Err-clause-looks
returns-in-Err-clause-looks g c =
    looks_then _ _ _ _ (g.met.T.Twin.sound_pair c.scan_on.new.twin)
    (looks_scanned _ _ _ _ (g.met.T.Twin.sound_pair c.args.twin.now) c.scan_on.ensures.serves c.scan_on.ensures.counts c.scan_on.ensures.content)
    (looks_scanned _ _ _ _ (g.met.T.Twin.sound_pair c.scan_on.new.twin) c.scan_on-2.ensures.serves c.scan_on-2.ensures.counts c.scan_on-2.ensures.content)

pub returns-in-Ok-scan_on-clause-looks : goal.returns-in-Ok-scan_on-clause-looks
returns-in-Ok-scan_on-clause-looks g c =
    looks_then _ _ _ _ (g.met.T.Twin.sound_pair c.scan_on-2.new.twin)
    (looks_then _ _ _ _ (g.met.T.Twin.sound_pair c.scan_on.new.twin)
    (looks_scanned _ _ _ _ (g.met.T.Twin.sound_pair c.args.twin.now) c.scan_on.ensures.serves c.scan_on.ensures.counts c.scan_on.ensures.content)
    (looks_scanned _ _ _ _ (g.met.T.Twin.sound_pair c.scan_on.new.twin) c.scan_on-2.ensures.serves c.scan_on-2.ensures.counts c.scan_on-2.ensures.content))
    c.compare_runs.ensures.looks

pub returns-in-Ok-scan_on-clause-found : goal.returns-in-Ok-scan_on-clause-found
returns-in-Ok-scan_on-clause-found g c =
    found_back _ _ _ _ _
    (looks_then _ _ _ _ (g.met.T.Twin.sound_pair c.scan_on.new.twin)
    (looks_scanned _ _ _ _ (g.met.T.Twin.sound_pair c.args.twin.now) c.scan_on.ensures.serves c.scan_on.ensures.counts c.scan_on.ensures.content)
    (looks_scanned _ _ _ _ (g.met.T.Twin.sound_pair c.scan_on.new.twin) c.scan_on-2.ensures.serves c.scan_on-2.ensures.counts c.scan_on-2.ensures.content))
    c.compare_runs.result
    (no_fault_then _ _ _ (none_scanned _ _ _ _ _ c.scan_on.ensures.serves c.in-Ok.ensures.no_fault)
    (none_scanned _ _ _ _ _ c.scan_on-2.ensures.serves c.in-Ok-scan_on.ensures.no_fault))
    c.compare_runs.ensures.found

pub returns-in-Ok-scan_on-clause-refused : goal.returns-in-Ok-scan_on-clause-refused
returns-in-Ok-scan_on-clause-refused g c =
    refused_back _ _ _ _ _
    (looks_then _ _ _ _ (g.met.T.Twin.sound_pair c.scan_on.new.twin)
    (looks_scanned _ _ _ _ (g.met.T.Twin.sound_pair c.args.twin.now) c.scan_on.ensures.serves c.scan_on.ensures.counts c.scan_on.ensures.content)
    (looks_scanned _ _ _ _ (g.met.T.Twin.sound_pair c.scan_on.new.twin) c.scan_on-2.ensures.serves c.scan_on-2.ensures.counts c.scan_on-2.ensures.content))
    c.compare_runs.result
    (no_fault_then _ _ _ (none_scanned _ _ _ _ _ c.scan_on.ensures.serves c.in-Ok.ensures.no_fault)
    (none_scanned _ _ _ _ _ c.scan_on-2.ensures.serves c.in-Ok-scan_on.ensures.no_fault))
    c.compare_runs.ensures.refused
