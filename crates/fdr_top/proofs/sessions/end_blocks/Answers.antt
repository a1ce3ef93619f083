use Rattle.fdr_recover.specs.Payloads.{payloads_of}
use Rattle.fdr_top.proofs.SessionEntries.{blocks_ended, blocks_failed}
use Rattle.fdr_top.proofs.sessions.end_blocks.Goals as goal

pub take_rest-requires : goal.take_rest-requires
take_rest-requires g c =
    let had = c.requires.stands.3 in
    record { stands = (payloads_of had.current, had.mid, had.out_mid, had.bits) }

pub returns-in-Ok-clause-all : goal.returns-in-Ok-clause-all
returns-in-Ok-clause-all g c = λ first out_first blocks had.
    blocks_ended g.T.Taker.took g.T.Taker.failed_in g.met.T.Taker.laws _ _ _ _ _ _ _ _ _ had _ _
    (c.in-Ok.ensures.all (payloads_of had.current) had.mid had.out_mid had.bits)

pub returns-in-Err-clause-part : goal.returns-in-Err-clause-part
returns-in-Err-clause-part g c = λ first out_first blocks had.
    blocks_failed g.T.Taker.took g.T.Taker.failed_in g.met.T.Taker.laws _ _ _ _ _ _ _ _ _ had _
    (c.in-Err.ensures.part (payloads_of had.current) had.mid had.out_mid had.bits)

pub returns-in-Ok-clause-reads : goal.returns-in-Ok-clause-reads
returns-in-Ok-clause-reads g c =
    let had = c.requires.stands.3 in
    c.in-Ok.ensures.reads (payloads_of had.current) had.mid had.out_mid had.bits
