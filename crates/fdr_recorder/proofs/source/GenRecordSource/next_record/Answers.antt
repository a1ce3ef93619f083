use Rattle.std.proofs.Common.{rules}
use Rattle.fdr_recorder.proofs.Supplies.{generator_fewer, generator_gives, generator_goes_on}
use Rattle.fdr_recorder.proofs.source.GenRecordSource.next_record.Goals as goal

pub unreachable-requires : goal.unreachable-requires
unreachable-requires g c =
    let r = c.requires in
    generator_goes_on r.0 _ r.1 r.2 r.3 (λ past st. (c.in-None.ensures.none past st).0 (search rules))

pub returns-clause-next : goal.returns-clause-next
returns-clause-next g c = λ from bytes records is.
    generator_gives from _ _ bytes records c.in-Some.next _ _ (g.met.D.Deck.sound c.args.deck.now) is
    (λ past st. (c.in-Some.ensures.record past st, c.in-Some.ensures.stands past st))

pub returns-clause-fewer : goal.returns-clause-fewer
returns-clause-fewer g c = λ from bytes records is goes_on.
    generator_fewer from _ _ bytes records c.in-Some.next is
    (λ past st. (c.in-Some.ensures.record past st, c.in-Some.ensures.stands past st))
