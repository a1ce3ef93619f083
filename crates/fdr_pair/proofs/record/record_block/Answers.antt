use Rattle.std.proofs.Common.{arith}
use Rattle.fdr_twin.specs.declared.side.Side.TheVariants.{First, Second}
use Rattle.fdr_pair.proofs.Counting.{counts_block, told_living}
use Rattle.fdr_pair.proofs.Both.{first_going, second_going, put_ready, ready_left}
use Rattle.fdr_pair.proofs.Nearness.{near_block}
use Rattle.fdr_pair.proofs.record.record_block.Goals as goal
use Rattle.fdr_pair.proofs.KeptSides.{first_block_kept, second_block_kept}

pub put_unless_failed-first-requires-clause-ready : goal.put_unless_failed-first-requires-clause-ready
put_unless_failed-first-requires-clause-ready g c =
    put_ready g.T.Deck.tells First c.args.first c.args.next c.args.session c.args.bytes.now (g.T.Twin.pair c.args.twin.now) c.requires.first_ready
    (omega (arith, c.requires.bound))

pub put_unless_failed-second-requires-clause-ready : goal.put_unless_failed-second-requires-clause-ready
put_unless_failed-second-requires-clause-ready g c =
    let old = g.T.Twin.pair c.args.twin.now in
    let mid = g.T.Twin.pair c.put_unless_failed-first.new.twin in
    put_ready g.T.Deck.tells Second c.args.second c.args.next c.args.session c.args.bytes.now mid
    (ready_left g.T.Deck.tells Second c.args.second c.args.next c.args.session c.args.bytes.now old mid c.put_unless_failed-first.ensures.away
    c.requires.second_ready) (omega (arith, c.requires.bound))

pub returns-clause-first_moments : goal.returns-clause-first_moments
returns-clause-first_moments g c =
    (first_going _ _ _ _ _ _ _ _ (g.met.T.Twin.sound_pair c.args.twin.now) (g.met.T.Twin.sound_pair c.put_unless_failed-first.new.twin)
    (g.met.T.Twin.sound_pair c.put_unless_failed-second.new.twin) _ _ _ _ c.put_unless_failed-first.ensures c.put_unless_failed-second.ensures
    c.announce_living.ensures
    c.requires.first_ready c.requires.second_ready).moments

pub returns-clause-second_moments : goal.returns-clause-second_moments
returns-clause-second_moments g c =
    (second_going _ _ _ _ _ _ _ _ (g.met.T.Twin.sound_pair c.args.twin.now) (g.met.T.Twin.sound_pair c.put_unless_failed-first.new.twin)
    (g.met.T.Twin.sound_pair c.put_unless_failed-second.new.twin) _ _ _ _ c.put_unless_failed-first.ensures c.put_unless_failed-second.ensures
    c.announce_living.ensures
    c.requires.first_ready c.requires.second_ready).moments

pub returns-clause-first_now : goal.returns-clause-first_now
returns-clause-first_now g c =
    (first_going _ _ _ _ _ _ _ _ (g.met.T.Twin.sound_pair c.args.twin.now) (g.met.T.Twin.sound_pair c.put_unless_failed-first.new.twin)
    (g.met.T.Twin.sound_pair c.put_unless_failed-second.new.twin) _ _ _ _ c.put_unless_failed-first.ensures c.put_unless_failed-second.ensures
    c.announce_living.ensures
    c.requires.first_ready c.requires.second_ready).now

pub returns-clause-second_now : goal.returns-clause-second_now
returns-clause-second_now g c =
    (second_going _ _ _ _ _ _ _ _ (g.met.T.Twin.sound_pair c.args.twin.now) (g.met.T.Twin.sound_pair c.put_unless_failed-first.new.twin)
    (g.met.T.Twin.sound_pair c.put_unless_failed-second.new.twin) _ _ _ _ c.put_unless_failed-first.ensures c.put_unless_failed-second.ensures
    c.announce_living.ensures
    c.requires.first_ready c.requires.second_ready).now

pub returns-clause-numbers : goal.returns-clause-numbers
returns-clause-numbers g c =
    counts_block _ _ _ _ _ _ _ _ _ _ _ _ (g.met.T.Twin.sound_pair c.put_unless_failed-first.new.twin)
    (g.met.T.Twin.sound_pair c.put_unless_failed-second.new.twin) c.put_unless_failed-first.ensures
    c.put_unless_failed-second.ensures c.announce_living.ensures

pub returns-clause-announced : goal.returns-clause-announced
returns-clause-announced g c living = told_living _ _ _ _ _ _ living c.announce_living.ensures

pub returns-clause-first_kept : goal.returns-clause-first_kept
returns-clause-first_kept g c =
    first_block_kept _ _ _ _ _ _ _ _ (g.met.T.Twin.sound_pair c.args.twin.now) (g.met.T.Twin.sound_pair c.put_unless_failed-first.new.twin)
    (g.met.T.Twin.sound_pair c.put_unless_failed-second.new.twin) _ _ _ _ c.put_unless_failed-first.ensures c.put_unless_failed-second.ensures
    c.announce_living.ensures c.requires.first_ready

pub returns-clause-second_kept : goal.returns-clause-second_kept
returns-clause-second_kept g c =
    let old = g.T.Twin.pair c.args.twin.now in
    let mid = g.T.Twin.pair c.put_unless_failed-first.new.twin in
    second_block_kept _ _ _ _ _ _ _ _ (g.met.T.Twin.sound_pair c.args.twin.now) (g.met.T.Twin.sound_pair c.put_unless_failed-first.new.twin)
    (g.met.T.Twin.sound_pair c.put_unless_failed-second.new.twin) _ _ _ _ c.put_unless_failed-first.ensures c.put_unless_failed-second.ensures
    c.announce_living.ensures c.requires.second_ready
    (ready_left g.T.Deck.tells Second c.args.second c.args.next c.args.session c.args.bytes.now old mid c.put_unless_failed-first.ensures.away
    c.requires.second_ready)

pub returns-clause-near : goal.returns-clause-near
returns-clause-near g c h told first second side =
    near_block _ h _ _ _ _ _ _ _ _ _ _ _ (g.met.T.Twin.sound_pair c.put_unless_failed-second.new.twin) c.put_unless_failed-first.ensures
    c.put_unless_failed-second.ensures c.announce_living.ensures told first second side
