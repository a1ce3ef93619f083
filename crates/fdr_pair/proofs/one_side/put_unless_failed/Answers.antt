use Rattle.std.proofs.Common.{⊎_elim, Option, Some, None, sym, subst, arith}
use Rattle.fdr_io.specs.Faults.{Rose}
use Rattle.fdr_twin.specs.Pair.{disk_on}
use Rattle.fdr_ring.specs.declared.ring.Ring.{Ring}
use Rattle.fdr_pair.specs.SidePuts.{PutsUnlessFailed, IsPutReady, HasRoomFor}
use Rattle.fdr_pair.proofs.Servings.{puts_none, puts_failed, puts_put}
use Rattle.fdr_pair.proofs.one_side.put_unless_failed.Goals as goal

pub returns-in-None : goal.returns-in-None
returns-in-None g c =
    let p = g.T.Twin.pair c.args.twin.now in
    subst (λ (o : Option Ring). PutsUnlessFailed g.T.Deck.tells c.args.side o None c.args.session c.args.bytes.now p p) (sym c.in-None.is)
    (puts_none _ _ _ _ _ (g.met.T.Twin.sound_pair c.args.twin.now))

pub returns-in-Ok : goal.returns-in-Ok
returns-in-Ok g c =
    let p = g.T.Twin.pair c.args.twin.now in
    let room : HasRoomFor g.T.Deck.tells c.args.side c.in-Some.ring c.args.session c.args.bytes.now p =
    subst (λ (o : Option Ring). IsPutReady g.T.Deck.tells c.args.side o c.args.session c.args.bytes.now p) c.in-Some.is c.requires.ready in
    subst (λ (o : Option Ring). PutsUnlessFailed g.T.Deck.tells c.args.side o (Some c.in-Ok.ring) c.args.session c.args.bytes.now p
    (g.T.Twin.pair c.put_on.new.twin))
    (sym c.in-Some.is)
    (puts_put _ _ _ _ _ _ _ (g.met.T.Twin.sound_pair c.args.twin.now) room.ring.settled c.put_on.ensures.serves c.put_on.ensures.counts
    (c.put_on.ensures.near room.ring.settled) _
    c.in-Ok.ensures.ring.0 c.in-Ok.ensures.ring.1
    c.in-Ok.ensures.no_fault c.in-Ok.ensures.put c.in-Ok.ensures.exact (record { sure = c.in-Ok.ensures.fact; settled = c.in-Ok.ensures.settled }))

pub returns-in-Err : goal.returns-in-Err
returns-in-Err g c =
    let p = g.T.Twin.pair c.args.twin.now in
    let q = g.T.Twin.pair c.put_on.new.twin in
    let room : HasRoomFor g.T.Deck.tells c.args.side c.in-Some.ring c.args.session c.args.bytes.now p =
    subst (λ (o : Option Ring). IsPutReady g.T.Deck.tells c.args.side o c.args.session c.args.bytes.now p) c.in-Some.is c.requires.ready in
    let rose : Rose (disk_on c.args.side p).faults (disk_on c.args.side q).faults =
    ⊎_elim (λ ends. absurd (omega (arith, c.in-Err.ensures.seq_end ends, room.bound))) (λ fails. c.in-Err.ensures.cause fails) c.in-Err.ensures.only in
    subst (λ (o : Option Ring). PutsUnlessFailed g.T.Deck.tells c.args.side o None c.args.session c.args.bytes.now p q) (sym c.in-Some.is)
    (puts_failed _ _ _ _ _ _ _ (g.met.T.Twin.sound_pair c.args.twin.now) room.ring.settled c.put_on.ensures.serves c.put_on.ensures.counts
    (c.put_on.ensures.near room.ring.settled) rose)
