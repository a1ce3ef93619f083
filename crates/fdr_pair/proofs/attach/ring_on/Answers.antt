use Rattle.std.proofs.Common.{Some, sym, subst}
use Rattle.fdr_pair.specs.declared.join.Follower.{Follower}
use Rattle.fdr_pair.specs.PairWork.{PairWork}
use Rattle.fdr_pair.specs.Attaching.{AttachedNow, AttachMoment}
use Rattle.fdr_pair.proofs.Attached.{failed_still, ring_still, attach_work}
use Rattle.fdr_pair.proofs.attach.ring_on.Goals as goal

pub returns-in-Failed-clause-work : goal.returns-in-Failed-clause-work
returns-in-Failed-clause-work g c =
    let p = g.T.Twin.pair c.args.twin.now in
    subst (λ (f : Follower). PairWork g.T.Deck.tells (AttachMoment c.args.h c.args.side f p) p p) (sym c.in-Failed.is)
    (failed_still g.T.Deck.tells c.args.h c.args.side p (g.met.T.Twin.sound_pair c.args.twin.now))

pub returns-in-Brought-clause-work : goal.returns-in-Brought-clause-work
returns-in-Brought-clause-work g c =
    let p = g.T.Twin.pair c.args.twin.now in
    subst (λ (f : Follower). PairWork g.T.Deck.tells (AttachMoment c.args.h c.args.side f p) p p) (sym c.in-Brought.is)
    (ring_still g.T.Deck.tells c.args.h c.args.side c.in-Brought.ring p (g.met.T.Twin.sound_pair c.args.twin.now))

pub returns-in-Ok-clause-now : goal.returns-in-Ok-clause-now
returns-in-Ok-clause-now g c =
    subst (λ (f : Follower). AttachedNow g.T.Deck.tells c.args.h c.args.side f (Some c.in-Ok.ring) (g.T.Twin.pair c.args.twin.now)
    (g.T.Twin.pair c.attach_on.new.twin)) (sym c.in-Level.is)
    (record {
      header = c.in-Ok.ensures.header;
      next = c.in-Ok.ensures.next;
      keeps = c.attach_on.ensures.keeps;
      run = c.in-Ok.ensures.run;
      ring = record { sure = c.in-Ok.ensures.fact; settled = c.in-Ok.ensures.settled };
      faults = c.in-Ok.ensures.no_fault;
    })

pub returns-in-Ok-clause-work : goal.returns-in-Ok-clause-work
returns-in-Ok-clause-work g c =
    let p = g.T.Twin.pair c.args.twin.now in
    let q = g.T.Twin.pair c.attach_on.new.twin in
    subst (λ (f : Follower). PairWork g.T.Deck.tells (AttachMoment c.args.h c.args.side f p) p q) (sym c.in-Level.is)
    (attach_work g.T.Deck.tells c.args.h c.args.side p q (g.met.T.Twin.sound_pair c.args.twin.now) c.attach_on.ensures.serves
    c.attach_on.ensures.counts)
