use Rattle.std.proofs.Common.{Result, sym, subst}
use Rattle.std.specs.Prelude.{IfErr}
use Rattle.std.proofs.lemmas.Result.{err_from_is_err_and}
use Rattle.fdr_pair.specs.declared.outcome.PairOutcome.{PairOutcome}
use Rattle.fdr_pair.specs.declared.rings.PairRings.{PairRings}
use Rattle.fdr_pair.specs.Attaching.{IsGoingRefused}
use Rattle.fdr_pair.proofs.Attached.{gone_on, not_gone_on}
use Rattle.fdr_pair.proofs.attach.go_on.Goals as goal

pub returns-clause-gone_on : goal.returns-clause-gone_on
returns-clause-gone_on g c =
    gone_on g.T.Deck.tells c.args.h c.args.joined (g.T.Twin.pair c.args.twin.now) (g.T.Twin.pair c.attach_sides-rings.new.twin)
    (g.met.T.Twin.sound_pair c.attach_sides-rings.new.twin) c.requires.first_next c.requires.second_next c.attach_sides-rings.ensures.work
    c.attach_sides-rings.ensures.first_still c.attach_sides-rings.ensures.second_still c.new.result c.attach_sides-rings.result.first
    c.attach_sides-rings.result.second c.in_ok-next.next (g.T.Twin.pair c.announce_living.new.twin) c.new.ensures.header c.new.ensures.first
    c.new.ensures.second c.new.ensures.next c.in_ok-next.ensures.next c.attach_sides-rings.ensures.first c.attach_sides-rings.ensures.second
    c.announce_living.ensures

pub returns-in_err-next-clause-refused : goal.returns-in_err-next-clause-refused
returns-in_err-next-clause-refused g c =
    let p = g.T.Twin.pair c.args.twin.now in
    let q = g.T.Twin.pair c.attach_sides-rings.new.twin in
    let handed = err_from_is_err_and c.from_residual.result c.from_residual.ensures.1 in
    subst (λ (r : Result PairRings PairOutcome). IfErr r (λ why. IsGoingRefused g.T.Deck.tells c.args.h c.args.joined why p q)) (sym handed.1)
    (subst (λ (why : PairOutcome). IsGoingRefused g.T.Deck.tells c.args.h c.args.joined why p q) (sym handed.2)
    (record {
      fault = not_gone_on g.T.Deck.tells c.args.h c.args.joined p q (g.met.T.Twin.sound_pair c.attach_sides-rings.new.twin)
          c.requires.first_next c.requires.second_next c.attach_sides-rings.ensures.work c.attach_sides-rings.ensures.first_still
          c.attach_sides-rings.ensures.second_still c.attach_sides-rings.result.first c.attach_sides-rings.result.second _
          c.attach_sides-rings.ensures.first c.attach_sides-rings.ensures.second c.in_err-next.ensures.refused;
      work = c.attach_sides-rings.ensures.work;
    }))
