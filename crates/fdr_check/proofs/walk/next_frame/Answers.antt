use Rattle.std.proofs.Common.{◌+◌, ◌%◌, ap, ◌∙◌, arith}
use Rattle.std.proofs.Math.Nat.{add-mod_right}
use Rattle.fdr_table.specs.Rows.{PlaceRow}
use Rattle.fdr_check.proofs.walk.next_frame.Goals as goal

pub returns-clause-next : goal.returns-clause-next
returns-clause-next c = ap (λ n. c.args.frame + n) (c.from.ensures ∙ ap (λ (x : PlaceRow). x.period) c.place.view_is)

pub returns-clause-own : goal.returns-clause-own
returns-clause-own c =
    let p = c.args.place.now in
    ap (λ n. (c.args.frame + n) % p.period) (c.from.ensures ∙ ap (λ (x : PlaceRow). x.period) c.place.view_is)
    ∙ add-mod_right c.args.frame p.period ∙ c.requires.own

pub returns-clause-later : goal.returns-clause-later
returns-clause-later c = omega (arith, c.from.ensures, c.place.invariant.cycle)
