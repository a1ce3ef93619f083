use Rattle.std.proofs.Common.{◌+◌, ◌∙◌, ap, sym, Option, None, rules}
use Rattle.std.specs.Prelude.{ℤ}
use Rattle.std.proofs.lemmas.Int.{to_z-of_z}
use Rattle.fdr_exceed.specs.declared.hits.HitList.{HitList}
use Rattle.fdr_exceed.specs.Watching.{further, one_longer}
use mir.Syntax.{w64}
use mir.Val.{SFits, to_z, of_z}
use Rattle.fdr_exceed.proofs.hits.longer.Goals as goal

pub returns-in-None : goal.returns-in-None
returns-in-None c =
    let r = c.args.row.now in
    ap (one_longer c.args.kind None r) (to_z-of_z w64 c.args.x c.ranges.x) ∙ ap (λ (o : Option HitList). one_longer c.args.kind o r c.args.x) (sym c.in-None.is)

pub returns-in-Some : goal.returns-in-Some
returns-in-Some c =
    let k = c.args.kind in
    let x = c.args.x in
    let list = c.in-Some.list in
    let made : ℤ → HitList = λ peak. record { first = list.first; length = list.length + 1; peak = peak } in
    let fits : SFits w64 list.peak = search rules in
    ap made (to_z-of_z w64 c.further.result (record { sfits = c.further.type_inv }) ∙ c.further.ensures
    ∙ ap (λ (v : ℤ). further k v (to_z w64 (of_z w64 list.peak))) (to_z-of_z w64 x c.ranges.x)
    ∙ ap (further k x) (to_z-of_z w64 list.peak fits))
    ∙ ap (λ (o : Option HitList). one_longer k o c.args.row.now x) (sym c.in-Some.is)
