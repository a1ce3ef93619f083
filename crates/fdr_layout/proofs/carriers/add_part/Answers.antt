use Rattle.std.proofs.Common.{◌≡◌, ◌≤◌, ◌++◌, None, length, append-nil, ap, sym, ◌∙◌, arith}
use Rattle.std.specs.Option.{option_to_list}
use Rattle.fdr_layout.specs.Samples.{part_at}
use Rattle.fdr_layout.specs.SlotParts.{parts_of_sample}
use Rattle.fdr_layout.proofs.Carrying.{no_part}
use Rattle.fdr_layout.proofs.carriers.add_part.Goals as goal

pub returns-in-None : goal.returns-in-None
returns-in-None c =
    let i = c.args.index in
    let past : length c.carrier.inside.bits.items ≤ i = omega (arith, c.in-None.ensures.lookup.3, ap length c.deref.ensures.value) in
    let none : part_at i c.args.carrier.now ≡ None =
    ap (part_at i) (sym c.carrier.view_is) ∙ no_part c.carrier.inside.bits.items c.carrier.inside.width c.carrier.inside.shift i past in
    sym (append-nil c.args.parts.now.items)
    ∙ ap (λ o. c.args.parts.now.items ++ parts_of_sample c.args.number (option_to_list o)) (sym none)
