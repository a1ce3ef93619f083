use Rattle.std.proofs.Common.{◌++◌, ◌∙◌, ap, rules}
use Rattle.std.specs.Prelude.{ℤ}
use Rattle.std.proofs.lemmas.Int.{to_z-of_z}
use Rattle.fdr_listing.specs.Text.{row_line_text}
use Rattle.fdr_listing.proofs.LineParts.{row_made}
use mir.Syntax.{w64}
use mir.Val.{SFits}
use Rattle.fdr_listing.proofs.ready.put_row.Goals as goal

pub returns : goal.returns
returns c =
    let start = c.args.start.now in
    let place = c.args.place.now in
    let name = c.args.name.now in
    let fits : SFits w64 c.args.row.now.value = search rules in
    row_made c.args.buffer.now c.put_three.new.self c.put_value_end.new.buffer start place name _ _ _ _ c.args.decimals c.padded.ensures.text
    c.padded-2.ensures.text c.padded-3.ensures.bytes c.put_three.ensures.appended c.put_value_end.ensures
    ∙ ap (λ (v : ℤ). c.args.buffer.now ++ row_line_text start place name v c.args.decimals) (to_z-of_z w64 c.args.row.now.value fits)
