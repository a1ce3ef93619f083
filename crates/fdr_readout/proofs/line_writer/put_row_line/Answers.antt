use Rattle.std.proofs.Common.{◌++◌, List, ℕ, ap, ◌∙◌, sym}
use Rattle.fdr_table.specs.Rows.{ParamRow}
use Rattle.std.proofs.lemmas.List.{get_or_default}
use Rattle.fdr_recon.specs.Rows.{no_param, param_at}
use Rattle.fdr_listing.specs.Text.{row_line_text, row_start_text}
use Rattle.fdr_readout.proofs.WrittenRows.{ready_at, ready_text, written_row}
use Rattle.fdr_readout.proofs.line_writer.put_row_line.Goals as goal

pub returns : goal.returns
unfolding param_at
returns c =
    c.put_row.ensures
    ∙ ap (λ (x : List ℕ). c.args.buffer.now ++ x)
    (ap (λ (q : ParamRow). row_line_text c.index-starts-from.result c.index-places-place.result q.name c.args.row.now.value q.decimals) c.param.view_is
    ∙ written_row c.args.table.now c.args.row.now c.index-params-row.result c.index-starts-from.result c.index-places-place.result
    (sym (rw (← c.params.ensures) c.index-params-row.is
    ∙ get_or_default c.args.table.now.params c.args.row.now.param c.index-params-row.result no_param c.requires.row.param))
    (ready_text row_start_text c.args.starts.now c.args.row.now.counter c.index-starts-from.result c.requires.starts c.requires.row.counter
    (rw (← c.from-2.ensures) c.index-starts-from.is))
    (ready_at c.args.places.now c.args.row.now.subframe c.args.row.now.word c.index-places-place.result c.requires.places
    c.requires.row.subframe_low c.requires.row.subframe_high c.requires.row.word_low c.requires.row.word_high (rw (← c.from.ensures) c.index-places-place.is)))
