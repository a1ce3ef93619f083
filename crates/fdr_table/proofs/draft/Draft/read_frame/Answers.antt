use Rattle.std.proofs.Common.{◌∙◌, sym, ap, refl}
use Rattle.std.specs.Prelude.{is_some}
use Rattle.csv.specs.Records.{fields_of}
use Rattle.fdr_table.specs.DraftRows.{DraftRows}
use Rattle.fdr_table.proofs.DraftFacts.{frame_row-right}
use Rattle.fdr_table.proofs.NextFacts.{frame-fault, frame-next}
use Rattle.fdr_table.proofs.draft.Draft.read_frame.Goals as goal

pub returns-then-is_some-clause-fault : goal.returns-then-is_some-clause-fault
returns-then-is_some-clause-fault c =
    let there = ap (λ (d : DraftRows). is_some d.frame) (sym c.self.view_is) ∙ sym c.is_some.ensures ∙ c.if-is_some.true in
    let right = frame_row-right (fields_of c.args.row.now) c.in_ok-frame.frame c.in_ok-frame.ensures.read in
    λ above h. frame-fault c.args.self.now (fields_of c.args.row.now) c.requires above h ∙ rw (right, there) refl

pub returns-clause-frame : goal.returns-clause-frame
returns-clause-frame c =
    let there = ap (λ (d : DraftRows). is_some d.frame) (sym c.self.view_is) ∙ sym c.is_some.ensures ∙ c.if-is_some.false in
    frame-next c.args.self.now (fields_of c.args.row.now) c.in_ok-frame.frame c.requires c.in_ok-frame.ensures.read there
