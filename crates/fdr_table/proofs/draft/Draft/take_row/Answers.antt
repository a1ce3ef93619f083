use Rattle.std.proofs.Common.{◌∙◌, sym, ap, subst, Err, [], ◌∷◌, ◌++◌}
use Rattle.std.proofs.lemmas.Option.{some_pair_parts}
use Rattle.csv.specs.Records.{fields_of}
use Rattle.fdr_table.specs.Draft.{IsDraft, IsNextFault}
use Rattle.fdr_table.specs.DraftRows.{DraftRows}
use Rattle.fdr_table.specs.declared.fault.TableFault.{TableFault}
use Rattle.fdr_table.proofs.FaultFacts.{same-refusal}
use Rattle.fdr_table.proofs.draft.Draft.take_row.Goals as goal

pub returns-in-Err-clause-refused : goal.returns-in-Err-clause-refused
returns-in-Err-clause-refused c number f same =
    let told = some_pair_parts c.self.inside.rows number c.in-Err.fault f
    (same-refusal c.self.inside.rows number c.in-Err.fault f (Err c.refused.result) (ap Err c.refused.ensures) same) in
    let rows = ap (λ (d : DraftRows). d.rows) c.self.view_is in
    (sym told.0 ∙ rows, subst (λ (g : TableFault). IsNextFault c.args.self.now (fields_of c.args.row.now) g) told.1 c.in-Err.ensures.fault)

-- a refused row adds nothing
pub returns-in-Err-clause-draft : goal.returns-in-Err-clause-draft
returns-in-Err-clause-draft c = tt

pub returns-clause-draft : goal.returns-clause-draft
returns-clause-draft c above h =
    subst (λ (d : DraftRows). IsDraft (above ++ fields_of c.args.row.now ∷ []) d) (sym c.in_ok-add-in-Ok.ensures) (c.in-Ok.ensures.entry above h)
