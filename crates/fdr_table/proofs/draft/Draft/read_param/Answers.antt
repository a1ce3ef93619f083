use Rattle.std.proofs.Common.{◌≡◌, ◌<◌, ◌∙◌, ap, refl, subst, sym, false, true, length, arith, rules}
use Rattle.std.specs.Prelude.{is_some, nat_le}
use Rattle.std.proofs.lemmas.Bool.{le-leb}
use Rattle.csv.specs.Records.{fields_of}
use Rattle.fdr_table.specs.DraftRows.{DraftRows}
use Rattle.fdr_table.specs.DraftView.{draft_view}
use Rattle.fdr_table.specs.Bounds.{most_params}
use Rattle.fdr_table.specs.Draft.{IsNextFault, index_named}
use Rattle.fdr_table.specs.declared.fault.TableFault.TheVariants as fault
use Rattle.fdr_table.proofs.DraftFacts.{name_in, none-from, param_row-misnamed, param_row-name, param_row-right}
use Rattle.fdr_table.proofs.NextFacts.{named-right, param-fault, param-next}
use Rattle.fdr_table.proofs.draft.Draft.read_param.Goals as goal

pub returns-in_default-clause-fault : goal.returns-in_default-clause-fault
returns-in_default-clause-fault c =
    let row = fields_of c.args.row.now in
    let there : is_some c.self.inside.frame ≡ true = grind arith in
    let wrong = param_row-misnamed c.self.inside.rows row c.requires c.in_ok-named.ensures.numbers (c.in_ok-named.ensures.read ∙ c.in_default.is) in
    subst (λ (d : DraftRows). IsNextFault d row fault.Name) c.self.view_is
    (λ above h. param-fault (draft_view c.self.inside) row c.requires above h ∙ rw (c.in_ok-named.ensures.numbers, there, wrong) refl)

pub returns-then-is_some-clause-fault : goal.returns-then-is_some-clause-fault
returns-then-is_some-clause-fault c =
    let row = fields_of c.args.row.now in
    let there : is_some c.self.inside.frame ≡ true = grind arith in
    let index = c.find.ensures ∙ ap (index_named c.self.inside.params) c.field_at.ensures in
    let known : is_some (index_named c.self.inside.params (name_in row)) ≡ true = grind arith in
    let named = named-right row c.in_ok-named.ensures.numbers
    (param_row-right c.self.inside.rows row c.in-Some.param (c.in_ok-named.ensures.read ∙ c.in-Some.is)) in
    subst (λ (d : DraftRows). IsNextFault d row fault.Twice) c.self.view_is
    (λ above h. param-fault (draft_view c.self.inside) row c.requires above h ∙ rw (c.in_ok-named.ensures.numbers, there, named, known) refl)

pub returns-then-len-ge-MAX_PARAMS-clause-fault : goal.returns-then-len-ge-MAX_PARAMS-clause-fault
returns-then-len-ge-MAX_PARAMS-clause-fault c =
    let row = fields_of c.args.row.now in
    let there : is_some c.self.inside.frame ≡ true = grind arith in
    let index = c.find.ensures ∙ ap (index_named c.self.inside.params) c.field_at.ensures in
    let fresh : is_some (index_named c.self.inside.params (name_in row)) ≡ false = grind arith in
    let many : nat_le most_params (length c.self.inside.params) ≡ true = le-leb _ _ (grind arith) in
    let named = named-right row c.in_ok-named.ensures.numbers
    (param_row-right c.self.inside.rows row c.in-Some.param (c.in_ok-named.ensures.read ∙ c.in-Some.is)) in
    subst (λ (d : DraftRows). IsNextFault d row fault.Size) c.self.view_is
    (λ above h. param-fault (draft_view c.self.inside) row c.requires above h ∙ rw (c.in_ok-named.ensures.numbers, there, named, fresh, many) refl)

pub returns : goal.returns
returns c =
    let row = fields_of c.args.row.now in
    let there : is_some c.self.inside.frame ≡ true = grind arith in
    let index = c.find.ensures ∙ ap (index_named c.self.inside.params) c.field_at.ensures in
    let found : is_some c.find.result ≡ false = grind arith in
    let few : length c.self.inside.params < most_params = grind arith in
    let read = c.in_ok-named.ensures.read ∙ c.in-Some.is in
    let name = param_row-name c.self.inside.rows row c.in-Some.param read in
    rw (← c.self.view_is) (record {
      fault = tt;
      param = param-next (draft_view c.self.inside) row c.in-Some.param c.requires c.in_ok-named.ensures.numbers read there
          (ap is_some (sym index) ∙ found) few;
      fits = (none-from c.find.result (index_named c.self.inside.params c.in-Some.param.name) (index ∙ ap (index_named c.self.inside.params) name) found, few);
    })

pub returns-in_err-named : goal.returns-in_err-named
returns-in_err-named c = search rules
