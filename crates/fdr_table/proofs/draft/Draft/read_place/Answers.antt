use Rattle.std.proofs.Common.{◌≡◌, ◌<◌, ◌∙◌, sym, ap, refl, subst, ℕ, false, true, length, Option, arith}
use Rattle.std.specs.Prelude.{is_some, nat_le, unwrap_or}
use Rattle.std.proofs.lemmas.Bool.{le-leb}
use Rattle.csv.specs.Records.{fields_of}
use Rattle.fdr_table.specs.DraftRows.{DraftRows}
use Rattle.fdr_table.specs.DraftView.{draft_view}
use Rattle.fdr_table.specs.Bounds.{most_places}
use Rattle.fdr_table.specs.Draft.{IsNextFault, index_named}
use Rattle.fdr_table.specs.Reading.{place_row}
use Rattle.fdr_table.specs.declared.fault.TableFault.TheVariants as fault
use Rattle.fdr_table.proofs.DraftFacts.{name_in, index-below, place_row-param, place_row-right}
use Rattle.fdr_table.proofs.NextFacts.{place-fault, place-next}
use Rattle.fdr_table.proofs.draft.Draft.read_place.Goals as goal

pub returns-then-is_none-clause-fault : goal.returns-then-is_none-clause-fault
returns-then-is_none-clause-fault c =
    let row = fields_of c.args.row.now in
    let missing : is_some c.self.inside.frame ≡ false = grind arith in
    let right = place_row-right c.unwrap_or.result c.self.inside.rows row c.in_ok-place.place c.in_ok-place.ensures.read in
    subst (λ (d : DraftRows). IsNextFault d row fault.NoFrame) c.self.view_is
    (λ above h. place-fault (draft_view c.self.inside) row c.requires above h ∙ rw (right, missing) refl)

pub returns-then-is_none-2-clause-fault : goal.returns-then-is_none-2-clause-fault
returns-then-is_none-2-clause-fault c =
    let row = fields_of c.args.row.now in
    let there : is_some c.self.inside.frame ≡ true = grind arith in
    let index = c.find-param.ensures ∙ ap (index_named c.self.inside.params) c.field_at.ensures in
    let unknown : is_some (index_named c.self.inside.params (name_in row)) ≡ false = grind arith in
    let right = place_row-right c.unwrap_or.result c.self.inside.rows row c.in_ok-place.place c.in_ok-place.ensures.read in
    subst (λ (d : DraftRows). IsNextFault d row fault.Unknown) c.self.view_is
    (λ above h. place-fault (draft_view c.self.inside) row c.requires above h ∙ rw (right, there, unknown) refl)

pub returns-then-len-ge-MAX_PLACES-clause-fault : goal.returns-then-len-ge-MAX_PLACES-clause-fault
returns-then-len-ge-MAX_PLACES-clause-fault c =
    let row = fields_of c.args.row.now in
    let there : is_some c.self.inside.frame ≡ true = grind arith in
    let index = c.find-param.ensures ∙ ap (index_named c.self.inside.params) c.field_at.ensures in
    let known : is_some (index_named c.self.inside.params (name_in row)) ≡ true = grind arith in
    let right = place_row-right c.unwrap_or.result c.self.inside.rows row c.in_ok-place.place c.in_ok-place.ensures.read in
    let many : nat_le most_places (length c.self.inside.places.items) ≡ true = le-leb _ _ (grind arith) in
    subst (λ (d : DraftRows). IsNextFault d row fault.Size) c.self.view_is
    (λ above h. place-fault (draft_view c.self.inside) row c.requires above h ∙ rw (right, there, known, many) refl)

pub returns : goal.returns
returns c =
    let row = fields_of c.args.row.now in
    let there : is_some c.self.inside.frame ≡ true = grind arith in
    let index = c.find-param.ensures ∙ ap (index_named c.self.inside.params) c.field_at.ensures in
    let known : is_some (index_named c.self.inside.params (name_in row)) ≡ true = grind arith in
    let param = c.unwrap_or.ensures ∙ ap (λ (i : Option ℕ). unwrap_or i 0) index in
    let read = ap (λ (k : ℕ). place_row k c.self.inside.rows row) (sym param) ∙ c.in_ok-place.ensures.read in
    let few : length c.self.inside.places.items < most_places = grind arith in
    let same = place_row-param c.unwrap_or.result c.self.inside.rows row c.in_ok-place.place c.in_ok-place.ensures.read in
    let below = index-below c.self.inside.params (name_in row) known in
    rw (← c.self.view_is) (record {
      fault = tt;
      place = place-next (draft_view c.self.inside) row c.in_ok-place.place c.requires read there known few;
      fits = omega (arith, below, param, same);
    })
