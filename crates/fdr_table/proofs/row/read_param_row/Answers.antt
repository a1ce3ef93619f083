use Rattle.std.proofs.Common.{◌≡◌, ◌∙◌, sym, ap, refl, ◌∷◌, [], Option, Some, None, arith, FitsSigned, w64}
use Rattle.std.proofs.lemmas.Int.{ints, to_z-of_z, to_z_pos}
use Rattle.csv.specs.Records.{fields_of}
use Rattle.fdr_table.specs.Fields.{is_name, label_field, sdi_field, sign_of, age_field}
use Rattle.fdr_table.specs.Reading.{Row, first_some, misread, param_misread, misnamed, param_row, label_in, sdi_in, bus_lsb_in, bus_width_in, sign_in, num_in}
use Rattle.fdr_table.specs.Reading.{field, den_in, offset_in, decimals_in, rate_in, age_in}
use Rattle.fdr_table.specs.declared.fault.TableFault.{TableFault}
use Rattle.fdr_table.specs.declared.fault.TableFault.TheVariants as fault
use Rattle.fdr_table.proofs.RowFacts.{refusal, read-there, read-none, not-true, param-unnamed}
use Rattle.fdr_table.proofs.row.read_param_row.Goals as goal
use Rattle.fdr_table.proofs.row.read_param_row.Goals.{In_ok-label, In_ok-sdi, In_ok-sign, In_ok-age}

label-read : (c : In_ok-label) → label_in (fields_of c.args.row.now) ≡ Some c.in_ok-label.label
label-read c = read-there _ _ _ (fault.Number 3) _ (c.label.ensures ∙ ap label_field c.field_at.ensures) c.ok_or.ensures.value c.in_ok-label.was

sdi-read : (c : In_ok-sdi) → sdi_in (fields_of c.args.row.now) ≡ Some c.in_ok-sdi.sdi
sdi-read c = read-there _ _ _ (fault.Number 4) _ (c.sdi.ensures.exactly ∙ ap sdi_field c.field_at-2.ensures) c.ok_or-2.ensures.value c.in_ok-sdi.was

sign-read : (c : In_ok-sign) → sign_of c.in_ok-width.width (field (fields_of c.args.row.now) 7) ≡ Some c.in_ok-sign.sign
sign-read c =
    read-there _ _ _ (fault.Number 7) _ (c.of.ensures.exactly ∙ ap (sign_of c.in_ok-width.width) c.field_at-3.ensures) c.ok_or-3.ensures.value c.in_ok-sign.was

age-read : (c : In_ok-age) → age_in (fields_of c.args.row.now) ≡ Some c.in_ok-age.age
age-read c = read-there _ _ _ (fault.Number 13) _ (c.age.ensures.exactly ∙ ap age_field c.field_at-4.ensures) c.ok_or-4.ensures.value c.in_ok-age.was

-- the fields from the lowest bit on, where those before it read
abbrev lsb_misread : Row → Option TableFault
lsb_misread fields = first_some (
    misread 5 (bus_lsb_in fields) ∷ misread 6 (bus_width_in fields) ∷ misread 7 (sign_in fields) ∷ misread 8 (num_in fields) ∷ misread 9 (den_in fields)
    ∷ misread 10 (offset_in fields) ∷ misread 11 (decimals_in fields) ∷ misread 12 (rate_in fields) ∷ misread 13 (age_in fields) ∷ [])

to_lsb : (c : In_ok-sdi) → param_misread (fields_of c.args.row.now) ≡ lsb_misread (fields_of c.args.row.now)
unfolding param_misread
to_lsb c =
    let label = read-there _ _ _ (fault.Number 3) _ (c.label.ensures ∙ ap label_field c.field_at.ensures) c.ok_or.ensures.value c.in_ok-label.was in
    rw (c.in_ok-bus.ensures.read, label, sdi-read c) refl

-- and those from the numerator on
abbrev num_misread : Row → Option TableFault
num_misread fields = first_some (
    misread 8 (num_in fields) ∷ misread 9 (den_in fields) ∷ misread 10 (offset_in fields) ∷ misread 11 (decimals_in fields) ∷ misread 12 (rate_in fields)
    ∷ misread 13 (age_in fields) ∷ [])

to_num : (c : In_ok-sign) → param_misread (fields_of c.args.row.now) ≡ lsb_misread (fields_of c.args.row.now)
    → param_misread (fields_of c.args.row.now) ≡ num_misread (fields_of c.args.row.now)
to_num c before = before ∙ rw (c.in_ok-lsb.ensures.read, c.in_ok-width.ensures.read, sign-read c) refl

numbers : (c : In_ok-age) → param_misread (fields_of c.args.row.now) ≡ num_misread (fields_of c.args.row.now) → param_misread (fields_of c.args.row.now) ≡ None
numbers c before =
    before ∙ rw (c.in_ok-num.ensures.read, c.in_ok-den.ensures.read, c.in_ok-offset.ensures.read)
    (rw (c.in_ok-decimals.ensures.read, c.in_ok-rate.ensures.read, age-read c) refl)

pub returns-in_err-bus-clause-misread : goal.returns-in_err-bus-clause-misread
unfolding param_misread
returns-in_err-bus-clause-misread c =
    rw (refusal _ _ c.from_residual.ensures.1, c.in_err-bus.ensures.misread.1, c.in_err-bus.ensures.misread.0) refl

pub returns-in_err-label-clause-misread : goal.returns-in_err-label-clause-misread
unfolding param_misread
returns-in_err-label-clause-misread c =
    let wrong = read-none _ _ _ (fault.Number 3) _ (c.label.ensures ∙ ap label_field c.field_at.ensures) c.ok_or.ensures.value c.in_err-label.was in
    rw (refusal _ _ c.from_residual-in_err-label.ensures.1, ← wrong.1, c.in_ok-bus.ensures.read, wrong.0) refl

pub returns-in_err-sdi-clause-misread : goal.returns-in_err-sdi-clause-misread
unfolding param_misread
returns-in_err-sdi-clause-misread c =
    let wrong = read-none _ _ _ (fault.Number 4) _ (c.sdi.ensures.exactly ∙ ap sdi_field c.field_at-2.ensures) c.ok_or-2.ensures.value c.in_err-sdi.was in
    rw (refusal _ _ c.from_residual-in_err-sdi.ensures.1, ← wrong.1, c.in_ok-bus.ensures.read)
    (rw (label-read (goal.at.returns-in_err-sdi-clause-misread c).In_ok-label, wrong.0) refl)

pub returns-in_err-lsb-clause-misread : goal.returns-in_err-lsb-clause-misread
returns-in_err-lsb-clause-misread c =
    let at = goal.at.returns-in_err-lsb-clause-misread c in
    rw (refusal _ _ c.from_residual-in_err-lsb.ensures.1, c.in_err-lsb.ensures.misread.1, to_lsb at.In_ok-sdi, c.in_err-lsb.ensures.misread.0) refl

pub returns-in_err-width-clause-misread : goal.returns-in_err-width-clause-misread
returns-in_err-width-clause-misread c =
    let at = goal.at.returns-in_err-width-clause-misread c in
    rw (refusal _ _ c.from_residual-in_err-width.ensures.1, c.in_err-width.ensures.misread.1, to_lsb at.In_ok-sdi)
    (rw (c.in_ok-lsb.ensures.read, c.in_err-width.ensures.misread.0) refl)

pub returns-in_err-sign-clause-misread : goal.returns-in_err-sign-clause-misread
returns-in_err-sign-clause-misread c =
    let at = goal.at.returns-in_err-sign-clause-misread c in
    let wrong = read-none _ _ _ (fault.Number 7) _ (c.of.ensures.exactly ∙ ap (sign_of c.in_ok-width.width) c.field_at-3.ensures) c.ok_or-3.ensures.value
    c.in_err-sign.was in
    rw (refusal _ _ c.from_residual-in_err-sign.ensures.1, ← wrong.1, to_lsb at.In_ok-sdi, c.in_ok-lsb.ensures.read, c.in_ok-width.ensures.read, wrong.0) refl

pub returns-in_err-num-clause-misread : goal.returns-in_err-num-clause-misread
returns-in_err-num-clause-misread c =
    let at = goal.at.returns-in_err-num-clause-misread c in
    let before = to_num at.In_ok-sign (to_lsb at.In_ok-sdi) in
    rw (refusal _ _ c.from_residual-in_err-num.ensures.1, c.in_err-num.ensures.misread.1, before, c.in_err-num.ensures.misread.0) refl

pub returns-in_err-den-clause-misread : goal.returns-in_err-den-clause-misread
returns-in_err-den-clause-misread c =
    let at = goal.at.returns-in_err-den-clause-misread c in
    rw (refusal _ _ c.from_residual-in_err-den.ensures.1, c.in_err-den.ensures.misread.1, to_num at.In_ok-sign (to_lsb at.In_ok-sdi))
    (rw (c.in_ok-num.ensures.read, c.in_err-den.ensures.misread.0) refl)

pub returns-in_err-offset-clause-misread : goal.returns-in_err-offset-clause-misread
returns-in_err-offset-clause-misread c =
    let at = goal.at.returns-in_err-offset-clause-misread c in
    rw (refusal _ _ c.from_residual-in_err-offset.ensures.1, c.in_err-offset.ensures.misread.1, to_num at.In_ok-sign (to_lsb at.In_ok-sdi))
    (rw (c.in_ok-num.ensures.read, c.in_ok-den.ensures.read, c.in_err-offset.ensures.misread.0) refl)

pub returns-in_err-decimals-clause-misread : goal.returns-in_err-decimals-clause-misread
returns-in_err-decimals-clause-misread c =
    let at = goal.at.returns-in_err-decimals-clause-misread c in
    rw (refusal _ _ c.from_residual-in_err-decimals.ensures.1, c.in_err-decimals.ensures.misread.1, to_num at.In_ok-sign (to_lsb at.In_ok-sdi))
    (rw (c.in_ok-num.ensures.read, c.in_ok-den.ensures.read, c.in_ok-offset.ensures.read, c.in_err-decimals.ensures.misread.0) refl)

pub returns-in_err-rate-clause-misread : goal.returns-in_err-rate-clause-misread
returns-in_err-rate-clause-misread c =
    let at = goal.at.returns-in_err-rate-clause-misread c in
    rw (refusal _ _ c.from_residual-in_err-rate.ensures.1, c.in_err-rate.ensures.misread.1, to_num at.In_ok-sign (to_lsb at.In_ok-sdi))
    (rw (c.in_ok-num.ensures.read, c.in_ok-den.ensures.read, c.in_ok-offset.ensures.read, c.in_ok-decimals.ensures.read, c.in_err-rate.ensures.misread.0) refl)

pub returns-in_err-age-clause-misread : goal.returns-in_err-age-clause-misread
returns-in_err-age-clause-misread c =
    let at = goal.at.returns-in_err-age-clause-misread c in
    let wrong = read-none _ _ _ (fault.Number 13) _ (c.age.ensures.exactly ∙ ap age_field c.field_at-4.ensures) c.ok_or-4.ensures.value c.in_err-age.was in
    rw (refusal _ _ c.from_residual-in_err-age.ensures.1, ← wrong.1, to_num at.In_ok-sign (to_lsb at.In_ok-sdi), c.in_ok-num.ensures.read)
    (rw (c.in_ok-den.ensures.read, c.in_ok-offset.ensures.read, c.in_ok-decimals.ensures.read, c.in_ok-rate.ensures.read, wrong.0) refl)

pub returns-in_default-clause-numbers : goal.returns-in_default-clause-numbers
returns-in_default-clause-numbers c =
    let at = goal.at.returns-in_default-clause-numbers c in
    numbers at.In_ok-age (to_num at.In_ok-sign (to_lsb at.In_ok-sdi))

pub returns-clause-numbers : goal.returns-clause-numbers
returns-clause-numbers c =
    let at = goal.at.returns-clause-numbers c in
    numbers at.In_ok-age (to_num at.In_ok-sign (to_lsb at.In_ok-sdi))

pub returns-in_default-clause-read : goal.returns-in_default-clause-read
returns-in_default-clause-read c =
    let texts = fields_of c.args.row.now in
    param-unnamed c.args.number texts (ap is_name (sym c.field_at-5.ensures) ∙ not-true (is_name c.field_at-5.result.now) c.in_default.ensures.exactly.1)

pub returns-clause-read : goal.returns-clause-read
unfolding param_row misnamed
returns-clause-read c =
    let at = goal.at.returns-clause-read c in
    let right = ap is_name (sym c.field_at-5.ensures) ∙ c.in-Some.ensures.exactly.0 refl in
    let num_fits : FitsSigned w64 c.in_ok-num.num = omega (arith, ints, c.in_ok-num.ensures.low, c.in_ok-num.ensures.high) in
    let offset_fits : FitsSigned w64 c.in_ok-offset.offset = omega (arith, ints, c.in_ok-offset.ensures.low, c.in_ok-offset.ensures.high) in
    let whole = to_z_pos w64 c.in_ok-den.den (omega (arith, c.in_ok-den.ensures.within)) in
    rw (c.requires, right, numbers at.In_ok-age (to_num at.In_ok-sign (to_lsb at.In_ok-sdi)), c.in_ok-bus.ensures.read, label-read at.In_ok-label)
    (rw (sdi-read at.In_ok-sdi, c.in_ok-lsb.ensures.read, c.in_ok-width.ensures.read, sign-read at.In_ok-sign, c.in_ok-num.ensures.read)
    (rw (c.in_ok-den.ensures.read, c.in_ok-offset.ensures.read, c.in_ok-decimals.ensures.read, c.in_ok-rate.ensures.read, age-read at.In_ok-age)
    (rw (c.in-Some.ensures.bytes, c.field_at-5.ensures, c.is_signed.ensures.exactly, c.is_telling.ensures, whole)
    (rw (to_z-of_z w64 c.in_ok-num.num num_fits, to_z-of_z w64 c.in_ok-offset.offset offset_fits) refl))))
