use Rattle.std.proofs.Common.{◌≡◌, ◌∙◌, ap, refl, ◌∷◌, [], Option, Some}
use Rattle.csv.specs.Records.{fields_of}
use Rattle.fdr_table.specs.Bounds.{periods}
use Rattle.fdr_table.specs.Fields.{number_among, subframes_of}
use Rattle.fdr_table.specs.Reading.{Row, first_some, misread, place_misread, place_row, subframes_in, frame_width_in, period_in, cycle_in}
use Rattle.fdr_table.specs.declared.fault.TableFault.{TableFault}
use Rattle.fdr_table.specs.declared.fault.TableFault.TheVariants as fault
use Rattle.fdr_table.proofs.RowFacts.{refusal, read-there, read-none}
use Rattle.fdr_table.proofs.row.read_place_row.Goals as goal
use Rattle.fdr_table.proofs.row.read_place_row.Goals.{In_ok-subs, In_ok-lsb, After-last_cycle}

subs-read : (c : In_ok-subs) → subframes_in (fields_of c.args.row.now) ≡ Some c.in_ok-subs.subs
subs-read c =
    read-there _ _ _ (fault.Number 3) _ (c.subframes.ensures.exactly ∙ ap subframes_of c.field_at.ensures) c.ok_or.ensures.value c.in_ok-subs.was

periods-read : (c : After-last_cycle) → c.number_of-periods.result ≡ period_in (fields_of c.args.row.now)
periods-read c = c.number_of-periods.ensures.exactly ∙ ap (number_among periods) c.field_at-2.ensures

-- the fields from the width on, where those before it read
abbrev width_misread : Row → Option TableFault
width_misread fields = first_some (misread 7 (frame_width_in fields) ∷ misread 8 (cycle_in fields) ∷ misread 9 (period_in fields) ∷ [])

to_width : (c : In_ok-lsb) → subframes_in (fields_of c.args.row.now) ≡ Some c.in_ok-subs.subs
    → place_misread (fields_of c.args.row.now) ≡ width_misread (fields_of c.args.row.now)
unfolding place_misread
to_width c subs = rw (c.in_ok-part.ensures.read, subs, c.in_ok-word.ensures.read, c.in_ok-step.ensures.read, c.in_ok-lsb.ensures.read) refl

pub returns-in_err-part-clause-misread : goal.returns-in_err-part-clause-misread
unfolding place_misread
returns-in_err-part-clause-misread c =
    rw (refusal _ _ c.from_residual.ensures.1, c.in_err-part.ensures.misread.1, c.in_err-part.ensures.misread.0) refl

pub returns-in_err-subs-clause-misread : goal.returns-in_err-subs-clause-misread
unfolding place_misread
returns-in_err-subs-clause-misread c =
    let wrong = read-none _ _ _ (fault.Number 3) _ (c.subframes.ensures.exactly ∙ ap subframes_of c.field_at.ensures) c.ok_or.ensures.value c.in_err-subs.was in
    rw (refusal _ _ c.from_residual-in_err-subs.ensures.1, ← wrong.1, c.in_ok-part.ensures.read, wrong.0) refl

pub returns-in_err-word-clause-misread : goal.returns-in_err-word-clause-misread
unfolding place_misread
returns-in_err-word-clause-misread c =
    let subs = subs-read (goal.at.returns-in_err-word-clause-misread c).In_ok-subs in
    let wrong = c.in_err-word.ensures.misread in
    rw (refusal _ _ c.from_residual-in_err-word.ensures.1, wrong.1, c.in_ok-part.ensures.read, subs, wrong.0) refl

pub returns-in_err-step-clause-misread : goal.returns-in_err-step-clause-misread
unfolding place_misread
returns-in_err-step-clause-misread c =
    let subs = subs-read (goal.at.returns-in_err-step-clause-misread c).In_ok-subs in
    let wrong = c.in_err-step.ensures.misread in
    rw (refusal _ _ c.from_residual-in_err-step.ensures.1, wrong.1, c.in_ok-part.ensures.read, subs, c.in_ok-word.ensures.read, wrong.0) refl

pub returns-in_err-lsb-clause-misread : goal.returns-in_err-lsb-clause-misread
unfolding place_misread
returns-in_err-lsb-clause-misread c =
    let subs = subs-read (goal.at.returns-in_err-lsb-clause-misread c).In_ok-subs in
    let wrong = c.in_err-lsb.ensures.misread in
    rw (refusal _ _ c.from_residual-in_err-lsb.ensures.1, wrong.1, c.in_ok-part.ensures.read, subs, c.in_ok-word.ensures.read)
    (rw (c.in_ok-step.ensures.read, wrong.0) refl)

pub returns-in_err-width-clause-misread : goal.returns-in_err-width-clause-misread
returns-in_err-width-clause-misread c =
    let at = goal.at.returns-in_err-width-clause-misread c in
    let wrong = c.in_err-width.ensures.misread in
    rw (refusal _ _ c.from_residual-in_err-width.ensures.1, wrong.1, to_width at.In_ok-lsb (subs-read at.In_ok-subs), c.in_ok-lsb.ensures.read, wrong.0) refl

pub returns-in_err-cycle-clause-misread : goal.returns-in_err-cycle-clause-misread
returns-in_err-cycle-clause-misread c =
    let at = goal.at.returns-in_err-cycle-clause-misread c in
    let wrong = c.in_err-cycle.ensures.misread in
    rw (refusal _ _ c.from_residual-in_err-cycle.ensures.1, wrong.1, to_width at.In_ok-lsb (subs-read at.In_ok-subs), c.in_ok-lsb.ensures.read)
    (rw (c.in_ok-width.ensures.read, ← periods-read at.After-last_cycle, ← c.last_cycle.ensures, wrong.0) refl)

pub returns-in_err-period-clause-misread : goal.returns-in_err-period-clause-misread
returns-in_err-period-clause-misread c =
    let at = goal.at.returns-in_err-period-clause-misread c in
    let wrong = read-none c.number_of-periods.result _ _ (fault.Number 9) _ refl c.ok_or-2.ensures.value c.in_err-period.was in
    rw (refusal _ _ c.from_residual-in_err-period.ensures.1, ← wrong.1, to_width at.In_ok-lsb (subs-read at.In_ok-subs), c.in_ok-lsb.ensures.read)
    (rw (c.in_ok-width.ensures.read, ← periods-read at.After-last_cycle, ← c.last_cycle.ensures, c.in_ok-cycle.ensures.read, wrong.0) refl)

pub returns-clause-read : goal.returns-clause-read
unfolding place_row
returns-clause-read c =
    let at = goal.at.returns-clause-read c in
    let subs = subs-read at.In_ok-subs in
    let period = read-there c.number_of-periods.result _ _ (fault.Number 9) _ refl c.ok_or-2.ensures.value c.in_ok-period.was in
    rw (c.requires, to_width at.In_ok-lsb subs, c.in_ok-part.ensures.read, subs, c.in_ok-word.ensures.read, c.in_ok-step.ensures.read, c.in_ok-lsb.ensures.read)
    (rw (c.in_ok-width.ensures.read, ← periods-read at.After-last_cycle, ← c.last_cycle.ensures, c.in_ok-cycle.ensures.read, period) refl)
