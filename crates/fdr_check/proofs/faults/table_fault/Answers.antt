use Rattle.std.proofs.Common.{List, [], ◌∷◌, sym, ◌∙◌, arith}
use Rattle.fdr_check.specs.Faults.{RowFault, place_fault, sync_fault, counter_fault, overlap_fault, parts_fault, rate_fault, many_fault, table_fault}
use Rattle.fdr_check.proofs.Enumerating.{first_some_front, first_some_back, first_some_now, first_some_on}
use Rattle.fdr_check.proofs.Overlapping.{none_of}
use Rattle.fdr_check.proofs.Sharing.{few_by_overlap}
use Rattle.fdr_check.proofs.faults.table_fault.Goals as goal

pub returns-then-is_some : goal.returns-then-is_some
unfolding table_fault
returns-then-is_some c =
    let t = c.args.t.now in
    let front : List RowFault = place_fault t ∷ sync_fault t ∷ counter_fault t ∷ [] in
    let back : List RowFault = overlap_fault t ∷ parts_fault t ∷ rate_fault t ∷ many_fault t ∷ [] in
    first_some_front front back c.places_fault-fault.result c.places_fault-fault.ensures (sym c.if-is_some.ensures)

pub returns-then-is_some-2 : goal.returns-then-is_some-2
unfolding table_fault
returns-then-is_some-2 c =
    let t = c.args.t.now in
    let front : List RowFault = place_fault t ∷ sync_fault t ∷ counter_fault t ∷ [] in
    let last : List RowFault = parts_fault t ∷ rate_fault t ∷ many_fault t ∷ [] in
    first_some_now (overlap_fault t) c.in_ok-fault.fault last c.in_ok-fault.ensures (sym c.if-is_some-2.ensures)
    ∙ sym (first_some_back front (overlap_fault t ∷ last) c.places_fault-fault.result c.places_fault-fault.ensures (sym c.if-is_some.ensures))

pub returns : goal.returns
unfolding table_fault
returns c =
    let t = c.args.t.now in
    let front : List RowFault = place_fault t ∷ sync_fault t ∷ counter_fault t ∷ [] in
    let last : List RowFault = parts_fault t ∷ rate_fault t ∷ many_fault t ∷ [] in
    c.samples_fault.ensures ∙ sym (first_some_back front (overlap_fault t ∷ last) c.places_fault-fault.result c.places_fault-fault.ensures
    (sym c.if-is_some.ensures)
    ∙ first_some_on (overlap_fault t) c.in_ok-fault.fault last c.in_ok-fault.ensures (sym c.if-is_some-2.ensures))

pub samples_fault-requires-clause-fits : goal.samples_fault-requires-clause-fits
samples_fault-requires-clause-fits c =
    omega (arith, few_by_overlap c.args.t.now c.requires (sym c.in_ok-fault.ensures ∙ none_of c.in_ok-fault.fault (sym c.if-is_some-2.ensures)))
