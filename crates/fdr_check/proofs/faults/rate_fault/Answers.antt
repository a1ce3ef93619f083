use Rattle.std.proofs.Common.{◌≡◌, ◌==◌, length, ap, sym, ◌∙◌, arith}
use Rattle.fdr_table.specs.Rows.{PlaceRow}
use Rattle.fdr_check.specs.Occurrences.{occurrences}
use Rattle.fdr_check.specs.Groups.{places_of}
use Rattle.fdr_check.proofs.Sharing.{occurrences_kept}
use Rattle.fdr_check.proofs.Grouping.{length_grouped, group_at}
use Rattle.fdr_check.proofs.Searches.{first_later}
use Rattle.fdr_check.proofs.Overlapping.{none_of}
use Rattle.fdr_check.proofs.Enumerating.{rate_row_of, rate_here, rate_is_found, rate_none}
use Rattle.fdr_check.proofs.faults.rate_fault.Goals as goal
use Rattle.fdr_check.proofs.faults.rate_fault.Goals.{After-rate_of-fault}

pub bounds-groups-index : goal.bounds-groups-index
bounds-groups-index c =
    let same : length c.params-params.result.now ≡ length c.args.t.now.params = ap length c.params-params.ensures in
    let len : length c.args.groups.now ≡ length c.args.t.now.params =
    ap length c.requires.groups ∙ length_grouped c.args.t.now.places (length c.args.t.now.params) in
    omega (arith, same, len, c.loop-index-test.true)

here : (c : After-rate_of-fault) → rate_row_of c.args.t.now (c.loop-index.index, c.index-params-index.result) ≡ c.rate_of-fault.result
here c =
    rate_here c.args.t.now c.args.groups.now c.loop-index.index c.index-params-index.result c.index-groups-index.result _ _ _ c.words_of-words.ensures.words
    c.requires.groups (omega (arith, ap length c.params-params.ensures, c.loop-index-test.true)) c.index-groups-index.is c.places.ensures
    c.rate_of-fault.ensures

pub returns-then-is_some : goal.returns-then-is_some
returns-then-is_some c =
    rate_is_found c.args.t.now c.params-params.result.now c.loop-index.index c.index-params-index.result _ c.params-params.ensures c.loop-index-test.true
    c.index-params-index.is c.loop-index.invariant (here (goal.at.returns-then-is_some c).After-rate_of-fault) (sym c.if-is_some.ensures)

pub loop-index-preserved : goal.loop-index-preserved
loop-index-preserved c =
    first_later (rate_row_of c.args.t.now) c.params-params.result.now c.loop-index.index c.index-params-index.result c.loop-index-test.true
    c.index-params-index.is c.loop-index.invariant
    (here (goal.at.loop-index-preserved c).After-rate_of-fault ∙ none_of c.rate_of-fault.result (sym c.if-is_some.ensures))

pub returns : goal.returns
returns c = rate_none c.args.t.now c.params-params.result.now c.loop-index.index c.params-params.ensures c.loop-index-test.false c.loop-index.invariant

pub rate_of-fault-requires-clause-fits : goal.rate_of-fault-requires-clause-fits
rate_of-fault-requires-clause-fits c =
    let t = c.args.t.now in
    let i = c.loop-index.index in
    let g = c.index-groups-index.result in
    let len : length c.params-params.result.now ≡ length t.params = ap length c.params-params.ensures in
    let own : g ≡ places_of t.places i = group_at t.places (length t.params) i c.args.groups.now g c.requires.groups
    (omega (arith, len, c.loop-index-test.true)) c.index-groups-index.is in
    let same : length (occurrences c.words_of-words.result c.places.result.now) ≡ length (occurrences t.frame.words (places_of t.places i)) =
    ap (λ k. length (occurrences k c.places.result.now)) c.words_of-words.ensures.words
    ∙ ap (λ ps. length (occurrences t.frame.words ps)) (c.places.ensures ∙ own) in
    omega (arith, same, c.requires.fits, occurrences_kept t.frame.words (λ (p : PlaceRow). p.param == i) t.places)
