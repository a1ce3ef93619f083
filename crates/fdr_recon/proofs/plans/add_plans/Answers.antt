use Rattle.std.proofs.Common.{◌≡◌, ◌++◌, List, [], length, map, sym, ap, ◌∙◌, subst, arith}
use Rattle.std.proofs.lemmas.Grind.{common_steps}
use Rattle.std.specs.List.{All, slice_index_or}
use Rattle.std.proofs.lemmas.List.{length-map, take_all}
use Rattle.std.proofs.lemmas.Option.{get_or_from_slice_get}
use Rattle.fdr_layout.specs.Listed.{sample_in}
use Rattle.fdr_layout.specs.Samples.{Sample}
use Rattle.fdr_recon.specs.Kept.{EndsInCycle}
use Rattle.fdr_recon.specs.Plans.{row_plan}
use Rattle.fdr_recon.proofs.KeptRows.{listed_samples_hold}
use Rattle.fdr_recon.proofs.plans.add_plans.Goals as goal

pub plan_of-requires-clause-ends : goal.plan_of-requires-clause-ends
plan_of-requires-clause-ends c =
    let l = c.args.layout.now in
    let items = c.ending_in-sample-items.result.now in
    let same : slice_index_or l.cycles c.args.cycle [] ≡ map (sample_in l) items =
    get_or_from_slice_get l.cycles c.args.cycle (map (sample_in l) items) [] c.ending_in-sample-items.ensures.samples in
    let Ends : Sample → Type 0 = EndsInCycle c.args.words c.args.cycle in
    listed_samples_hold Ends l items (subst (All Ends) same c.requires.ends) c.loop-sample.sample-index _ c.loop-sample-test.true

pub returns-clause-rows : goal.returns-clause-rows
returns-clause-rows c =
    let l = c.args.layout.now in
    let items = c.ending_in-sample-items.result.now in
    let f = row_plan c.args.words c.args.cycle in
    let same : slice_index_or l.cycles c.args.cycle [] ≡ map (sample_in l) items =
    get_or_from_slice_get l.cycles c.args.cycle (map (sample_in l) items) [] c.ending_in-sample-items.ensures.samples in
    let all = take_all c.loop-sample.sample-index items (omega (arith, c.loop-sample-test.false)) in
    c.loop-sample.invariant ∙ ap (λ xs. c.args.rows.now.items ++ map f (map (sample_in l) xs)) all
    ∙ ap (λ xs. c.args.rows.now.items ++ map f xs) (sym same)

pub returns-clause-countable : goal.returns-clause-countable
returns-clause-countable c =
    let l = c.args.layout.now in
    let items = c.ending_in-sample-items.result.now in
    let same : slice_index_or l.cycles c.args.cycle [] ≡ map (sample_in l) items =
    get_or_from_slice_get l.cycles c.args.cycle (map (sample_in l) items) [] c.ending_in-sample-items.ensures.samples in
    omega (arith, ap (λ (xs : List Sample). length xs) same, length-map items (sample_in l), c.ending_in-sample-items.ensures.countable)

pub loop-sample-preserved : goal.loop-sample-preserved
loop-sample-preserved c = grind (arith, common_steps) steps 2000000
