use Rattle.std.proofs.Common.{◌≡◌, ◌+◌, ◌<◌, ◌^◌, [], length, map, ◌∙◌, subst, below_more, arith}
use Rattle.std.proofs.lemmas.Grind.{moves}
use Rattle.std.specs.List.{flat_map, range_with_len, slice_index_or}
use Rattle.fdr_layout.proofs.Flats.{ends}
use Rattle.fdr_recon.specs.Plans.{cycle_plans}
use Rattle.fdr_recon.proofs.Planning.{plans_on, plan_starts_on}
use Rattle.fdr_recon.proofs.plans.Plans.of.Goals as goal

pub loop-cycle-preserved : goal.loop-cycle-preserved
loop-cycle-preserved c =
    let l = c.args.layout in
    let w = c.args.words in
    let cycle = c.loop-cycle.cycle in
    let rows = plans_on l w c.loop-cycle.rows.items c.add_plans.new.rows.items cycle c.loop-cycle.invariant.rows c.in_ok-add_plans.ensures.rows in
    record {
      rows = rows;
      starts = c.in_ok-push-2.ensures ∙ plan_starts_on l w c.loop-cycle.starts.items c.add_plans.new.rows.items cycle c.len.result
          c.loop-cycle.invariant.starts rows (omega (arith, c.len.ensures));
      countable = below_more (λ k. length (slice_index_or l.cycles k []) < 2 ^ 32) cycle c.loop-cycle.invariant.countable c.in_ok-add_plans.ensures.countable;
    }

pub add_plans-requires-clause-ends : goal.add_plans-requires-clause-ends
add_plans-requires-clause-ends c = c.requires.ends c.loop-cycle.cycle

pub invariant_of-result : goal.invariant_of-result
invariant_of-result c =
    let l = c.args.layout in
    let w = c.args.words in
    let inv = c.loop-cycle.invariant in
    let all : c.loop-cycle.cycle ≡ 16 = omega (arith, c.loop-cycle-test.false, c.loop-cycle.auto.cycle-end) in
    record {
      rows = subst (λ n. c.loop-cycle.rows.items ≡ flat_map (cycle_plans l w) (range_with_len 0 n)) all inv.rows;
      begins = subst (λ n. c.loop-cycle.starts.items ≡ map (ends (cycle_plans l w)) (range_with_len 0 (n + 1))) all inv.starts;
      countable = λ cycle within. inv.countable cycle (omega (arith, within, all));
    }

pub returns-in_err-starts : goal.returns-in_err-starts
returns-in_err-starts c = grind (arith, moves) steps 2000000

pub returns-in_err-rows : goal.returns-in_err-rows
returns-in_err-rows c = grind (arith, moves) steps 2000000
