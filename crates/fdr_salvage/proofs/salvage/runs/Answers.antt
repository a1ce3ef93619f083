use Rattle.std.proofs.Common.{◌<◌, length, map, sym, ap, ◌∙◌, subst, arith}
use Rattle.std.specs.Prelude.{All}
use Rattle.std.proofs.lemmas.List.Sorted.{All-permutation, length_permutation}
use Rattle.std.proofs.lemmas.List.Sums.{get_or-le-sum_by}
use Rattle.fdr_slot.specs.Limits.{sequence_end}
use Rattle.fdr_salvage.specs.Runs.{valid_blocks, runs_of, blocks_in_run, run_length}
use Rattle.fdr_salvage.proofs.Numbers.{sorted_valid}
use Rattle.fdr_salvage.proofs.InOne.{runs_by_numbers}
use Rattle.fdr_salvage.proofs.salvage.runs.Goals as goal

pub join_numbers-requires-clause-fit : goal.join_numbers-requires-clause-fit
join_numbers-requires-clause-fit g c =
    subst (All (λ number. number < sequence_end)) (sym c.deref.ensures.value)
    (All-permutation (λ number. number < sequence_end) c.read_numbers.new.numbers.items c.in_order.result.items c.in_order.ensures.permutation
    c.in_ok-read_numbers.ensures.fit)

pub returns-clause-runs : goal.returns-clause-runs
unfolding runs_of
returns-clause-runs g c = λ told.
    let h = c.args.h.now in
    let held = (g.D.Deck.state c.args.deck.now).held in
    let numbers = c.in_order.result.items in
    let permutation = rw (c.in_ok-read_numbers.ensures.numbers told) at c.in_order.ensures.permutation in
    c.in_ok-join_numbers.ensures.joined (valid_blocks h held)
    (sorted_valid h held numbers c.requires.limits permutation c.in_order.ensures.order ∙ sym c.deref.ensures.value)

pub returns-clause-blocks : goal.returns-clause-blocks
returns-clause-blocks g c = λ told.
    let h = c.args.h.now in
    let held = (g.D.Deck.state c.args.deck.now).held in
    ap (map (blocks_in_run h held)) (returns-clause-runs g c told) ∙ runs_by_numbers h held

pub returns-clause-few : goal.returns-clause-few
returns-clause-few g c =
    omega (
      arith,
      c.in_ok-join_numbers.ensures.few,
      ap length c.deref.ensures.value,
      length_permutation c.read_numbers.new.numbers.items c.in_order.result.items c.in_order.ensures.permutation,
      c.in_ok-read_numbers.ensures.few,
    )

pub returns-clause-room : goal.returns-clause-room
returns-clause-room g c = λ k d within.
    omega (
      arith,
      get_or-le-sum_by run_length c.join_numbers.new.runs.items k d within,
      returns-clause-few g c,
      (c.in_ok-join_numbers.ensures.within k d within).not_empty,
    )
