use Rattle.std.proofs.Common.{◌≡◌, ◌+◌, ◌*◌, ap, arith, map, ℕ, List, ◌++◌, ◌∙◌}
use Rattle.std.proofs.lemmas.List.{map-append}
use Rattle.fdr_sync.specs.declared.frames.Gap.{Gap}
use Rattle.fdr_sync.specs.Events.{gaps_from}
use Rattle.fdr_sync.proofs.EventLemmas.{are_events, only_events, total_bits}
use Rattle.fdr_sync.proofs.FrameSteps.{found_within, gaps_more_gap, gaps_more_none, gaps_all_gap, gaps_all_none}
use Rattle.fdr_sync.proofs.frames.gaps.Goals as goal
use Rattle.fdr_sync.proofs.frames.gaps.Goals.{then-free-at+in_ok-push, else-free-at, then-free-end+in_ok-push-2, else-free-end}

-- a gap as its place and its number of bits
abbrev the_pair : Gap → ℕ × ℕ
the_pair g = (g.at, g.bits)

abbrev pairs : List Gap → List (ℕ × ℕ)
pairs gs = map the_pair gs

pub returns-in_err-push-clause-total : goal.returns-in_err-push-clause-total
returns-in_err-push-clause-total c = total_bits c.args.bytes.now c.args.words

pub returns-in_err-push-clause-events : goal.returns-in_err-push-clause-events
returns-in_err-push-clause-events c = are_events c.args.bytes.now c.args.words

pub returns-in_err-push-clause-only : goal.returns-in_err-push-clause-only
returns-in_err-push-clause-only c = only_events c.args.bytes.now c.args.words

pub returns-in_err-push-2-clause-total : goal.returns-in_err-push-2-clause-total
returns-in_err-push-2-clause-total c = total_bits c.args.bytes.now c.args.words

pub returns-in_err-push-2-clause-events : goal.returns-in_err-push-2-clause-events
returns-in_err-push-2-clause-events c = are_events c.args.bytes.now c.args.words

pub returns-in_err-push-2-clause-only : goal.returns-in_err-push-2-clause-only
returns-in_err-push-2-clause-only c = only_events c.args.bytes.now c.args.words

pub returns-clause-total : goal.returns-clause-total
returns-clause-total c = total_bits c.args.bytes.now c.args.words

pub returns-clause-events : goal.returns-clause-events
returns-clause-events c = are_events c.args.bytes.now c.args.words

pub returns-clause-only : goal.returns-clause-only
returns-clause-only c = only_events c.args.bytes.now c.args.words

pub overflow_add-free : goal.overflow_add-free
overflow_add-free c =
    let within = found_within c.args.bytes.now c.args.words c.loop-at.free c.in-Some.at c.requires.word_count c.in-Some.ensures.found in
    omega (arith, within.0)

pub loop-at-smaller : goal.loop-at-smaller
loop-at-smaller c =
    let within = found_within c.args.bytes.now c.args.words c.loop-at.free c.in-Some.at c.requires.word_count c.in-Some.ensures.found in
    omega (arith, within.0, within.1)

pub loop-at-preserved : goal.loop-at-preserved
loop-at-preserved c =
    let next : c.in-Some.at + 48 * c.from.result ≡ c.in-Some.at + 48 * c.args.words = ap (λ w. c.in-Some.at + 48 * w) c.from.ensures in
    elim c.if-free-at.branch [
      | then-free-at+in_ok-push w ↦
          let pushed = ap (λ v. pairs v.items) w.gaps-is ∙ ap pairs w.in_ok-push.ensures.items ∙ map-append the_pair c.loop-at.gaps.items _ in
          gaps_more_gap c.args.bytes.now c.args.words c.loop-at.free c.in-Some.at _ (pairs c.loop-at.gaps.items) (pairs c.if-free-at.gaps.items)
          _ c.requires.word_count c.in-Some.ensures.found w.if-free-at.true next pushed c.loop-at.invariant
      | else-free-at w ↦
          ap (λ v. pairs v.items ++ gaps_from c.args.bytes.now c.args.words (c.in-Some.at + 48 * c.from.result)) w.gaps-is
          ∙ gaps_more_none c.args.bytes.now c.args.words c.loop-at.free c.in-Some.at _ (pairs c.loop-at.gaps.items)
          _ c.requires.word_count c.in-Some.ensures.found w.if-free-at.false next c.loop-at.invariant
    ]

pub returns-clause-items : goal.returns-clause-items
returns-clause-items c =
    elim c.if-free-end.branch [
      | then-free-end+in_ok-push-2 w ↦
          let pushed = ap (λ v. pairs v.items) w.gaps-is ∙ ap pairs w.in_ok-push-2.ensures.items ∙ map-append the_pair c.loop-at.gaps.items _ in
          gaps_all_gap c.args.bytes.now c.args.words c.loop-at.free (pairs c.loop-at.gaps.items) (pairs c.if-free-end.gaps.items)
          _ c.in_default.ensures.none w.if-free-end.true pushed c.loop-at.invariant
      | else-free-end w ↦
          ap (λ v. pairs v.items) w.gaps-is
          ∙ gaps_all_none c.args.bytes.now c.args.words c.loop-at.free (pairs c.loop-at.gaps.items)
          _ c.in_default.ensures.none w.if-free-end.false c.loop-at.invariant
    ]
