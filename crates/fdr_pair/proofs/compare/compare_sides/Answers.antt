use Rattle.std.proofs.Common.{◌∙◌, ℕ, List, refl, sym, ap, arith, max}
use Rattle.fdr_recover.specs.Images.{block_numbered}
use Rattle.fdr_pair.proofs.PairWorks.{content_here, content_then, looked_here, looked_then}
use Rattle.fdr_pair.proofs.Bringing.{no_fault_here, no_fault_then}
use Rattle.fdr_pair.proofs.Comparing.{alike_none, alike_more, alike_held, least_some, least_none}
use Rattle.fdr_pair.proofs.compare.compare_sides.Goals as goal

pub loop-seq-init : goal.loop-seq-init
loop-seq-init g c = record {
  alike = λ told. alike_none _ _ _ _ _ (omega (arith, c.max-seq.ensures));
  first = content_here _;
  second = content_here _;
  work = looked_here _ _ (g.met.T.Twin.sound_pair c.args.twin.now);
  no_fault = no_fault_here _;
}

pub returns-in_err-is_alike-clause-first : goal.returns-in_err-is_alike-clause-first
returns-in_err-is_alike-clause-first g c = content_then _ _ _ c.loop-seq.invariant.first c.is_alike.ensures.first

pub returns-in_err-is_alike-clause-second : goal.returns-in_err-is_alike-clause-second
returns-in_err-is_alike-clause-second g c = content_then _ _ _ c.loop-seq.invariant.second c.is_alike.ensures.second

pub returns-in_err-is_alike-clause-work : goal.returns-in_err-is_alike-clause-work
returns-in_err-is_alike-clause-work g c =
    let inv = c.loop-seq.invariant in
    looked_then _ _ _ _ (g.met.T.Twin.sound_pair c.loop-seq.twin) inv.first inv.second inv.work c.is_alike.ensures.work

pub returns-then-not-branch-clause-first : goal.returns-then-not-branch-clause-first
returns-then-not-branch-clause-first g c = content_then _ _ _ c.loop-seq.invariant.first c.is_alike.ensures.first

pub returns-then-not-branch-clause-second : goal.returns-then-not-branch-clause-second
returns-then-not-branch-clause-second g c = content_then _ _ _ c.loop-seq.invariant.second c.is_alike.ensures.second

pub returns-then-not-branch-clause-work : goal.returns-then-not-branch-clause-work
returns-then-not-branch-clause-work g c =
    let inv = c.loop-seq.invariant in
    looked_then _ _ _ _ (g.met.T.Twin.sound_pair c.loop-seq.twin) inv.first inv.second inv.work c.is_alike.ensures.work

pub returns-then-not-branch-clause-no_fault : goal.returns-then-not-branch-clause-no_fault
returns-then-not-branch-clause-no_fault g c = no_fault_then _ _ _ c.loop-seq.invariant.no_fault c.in_ok-is_alike.ensures.no_fault

pub loop-seq-preserved : goal.loop-seq-preserved
loop-seq-preserved g c =
    let inv = c.loop-seq.invariant in
    record {
      alike = λ told. alike_more _ _ _ _ _ (inv.alike told)
          (alike_held _ _ _ _ _ _ inv.first.held inv.second.held ((c.in_ok-is_alike.ensures.alike told).0 c.if-not-branch.false));
      first = content_then _ _ _ inv.first c.is_alike.ensures.first;
      second = content_then _ _ _ inv.second c.is_alike.ensures.second;
      work = looked_then _ _ _ _ (g.met.T.Twin.sound_pair c.loop-seq.twin) inv.first inv.second inv.work c.is_alike.ensures.work;
      no_fault = no_fault_then _ _ _ inv.no_fault c.in_ok-is_alike.ensures.no_fault;
    }

pub returns-then-not-branch-clause-least : goal.returns-then-not-branch-clause-least
returns-then-not-branch-clause-least g c told =
    let inv = c.loop-seq.invariant in
    least_some c.args.h.now (g.T.Twin.pair c.args.twin.now).first.held (g.T.Twin.pair c.args.twin.now).second.held c.requires.limits
    c.args.first.now c.args.second.now (c.requires.first_found told) (c.requires.second_found told)
    (max c.args.first.now.first c.args.second.now.first) c.loop-seq.seq refl (omega (arith, c.loop-seq.auto.seq, c.max-seq.ensures))
    (omega (arith, c.loop-seq-test.true, c.min-seq-end.ensures)) (inv.alike told)
    (λ same.
    let alike = (c.in_ok-is_alike.ensures.alike told).1 (ap (λ (l : List ℕ). block_numbered c.args.h.now l c.loop-seq.seq) inv.first.held ∙ same
    ∙ sym (ap (λ (l : List ℕ). block_numbered c.args.h.now l c.loop-seq.seq) inv.second.held)) in
    let other = c.if-not-branch.true in
    absurd (cc))

pub returns-clause-least : goal.returns-clause-least
returns-clause-least g c told =
    least_none c.args.h.now (g.T.Twin.pair c.args.twin.now).first.held (g.T.Twin.pair c.args.twin.now).second.held c.requires.limits
    c.args.first.now c.args.second.now (c.requires.first_found told) (c.requires.second_found told)
    (max c.args.first.now.first c.args.second.now.first) c.loop-seq.seq c.min-seq-end.result refl (omega (arith, c.min-seq-end.ensures))
    (omega (arith, c.loop-seq-test.false)) (c.loop-seq.invariant.alike told)
