use Rattle.std.proofs.Common.{◌≡◌, ◌+◌, ◌*◌, ap, arith}
use Rattle.fdr_sync.proofs.AcceptedLemmas.{are_accepted, only_accepted}
use Rattle.fdr_sync.proofs.FrameSteps.{found_within, accepted_more, accepted_all}
use Rattle.fdr_sync.proofs.frames.accepted_frames.Goals as goal

pub returns-in_err-push-clause-accepted : goal.returns-in_err-push-clause-accepted
returns-in_err-push-clause-accepted c = are_accepted c.args.bytes.now c.args.words

pub returns-in_err-push-clause-only : goal.returns-in_err-push-clause-only
returns-in_err-push-clause-only c = only_accepted c.args.bytes.now c.args.words

pub returns-clause-accepted : goal.returns-clause-accepted
returns-clause-accepted c = are_accepted c.args.bytes.now c.args.words

pub returns-clause-only : goal.returns-clause-only
returns-clause-only c = only_accepted c.args.bytes.now c.args.words

pub overflow_add-free : goal.overflow_add-free
overflow_add-free c =
    let within = found_within c.args.bytes.now c.args.words c.loop-at.free c.in-Some.at c.requires.word_count c.in-Some.ensures.found in
    omega (arith, within.0)

pub loop-at-smaller : goal.loop-at-smaller
loop-at-smaller c =
    let within = found_within c.args.bytes.now c.args.words c.loop-at.free c.in-Some.at c.requires.word_count c.in-Some.ensures.found in
    omega (arith, within.0, within.1)

pub loop-at-preserved : goal.loop-at-preserved
loop-at-preserved c =
    let next : c.in-Some.at + 48 * c.from.result ≡ c.in-Some.at + 48 * c.args.words = ap (λ w. c.in-Some.at + 48 * w) c.from.ensures in
    accepted_more c.args.bytes.now c.args.words c.loop-at.free c.in-Some.at _ c.loop-at.frames.items c.push.new.self.items _ c.requires.word_count
    c.in-Some.ensures.found next c.in_ok-push.ensures.items c.loop-at.invariant

pub returns-clause-items : goal.returns-clause-items
returns-clause-items c = accepted_all c.args.bytes.now c.args.words c.loop-at.free c.loop-at.frames.items _ c.in_default.ensures.none c.loop-at.invariant
