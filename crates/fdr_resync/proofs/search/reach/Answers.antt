use Rattle.std.proofs.Common.{◌≡◌, ◌+◌, ◌*◌, ◌-◌, ◌≤◌, max, arith}
use Rattle.std.proofs.lemmas.Bool.{iff_false}
use Rattle.fdr_bits.specs.Bits.{bits_in}
use Rattle.fdr_sync.proofs.FrameSteps.{word_count_some}
use Rattle.fdr_resync.proofs.Searching.{clear_to_sync, clear_past, clear_to_end}
use Rattle.fdr_resync.proofs.search.reach.Goals as goal

pub returns-then-bits-p-clause-clear : goal.returns-then-bits-p-clause-clear
returns-then-bits-p-clause-clear c =
    (clear_to_sync c.args.bytes.now c.args.words c.args.from c.loop-p.at c.in-Some.p c.loop-p.invariant.clear c.in-Some.ensures.found).none

pub returns-then-frame_at-clause-clear : goal.returns-then-frame_at-clause-clear
returns-then-frame_at-clause-clear c =
    (clear_to_sync c.args.bytes.now c.args.words c.args.from c.loop-p.at c.in-Some.p c.loop-p.invariant.clear c.in-Some.ensures.found).none

pub loop-p-preserved : goal.loop-p-preserved
loop-p-preserved c =
    let clear = clear_to_sync c.args.bytes.now c.args.words c.args.from c.loop-p.at c.in-Some.p c.loop-p.invariant.clear c.in-Some.ensures.found in
    let within : c.in-Some.p + 48 * c.args.words ≤ bits_in c.args.bytes.now = omega (arith, c.from.ensures) in
    let some = word_count_some c.args.words c.requires.word_count in
    record {
      behind = omega (arith, c.in-Some.ensures.found.behind, c.loop-p.invariant.behind);
      within = omega (arith, within, some);
      clear = clear_past c.args.bytes.now c.args.words c.args.from c.in-Some.p some clear within (iff_false c.frame_at.ensures c.if-frame_at.false);
    }

pub returns-clause-clear : goal.returns-clause-clear
returns-clause-clear c =
    let is : c.max.result ≡ max c.loop-p.at (bits_in c.args.bytes.now - 11) = omega (arith, c.max.ensures, c.saturating_sub.ensures) in
    (clear_to_end c.args.bytes.now c.args.words c.args.from c.loop-p.at c.max.result c.loop-p.invariant.clear c.in_default.ensures.none is).none
