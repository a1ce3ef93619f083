use Rattle.std.proofs.Common.{length, ap, sym, ◌∙◌, arith}
use Rattle.fdr_check.proofs.Walking.{frames_before, no_frames_before, frame_counted, all_frames, starts_by_slot}
use Rattle.fdr_check.proofs.walk.count_starts.Goals as goal

pub loop-frame-init : goal.loop-frame-init
loop-frame-init c =
    let first = c.first_frame-frame.ensures in
    record {
      own = first.own;
      few = omega arith;
      so_far = sym (ap length (ap (frames_before c.args.words c.args.place.now) first.first
          ∙ no_frames_before c.args.words c.args.place.now first.in_range.cycle));
    }

pub loop-frame-preserved : goal.loop-frame-preserved
loop-frame-preserved c =
    let f = c.loop-frame.frame in
    record {
      own = c.next_frame-frame.ensures.own;
      few = omega (arith, c.next_frame-frame.ensures.later, c.loop-frame.invariant.few, c.count_in_frame-in_frame.ensures.within_frame);
      so_far = frame_counted c.args.words c.args.place.now f c.loop-frame.count c.count_in_frame-in_frame.result c.first_frame-frame.ensures.in_range.cycle
          c.loop-frame-test.true c.loop-frame.invariant.own c.loop-frame.invariant.so_far
          (c.count_in_frame-in_frame.ensures.count f c.loop-frame.invariant.own)
          ∙ ap (λ n. length (frames_before c.args.words c.args.place.now n)) (sym c.next_frame-frame.ensures.next);
    }

pub returns : goal.returns
returns c =
    let p = c.args.place.now in
    let in_range = c.first_frame-frame.ensures.in_range in
    c.loop-frame.invariant.so_far ∙ ap length (all_frames c.args.words p c.loop-frame.frame c.loop-frame-test.false)
    ∙ sym (starts_by_slot c.args.words p in_range.lsb_low (omega (arith, in_range.bits, in_range.width_low)))
