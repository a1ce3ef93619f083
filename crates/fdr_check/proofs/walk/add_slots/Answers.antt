use Rattle.std.proofs.Common.{◌++◌, ap, sym, ◌∙◌}
use Rattle.fdr_check.proofs.Walking.{frames_before, no_frame_yet, frame_added, all_frames}
use Rattle.fdr_check.proofs.walk.add_slots.Goals as goal

pub loop-frame-init : goal.loop-frame-init
loop-frame-init c =
    let first = c.first_frame-frame.ensures in
    record {
      own = first.own;
      so_far = no_frame_yet c.args.words c.args.place.now c.args.slots.now.items first.in_range.cycle
          ∙ ap (λ f. c.args.slots.now.items ++ frames_before c.args.words c.args.place.now f) (sym first.first);
    }

pub loop-frame-preserved : goal.loop-frame-preserved
loop-frame-preserved c =
    let slots = c.args.slots.now.items in
    record {
      own = c.next_frame-frame.ensures.own;
      so_far = frame_added c.args.words c.args.place.now c.loop-frame.frame slots _ _ c.first_frame-frame.ensures.in_range.cycle c.loop-frame-test.true
          c.loop-frame.invariant.own c.loop-frame.invariant.so_far c.in_ok-add_in_frame.ensures
          ∙ ap (λ f. slots ++ frames_before c.args.words c.args.place.now f) (sym c.next_frame-frame.ensures.next);
    }

pub returns : goal.returns
returns c =
    c.loop-frame.invariant.so_far
    ∙ ap (λ xs. c.args.slots.now.items ++ xs) (all_frames c.args.words c.args.place.now c.loop-frame.frame c.loop-frame-test.false)
