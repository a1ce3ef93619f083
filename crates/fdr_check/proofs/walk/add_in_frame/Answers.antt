use Rattle.std.proofs.Common.{◌≡◌, ◌+◌, ◌*◌, ◌++◌, ap, ◌∙◌, arith, refl}
use Rattle.std.specs.List.{flat_map, range_with_len}
use Rattle.fdr_check.specs.Walks.{subframe_slots, frame_slots}
use Rattle.fdr_check.proofs.Stretches.{stretch_more}
use Rattle.fdr_check.proofs.walk.add_in_frame.Goals as goal

pub loop-subframe-preserved : goal.loop-subframe-preserved
loop-subframe-preserved c =
    stretch_more (subframe_slots c.args.words c.args.place.now) c.args.slots.now.items _ _ (4 * c.args.frame) c.loop-subframe.subframe _
    (4 * c.args.frame + c.loop-subframe.subframe) c.loop-subframe.invariant c.in_ok-add_in_subframe.ensures refl refl

pub returns : goal.returns
unfolding frame_slots
returns c =
    let all : c.loop-subframe.subframe ≡ 4 = omega (arith, c.loop-subframe-test.false, c.loop-subframe.auto.subframe-end) in
    c.loop-subframe.invariant
    ∙ ap (λ n. c.args.slots.now.items ++ flat_map (subframe_slots c.args.words c.args.place.now) (range_with_len (4 * c.args.frame) n)) all
