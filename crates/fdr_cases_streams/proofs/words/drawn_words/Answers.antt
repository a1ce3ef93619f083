use Rattle.std.proofs.Common.{◌+◌, ap, arith}
use Rattle.fdr_sampler.specs.Past.{sampler_with_word, sampler_with_words}
use Rattle.fdr_cases_streams.proofs.words.drawn_words.Goals as goal

pub draw_empty_slots-slot-requires : goal.draw_empty_slots-slot-requires
draw_empty_slots-slot-requires g c =
    let inv = c.loop-slot.invariant.0 in
    let drawn = (c.next_word.ensures.stands inv.0 inv.1).slots_drawn in
    omega (arith, drawn, inv.2, c.requires.within_frame, c.loop-slot-test.true)

pub loop-slot-preserved : goal.loop-slot-preserved
loop-slot-preserved g c =
    let inv = c.loop-slot.invariant.0 in
    let past = sampler_with_word inv.0 in (
      (
        sampler_with_words past c.draw_empty_slots-slot.result,
        c.draw_empty_slots-slot.ensures.stands past (c.next_word.ensures.stands inv.0 inv.1),
        ap (λ n. n + 1 + c.draw_empty_slots-slot.result) inv.2,
      ),
      omega (arith, c.draw_empty_slots-slot.ensures.most, c.loop-slot-test.true),
    )
