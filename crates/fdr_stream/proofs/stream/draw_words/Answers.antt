use Rattle.std.proofs.Common.{◌≡◌, ℕ, length, ◌+◌, ◌<◌, ap, sym, subst, arith}
use Rattle.fdr_lists.proofs.Options.{not_below}
use Rattle.fdr_sampler.specs.SlotTimes.{time_of_slot}
use Rattle.fdr_stream.specs.Kept.{StreamKept, with_empty_slots}
use Rattle.fdr_stream.specs.Past.{StreamPast, IsPacked, IsSampled, IsDrawing}
use Rattle.fdr_stream.proofs.LateSlots.{IsDrawing-zeros, with_empty_slots-none}
use Rattle.fdr_stream.proofs.stream.draw_words.Goals as goal

-- after one more word
drawn_one : (k k1 k2 : StreamKept) (past : StreamPast) (count time : ℕ) → k1 ≡ with_empty_slots k count → IsDrawing (with_empty_slots k count) past time
    → (IsSampled k1 past → IsSampled k2 past) → (IsSampled k1 past → IsPacked k1 past → IsPacked k2 past)
    → k2.sampler.slots_drawn ≡ k1.sampler.slots_drawn + 1 → time_of_slot (k.sampler.slots_drawn + count) < time → IsDrawing k2 past time
drawn_one k k1 k2 past count time passed at sampled packed more due =
    let now = subst (λ (x : StreamKept). IsDrawing x past time) (sym passed) at in
    let slots : k1.sampler.slots_drawn ≡ k.sampler.slots_drawn + count = ap (λ (x : StreamKept). x.sampler.slots_drawn) passed in
    record {
      sampler = sampled now.sampler;
      packed = packed now.sampler now.packed;
      no_later_slots = omega (arith, more, slots, due);
    }

pub loop-time-init : goal.loop-time-init
loop-time-init c = record {
  draws = λ past n le at. IsDrawing-zeros c.args.drawing.now past c.args.time n c.args.empty_slots at le c.requires.empty (omega (arith, c.requires.due));
  empty = c.requires.empty;
  due = c.requires.due;
  on = omega arith;
}

pub draw_empty_slots-requires-clause-slots : goal.draw_empty_slots-requires-clause-slots
draw_empty_slots-requires-clause-slots c = omega (arith, c.loop-time.invariant.due, c.requires.in_time)

pub draw_word-requires-clause-past : goal.draw_word-requires-clause-past
draw_word-requires-clause-past c =
    let known = c.requires.past in
    let now = subst (λ (x : StreamKept). IsDrawing x known.0 c.args.time) (sym c.draw_empty_slots.ensures)
    (c.loop-time.invariant.draws known.0 known.1 known.2 known.3) in
    (known.0, now.sampler, now.packed)

pub draw_word-requires-clause-more : goal.draw_word-requires-clause-more
draw_word-requires-clause-more c =
    omega (arith, c.loop-time.invariant.due, c.requires.in_time, ap (λ (x : StreamKept). x.sampler.slots_drawn) c.draw_empty_slots.ensures)

pub draw_word-requires-clause-room : goal.draw_word-requires-clause-room
draw_word-requires-clause-room c =
    subst (λ (x : StreamKept). length x.bytes < x.payload) (sym c.draw_empty_slots.ensures) c.loop-time.invariant.empty.room

pub returns-then-is_full-clause-draws : goal.returns-then-is_full-clause-draws
returns-then-is_full-clause-draws c past n le at =
    drawn_one c.loop-time.drawing c.draw_empty_slots.new.self c.draw_word.new.self past c.loop-time.empty c.args.time c.draw_empty_slots.ensures
    (c.loop-time.invariant.draws past n le at) (c.draw_word.ensures.sampled past) (c.draw_word.ensures.packed past) c.draw_word.ensures.slots_drawn
    c.loop-time.invariant.due

pub returns-then-is_full-clause-empty_drawn : goal.returns-then-is_full-clause-empty_drawn
returns-then-is_full-clause-empty_drawn c =
    omega (
      arith,
      c.loop-time.invariant.on,
      c.draw_word.ensures.slots_drawn,
      ap (λ (x : StreamKept). x.sampler.slots_drawn) c.draw_empty_slots.ensures,
    )

pub returns-then-not-is_before-clause-draws : goal.returns-then-not-is_before-clause-draws
returns-then-not-is_before-clause-draws c past n le at =
    drawn_one c.loop-time.drawing c.draw_empty_slots.new.self c.draw_word.new.self past c.loop-time.empty c.args.time c.draw_empty_slots.ensures
    (c.loop-time.invariant.draws past n le at) (c.draw_word.ensures.sampled past) (c.draw_word.ensures.packed past) c.draw_word.ensures.slots_drawn
    c.loop-time.invariant.due

pub returns-then-not-is_before-clause-all : goal.returns-then-not-is_before-clause-all
returns-then-not-is_before-clause-all c few =
    let high = not_below c.is_before.result c.sampling_time.result c.args.time c.is_before.ensures c.if-not-is_before.true in
    omega (arith, high, c.sampling_time.ensures)

pub returns-then-not-is_before-clause-empty_drawn : goal.returns-then-not-is_before-clause-empty_drawn
returns-then-not-is_before-clause-empty_drawn c =
    omega (
      arith,
      c.loop-time.invariant.on,
      c.draw_word.ensures.slots_drawn,
      ap (λ (x : StreamKept). x.sampler.slots_drawn) c.draw_empty_slots.ensures,
    )

pub loop-time-smaller : goal.loop-time-smaller
loop-time-smaller c =
    omega (
      arith,
      c.loop-time.invariant.due,
      c.draw_word.ensures.slots_drawn,
      ap (λ (x : StreamKept). x.sampler.slots_drawn) c.draw_empty_slots.ensures,
    )

pub loop-time-preserved : goal.loop-time-preserved
loop-time-preserved c =
    let k = c.draw_word.new.self in
    let count = c.next_empty_slots-empty.result in
    let due : time_of_slot (k.sampler.slots_drawn + count) < c.args.time =
    omega (arith, c.is_before.ensures.0 c.if-not-is_before.false, c.sampling_time.ensures) in
    record {
      draws = λ past n le at.
          let after : IsDrawing k past c.args.time =
          drawn_one c.loop-time.drawing c.draw_empty_slots.new.self c.draw_word.new.self past c.loop-time.empty c.args.time
          c.draw_empty_slots.ensures (c.loop-time.invariant.draws past n le at) (c.draw_word.ensures.sampled past) (c.draw_word.ensures.packed past)
          c.draw_word.ensures.slots_drawn c.loop-time.invariant.due in
          IsDrawing-zeros k past c.args.time 0 count (subst (λ (x : StreamKept). IsDrawing x past c.args.time) (sym (with_empty_slots-none k)) after)
          (omega arith) c.next_empty_slots-empty.ensures (omega (arith, due));
      empty = c.next_empty_slots-empty.ensures;
      due = due;
      on = omega (
        arith,
        c.loop-time.invariant.on,
        c.draw_word.ensures.slots_drawn,
        ap (λ (x : StreamKept). x.sampler.slots_drawn) c.draw_empty_slots.ensures,
      );
    }
