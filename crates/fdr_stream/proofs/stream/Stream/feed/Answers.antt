use Rattle.std.proofs.Common.{◌≡◌, ℕ, ◌<◌, ◌≤◌, ⊎_elim, Bool, false, length, take, drop, refl, sym, ap, ◌∙◌, subst, arith, rules}
use Rattle.std.specs.Prelude.{◌↔◌, IsTrue}
use Rattle.std.proofs.lemmas.Bool.{cases_lt, iff_false}
use Rattle.std.proofs.lemmas.List.{length-drop}
use Rattle.fdr_bus.specs.declared.BusRecord.{BusRecord}
use Rattle.fdr_lists.proofs.Options.{not_below}
use Rattle.fdr_table.specs.Rows.{FrameRow}
use Rattle.fdr_sampler.specs.SlotTimes.{slot_time}
use Rattle.fdr_stream.specs.Kept.{StreamKept, late_slots, with_late_slots, HasEmptySlots, HasLateSlots}
use Rattle.fdr_stream.specs.Past.{StreamPast, MayFeedStream, IsDrawing, RepresentsStream, with_block}
use Rattle.fdr_stream.proofs.Drawn.{block_is, is_due, none_due}
use Rattle.fdr_stream.proofs.Standing.{IsDrawing-fed, Stands-block, Stands-taken}
use Rattle.fdr_stream.proofs.LateSlots.{FindsDrawn, FindsDrawn-late, late_slots-few, time_in_frame, slots_before-most, HasSampled-with_late_slots}
use Rattle.fdr_stream.proofs.LateSlots.{HasEmptySlots-none, HasLateSlots-taken, HasLateSlots-none, with_late_slots-none}
use Rattle.fdr_stream.proofs.stream.Stream.feed.Goals as goal

-- ---- before the next slot that has data

few_late : (c : goal.After-time-1) → late_slots c.self.inside.drawing c.slot_time-time.result ≤ c.self.inside.empty_slots
few_late c =
    let inside = c.self.inside in
    let high = not_below c.is_before.result inside.data_time c.slot_time-time.result c.is_before.ensures c.if-not-is_before.true in
    late_slots-few inside.drawing c.slot_time-time.result inside.empty_slots (omega (arith, high, c.self.invariant.data_time_is))

finds : (c : goal.After-time-1) (past : StreamPast) → RepresentsStream c.args.self.now past → MayFeedStream past c.args.next.now
    → FindsDrawn (with_late_slots c.self.inside.drawing c.slot_time-time.result) past c.args.next.now
finds c past st may =
    let inside = c.self.inside in
    let now = with_late_slots inside.drawing inside.counted_to in
    let stood : RepresentsStream now past = subst (λ (x : StreamKept). RepresentsStream x past) (sym c.self.view_is) st in
    FindsDrawn-late inside.drawing inside.counted_to c.slot_time-time.result inside.empty_slots past c.args.next.now
    (IsDrawing-fed now past c.args.next.now stood may) c.slot_time-time.ensures c.self.invariant.empty c.self.invariant.within (few_late c)

pub invariant_of-self : goal.invariant_of-self
invariant_of-self c =
    let inside = c.self.inside in
    let most = slots_before-most inside.drawing.sampler.frame.words c.args.next.now.time c.slot_time-time.result c.self.invariant.words
    c.requires.2.in_time c.slot_time-time.ensures in
    HasLateSlots-taken inside.drawing c.take.new.self inside.counted_to c.slot_time-time.result inside.empty_slots inside.data_time c.args.next.now
    c.take.ensures c.self.invariant (few_late c) most

pub returns-then-not-is_before-clause-exactly : goal.returns-then-not-is_before-clause-exactly
returns-then-not-is_before-clause-exactly c past st may =
    let found = finds c past st may in
    let k = with_late_slots c.self.inside.drawing c.slot_time-time.result in
    let none = none_due k past c.args.next.now found.at.packed (omega (arith, st.low)) found.all (omega (arith, found.few, found.at.packed.payload)) in
    (λ given. cc, λ due. absurd (omega (arith, none, due)))

pub returns-then-not-is_before-clause-taken : goal.returns-then-not-is_before-clause-taken
returns-then-not-is_before-clause-taken c past st may given =
    let found = finds c past st may in
    let time = c.slot_time-time.result in
    let k = c.self.inside.drawing in
    Stands-taken c.args.self.now (with_late_slots k time) (with_late_slots c.take.new.self time) past c.args.next.now st may found.at found.all found.few
    (HasSampled-with_late_slots k c.take.new.self time c.args.next.now c.take.ensures)

-- ---- at a later time

not_full : (b : Bool) (payload waiting : ℕ) → (IsTrue b ↔ (payload ≤ waiting)) → b ≡ false → waiting < payload
not_full b payload waiting says missed = ⊎_elim (λ lt. lt) (λ ge. absurd (iff_false says missed ge)) (cases_lt waiting payload)

-- a record finds the slots before it drawn, except some empty ones
fed : (k old : StreamKept) (past : StreamPast) (r : BusRecord) (time : ℕ) → k ≡ old → RepresentsStream old past → MayFeedStream past r
    → time ≡ slot_time k.sampler.frame.words r.time → IsDrawing k past time
fed k old past r time is st may time_is =
    let at = IsDrawing-fed k past r (subst (λ (x : StreamKept). RepresentsStream x past) (sym is) st) may in
    subst (IsDrawing k past) (sym (time_in_frame k past r.time time at.sampler time_is)) at

-- so does one that words are drawn from
fed_later : (k old k' : StreamKept) (past : StreamPast) (r : BusRecord) (time : ℕ) → k ≡ old → RepresentsStream old past → MayFeedStream past r
    → time ≡ slot_time k.sampler.frame.words r.time → (IsDrawing k past time → IsDrawing k' past time)
    → IsDrawing k' past (slot_time past.table.frame.words r.time)
fed_later k old k' past r time is st may time_is draws =
    let at = fed k old past r time is st may time_is in
    subst (IsDrawing k' past) (time_in_frame k past r.time time at.sampler time_is) (draws at)

pub draw_words-self-inside-requires-clause-past : goal.draw_words-self-inside-requires-clause-past
draw_words-self-inside-requires-clause-past c =
    let known = c.requires in
    let inside = c.self.inside in
    let now = with_late_slots inside.drawing inside.counted_to in (
      known.0,
      late_slots inside.drawing inside.counted_to,
      c.self.invariant.within,
      fed now c.args.self.now known.0 c.args.next.now c.slot_time-time.result c.self.view_is known.1 known.2 c.slot_time-time.ensures,
    )

pub draw_words-self-inside-requires-clause-due : goal.draw_words-self-inside-requires-clause-due
draw_words-self-inside-requires-clause-due c = omega (arith, c.is_before.ensures.0 c.if-not-is_before.false, c.self.invariant.data_time_is)

pub draw_words-self-inside-requires-clause-in_time : goal.draw_words-self-inside-requires-clause-in_time
draw_words-self-inside-requires-clause-in_time c =
    slots_before-most c.self.inside.drawing.sampler.frame.words c.args.next.now.time c.slot_time-time.result c.self.invariant.words c.requires.2.in_time
    c.slot_time-time.ensures

-- where a block is given

at_block : (c : goal.After-self-then-is_full-1) (past : StreamPast) → RepresentsStream c.args.self.now past → MayFeedStream past c.args.next.now
    → IsDrawing c.draw_words-self-inside.new.drawing past (slot_time past.table.frame.words c.args.next.now.time)
at_block c past st may =
    let inside = c.self.inside in
    fed_later (with_late_slots inside.drawing inside.counted_to) c.args.self.now c.draw_words-self-inside.new.drawing past c.args.next.now
    c.slot_time-time.result c.self.view_is st may c.slot_time-time.ensures
    (c.draw_words-self-inside.ensures.draws past (late_slots inside.drawing inside.counted_to) c.self.invariant.within)

pub give-requires-clause-room : goal.give-requires-clause-room
give-requires-clause-room c =
    let known = c.requires in
    let inside = c.self.inside in
    let drawn = fed_later (with_late_slots inside.drawing inside.counted_to) c.args.self.now c.draw_words-self-inside.new.drawing known.0
    c.args.next.now c.slot_time-time.result c.self.view_is known.1 known.2 c.slot_time-time.ensures
    (c.draw_words-self-inside.ensures.draws known.0 (late_slots inside.drawing inside.counted_to) c.self.invariant.within) in
    omega (arith, drawn.packed.payload, known.3)

on : (c : goal.After-self-then-is_full-1) → c.args.self.now.sampler.slots_drawn ≤ c.draw_words-self-inside.new.drawing.sampler.slots_drawn
on c =
    let inside = c.self.inside in
    let view : (with_late_slots inside.drawing inside.counted_to).sampler.slots_drawn ≡ c.args.self.now.sampler.slots_drawn =
    ap (λ (x : StreamKept). x.sampler.slots_drawn) c.self.view_is in
    omega (arith, view, c.draw_words-self-inside.ensures.empty_drawn, c.self.invariant.within)

pub invariant_of-self-then-is_full : goal.invariant_of-self-then-is_full
invariant_of-self-then-is_full c =
    let known = c.requires in
    let k = c.draw_words-self-inside.new.drawing in
    let rest : StreamKept = record k { bytes = drop k.payload k.bytes } in
    let drawn = at_block c known.0 known.1 known.2 in
    let room : length rest.bytes < rest.payload =
    omega (arith, length-drop k.payload k.bytes, c.draw_words-self-inside.ensures.within_room, drawn.packed.payload, known.1.low) in
    let count = c.draw_words-self-inside.result in
    let none : count ≡ 0 = c.draw_words-self-inside.ensures.whole (c.is_full.ensures.0 c.if-is_full.true) in
    let empty = subst (HasEmptySlots rest) (sym none) (HasEmptySlots-none rest room) in
    let words = known.1.packed.words in
    let most = slots_before-most known.0.table.frame.words c.args.next.now.time (slot_time known.0.table.frame.words c.args.next.now.time)
    words known.2.in_time refl in
    let late = HasLateSlots-none rest k known.0 (slot_time known.0.table.frame.words c.args.next.now.time) count c.sampling_time-self-inside.result
    drawn refl most empty c.sampling_time-self-inside.ensures in
    subst (λ (x : StreamKept). HasLateSlots x count c.sampling_time-self-inside.result c.start-self-inside.result) (sym c.give.ensures.rest)
    (subst (HasLateSlots rest count c.sampling_time-self-inside.result) (sym c.start-self-inside.ensures) late)

pub returns-then-is_full-clause-exactly : goal.returns-then-is_full-clause-exactly
returns-then-is_full-clause-exactly c past st may =
    let drawn = at_block c past st may in
    let whole = c.is_full.ensures.0 c.if-is_full.true in (
      λ given. is_due c.draw_words-self-inside.new.drawing past c.args.next.now drawn.packed (omega (arith, st.low)) drawn.no_later_slots
          (omega (arith, whole, drawn.packed.payload)),
      λ due. refl,
    )

pub returns-then-is_full-clause-block : goal.returns-then-is_full-clause-block
returns-then-is_full-clause-block c past st may given =
    let k = c.draw_words-self-inside.new.drawing in
    let drawn = at_block c past st may in
    let whole = c.is_full.ensures.0 c.if-is_full.true in
    let size = drawn.packed.payload in
    ap (λ n. take n c.give.new.out) (sym size) ∙ c.give.ensures.block ∙ ap (λ n. take n k.bytes) size
    ∙ block_is k past c.args.next.now drawn.packed drawn.no_later_slots (omega (arith, whole, size))

pub returns-then-is_full-clause-begun : goal.returns-then-is_full-clause-begun
returns-then-is_full-clause-begun c past st may given =
    let whole = c.is_full.ensures.0 c.if-is_full.true in
    let is : c.give.new.self ≡ with_late_slots c.give.new.self c.start-self-inside.result =
    sym (with_late_slots-none c.give.new.self) ∙ ap (with_late_slots c.give.new.self) (sym c.start-self-inside.ensures) in
    subst (λ (x : StreamKept). RepresentsStream x (with_block past c.args.next.now)) is
    (Stands-block c.args.self.now c.draw_words-self-inside.new.drawing c.give.new.self past c.args.next.now st (at_block c past st may) (on c) whole
    c.draw_words-self-inside.ensures.within_room c.give.ensures.rest)

pub returns-then-is_full-clause-beyond : goal.returns-then-is_full-clause-beyond
returns-then-is_full-clause-beyond c past st given =
    let known = c.requires in
    let drawn = at_block c known.0 known.1 known.2 in
    let size : c.draw_words-self-inside.new.drawing.payload ≡ past.payload = drawn.packed.payload ∙ sym known.1.packed.payload ∙ st.packed.payload in
    ap (λ n. drop n c.give.new.out) (sym size) ∙ c.give.ensures.beyond ∙ ap (λ n. drop n c.args.out.now) size

-- where the record is taken

few : (c : goal.After-time-2-1) → length c.draw_words-self-inside.new.drawing.bytes < c.draw_words-self-inside.new.drawing.payload
few c =
    let k = c.draw_words-self-inside.new.drawing in
    not_full c.is_full.result k.payload (length k.bytes) c.is_full.ensures c.if-is_full.false

within : (c : goal.After-time-2-1) → late_slots c.draw_words-self-inside.new.drawing c.slot_time-time.result ≤ c.draw_words-self-inside.result
within c =
    late_slots-few c.draw_words-self-inside.new.drawing c.slot_time-time.result c.draw_words-self-inside.result
    (c.draw_words-self-inside.ensures.all (few c))

drawn_to : (c : goal.After-time-2-1) (past : StreamPast) → RepresentsStream c.args.self.now past → MayFeedStream past c.args.next.now
    → IsDrawing c.draw_words-self-inside.new.drawing past (slot_time past.table.frame.words c.args.next.now.time)
drawn_to c past st may =
    let inside = c.self.inside in
    fed_later (with_late_slots inside.drawing inside.counted_to) c.args.self.now c.draw_words-self-inside.new.drawing past c.args.next.now
    c.slot_time-time.result c.self.view_is st may c.slot_time-time.ensures
    (c.draw_words-self-inside.ensures.draws past (late_slots inside.drawing inside.counted_to) c.self.invariant.within)

-- the frame is the same
time_is : (c : goal.After-time-2-1) (past : StreamPast) → RepresentsStream c.args.self.now past → MayFeedStream past c.args.next.now
    → c.slot_time-time.result ≡ slot_time c.draw_words-self-inside.new.drawing.sampler.frame.words c.args.next.now.time
time_is c past st may =
    let inside = c.self.inside in
    let now = with_late_slots inside.drawing inside.counted_to in
    let time = c.slot_time-time.result in
    let at = fed now c.args.self.now past c.args.next.now time c.self.view_is st may c.slot_time-time.ensures in
    time_in_frame now past c.args.next.now.time time at.sampler c.slot_time-time.ensures
    ∙ sym (ap (λ (f : FrameRow). slot_time f.words c.args.next.now.time) (drawn_to c past st may).sampler.frame)

finds_later : (c : goal.After-time-2-1) (past : StreamPast) → RepresentsStream c.args.self.now past → MayFeedStream past c.args.next.now
    → FindsDrawn (with_late_slots c.draw_words-self-inside.new.drawing c.slot_time-time.result) past c.args.next.now
finds_later c past st may =
    let k = c.draw_words-self-inside.new.drawing in
    let r = c.args.next.now in
    FindsDrawn-late k 0 c.slot_time-time.result c.draw_words-self-inside.result past r
    (subst (λ (x : StreamKept). IsDrawing x past (slot_time past.table.frame.words r.time)) (sym (with_late_slots-none k)) (drawn_to c past st may))
    (time_is c past st may) (c.draw_words-self-inside.ensures.empty (few c)) (omega arith) (within c)

pub invariant_of-self-2 : goal.invariant_of-self-2
invariant_of-self-2 c =
    let known = c.requires in
    let k = c.draw_words-self-inside.new.drawing in
    let r = c.args.next.now in
    let count = c.draw_words-self-inside.result in
    let data_time = c.sampling_time-self-inside.result in
    let time = slot_time known.0.table.frame.words r.time in
    let most = slots_before-most known.0.table.frame.words r.time time known.1.packed.words known.2.in_time refl in
    let late = HasLateSlots-none k k known.0 time count data_time (drawn_to c known.0 known.1 known.2) refl most
    (c.draw_words-self-inside.ensures.empty (few c)) c.sampling_time-self-inside.ensures in
    let at_most = slots_before-most c.self.inside.drawing.sampler.frame.words r.time c.slot_time-time.result c.self.invariant.words known.2.in_time
    c.slot_time-time.ensures in
    HasLateSlots-taken k c.take-2.new.self 0 c.slot_time-time.result count data_time r c.take-2.ensures late (within c) at_most

pub returns-clause-exactly : goal.returns-clause-exactly
returns-clause-exactly c past st may =
    let found = finds_later c past st may in
    let k = with_late_slots c.draw_words-self-inside.new.drawing c.slot_time-time.result in
    let none = none_due k past c.args.next.now found.at.packed (omega (arith, st.low)) found.all (omega (arith, found.few, found.at.packed.payload)) in
    (λ given. cc, λ due. absurd (omega (arith, none, due)))

pub returns-clause-taken : goal.returns-clause-taken
returns-clause-taken c past st may given =
    let time = c.slot_time-time.result in
    let k = c.draw_words-self-inside.new.drawing in
    let found = finds_later c past st may in
    Stands-taken c.args.self.now (with_late_slots k time) (with_late_slots c.take-2.new.self time) past c.args.next.now st may found.at found.all found.few
    (HasSampled-with_late_slots k c.take-2.new.self time c.args.next.now c.take-2.ensures)

pub returns-then-is_full-clause-taken : goal.returns-then-is_full-clause-taken
returns-then-is_full-clause-taken c = search rules

pub returns-then-is_full-clause-untouched : goal.returns-then-is_full-clause-untouched
returns-then-is_full-clause-untouched c = search rules
