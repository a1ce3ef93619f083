use Rattle.std.proofs.Common.{◌≡◌, ℕ, ◌+◌, ◌*◌, ◌<◌, List, [], ◌++◌, None, length, take, drop, min, refl, sym, subst, ap, ◌∙◌, arith}
use Rattle.std.proofs.lemmas.Grind.{common_steps}
use Rattle.std.proofs.lemmas.List.{take-append-le, take_all, length-drop}
use Rattle.fdr_sampler.specs.Stream.{stream_of}
use Rattle.fdr_stream.specs.Packing.{last_byte}
use Rattle.fdr_stream.specs.Kept.{StreamKept, late_slots, with_late_slots, HasLateSlots}
use Rattle.fdr_stream.specs.Past.{HasFinished}
use Rattle.fdr_stream.proofs.Standing.{rest_is, few_left, blocks_left}
use Rattle.fdr_stream.proofs.LateSlots.{HasEmptySlots-fewer, HasEmptySlots-none, with_late_slots-none}
use Rattle.fdr_stream.proofs.stream.Stream.finish.Goals as goal

pub draw_late_slots-requires-clause-empty : goal.draw_late_slots-requires-clause-empty
draw_late_slots-requires-clause-empty c =
    let inside = c.self.inside in
    HasEmptySlots-fewer inside.drawing (late_slots inside.drawing inside.counted_to) inside.empty_slots c.self.invariant.empty c.self.invariant.within

caught : (c : goal.After-slice_known-2-1) → c.draw_late_slots.new.drawing ≡ c.args.self.now
caught c = c.draw_late_slots.ensures ∙ c.self.view_is

-- what waited, with the byte that waiting bits begin
rest : goal.After-slice_known-2-1 → List ℕ
rest c = c.args.self.now.bytes ++ last_byte c.args.self.now.odd

count_is : (c : goal.After-slice_known-2-1) → c.give_rest.result ≡ length (rest c)
unfolding rest
count_is c = c.give_rest.ensures.count ∙ ap (λ (k : StreamKept). length (k.bytes ++ last_byte k.odd)) (caught c)

pub invariant_of-self : goal.invariant_of-self
invariant_of-self c =
    let inside = c.self.inside in
    let caught = c.draw_late_slots.ensures in
    let empty : StreamKept = record c.draw_late_slots.new.drawing { odd = None; bytes = [] } in
    let some : 0 < empty.payload = omega (arith, ap (λ (k : StreamKept). k.payload) (caught ∙ c.self.view_is), c.requires.1.packed.payload, c.requires.1.low) in
    let frame : empty.sampler.frame.words ≡ inside.drawing.sampler.frame.words = ap (λ (k : StreamKept). k.sampler.frame.words) caught in
    let slots : empty.sampler.slots_drawn ≡ (with_late_slots inside.drawing inside.counted_to).sampler.slots_drawn =
    ap (λ (k : StreamKept). k.sampler.slots_drawn) caught in
    subst (λ (x : StreamKept). HasLateSlots x 0 c.sampling_time-self-inside.result c.start-self-inside.result) (sym c.give_rest.ensures.left) (record {
      empty = HasEmptySlots-none empty some;
      data_time_is = c.sampling_time-self-inside.ensures;
      within = omega (arith, c.start-self-inside.ensures);
      in_time = omega (arith, c.start-self-inside.ensures);
      words = omega (arith, frame, c.self.invariant.words);
      slots = omega (arith, slots, c.self.invariant.slots, c.self.invariant.in_time);
    })

pub returns-clause-rest : goal.returns-clause-rest
unfolding rest
returns-clause-rest c past st none =
    let k = c.args.self.now in
    let n = c.give_rest.result in
    let behind = drop n c.args.out.now in
    let out : c.give_rest.new.out ≡ rest c ++ behind =
    c.give_rest.ensures.rest ∙ ap (λ (x : StreamKept). x.bytes ++ last_byte x.odd ++ behind) (caught c) in
    ap (take n) out ∙ take-append-le n (rest c) behind (omega (arith, count_is c)) ∙ take_all n (rest c) (omega (arith, count_is c)) ∙ rest_is k past st none

pub returns-clause-count : goal.returns-clause-count
unfolding rest
returns-clause-count c past st none =
    count_is c ∙ ap (λ (xs : List ℕ). length xs) (rest_is c.args.self.now past st none)
    ∙ length-drop (past.payload * past.blocks) (stream_of past.table past.records)

pub returns-clause-blocks : goal.returns-clause-blocks
unfolding rest
returns-clause-blocks c past st none =
    blocks_left c.args.self.now past (rest c) st none refl ∙ ap (λ n. past.blocks + min n 1) (sym (count_is c))

pub returns-clause-last : goal.returns-clause-last
returns-clause-last c past st none =
    let left = drop (past.payload * past.blocks) (stream_of past.table past.records) in
    let few = few_left c.args.self.now past left st (sym (rest_is c.args.self.now past st none)) in
    returns-clause-rest c past st none ∙ sym (take_all past.payload left few)

pub returns-clause-within_payload : goal.returns-clause-within_payload
unfolding rest
returns-clause-within_payload c past st = omega (arith, count_is c, few_left c.args.self.now past (rest c) st refl)

pub returns-clause-finished : goal.returns-clause-finished
returns-clause-finished c past st none =
    let k = c.args.self.now in
    let left : c.give_rest.new.self ≡ record k { odd = None; bytes = [] } =
    c.give_rest.ensures.left ∙ ap (λ (x : StreamKept). let y : StreamKept = record x { odd = None; bytes = [] } in y) (caught c) in
    let none_late : c.give_rest.new.self ≡ with_late_slots c.give_rest.new.self c.start-self-inside.result =
    sym (with_late_slots-none c.give_rest.new.self) ∙ ap (with_late_slots c.give_rest.new.self) (sym c.start-self-inside.ensures) in
    subst (λ (x : StreamKept). HasFinished x past) (sym left ∙ none_late) (record {
      payload = st.packed.payload;
      odd = refl;
      bytes = refl;
      sampler = st.sampler;
    })

pub returns-clause-within : goal.returns-clause-within
returns-clause-within c = grind (arith, common_steps) steps 2000000

pub returns-clause-beyond : goal.returns-clause-beyond
returns-clause-beyond c = grind (arith, common_steps) steps 2000000
