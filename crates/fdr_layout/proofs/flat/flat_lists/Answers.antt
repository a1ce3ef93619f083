use Rattle.std.proofs.Common.{◌≡◌, ◌<◌, ◌*◌, map, length, get_or, ap, sym, subst, ◌∙◌, arith}
use Rattle.std.specs.List.{All, range_with_len, enumerate_from}
use Rattle.std.proofs.lemmas.List.{length-map}
use Rattle.fdr_layout.specs.Samples.{Sample, samples, last_at}
use Rattle.fdr_layout.specs.SlotParts.{SlotPart}
use Rattle.fdr_layout.specs.declared.flat.FlatLists.{FlatLists}
use Rattle.fdr_layout.specs.Drafts.{listed, numbers_by_bit, starts_by_slot, picked, lowest_bits, AreFlatLists}
use Rattle.fdr_layout.proofs.Few.{samples_few}
use Rattle.fdr_layout.proofs.Drafting.{draft_length}
use Rattle.fdr_layout.proofs.Laying.{lasts_within, bits_within, slot_starts_long}
use Rattle.fdr_layout.proofs.flat.flat_lists.Goals as goal

pub by_bit-requires-clause-within : goal.by_bit-requires-clause-within
by_bit-requires-clause-within c =
    let t = c.args.t.now in
    subst (λ v. All (λ x. x < 768 * v) c.deref-2.result.now) (sym c.words_of-words.ensures.words)
    (lasts_within t c.deref-2.result.now (omega (arith, c.words_of-words.ensures.words, c.words_of-words.ensures.some_words))
    (c.deref-2.ensures.value ∙ c.in_ok-list.ensures.draft.ends))

pub by_bit-requires-clause-within_u32 : goal.by_bit-requires-clause-within_u32
by_bit-requires-clause-within_u32 c =
    let t = c.args.t.now in
    let long : length c.deref-2.result.now ≡ length (samples t) =
    ap length (c.deref-2.ensures.value ∙ c.in_ok-list.ensures.draft.ends) ∙ length-map (samples t) (λ (s : Sample). last_at s.parts) in
    omega (arith, long, samples_few t c.holds.ensures.sound)

pub by_bit-requires-2-clause-within : goal.by_bit-requires-2-clause-within
by_bit-requires-2-clause-within c =
    subst (λ v. All (λ x. x < 768 * v) c.deref-3.result.now) (sym c.words_of-words.ensures.words)
    (bits_within c.args.t.now c.deref-3.result.now c.deref.result.now (c.deref.ensures.value ∙ c.in_ok-list.ensures.draft.pieces)
    (c.deref-3.ensures.value ∙ c.in_ok-bits.ensures))

pub by_bit-requires-2-clause-within_u32 : goal.by_bit-requires-2-clause-within_u32
by_bit-requires-2-clause-within_u32 c =
    let t = c.args.t.now in
    let d = c.in_ok-list.field-0 in
    let long : length c.deref-3.result.now ≡ length c.deref.result.now =
    ap length (c.deref-3.ensures.value ∙ c.in_ok-bits.ensures) ∙ length-map c.deref.result.now (λ (a : SlotPart). a.part.at) in
    omega (
      arith,
      long,
      ap length c.deref.ensures.value,
      c.in_ok-list.ensures.parts,
      draft_length (samples t) d.list.items d.lasts.items d.parts.items d.starts.items c.in_ok-list.ensures.draft,
      samples_few t c.holds.ensures.sound,
    )

pub cycle_starts-requires-clause-long : goal.cycle_starts-requires-clause-long
cycle_starts-requires-clause-long c =
    ap length (c.deref-6.ensures.value ∙ c.in_ok-ends.ensures.starts) ∙ slot_starts_long c.deref-2.result.now (64 * c.words_of-words.result)

pub returns : goal.returns
returns c =
    let ss = samples c.args.t.now in
    let w = c.words_of-words.result in
    let d = c.in_ok-list.field-0 in
    let draft = c.in_ok-list.ensures.draft in
    let lasts = c.deref-2.ensures.value ∙ draft.ends in
    let bits = c.deref-3.ensures.value ∙ c.in_ok-bits.ensures ∙ ap lowest_bits c.deref.ensures.value in
    let lists : FlatLists = record {
      ending = c.in_ok-ending.ending;
      cycle_starts = c.in_ok-cycle_starts.cycle_starts;
      by_sample = d.parts;
      sample_starts = d.starts;
      by_slot = c.in_ok-by_slot.by_slot;
      slot_starts = c.in_ok-slots.slots.starts;
    } in
    let made : AreFlatLists ss w lists = record {
      some_words = c.words_of-words.ensures.some_words;
      endings = c.in_ok-ending.ensures ∙ ap (λ xs. picked xs c.deref-8.result.now) (c.deref-7.ensures.value ∙ draft.each)
          ∙ ap (picked (map listed (enumerate_from 0 ss))) (c.deref-8.ensures.value ∙ c.in_ok-ends.ensures.numbers
          ∙ ap (λ xs. numbers_by_bit xs (768 * w)) lasts);
      cycles = c.in_ok-cycle_starts.ensures ∙ ap (λ xs. map (λ k. get_or xs (4 * w * k) 0) (range_with_len 0 17)) (c.deref-6.ensures.value
          ∙ c.in_ok-ends.ensures.starts ∙ ap (λ xs. starts_by_slot xs (64 * w)) lasts);
      pieces = draft.pieces;
      begins = draft.begins;
      standing = c.in_ok-by_slot.ensures ∙ ap (λ xs. picked xs c.deref-5.result.now) c.deref-4.ensures.value
          ∙ ap (picked d.parts.items) (c.deref-5.ensures.value ∙ c.in_ok-slots.ensures.numbers ∙ ap (λ xs. numbers_by_bit xs (768 * w)) bits);
      slots = c.in_ok-slots.ensures.starts ∙ ap (λ xs. starts_by_slot xs (64 * w)) bits;
    } in
    subst (λ v. AreFlatLists ss v lists) c.words_of-words.ensures.words made
