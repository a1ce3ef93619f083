use Rattle.std.proofs.Common.{rules, ◌≡◌, ◌≤◌, ◌+◌, ◌*◌, ◌++◌, List, ℕ, length, take, get_or, sym, ap, ◌∙◌, arith, append-nil, append_assoc}
use Rattle.std.proofs.lemmas.List.{take_all}
use Rattle.fdr_biphase.specs.Cells.{bits_of_bytes, level_after}
use Rattle.fdr_biphase.specs.Packed.{encoded_bytes, turn_of}
use Rattle.fdr_biphase.proofs.Filling.{next_taken, put_two, two_elements}
use Rattle.fdr_biphase.proofs.Tabled.{level_of_turn}
use Rattle.fdr_biphase.proofs.encoder.Encoder.bytes.Goals as goal

pub loop-i-init : goal.loop-i-init
loop-i-init c = record {
  packed = λ first before st. ap (encoded_bytes first) (append-nil before) ∙ sym (append-nil (encoded_bytes first before));
  stands = λ first before st. rw append-nil (c.turn_after-turn.ensures ∙ ap turn_of st.level);
}

pub loop-i-preserved : goal.loop-i-preserved
loop-i-preserved c = record {
  packed = λ first before st.
      let i = c.loop-i.i in
      let bytes = c.args.bytes.now in
      let cells = c.turned-next.result.0 in
      let two : length cells ≡ 2 = search rules in
      let within : 2 * i + 2 ≤ length c.loop-i.room = omega (arith, c.requires, c.loop-i.auto.room) in
      ap (encoded_bytes first) (sym (next_taken before bytes i c.loop-i-test.true))
      ∙ c.turned-next.ensures.packed first (before ++ take i bytes) (c.loop-i.invariant.stands first before st)
      ∙ ap (λ (xs : List ℕ). xs ++ cells) (c.loop-i.invariant.packed first before st)
      ∙ append_assoc (encoded_bytes first before) (take (2 * i) c.loop-i.room) cells
      ∙ ap (λ (xs : List ℕ). encoded_bytes first before ++ (take (2 * i) c.loop-i.room ++ xs)) (two_elements cells two)
      ∙ ap (λ (xs : List ℕ). encoded_bytes first before ++ xs) (sym (put_two c.loop-i.room i (get_or cells 0 0) (get_or cells 1 0) within));
  stands = λ first before st. c.turned-next.ensures.stands first _ (c.loop-i.invariant.stands first before st)
      ∙ ap (λ (xs : List ℕ). turn_of (level_after first (bits_of_bytes xs))) (next_taken before c.args.bytes.now c.loop-i.i c.loop-i-test.true);
}

pub returns-clause-packed : goal.returns-clause-packed
returns-clause-packed c = λ first before st.
    let bytes = c.args.bytes.now in
    let all : c.loop-i.i ≡ length bytes = omega (arith, c.loop-i-test.false, c.loop-i.auto.i-end) in
    ap (λ (xs : List ℕ). encoded_bytes first (before ++ xs)) (sym (take_all c.loop-i.i bytes c.loop-i-test.false))
    ∙ c.loop-i.invariant.packed first before st
    ∙ ap (λ (n : ℕ). encoded_bytes first before ++ take (2 * n) c.loop-i.room) all

pub returns-clause-stands : goal.returns-clause-stands
returns-clause-stands c = λ first before st. record {
  level = level_of_turn _ c.loop-i.turn (c.loop-i.invariant.stands first before st)
      ∙ ap (λ (xs : List ℕ). level_after first (bits_of_bytes (before ++ xs))) (take_all c.loop-i.i c.args.bytes.now c.loop-i-test.false);
}
