use Rattle.std.proofs.Common.{◌≡◌, ℕ, ◌+◌, ◌-◌, ◌*◌, ◌/◌, ◌%◌, ◌^◌, ◌<◌, ap, ◌∙◌, sym, subst, arith}
use Rattle.std.specs.Prelude.{bit_and, bit_or}
use Rattle.std.proofs.lemmas.Nat.{one_shl}
use Rattle.fdr_bits.specs.Fields.{with_field}
use Rattle.fdr_bits.proofs.FieldLemmas.{IsField, with_field_by_mask, with_field_fits}
use Rattle.fdr_sampler.specs.Schedule.{SlotStep}
use Rattle.fdr_sampler.proofs.pieces.with_piece.Goals as goal

by_mask : (word a n v mask : ℕ) → mask ≡ 2 ^ (a + n) - 2 ^ a → IsField word a n v
    → bit_or (bit_and word (65535 - mask)) (v * 2 ^ a % 65536) ≡ with_field word a n v
by_mask word a n v mask is field =
    let high : 1 * 2 ^ (a + n) % 65536 ≡ 2 ^ (a + n) = one_shl (a + n) 16 (omega (arith, field.within)) in
    let low : 1 * 2 ^ a % 65536 ≡ 2 ^ a = one_shl a 16 (omega (arith, field.within)) in
    ap (λ m. bit_or (bit_and word (65535 - m)) (v * 2 ^ a % 65536))
    (is ∙ ap (λ x. x - 2 ^ a) (sym high) ∙ ap (λ x. 1 * 2 ^ (a + n) % 65536 - x) (sym low))
    ∙ with_field_by_mask word a n v field

is_field : (c : goal.After-row_known-1) → IsField c.args.word c.step.inside.low c.step.inside.width c.piece_of.result
is_field c =
    let fits : c.piece_of.result < 2 ^ c.step.inside.width =
    subst (λ (s : SlotStep). c.piece_of.result < 2 ^ s.width) (sym c.step.view_is) c.piece_of.ensures.fits in
    record { word_fits = c.requires; within = c.step.invariant.1; fits = fits }

pub returns-clause-value : goal.returns-clause-value
returns-clause-value c =
    let step = c.step.inside in
    let Written : ℕ → ℕ → ℕ → Type 0 = λ low width piece.
    bit_or (bit_and c.args.word (65535 - step.mask)) (c.piece_of.result * 2 ^ step.low % 65536) ≡ with_field c.args.word low width piece in
    subst (λ (s : SlotStep). Written s.low s.width (c.args.raw / 2 ^ c.args.step.now.shift % 2 ^ c.args.step.now.width)) c.step.view_is
    (subst (Written step.low step.width) c.piece_of.ensures.piece
    (by_mask c.args.word step.low step.width c.piece_of.result step.mask c.step.invariant.4 (is_field c)))

pub returns-clause-twelve_bits : goal.returns-clause-twelve_bits
returns-clause-twelve_bits c =
    let step = c.step.inside in
    let piece = c.piece_of.result in
    subst (λ n. n < 4096) (sym (by_mask c.args.word step.low step.width piece step.mask c.step.invariant.4 (is_field c)))
    (with_field_fits c.args.word step.low step.width piece (is_field c))
