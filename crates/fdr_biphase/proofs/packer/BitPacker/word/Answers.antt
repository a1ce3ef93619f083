use Rattle.std.proofs.Common.{◌≡◌, ◌+◌, ◌*◌, ◌%◌, ◌^◌, ◌/◌, ◌++◌, List, ℕ, ap, sym, ◌∙◌, refl, subst}
use Rattle.std.proofs.lemmas.Nat.{and_mask}
use Rattle.fdr_biphase.specs.Reading.{RepresentsPacker}
use Rattle.fdr_biphase.specs.Words.{word_bits}
use Rattle.fdr_biphase.specs.declared.packer.BitPacker.{BitPacker}
use Rattle.fdr_biphase.proofs.Joined.{four_bytes, packed_joined}
use Rattle.fdr_biphase.proofs.packer.BitPacker.word.Goals as goal

pub returns : goal.returns
returns c = record {
  stands = λ before bytes st.
      let p = c.args.self.now in
      let j = c.from.result + c.from-2.result * 2 ^ p.count % 2 ^ 64 in
      let q : BitPacker = record { byte = j / 2 ^ 32; count = p.count } in
      let is : j ≡ p.byte + c.args.bits * 2 ^ p.count % 2 ^ 64 =
      ap (λ (k : ℕ). k + c.from-2.result * 2 ^ p.count % 2 ^ 64) c.from.ensures
      ∙ ap (λ (k : ℕ). p.byte + k * 2 ^ p.count % 2 ^ 64) c.from-2.ensures in
      subst (λ (xs : List ℕ). RepresentsPacker q (before ++ word_bits 32 c.args.bits) (bytes ++ xs))
      (sym (c.to_le_bytes.ensures ∙ ap four_bytes (and_mask j 32)))
      (packed_joined p before bytes c.args.bits j q st c.ranges.bits.fits is refl refl);
}
