use Rattle.std.proofs.Common.{◌≡◌, ◌+◌, ◌*◌, ◌^◌, ◌%◌, ◌++◌, ◌∷◌, [], Bool, List, ℕ, true, false, refl, arith}
use Rattle.fdr_biphase.specs.Packed.{packed_bits}
use Rattle.fdr_biphase.specs.Reading.{RepresentsPacker}
use Rattle.fdr_biphase.proofs.Packers.{packer_full, packer_more, pushed_bit, pushed_fits}
use Rattle.fdr_biphase.proofs.packer.BitPacker.push.Goals.{After-from}
use Rattle.fdr_biphase.proofs.packer.BitPacker.push.Goals as goal

one : (c : After-from) → c.args.bit ≡ true → c.from.result ≡ 1
one c e = rw e at c.from.ensures

zero : (c : After-from) → c.args.bit ≡ false → c.from.result ≡ 0
zero c e = rw e at c.from.ensures

packed : (c : After-from) (bits : List Bool) (bytes : List ℕ) (st : RepresentsPacker c.args.self.now bits bytes)
    → c.args.self.now.byte + c.from.result * 2 ^ c.args.self.now.count % 256 ≡ packed_bits (st.rest ++ c.args.bit ∷ [])
packed c bits bytes st = pushed_bit c.args.bit st.rest _ _ _ (one c) (zero c) st.byte st.count st.few

pub overflow_add-byte : goal.overflow_add-byte
overflow_add-byte c =
    let st = c.requires.2 in
    omega (arith, pushed_fits c.args.bit st.rest _ _ _ (one c) (zero c) st.byte st.count st.few)

pub returns-then-self-eq7-clause-stands : goal.returns-then-self-eq7-clause-stands
returns-then-self-eq7-clause-stands c = λ bits bytes st.
    let at = (goal.at.returns-then-self-eq7-clause-stands c).After-from in
    packer_full c.args.self.now c.new.result c.args.bit _ bits bytes st (packed at bits bytes st) c.if-self-eq7.true c.new.ensures.empty c.new.ensures.zero

pub returns-clause-stands : goal.returns-clause-stands
returns-clause-stands c = λ bits bytes st.
    let at = (goal.at.returns-clause-stands c).After-from in
    packer_more c.args.self.now _ c.args.bit bits bytes st (packed at bits bytes st) c.if-self-eq7.false refl
