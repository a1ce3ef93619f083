use Rattle.std.proofs.Common.{◌≡◌, ◌++◌, ◌∷◌, [], ap, subst, ◌∙◌, refl, List, Bool, Option, arith, take}
use Rattle.std.specs.Prelude.{IfSome}
use Rattle.fdr_biphase.specs.Cells.{bits_of_bytes}
use Rattle.fdr_biphase.specs.Packed.{answered_byte, byte_bits}
use Rattle.fdr_biphase.specs.Reading.{MissesLevel, ReadsLevels}
use Rattle.fdr_biphase.specs.declared.Missing.{Missing}
use Rattle.fdr_biphase.proofs.Encoding.{tested}
use Rattle.fdr_biphase.proofs.Packers.{all_levels, few_waiting, length-levels, misses_next, none_where, reads_next}
use Rattle.fdr_biphase.proofs.reader.LevelReader.byte.Goals as goal

pub push-requires : goal.push-requires
push-requires c =
    let came = c.requires.0 in (
      bits_of_bytes came ++ take c.loop-i.i (byte_bits c.args.levels),
      c.requires.1 ++ answered_byte c.loop-i.byte,
      c.loop-i.invariant.reads came c.requires.1 c.requires.2,
      omega (arith, length-levels came c.args.levels c.loop-i.i, c.requires.3, c.loop-i-test.true),
    )

pub returns-in-Err-clause-missing : goal.returns-in-Err-clause-missing
returns-in-Err-clause-missing c = λ came bytes m st e.
    let misses = c.in-Err.ensures.missing _ _ (c.loop-i.invariant.reads came bytes st) in
    let all = misses_next c.push.new.self came c.args.levels c.loop-i.i _ _ _ c.loop-i-test.true (tested _ _ refl) misses in
    subst (λ (o : Option Missing). IfSome o (λ (x : Missing). MissesLevel c.push.new.self (bits_of_bytes (came ++ c.args.levels ∷ []))
    (bytes ++ answered_byte c.loop-i.byte) x.at)) e all

pub loop-i-preserved : goal.loop-i-preserved
loop-i-preserved c = record {
  reads = λ came bytes st.
      let next = c.in-Ok.ensures.stands _ _ (c.loop-i.invariant.reads came bytes st) in
      rw c.or-byte.ensures (reads_next c.push.new.self came c.args.levels c.loop-i.i _ bytes c.loop-i.byte c.in-Ok.complete c.loop-i-test.true
      (tested _ _ refl) (λ had. none_where c.in-Ok.complete (λ some.
      omega (arith, c.loop-i.invariant.few had, c.in-Ok.ensures.completes some, c.loop-i-test.true))) next);
  few = rw c.or-byte.ensures (few_waiting c.loop-i.byte c.in-Ok.complete c.loop-i.self.packer.count c.push.new.self.packer.count c.loop-i.i
      c.loop-i.invariant.few c.in-Ok.ensures.count c.in-Ok.ensures.emptied);
}

pub returns-clause-stands : goal.returns-clause-stands
returns-clause-stands c = λ came bytes st e.
    let eight : c.loop-i.i ≡ 8 = omega (arith, c.loop-i-test.false, c.loop-i.auto.i-end) in
    subst (λ (xs : List Bool). ReadsLevels c.loop-i.self xs (bytes ++ answered_byte c.loop-i.byte))
    (ap (λ n. bits_of_bytes came ++ take n (byte_bits c.args.levels)) eight ∙ all_levels came c.args.levels) (c.loop-i.invariant.reads came bytes st)
