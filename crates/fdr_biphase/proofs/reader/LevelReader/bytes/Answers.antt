use Rattle.std.proofs.Common.{◌≡◌, ◌+◌, ◌++◌, ◌∷◌, [], List, Bool, ℕ, false, Option, None, Some, sym, ◌∙◌, refl, subst, arith, take, drop, get_or}
use Rattle.std.proofs.Common.{length-append, append-nil}
use Rattle.std.specs.Prelude.{is_some}
use Rattle.std.proofs.lemmas.List.{length-take, take_all}
use Rattle.fdr_biphase.specs.Cells.{bits_of_bytes}
use Rattle.fdr_biphase.specs.Reading.{MissesLevel, ReadsLevels}
use Rattle.fdr_biphase.specs.declared.Missing.{Missing}
use Rattle.fdr_biphase.specs.declared.reader.LevelReader.{LevelReader}
use Rattle.fdr_biphase.proofs.Filling.{next_taken, rest_taken, more_taken}
use Rattle.fdr_biphase.proofs.Texts.{misses_more}
use Rattle.fdr_biphase.proofs.reader.LevelReader.bytes.Goals as goal

none_of : (o : Option Missing) → is_some o ≡ false → o ≡ None
none_of None none = refl
none_of (Some m) none = absurd (cc)

-- a reader and a room that stayed
kept : (r s : LevelReader) (levels : List Bool) (bytes room now : List ℕ) (n : ℕ) → r ≡ s → now ≡ room → ReadsLevels s levels (bytes ++ take n room)
    → ReadsLevels r levels (bytes ++ take n now)
kept r s levels bytes room now n same whole reads =
    subst (λ (q : LevelReader). ReadsLevels q levels (bytes ++ take n now)) (sym same)
    (subst (λ (xs : List ℕ). ReadsLevels s levels (bytes ++ take n xs)) (sym whole) reads)

pub loop-at-init : goal.loop-at-init
loop-at-init c = record {
  reads = λ came bytes st. subst (λ (xs : List ℕ). ReadsLevels c.args.self.now (bits_of_bytes xs) (bytes ++ [])) (sym (append-nil came))
      (subst (λ (ys : List ℕ). ReadsLevels c.args.self.now (bits_of_bytes came) ys) (sym (append-nil bytes)) st);
  within = omega arith;
  few = omega arith;
}

pub word-requires : goal.word-requires
word-requires c =
    let came = c.requires.reads.0 in
    let levels = c.args.levels.now in
    let at = c.loop-at.at in
    record {
      reads = (
        came ++ take at levels,
        c.requires.reads.1 ++ take c.loop-at.count c.loop-at.room,
        c.loop-at.invariant.reads came c.requires.reads.1 c.requires.reads.2,
        omega (arith, length-append came (take at levels), length-take at levels, c.requires.reads.3, c.loop-at.invariant.within),
      );
      within = c.loop-at.invariant.within;
      room = omega (arith, c.requires.room, c.loop-at.auto.room);
      few = c.loop-at.invariant.few;
    }

pub single-filled-requires : goal.single-filled-requires
single-filled-requires c =
    let came = c.requires.reads.0 in
    let levels = c.args.levels.now in
    let at = c.loop-at.at in
    record {
      reads = (
        came ++ take at levels,
        c.requires.reads.1 ++ take c.loop-at.count c.word.new.room,
        kept c.word.new.self c.loop-at.self _ c.requires.reads.1 c.loop-at.room c.word.new.room c.loop-at.count (c.word.ensures.left c.if-word.false)
            (c.word.ensures.kept c.if-word.false) (c.loop-at.invariant.reads came c.requires.reads.1 c.requires.reads.2),
        omega (arith, length-append came (take at levels), length-take at levels, c.requires.reads.3, c.loop-at-test.true),
      );
      room = omega (arith, c.requires.room, c.loop-at.auto.room, c.word.ensures.length, c.loop-at.invariant.few, c.loop-at-test.true);
    }

pub loop-at-preserved : goal.loop-at-preserved
loop-at-preserved c =
    let levels = c.args.levels.now in
    let at = c.loop-at.at in
    record {
      reads = λ came bytes st.
          let had = kept c.word.new.self c.loop-at.self (bits_of_bytes (came ++ take at levels)) bytes c.loop-at.room c.word.new.room c.loop-at.count
          (c.word.ensures.left c.if-word.false) (c.word.ensures.kept c.if-word.false) (c.loop-at.invariant.reads came bytes st) in
          let none = none_of c.single-filled.result.missing (sym c.is_some.ensures ∙ c.if-is_some.false) in
          subst (λ (xs : List ℕ). ReadsLevels c.single-filled.new.self (bits_of_bytes xs)
          (bytes ++ take c.single-filled.result.count c.single-filled.new.room)) (next_taken came levels at c.loop-at-test.true)
          (c.single-filled.ensures.stands (came ++ take at levels) bytes had none);
      within = omega (arith, c.loop-at-test.true);
      few = omega (arith, c.single-filled.ensures.count, c.loop-at.invariant.few);
    }

pub loop-at-preserved-then-word : goal.loop-at-preserved-then-word
loop-at-preserved-then-word c =
    let levels = c.args.levels.now in
    let at = c.loop-at.at in
    record {
      reads = λ came bytes st.
          subst (λ (xs : List ℕ). ReadsLevels c.word.new.self (bits_of_bytes xs) (bytes ++ take (c.loop-at.count + 4) c.word.new.room))
          (more_taken came levels at 8)
          (c.word.ensures.stands (came ++ take at levels) bytes (c.loop-at.invariant.reads came bytes st) c.if-word.true);
      within = c.word.ensures.within c.if-word.true;
      few = omega (arith, c.loop-at.invariant.few);
    }

pub returns-then-is_some-clause-missing : goal.returns-then-is_some-clause-missing
returns-then-is_some-clause-missing c = λ came bytes m st e.
    let levels = c.args.levels.now in
    let at = c.loop-at.at in
    let had = kept c.word.new.self c.loop-at.self (bits_of_bytes (came ++ take at levels)) bytes c.loop-at.room c.word.new.room c.loop-at.count
    (c.word.ensures.left c.if-word.false) (c.word.ensures.kept c.if-word.false) (c.loop-at.invariant.reads came bytes st) in
    let given = bytes ++ take c.single-filled.result.count c.single-filled.new.room in
    subst (λ (xs : List ℕ). MissesLevel c.single-filled.new.self (bits_of_bytes xs) given m.at) (rest_taken came levels at c.loop-at-test.true)
    (misses_more c.single-filled.new.self ((came ++ take at levels) ++ get_or levels at 0 ∷ []) (drop (at + 1) levels) given m.at
    (c.single-filled.ensures.missing (came ++ take at levels) bytes m had e))

pub returns-clause-stands : goal.returns-clause-stands
returns-clause-stands c = λ came bytes st _.
    subst (λ (xs : List ℕ). ReadsLevels c.loop-at.self (bits_of_bytes (came ++ xs)) (bytes ++ take c.loop-at.count c.loop-at.room))
    (take_all c.loop-at.at c.args.levels.now c.loop-at-test.false) (c.loop-at.invariant.reads came bytes st)
