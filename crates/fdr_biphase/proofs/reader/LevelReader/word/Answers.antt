use Rattle.std.proofs.Common.{◌≡◌, ◌+◌, ◌-◌, ◌≤◌, ◌++◌, List, Bool, ℕ, ap, sym, ◌∙◌, subst, append_assoc, take, drop, arith, rules, length, length-drop}
use Rattle.std.proofs.lemmas.List.{length-take, take_all}
use borrow.Rule.Slice.PartMut.{put_mid}
use Rattle.fdr_biphase.specs.Cells.{bits_of_bytes}
use Rattle.fdr_biphase.specs.Past.{DecoderPast}
use Rattle.fdr_biphase.specs.Reading.{ReadsLevels}
use Rattle.fdr_biphase.specs.Words.{word_bits}
use Rattle.fdr_biphase.specs.declared.reader.LevelReader.{LevelReader}
use Rattle.fdr_biphase.proofs.Filling.{put_at_front}
use Rattle.fdr_biphase.proofs.Texts.{bits_of_all}
use Rattle.fdr_biphase.proofs.WordBytes.{length-bits}
use Rattle.fdr_biphase.proofs.reader.LevelReader.word.Goals as goal

pub word-requires : goal.word-requires
word-requires c =
    let came = c.requires.reads.0 in
    let reads = c.requires.reads.2 in
    let some = c.in-Some.ensures.cases in
    let rest = drop c.args.at c.args.levels.now in
    let long = length-take (length c.args.levels.now - c.args.at) rest in
    record {
      limit = omega (arith, reads.decodes.count, length-bits came, c.requires.reads.3, some.2, length-drop c.args.at c.args.levels.now, long);
    }

pub returns-clause-stands : goal.returns-clause-stands
returns-clause-stands c = λ came bytes st _.
    let room = c.args.room.now in
    let count = c.args.count in
    let levels = take 8 (drop c.args.at c.args.levels.now) in
    let before = bytes ++ take count room in
    let four = c.word-four.result in
    let laid = c.put_four.new.room in
    let r : LevelReader = record { decoder = c.word.new.self; packer = c.word-four.new.self } in
    let past : DecoderPast = record { levels = bits_of_bytes came; bits = st.bits } in
    let reads : ReadsLevels r (bits_of_bytes came ++ word_bits 64 c.word_of.result) (before ++ four) = record {
      bits = st.bits ++ word_bits 32 c.in-Some-word.bits;
      decodes = c.in-Some-word.ensures.stands past st.decodes;
      unended = c.in-Some-word.ensures.open ∙ st.unended;
      packs = c.word-four.ensures.stands st.bits before st.packs;
    } in
    let tail : take (length c.args.levels.now - c.args.at) (drop c.args.at c.args.levels.now) ≡ drop c.args.at c.args.levels.now =
    take_all (length c.args.levels.now - c.args.at) (drop c.args.at c.args.levels.now) (omega (arith, length-drop c.args.at c.args.levels.now)) in
    let all : bits_of_bytes came ++ word_bits 64 c.word_of.result ≡ bits_of_bytes (came ++ levels) =
    ap (λ (xs : List Bool). bits_of_bytes came ++ xs) (c.word_of.ensures ∙ ap bits_of_bytes (c.in-Some.ensures.cases.0 ∙ ap (take 8) tail))
    ∙ sym (bits_of_all came levels) in
    let long : length four ≡ 4 = search rules in
    let within : count + 4 ≤ length room =
    omega (arith, c.requires.few, c.requires.room, c.in-Some.ensures.cases.2, length-drop c.args.at c.args.levels.now, ap length tail) in
    let put : take count room ++ four ≡ take (count + 4) (put_mid count (length room - count) room laid) =
    put_at_front room four laid count 4 long within c.put_four.ensures in
    subst (λ (xs : List ℕ). ReadsLevels r (bits_of_bytes (came ++ levels)) xs)
    (append_assoc bytes (take count room) four ∙ ap (λ (xs : List ℕ). bytes ++ xs) put)
    (subst (λ (xs : List Bool). ReadsLevels r xs (before ++ four)) all reads)
