use Rattle.std.proofs.Common.{◌++◌, ◌∷◌, [], List, ℕ, ap, sym, ◌∙◌, subst, append_assoc, take}
use Rattle.fdr_biphase.specs.Cells.{bits_of_bytes}
use Rattle.fdr_biphase.specs.Packed.{answered_byte}
use Rattle.fdr_biphase.specs.Reading.{MissesLevel, ReadsLevels}
use Rattle.fdr_biphase.proofs.reader.LevelReader.single.Goals as goal

pub byte-given-requires : goal.byte-given-requires
byte-given-requires c = c.requires.reads

pub returns-clause-stands : goal.returns-clause-stands
returns-clause-stands c = λ came bytes st e.
    let before = take c.args.count c.args.room.now in
    subst (λ (xs : List ℕ). ReadsLevels c.byte-given.new.self (bits_of_bytes (came ++ c.args.levels ∷ [])) xs)
    (append_assoc bytes before (answered_byte c.byte-given.result.byte) ∙ ap (λ (xs : List ℕ). bytes ++ xs) (sym c.put_byte-count.ensures.put))
    (c.byte-given.ensures.stands came (bytes ++ before) st e)

pub returns-clause-missing : goal.returns-clause-missing
returns-clause-missing c = λ came bytes m st e.
    let before = take c.args.count c.args.room.now in
    subst (λ (xs : List ℕ). MissesLevel c.byte-given.new.self (bits_of_bytes (came ++ c.args.levels ∷ [])) xs m.at)
    (append_assoc bytes before (answered_byte c.byte-given.result.byte) ∙ ap (λ (xs : List ℕ). bytes ++ xs) (sym c.put_byte-count.ensures.put))
    (c.byte-given.ensures.missing came (bytes ++ before) m st e)
