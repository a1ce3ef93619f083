use Rattle.std.proofs.Common.{◌++◌, ◌∷◌, [], ap, sym, ◌∙◌, List, ℕ, append-nil, append_assoc}
use Rattle.fdr_biphase.specs.Past.{DecoderPast}
use Rattle.fdr_biphase.specs.Packed.{answered_byte, bytes_of_bits}
use Rattle.fdr_biphase.specs.Cells.{bits_of_bytes}
use Rattle.fdr_biphase.proofs.Packers.{one_answer}
use Rattle.fdr_biphase.proofs.reader.LevelReader.finish.Goals as goal

pub returns-then-has_ended-clause-missing : goal.returns-then-has_ended-clause-missing
returns-then-has_ended-clause-missing c = λ levels bytes at st more.
    ap bytes_of_bits (st.decoded more) ∙ c.finish.ensures.all st.bits bytes st.packs

pub returns-in-None-clause-all : goal.returns-in-None-clause-all
returns-in-None-clause-all c = λ came bytes st.
    let past : DecoderPast = record { levels = bits_of_bytes came; bits = st.bits } in
    ap bytes_of_bits (c.in-None.ensures.all_answered past st.decodes ∙ append-nil st.bits) ∙ c.finish-in-None.ensures.all st.bits bytes st.packs

pub returns-in-Some-clause-all : goal.returns-in-Some-clause-all
returns-in-Some-clause-all c = λ came bytes st.
    let past : DecoderPast = record { levels = bits_of_bytes came; bits = st.bits } in
    let pushed = answered_byte c.push.result in
    let last = answered_byte c.finish-in-Some.result in
    rw c.or.ensures (ap bytes_of_bits (c.in-Some.ensures.all_answered past st.decodes)
    ∙ c.finish-in-Some.ensures.all (st.bits ++ c.in-Some.bit ∷ []) (bytes ++ pushed) (c.push.ensures.stands st.bits bytes st.packs)
    ∙ append_assoc bytes pushed last
    ∙ ap (λ (xs : List ℕ). bytes ++ xs)
    (sym (one_answer c.push.result c.finish-in-Some.result (λ some. c.finish-in-Some.ensures.none (c.push.ensures.emptied some)))))
