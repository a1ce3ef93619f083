use Rattle.std.proofs.Common.{◌++◌, ◌∷◌, [], ap, ◌∙◌, append_assoc, append-nil}
use Rattle.std.proofs.lemmas.Result.{err_from_is_err_and}
use Rattle.fdr_biphase.specs.Past.{DecoderPast}
use Rattle.fdr_biphase.specs.Phases.{missing_place, cell_bits}
use Rattle.fdr_biphase.proofs.reader.LevelReader.push.Goals as goal

pub returns-in_err-bit-clause-missing : goal.returns-in_err-bit-clause-missing
returns-in_err-bit-clause-missing c = λ levels bytes st.
    let past : DecoderPast = record { levels = levels; bits = st.bits } in
    let p = err_from_is_err_and c.from_residual.result c.from_residual.ensures.1 in
    rw (p.1, p.2) (record {
      bits = st.bits;
      place = λ more. ap missing_place (append_assoc levels (c.args.level ∷ []) more) ∙ c.in_err-bit.ensures.stays past more st.decodes;
      decoded = λ more. ap cell_bits (append_assoc levels (c.args.level ∷ []) more) ∙ c.in_err-bit.ensures.all_answered past more st.decodes;
      ended = c.in_err-bit.ensures.open;
      packs = st.packs;
    })

pub returns-in-Some-clause-stands : goal.returns-in-Some-clause-stands
returns-in-Some-clause-stands c = λ levels bytes st. record {
  bits = st.bits ++ c.in-Some.bit ∷ [];
  decodes = rw c.in-Some.is at (c.in_ok-bit.ensures.stands (record { levels = levels; bits = st.bits }) st.decodes);
  unended = c.in_ok-bit.ensures.open;
  packs = c.push-in-Some.ensures.stands st.bits bytes st.packs;
}

pub returns-in-None-clause-stands : goal.returns-in-None-clause-stands
returns-in-None-clause-stands c = λ levels bytes st. record {
  bits = st.bits ++ [];
  decodes = rw c.in-None.is at (c.in_ok-bit.ensures.stands (record { levels = levels; bits = st.bits }) st.decodes);
  unended = c.in_ok-bit.ensures.open;
  packs = rw (append-nil st.bits, append-nil bytes) st.packs;
}
