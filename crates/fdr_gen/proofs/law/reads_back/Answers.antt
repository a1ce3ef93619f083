use Rattle.std.proofs.Common.{arith}
use Rattle.fdr_gen.specs.Trace.{sender_of}
use Rattle.fdr_gen.proofs.Reading.{reads_label, reads_sdi, reads_data, reads_odd, small_sdi}
use Rattle.fdr_gen.proofs.law.reads_back.Goals as goal

pub returns-clause-label : goal.returns-clause-label
returns-clause-label c = λ p number range. reads_label (sender_of p) number (omega (arith, range.label))

pub returns-clause-sdi : goal.returns-clause-sdi
returns-clause-sdi c = λ p number range. reads_sdi (sender_of p) number (omega (arith, range.label)) (small_sdi p.sdi range.sdi)

pub returns-clause-data_bits : goal.returns-clause-data_bits
returns-clause-data_bits c = λ p number range.
    reads_data (sender_of p) number (omega (arith, range.label)) (small_sdi p.sdi range.sdi)

pub returns-clause-odd : goal.returns-clause-odd
returns-clause-odd c = λ p number range. reads_odd (sender_of p) number (omega (arith, range.label)) (small_sdi p.sdi range.sdi)
