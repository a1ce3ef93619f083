use Rattle.std.proofs.Common.{◌≡◌, arith, drop, rules}
use Rattle.std.proofs.lemmas.Grind.{common_steps}
use Rattle.byteorder.specs.Endian.{big_number}
use Rattle.fdr_bus.proofs.ParseLemmas.{record_of_word, record_of_end}
use Rattle.fdr_bus.proofs.record_in.Goals as goal
use Rattle.fdr_bus.proofs.record_in.Goals.{in-1, in-2}

pub returns-clause-read : goal.returns-clause-read
returns-clause-read c =
    let word : c.read_u32.result ≡ big_number 4 (drop 4 c.args.bytes.now) = grind (arith, common_steps, c.read_u32.ensures) in
    let time : c.read_u64.result ≡ big_number 8 (drop 8 c.args.bytes.now) = grind (arith, common_steps, c.read_u64.ensures) in
    elim c.match-bytes-offset0.branch [
      | in-1 w ↦ rw w.kind-is (record_of_word c.args.bytes.now c.read_u32.result c.read_u64.result w.in-1.is word time)
      | in-2 w ↦ rw w.kind-is (record_of_end c.args.bytes.now c.read_u32.result c.read_u64.result w.in-2.is word time)
    ]

pub returns-clause-none : goal.returns-clause-none
returns-clause-none c = search rules
