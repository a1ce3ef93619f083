use Rattle.std.proofs.Common.{rules, ◌∙◌, ap, arith}
use Rattle.fdr_slot.specs.Heads.{head_of, head_bytes}
use Rattle.fdr_slot.proofs.HeadLemmas.{head_of-head_bytes}
use Rattle.fdr_slot.proofs.head.write_slot_head.Goals as goal

pub returns-clause-bytes : goal.returns-clause-bytes
unfolding head_bytes
returns-clause-bytes c = search rules

pub returns-clause-reads_back : goal.returns-clause-reads_back
returns-clause-reads_back c =
    ap head_of (returns-clause-bytes c)
    ∙ head_of-head_bytes c.args.len c.args.session c.args.seq (omega arith) (omega arith) (omega arith)
