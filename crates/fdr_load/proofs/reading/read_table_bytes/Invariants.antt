use Rattle.std.proofs.Common.{◌≡◌, ◌+◌, ◌≤◌, ◌-◌, vec_len}
use Rattle.fdr_io.specs.Told.{preceded_by}
use Rattle.fdr_load.proofs.reading.read_table_bytes.Given as goal

abbrev pub invariant-loop-source : goal.invariant-loop-source
invariant-loop-source g l = record {
  taken : preceded_by l.bytes.items (g.T.Source.rest l.source) ≡ g.T.Source.rest l.fn.source;
  few : vec_len l.bytes ≤ 1048576 + 4096;
  no_fault : g.T.Source.faults l.source ≡ g.T.Source.faults l.fn.source;
  monotone : g.T.Source.faults l.fn.source ≤ g.T.Source.faults l.source;
}

abbrev pub decreases-loop-source : goal.decreases-loop-source
decreases-loop-source g l = 1048577 - vec_len l.bytes
