use Rattle.std.proofs.Common.{◌≡◌, ◌+◌, ◌-◌, ◌≤◌}
use Rattle.fdr_recover.specs.Images.{blocks_between}
use Rattle.fdr_twin.specs.Pair.{disk_on}
use Rattle.fdr_pair.specs.PairWork.{IsSameContent, PairWork}
use Rattle.fdr_pair.specs.Bringing.{IsBringing, HasBrought}
use Rattle.fdr_pair.proofs.bring.bring_up.Given as goal

abbrev pub invariant-loop-seq : goal.invariant-loop-seq
invariant-loop-seq g l = record {
  end : l.seq ≤ l.fn.ring.next + (l.fn.end - l.fn.ring.next);
  next : l.level.next ≡ l.seq;
  brought : HasBrought g.T.Deck.tells l.fn.lead l.fn.ring l.level
      (blocks_between l.fn.ring.header (disk_on l.fn.lead (g.T.Twin.pair l.fn.twin)).held l.fn.ring.next l.seq)
      (g.T.Twin.pair l.fn.twin) (g.T.Twin.pair l.twin);
  lead : IsSameContent (disk_on l.fn.lead (g.T.Twin.pair l.fn.twin)) (disk_on l.fn.lead (g.T.Twin.pair l.twin));
  work : PairWork g.T.Deck.tells (IsBringing l.fn.ring.header l.fn.lead
      (blocks_between l.fn.ring.header (disk_on l.fn.lead (g.T.Twin.pair l.fn.twin)).held l.fn.ring.next l.seq) (g.T.Twin.pair l.fn.twin))
      (g.T.Twin.pair l.fn.twin) (g.T.Twin.pair l.twin);
}
