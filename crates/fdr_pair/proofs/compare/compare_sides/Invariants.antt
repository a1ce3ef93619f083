use Rattle.std.proofs.Common.{max}
use Rattle.std.specs.Prelude.{IsTrue}
use Rattle.fdr_pair.specs.PairWork.{IsSameContent, PairWork, IsLookedAt}
use Rattle.fdr_pair.specs.Bringing.{HasNoFault}
use Rattle.fdr_pair.proofs.Comparing.{AreAlike}
use Rattle.fdr_pair.proofs.compare.compare_sides.Given as goal

abbrev pub invariant-loop-seq : goal.invariant-loop-seq
invariant-loop-seq g l = record {
  alike : IsTrue g.T.Deck.tells.bytes → AreAlike l.h (g.T.Twin.pair l.fn.twin).first.held (g.T.Twin.pair l.fn.twin).second.held
      (max l.first.first l.second.first) l.seq;
  first : IsSameContent (g.T.Twin.pair l.fn.twin).first (g.T.Twin.pair l.twin).first;
  second : IsSameContent (g.T.Twin.pair l.fn.twin).second (g.T.Twin.pair l.twin).second;
  work : PairWork g.T.Deck.tells (IsLookedAt (g.T.Twin.pair l.fn.twin)) (g.T.Twin.pair l.fn.twin) (g.T.Twin.pair l.twin);
  no_fault : HasNoFault (g.T.Twin.pair l.fn.twin) (g.T.Twin.pair l.twin);
}
