-- The steps of a start of a recording on two disks, each by what it leaves.
use Rattle.std.proofs.Common.{◌≡◌, ℕ}
use Rattle.fdr_deck.specs.State.{Tells}
use Rattle.fdr_slot.specs.declared.image.Header.{Header}
use Rattle.fdr_twin.specs.declared.side.Side.TheVariants.{First, Second}
use Rattle.fdr_twin.specs.Pair.{Pair}
use Rattle.fdr_pair.specs.PairWork.{PairWork, IsLookedAt}
use Rattle.fdr_pair.specs.Opening.{AreLiving, OnLiving, IsHeaderOn, LooksAtSide}
use Rattle.fdr_pair.specs.SideRuns.{AreFoundRuns, LooksAtBoth}
use Rattle.fdr_pair.specs.Joining.{AreJoinedSides, JoinMoment}
use Rattle.fdr_pair.specs.declared.open.Opened.{Opened}
use Rattle.fdr_pair.specs.declared.runs.SideRuns.{SideRuns}
use Rattle.fdr_pair.specs.declared.join.Joined.{Joined}
use Rattle.fdr_twin.specs.Sound.{IsSoundPair}

-- The headers of both sides were read.
pub record HasOpened (tells : Tells) (count : ℕ) (o : Opened) (old new : Pair) : Type 0 where
  pub living : AreLiving o.living old new
  pub header : OnLiving o.living (λ side. IsHeaderOn tells o.header side old new)
  pub words : o.header.words ≡ count
  pub version : o.header.version ≡ 2
  pub first : LooksAtSide tells First old new
  pub second : LooksAtSide tells Second old new
  pub work : PairWork tells (IsLookedAt old) old new
  pub sound : IsSoundPair tells new

-- The runs of the sides that haven't failed were found.
pub record HasFoundRuns (tells : Tells) (o : Opened) (found : SideRuns) (old new : Pair) : Type 0 where
  pub runs : AreFoundRuns tells o.header o.living found old new
  pub looks : LooksAtBoth tells old new
  pub sound : IsSoundPair tells new

-- The sides with these runs were joined.
pub record HasJoinedSides (tells : Tells) (h : Header) (found : SideRuns) (j : Joined) (old new : Pair) : Type 0 where
  pub joined : AreJoinedSides tells h found j old new
  pub work : PairWork tells (JoinMoment h found old) old new
  pub sound : IsSoundPair tells new
