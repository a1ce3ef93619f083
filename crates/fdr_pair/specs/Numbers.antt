-- What calls that record blocks on a twin leave of its line and of its announced numbers.
use Rattle.std.specs.Prelude.{◌≡◌, ◌≤◌, ℕ, ◌+◌}
use Rattle.fdr_deck.specs.State.{Tells}
use Rattle.fdr_twin.specs.Pair.{Pair, PairMoment}
use Rattle.fdr_twin.specs.Rest.{PairElapses}
use Rattle.fdr_twin.specs.Serving.{EachPairMoment}
use Rattle.fdr_pair.specs.SideCounts.{CountsBoth}

-- Nothing was pulled: the rest of the input, the numbers of bytes pulled and the input's count of faults are as they were.
pub record KeepsLine (old new : Pair) : Type 0 where
  pub input : new.input ≡ old.input
  pub taken : new.taken ≡ old.taken
  pub pulled_before : new.pulled_before ≡ old.pulled_before
  pub input_faults : new.input_faults ≡ old.input_faults

-- The moment has the numbers of bytes pulled that stand now.
pub record HasPulled (p : Pair) (m : PairMoment) : Type 0 where
  pub taken : m.taken ≡ p.taken
  pub pulled_before : m.pulled_before ≡ p.pulled_before

-- Calls that record this many blocks from this number on pull nothing. Where no number above the next one may be announced
-- before, they announce none below those from before, and none above the number after the blocks.
pub record CountsOn (tells : Tells) (next count : ℕ) (old new : Pair) : Type 0 where
  pub time : PairElapses old new
  pub counts : CountsBoth old new
  pub line : KeepsLine old new
  pub pulled : EachPairMoment tells old new (HasPulled old)
  pub told : old.greatest ≤ next → EachPairMoment tells old new (λ m. old.least ≤ m.announced)
  pub least : old.greatest ≤ next → old.least ≤ new.least
  pub greatest : old.greatest ≤ next → new.greatest ≤ next + count
