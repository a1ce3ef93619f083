-- A turn from one side to the other.
use Rattle.std.proofs.Common.{inl, arith}
use Rattle.fdr_deck.specs.State.{Tells}
use Rattle.fdr_twin.specs.declared.side.Side.{Side}
use Rattle.fdr_twin.specs.declared.side.Side.TheVariants.{First, Second}
use Rattle.fdr_twin.specs.Pair.{Pair, disk_on, seen}
use Rattle.fdr_twin.specs.Same.{IsSameState, IsSameDisk, Turns}
use Rattle.fdr_twin.specs.Rest.{PairElapses, LeavesSide}
use Rattle.fdr_twin.specs.Sound.{IsSoundPair}

-- a turn leaves each side, as a deck of that side sees it
pub Turns-disk : (side to : Side) (old new : Pair) → Turns to old new → IsSameDisk (disk_on side old) (disk_on side new)
Turns-disk First to old new turns = turns.first
Turns-disk Second to old new turns = turns.second

pub Turns-seen : (side to : Side) (old new : Pair) → Turns to old new → IsSameState (seen side old) (seen side new)
Turns-seen side to old new turns = let disk = Turns-disk side to old new turns in record {
  extent = disk.extent;
  held = disk.held;
  leaves = disk.no_less;
  left = disk.no_more;
  clock = turns.clock;
  moments = λ t m is. (is.0, (turns.moments t is.0 is.1.0, is.1.1));
  only = λ t m is. (is.0, (turns.only t is.0 is.1.0, is.1.1));
  announced = turns.announced;
  least = turns.least;
  greatest = turns.greatest;
  input = turns.input;
  taken = turns.taken;
  pulled_before = turns.pulled_before;
  disk_faults = disk.faults;
  input_faults = turns.input_faults;
}

pub Turns-time : (to : Side) (old new : Pair) (tells : Tells) → IsSoundPair tells old → Turns to old new → PairElapses old new
Turns-time to old new tells sound turns = record {
  later = omega (arith, turns.clock);
  earlier = λ t m le since. turns.moments t m since;
  added = λ t m le since. turns.moments t m (sound.falls t old.clock m le (omega arith) (turns.only old.clock m since));
  no_more = λ t m le since. inl (turns.only t m since);
}

pub Turns-leaves : (side to : Side) (old new : Pair) → Turns to old new → LeavesSide side old new
Turns-leaves side to old new turns = record {
  disk = Turns-disk side to old new turns;
  moments = λ m since. inl (turns.only old.clock m since);
}
