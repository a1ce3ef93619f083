-- What a twin means.
use Rattle.std.specs.Prelude.{◌≡◌, ℕ, List}
use Rattle.fdr_deck.specs.State.{State, Moment}
use Rattle.fdr_twin.specs.declared.side.Side.{Side}
use Rattle.fdr_twin.specs.declared.side.Side.TheVariants.{First, Second}

-- one disk of two: its length, the bytes that it holds, the images that a stop now may leave, and its count of faults
pub record Disk : Type 1 where
  pub extent : ℕ
  pub held : List ℕ
  pub may_leave : List ℕ → Type 0
  pub faults : ℕ

-- what is so at one moment of a twin: both images, both counts of faults, the announced number, and the numbers of bytes pulled
pub record PairMoment : Type 0 where
  pub first : List ℕ
  pub second : List ℕ
  pub first_faults : ℕ
  pub second_faults : ℕ
  pub announced : ℕ
  pub taken : ℕ
  pub pulled_before : ℕ

-- what a twin means. The side that it is turned to, and both disks. The past: the clock, and the moments since a time. The
-- announced number, and the least and the greatest one since the last call that wasn't an announcement. The input, as a deck has
-- it
pub record Pair : Type 1 where
  pub turned : Side
  pub first : Disk
  pub second : Disk
  pub clock : ℕ
  pub since : ℕ → PairMoment → Type 0
  pub announced : ℕ
  pub least : ℕ
  pub greatest : ℕ
  pub input : List ℕ
  pub taken : ℕ
  pub pulled_before : ℕ
  pub input_faults : ℕ

-- the other side
abbrev pub other_side : Side → Side
other_side First = Second
other_side Second = First

-- the disk of a side
abbrev pub disk_on : Side → Pair → Disk
disk_on First p = p.first
disk_on Second p = p.second

-- the image of a side at a moment
abbrev pub image_on : Side → PairMoment → List ℕ
image_on First m = m.first
image_on Second m = m.second

-- the count of faults of a side at a moment
abbrev pub faults_on : Side → PairMoment → ℕ
faults_on First m = m.first_faults
faults_on Second m = m.second_faults

-- The moment m of a deck is the moment p of the twin as one side shows it: with that side's image.
pub record IsSeen (side : Side) (p : PairMoment) (m : Moment) : Type 0 where
  pub image : m.image ≡ image_on side p
  pub announced : m.announced ≡ p.announced
  pub taken : m.taken ≡ p.taken
  pub pulled_before : m.pulled_before ≡ p.pulled_before

-- the twin as a deck of one of its sides
abbrev pub seen : Side → Pair → State
seen side p = record {
  extent = (disk_on side p).extent;
  held = (disk_on side p).held;
  may_leave = (disk_on side p).may_leave;
  clock = p.clock;
  since = λ t m. (pm : PairMoment) × (p.since t pm × IsSeen side pm m);
  announced = p.announced;
  least = p.least;
  greatest = p.greatest;
  input = p.input;
  taken = p.taken;
  pulled_before = p.pulled_before;
  disk_faults = (disk_on side p).faults;
  input_faults = p.input_faults;
}
