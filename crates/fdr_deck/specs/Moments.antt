-- The moments of a deck, and those of its calls.
use Rattle.std.specs.Prelude.{◌≡◌, ◌⊎◌, ℕ, ◌≤◌, length, IsTrue}
use Rattle.fdr_deck.specs.State.{State, Tells, Moment}
use Rattle.fdr_deck.specs.Disk.{IsZeros}

-- The moment has the numbers of bytes pulled that stand now.
pub record HasSamePulls (d : State) (m : Moment) : Type 0 where
  pub taken : m.taken ≡ d.taken
  pub pulled_before : m.pulled_before ≡ d.pulled_before

-- A moment at which the deck may stop now: its image is one that a stop now may leave, its announced number is one since the last
-- call of another kind, and its numbers of bytes pulled are those that stand.
pub record IsNow (d : State) (m : Moment) : Type 0 where
  pub image : d.may_leave m.image
  pub least : d.least ≤ m.announced
  pub greatest : m.announced ≤ d.greatest
  pub pulled : HasSamePulls d m

-- Time goes on: the moments since an earlier time are those from before and those of the call.
pub record Elapses (tells : Tells) (old new : State) : Type 0 where
  pub later : old.clock ≤ new.clock
  pub earlier : IsTrue tells.stops → (t : ℕ) (m : Moment) → t ≤ old.clock → old.since t m → new.since t m
  pub added : IsTrue tells.stops → (t : ℕ) (m : Moment) → t ≤ old.clock → new.since old.clock m → new.since t m
  pub no_more : IsTrue tells.stops → (t : ℕ) (m : Moment) → t ≤ old.clock → new.since t m → old.since t m ⊎ new.since old.clock m

-- Each moment since the old deck has this property, where the deck tells its stops.
abbrev pub EachMoment : Tells → State → State → (Moment → Type 0) → Type 0
EachMoment tells old new P = IsTrue tells.stops → (m : Moment) → new.since old.clock m → P m

-- A moment inside a call: an image from before it or after it, the announced number as it stands, and the numbers of bytes pulled
-- from before it or after it.
pub record IsInsideCall (old new : State) (m : Moment) : Type 0 where
  pub image : old.may_leave m.image ⊎ new.may_leave m.image
  pub announced : m.announced ≡ old.announced
  pub pulled : HasSamePulls old m ⊎ HasSamePulls new m

-- The moment is one of a call: the one at which it began, or one inside it.
abbrev pub Within : State → State → Moment → Type 0
Within old new m = IsNow old m ⊎ IsInsideCall old new m

-- A moment inside a call that provides the disk: the image is one from before it or, where the disk was empty, some of its zeros.
pub record IsProviding (size : ℕ) (old : State) (m : Moment) : Type 0 where
  pub image : old.may_leave m.image ⊎ ((old.extent ≡ 0) × IsZeros size m.image)
  pub announced : m.announced ≡ old.announced
  pub pulled : HasSamePulls old m

-- A moment of a call that provides the disk: the one at which it began, or one inside it.
abbrev pub WithinProvide : ℕ → State → State → Moment → Type 0
WithinProvide size old new m = IsNow old m ⊎ IsProviding size old m

-- What holds of each deck: it has as many bytes as its length says; a stop may leave what is held; the moments since now are
-- those at which it may stop now; a moment since a time is one since each earlier time.
pub record IsSoundDeck (tells : Tells) (d : State) : Type 0 where
  pub stops_need_bytes : IsTrue tells.stops → IsTrue tells.bytes
  pub size : IsTrue tells.bytes → length d.held ≡ d.extent
  pub held : IsTrue tells.stops → d.may_leave d.held
  pub least : d.least ≤ d.announced
  pub greatest : d.announced ≤ d.greatest
  -- a moment since now is one at which the deck may stop now
  pub only_now : IsTrue tells.stops → (m : Moment) → d.since d.clock m → IsNow d m
  -- each image that a stop now may leave is, with the numbers now, a moment since now
  pub counts_now : IsTrue tells.stops → (m : Moment) → d.may_leave m.image → m.announced ≡ d.announced → HasSamePulls d m → d.since d.clock m
  -- a moment since a time is one since each earlier time
  pub falls : IsTrue tells.stops → (earlier t : ℕ) (m : Moment) → earlier ≤ t → t ≤ d.clock → d.since t m → d.since earlier m
