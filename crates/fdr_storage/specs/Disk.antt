-- What a storage means.
use Rattle.std.specs.Prelude.{◌≡◌, ℕ, ◌^◌, ◌<◌, ◌≤◌, Bool, List, length, IsTrue}
use Rattle.fdr_deck.specs.State.{Moment}
use Rattle.fdr_deck.specs.Announced.{least_announced, greatest_announced}
use Rattle.fdr_storage.specs.declared.numbers.Numbers.{Numbers}

-- what a storage tells: its bytes, and what a stop may leave
pub record Told : Type 0 where
  pub bytes : Bool
  pub stops : Bool

-- the numbers that a stop may find: an announced number from the least to the greatest, and the numbers of bytes pulled
pub record Span : Type 0 where
  pub least : ℕ
  pub greatest : ℕ
  pub taken : ℕ
  pub pulled_before : ℕ

-- what a stop may find of these numbers while none of their calls began
abbrev pub span_of : Numbers → Span
span_of n = record {
  least = least_announced n.announced;
  greatest = greatest_announced n.announced;
  taken = n.taken;
  pulled_before = n.pulled_before;
}

-- what a stop may find of these numbers once a call began: the number that was announced last, and no other
abbrev pub begun_of : Numbers → Span
begun_of n = record {
  least = n.announced.number;
  greatest = n.announced.number;
  taken = n.taken;
  pulled_before = n.pulled_before;
}

-- The moment has one of these images and numbers of this span.
pub record IsIn (leaves : List ℕ → Type 0) (span : Span) (m : Moment) : Type 0 where
  pub image : leaves m.image
  pub least : span.least ≤ m.announced
  pub greatest : m.announced ≤ span.greatest
  pub taken : m.taken ≡ span.taken
  pub pulled_before : m.pulled_before ≡ span.pulled_before

-- what a storage means: the bytes that it holds, and the images that a stop now may leave. The past: the clock, and the moments
-- of the calls since a time. The numbers of the call above that began last. The counts of calls that failed and that were
-- interrupted. Whether its length and its name are durable; and whether all is but for the name
pub record StoredFile : Type 1 where
  pub held : List ℕ
  pub may_leave : List ℕ → Type 0
  pub clock : ℕ
  pub past : ℕ → Moment → Type 0
  pub begun : Span
  pub faults : ℕ
  pub interruptions : ℕ
  pub whole : Bool
  pub flushed : Bool

-- What holds of each storage: its length is a number of 64 bits; a stop may leave what is held; no call was made since now; a
-- moment since a time is one since each earlier time.
pub record IsSoundDisk (told : Told) (d : StoredFile) : Type 0 where
  pub stops_need_bytes : IsTrue told.stops → IsTrue told.bytes
  pub fits : IsTrue told.bytes → length d.held < 2 ^ 64
  pub held : IsTrue told.stops → d.may_leave d.held
  pub over : IsTrue told.stops → (m : Moment) → d.past d.clock m → ⊥
  pub falls : IsTrue told.stops → (earlier t : ℕ) (m : Moment) → earlier ≤ t → t ≤ d.clock → d.past t m → d.past earlier m
