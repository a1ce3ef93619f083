-- What is seen of the deck in memory that may fail: its first content, and all calls since.
use Rattle.std.specs.Prelude.{◌≡◌, ◌⊎◌, ℕ, ◌+◌, ◌-◌, ◌≤◌, List, [], ◌∷◌, ◌++◌, length, take, replicate, slice_get, Contains, ⊤, true, Option, Some, None, Vec}
use Rattle.std.specs.declared.alloc.Global.{Global}
use Rattle.fdr_deck.specs.State.{State, Tells, Moment}
use Rattle.fdr_deck.specs.Disk.{patched, Torn, IsZeros}
use Rattle.fdr_deck.specs.Announced.{least_announced, greatest_announced}
use Rattle.fdr_deck.specs.declared.calls.Call.{Call}
use Rattle.fdr_deck.specs.declared.calls.Call.TheVariants.{Pass, Write, FailedWrite, Sync, Provide, FailedProvide}
use Rattle.fdr_deck.specs.declared.calls.Numbers.{Numbers}
use Rattle.fdr_deck.specs.declared.calls.Entry.{Entry}

-- what is seen of the deck in memory: what its disk held at first, all calls since with the numbers as each began, the numbers
-- now, its input, its counts of faults, and the numbers of the calls that are to fail
pub record Memory : Type 0 where
  pub first : List ℕ
  pub entries : List Entry
  pub numbers : Numbers
  pub input : List ℕ
  pub disk_faults : ℕ
  pub input_faults : ℕ
  pub failing : List ℕ

-- the deck in memory tells its input, its bytes and its stops
abbrev pub memory_tells : Tells
memory_tells = record { input = true; bytes = true; stops = true }

-- what the disk holds after a call, by what it held before it
abbrev pub held_by : Call → List ℕ → List ℕ
held_by Pass held = held
held_by (Write at bytes) held = patched at bytes.items held
held_by (FailedWrite at bytes) held = held
held_by Sync held = held
held_by (Provide size) held = replicate size 0
held_by (FailedProvide size) held = held

-- The image is one of these images, torn in the range of n bytes from the place `at` on.
abbrev pub IsTornFrom : ℕ → ℕ → (List ℕ → Type 0) → List ℕ → Type 0
IsTornFrom at n leaves image = (from : List ℕ) × (leaves from × Torn at n from image)

-- The image is one that a stop after the call may leave, where `held` was held before it and a stop before it could leave what
-- `leaves` says.
abbrev pub left_by : Call → List ℕ → (List ℕ → Type 0) → List ℕ → Type 0
left_by Pass held leaves image = leaves image
left_by (Write at bytes) held leaves image = (image ≡ patched at bytes.items held) ⊎ IsTornFrom at (length bytes.items) leaves image
left_by (FailedWrite at bytes) held leaves image = IsTornFrom at (length bytes.items) leaves image
left_by Sync held leaves image = image ≡ held
left_by (Provide size) held leaves image = image ≡ replicate size 0
left_by (FailedProvide size) held leaves image = leaves image ⊎ IsZeros size image

-- The image is one that a stop within the call may leave: one that a stop before it or after it may leave, and while a disk is
-- provided some of its zeros.
abbrev pub left_within : Call → List ℕ → (List ℕ → Type 0) → List ℕ → Type 0
left_within Pass held leaves image = leaves image
left_within (Write at bytes) held leaves image = leaves image ⊎ left_by (Write at bytes) held leaves image
left_within (FailedWrite at bytes) held leaves image = leaves image ⊎ left_by (FailedWrite at bytes) held leaves image
left_within Sync held leaves image = leaves image ⊎ left_by Sync held leaves image
left_within (Provide size) held leaves image = leaves image ⊎ IsZeros size image
left_within (FailedProvide size) held leaves image = leaves image ⊎ IsZeros size image

-- what the disk holds after all these calls, by what it held at first
unfoldable pub held_after : List Entry → List ℕ → List ℕ
held_after [] held = held
held_after (e ∷ es) held = held_after es (held_by e.call held)

-- The image is one that a stop after all these calls may leave, where `held` was held at first and a stop then could leave what
-- `leaves` says.
unfoldable pub left_after : List Entry → List ℕ → (List ℕ → Type 0) → List ℕ → Type 0
left_after [] held leaves image = leaves image
left_after (e ∷ es) held leaves image = left_after es (held_by e.call held) (left_by e.call held leaves) image

-- A moment between two calls: the image is one of these, the announced number is one that was announced since the last call of
-- another kind, and the numbers of bytes pulled are those that stand.
pub record IsBetween (leaves : List ℕ → Type 0) (numbers : Numbers) (m : Moment) : Type 0 where
  pub image : leaves m.image
  pub least : least_announced numbers.announced ≤ m.announced
  pub greatest : m.announced ≤ greatest_announced numbers.announced
  pub taken : m.taken ≡ numbers.taken
  pub pulled_before : m.pulled_before ≡ numbers.pulled_before

-- A moment within a call that began with these numbers: the image is one of these, and all numbers are those.
pub record IsAmid (leaves : List ℕ → Type 0) (numbers : Numbers) (m : Moment) : Type 0 where
  pub image : leaves m.image
  pub announced : m.announced ≡ numbers.announced.number
  pub taken : m.taken ≡ numbers.taken
  pub pulled_before : m.pulled_before ≡ numbers.pulled_before

-- The moment is one since the call of number t began, or one now where there was no such call.
unfoldable pub moments_after : List Entry → Numbers → List ℕ → (List ℕ → Type 0) → ℕ → Moment → Type 0
moments_after [] now held leaves t m = IsBetween leaves now m
moments_after (e ∷ es) now held leaves t m = ((t ≡ 0) × (IsBetween leaves e.numbers m ⊎ IsAmid (left_within e.call held leaves) e.numbers m))
    ⊎ moments_after es now (held_by e.call held) (left_by e.call held leaves) (t - 1) m

-- what the disk of the deck in memory holds now
abbrev pub held_in : Memory → List ℕ
held_in m = held_after m.entries m.first

-- The image is one that a stop now may leave of the disk of the deck in memory, which began settled.
abbrev pub left_in : Memory → List ℕ → Type 0
left_in m = left_after m.entries m.first (λ image. image ≡ m.first)

-- what the deck in memory means, as the state of a deck
abbrev pub memory_state : Memory → State
memory_state m = record {
  extent = length (held_in m);
  held = held_in m;
  may_leave = left_in m;
  clock = length m.entries;
  since = moments_after m.entries m.numbers m.first (λ image. image ≡ m.first);
  announced = m.numbers.announced.number;
  least = least_announced m.numbers.announced;
  greatest = greatest_announced m.numbers.announced;
  input = m.input;
  taken = m.numbers.taken;
  pulled_before = m.numbers.pulled_before;
  disk_faults = m.disk_faults;
  input_faults = m.input_faults;
}

-- One more call is entered in the list of calls, and no number was announced since.
pub record IsEntered (call : Call) (old new : Memory) : Type 0 where
  pub entries : new.entries ≡ old.entries ++ (record { call = call; numbers = old.numbers } ∷ [])
  pub announced : new.numbers.announced.number ≡ old.numbers.announced.number
  pub least : least_announced new.numbers.announced ≡ old.numbers.announced.number
  pub greatest : greatest_announced new.numbers.announced ≡ old.numbers.announced.number
  pub first : new.first ≡ old.first
  pub failing : new.failing ≡ old.failing

-- Nothing was pulled: the input, the numbers of bytes pulled and the count of the input's faults are as they were.
pub record KeepsPulled (old new : Memory) : Type 0 where
  pub input : new.input ≡ old.input
  pub taken : new.numbers.taken ≡ old.numbers.taken
  pub pulled_before : new.numbers.pulled_before ≡ old.numbers.pulled_before
  pub input_faults : new.input_faults ≡ old.input_faults

-- No call was entered: the calls so far and the numbers are as they were.
pub record IsUnentered (old new : Memory) : Type 0 where
  pub entries : new.entries ≡ old.entries
  pub numbers : new.numbers ≡ old.numbers
  pub first : new.first ≡ old.first
  pub failing : new.failing ≡ old.failing

-- The next call of the deck in memory is one of those that are to fail.
abbrev pub IsListed : Memory → Type 0
IsListed m = Contains m.failing (length m.entries)

-- One call more was entered.
abbrev pub HasOneCallMore : Memory → Memory → Type 0
HasOneCallMore old new = length new.entries ≡ length old.entries + 1

-- A call failed because it is listed, and has its number; or because there was no memory to enter it, and has none.
abbrev pub IsFailedCall : Memory → Memory → Type 0
IsFailedCall old new = (IsListed old × HasOneCallMore old new) ⊎ IsUnentered old new

-- what the disk holds, where the first content was kept and a changed one is beside it, if there is one
abbrev pub current : List ℕ → Option (Vec ℕ Global) → List ℕ
current first None = first
current first (Some changed) = changed.items

-- The call lies in what the disk holds: the range of a write is within it, and only an empty disk is provided.
abbrev pub FitsDisk : Call → List ℕ → Type 0
FitsDisk Pass held = ⊤
FitsDisk (Write at bytes) held = at + length bytes.items ≤ length held
FitsDisk (FailedWrite at bytes) held = at + length bytes.items ≤ length held
FitsDisk Sync held = ⊤
FitsDisk (Provide size) held = length held ≡ 0
FitsDisk (FailedProvide size) held = length held ≡ 0

-- The call lies in an image of n bytes: the range of a write is within it.
abbrev pub FitsIn : Call → ℕ → Type 0
FitsIn Pass n = ⊤
FitsIn (Write at bytes) n = at + length bytes.items ≤ n
FitsIn (FailedWrite at bytes) n = at + length bytes.items ≤ n
FitsIn Sync n = ⊤
FitsIn (Provide size) n = ⊤
FitsIn (FailedProvide size) n = ⊤

-- Each of these calls lies in what the disk holds as it is made.
unfoldable pub AreInside : List Entry → List ℕ → Type 0
AreInside [] held = ⊤
AreInside (e ∷ es) held = FitsDisk e.call held × AreInside es (held_by e.call held)

-- The image is one that a stop within the call leaves, where a stop before the call would have left `before`: the same, that one
-- torn in the range of a write, or some zeros of a disk that is provided.
abbrev pub IsLeftWithin : Call → List ℕ → List ℕ → Type 0
IsLeftWithin Pass before image = image ≡ before
IsLeftWithin (Write at bytes) before image = Torn at (length bytes.items) before image
IsLeftWithin (FailedWrite at bytes) before image = Torn at (length bytes.items) before image
IsLeftWithin Sync before image = image ≡ before
IsLeftWithin (Provide size) before image = IsZeros size image
IsLeftWithin (FailedProvide size) before image = IsZeros size image

-- The image is one that a stop after the call leaves, where a stop before the call would have left `before`, and `held` was held
-- then.
abbrev pub IsStoppedAfter : Call → List ℕ → List ℕ → List ℕ → Type 0
IsStoppedAfter Pass held before image = image ≡ before
IsStoppedAfter (Write at bytes) held before image = Torn at (length bytes.items) before image
IsStoppedAfter (FailedWrite at bytes) held before image = Torn at (length bytes.items) before image
IsStoppedAfter Sync held before image = image ≡ held
IsStoppedAfter (Provide size) held before image = image ≡ replicate size 0
IsStoppedAfter (FailedProvide size) held before image = IsZeros size image

-- The image is one that a stop within the call of number n may leave.
abbrev pub MayStopWithin : Memory → ℕ → List ℕ → Type 0
MayStopWithin m n image = (e : Entry) → slice_get m.entries n ≡ Some e
    → left_within e.call (held_after (take n m.entries) m.first) (left_after (take n m.entries) m.first (λ i. i ≡ m.first)) image
