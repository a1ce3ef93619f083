-- What is seen of the twin in memory: its first contents, and all calls since.
use Rattle.std.specs.Prelude.{◌≡◌, ◌⊎◌, ℕ, ◌+◌, ◌-◌, ◌^◌, ◌≤◌, List, [], ◌∷◌, ◌++◌, length, Option, Some, None, Vec, Contains, ⊤}
use Rattle.std.specs.declared.alloc.Global.{Global}
use Rattle.fdr_io.specs.Faults.{next_count}
use Rattle.fdr_deck.specs.State.{State}
use Rattle.fdr_deck.specs.Announced.{least_announced, greatest_announced}
use Rattle.fdr_deck.specs.declared.announced.Announced.{Announced}
use Rattle.fdr_deck.specs.declared.calls.Numbers.{Numbers}
use Rattle.fdr_deck.specs.declared.calls.Entry.{Entry}
use Rattle.fdr_deck.specs.declared.calls.Call.{Call}
use Rattle.fdr_deck.specs.declared.calls.Call.TheVariants.{Pass, Write, FailedWrite, Sync, Provide, FailedProvide}
use Rattle.fdr_deck.specs.Memory.{Memory, memory_state, held_by, left_by, left_within, held_in, left_in, held_after, current, AreInside}
use Rattle.fdr_twin.specs.declared.calls.SideCall.{SideCall}
use Rattle.fdr_twin.specs.declared.calls.SideCall.TheVariants.{Passed, Wrote, FailedToWrite, Synced, Provided, FailedToProvide}
use Rattle.fdr_twin.specs.declared.calls.Snapshot.{Snapshot}
use Rattle.fdr_twin.specs.declared.calls.Span.{Span}
use Rattle.fdr_twin.specs.declared.calls.TwinEntry.{TwinEntry}
use Rattle.fdr_twin.specs.declared.side.Side.{Side}
use Rattle.fdr_twin.specs.declared.side.Side.TheVariants.{First, Second}
use Rattle.fdr_twin.specs.Pair.{Pair, Disk, PairMoment, image_on, other_side}

-- what is seen of the twin in memory: the side that it is turned to, what both disks held at first, all calls since with the
-- numbers as each began, the numbers now, the input, the numbers of the calls that are to fail, and for each side the call from
-- which on its disk is dead
pub record TwinMemory : Type 0 where
  pub turned : Side
  pub first : List ℕ
  pub second : List ℕ
  pub entries : List TwinEntry
  pub span : Span
  pub input : List ℕ
  pub input_faults : ℕ
  pub failing : List ℕ
  pub dead_first : Option ℕ
  pub dead_second : Option ℕ

-- a call of a side, as a deck in memory has it
abbrev pub call_of : SideCall → Call
call_of Passed = Pass
call_of (Wrote at bytes) = Write at bytes
call_of (FailedToWrite at bytes) = FailedWrite at bytes
call_of Synced = Sync
call_of (Provided size) = Provide size
call_of (FailedToProvide size) = FailedProvide size

-- the announced numbers and the numbers of bytes pulled, as a deck in memory has them
abbrev pub numbers_of : Span → Numbers
numbers_of span = record { announced = span.announced; taken = span.taken; pulled_before = span.pulled_before }

-- a call of the second side given, as the disk of the first one sees it: a call of the other side is nothing to it
abbrev pub facing : Side → Side → Call → Call
facing First First call = call
facing First Second call = Pass
facing Second First call = Pass
facing Second Second call = call

-- an entered call, as the disk of a side sees it
abbrev pub call_on : Side → TwinEntry → Call
call_on side e = facing side e.side (call_of e.call)

-- an entered call with its numbers, as the disk of a side sees it
abbrev pub entry_on : Side → TwinEntry → Entry
entry_on side e = record { call = call_on side e; numbers = numbers_of e.span }

-- all entered calls, as the disk of a side sees them
unfoldable pub entries_on : Side → List TwinEntry → List Entry
entries_on side [] = []
entries_on side (e ∷ es) = entry_on side e ∷ entries_on side es

-- what the disk of a side held at first
abbrev pub both_first : TwinMemory → Side → List ℕ
both_first m First = m.first
both_first m Second = m.second

-- the count of faults of a side
abbrev pub counts_on : Side → Span → ℕ
counts_on First span = span.first_faults
counts_on Second span = span.second_faults

-- a side of the twin in memory as a deck in memory, to which the calls of the other side are calls that did nothing
abbrev pub memory_on : Side → TwinMemory → Memory
memory_on side m = record {
  first = both_first m side;
  entries = entries_on side m.entries;
  numbers = numbers_of m.span;
  input = m.input;
  disk_faults = counts_on side m.span;
  input_faults = m.input_faults;
  failing = m.failing;
}

-- what both disks hold after a call, by what they held before it
abbrev pub held_step : TwinEntry → (Side → List ℕ) → Side → List ℕ
held_step e held side = held_by (call_on side e) (held side)

-- The image is one that a stop after the call may leave of this side.
abbrev pub left_step : TwinEntry → (Side → List ℕ) → (Side → List ℕ → Type 0) → Side → List ℕ → Type 0
left_step e held leaves side = left_by (call_on side e) (held side) (leaves side)

-- The image is one that a stop within the call may leave of this side.
abbrev pub both_within : TwinEntry → (Side → List ℕ) → (Side → List ℕ → Type 0) → Side → List ℕ → Type 0
both_within e held leaves side = left_within (call_on side e) (held side) (leaves side)

-- The moment has these two counts of faults, and its announced number is one of those that were announced since the last call of
-- another kind.
pub record HasCounts (one two : ℕ) (a : Announced) (m : PairMoment) : Type 0 where
  pub first : m.first_faults ≡ one
  pub second : m.second_faults ≡ two
  pub least : least_announced a ≤ m.announced
  pub greatest : m.announced ≤ greatest_announced a

-- The moment has the counts of faults and the number of just before a side's first call that found no memory, if there was one.
abbrev pub IsLost : Option Snapshot → PairMoment → Type 0
IsLost None m = ⊥
IsLost (Some s) m = HasCounts s.first_faults s.second_faults s.announced m

-- The moment has counts of faults and a number that stood after the last entered call: those of now, or those before a side's
-- first call that found no memory.
abbrev pub HasStood : Span → PairMoment → Type 0
HasStood span m = HasCounts span.first_faults span.second_faults span.announced m ⊎ (IsLost span.first_lost m ⊎ IsLost span.second_lost m)

-- A moment of the twin in memory between two calls: both images are ones that a stop may leave, and the counts and numbers are
-- ones that stood after the last entered call.
pub record IsPairBetween (leaves : Side → List ℕ → Type 0) (span : Span) (m : PairMoment) : Type 0 where
  pub images : (side : Side) → leaves side (image_on side m)
  pub least : least_announced span.announced ≤ m.announced
  pub greatest : m.announced ≤ greatest_announced span.announced
  pub stood : HasStood span m
  pub taken : m.taken ≡ span.taken
  pub pulled_before : m.pulled_before ≡ span.pulled_before

-- A moment of the twin in memory within a call that began with these numbers: both images are ones that a stop may leave, and all
-- counts and numbers are those.
pub record IsPairAmid (leaves : Side → List ℕ → Type 0) (span : Span) (m : PairMoment) : Type 0 where
  pub images : (side : Side) → leaves side (image_on side m)
  pub announced : m.announced ≡ span.announced.number
  pub first : m.first_faults ≡ span.first_faults
  pub second : m.second_faults ≡ span.second_faults
  pub taken : m.taken ≡ span.taken
  pub pulled_before : m.pulled_before ≡ span.pulled_before

-- The moment of the twin in memory is one since the call of number t began, or one now where there was no such call.
unfoldable pub pair_moments : List TwinEntry → Span → (Side → List ℕ) → (Side → List ℕ → Type 0) → ℕ → PairMoment → Type 0
pair_moments [] now held leaves t m = IsPairBetween leaves now m
pair_moments (e ∷ es) now held leaves t m = ((t ≡ 0) × (IsPairBetween leaves e.span m ⊎ IsPairAmid (both_within e held leaves) e.span m))
    ⊎ pair_moments es now (held_step e held) (left_step e held leaves) (t - 1) m

-- Both disks began settled: the image is what this side held at first.
abbrev pub both_left_first : TwinMemory → Side → List ℕ → Type 0
both_left_first m side image = image ≡ both_first m side

-- the disk of a side of the twin in memory, as one disk of two
abbrev pub disk_of : Side → TwinMemory → Disk
disk_of side m = record {
  extent = length (held_in (memory_on side m));
  held = held_in (memory_on side m);
  may_leave = left_in (memory_on side m);
  faults = counts_on side m.span;
}

-- what the twin in memory means, as a pair
abbrev pub twin_pair : TwinMemory → Pair
twin_pair m = record {
  turned = m.turned;
  first = disk_of First m;
  second = disk_of Second m;
  clock = length m.entries;
  since = pair_moments m.entries m.span (both_first m) (both_left_first m);
  announced = m.span.announced.number;
  least = least_announced m.span.announced;
  greatest = greatest_announced m.span.announced;
  input = m.input;
  taken = m.span.taken;
  pulled_before = m.span.pulled_before;
  input_faults = m.input_faults;
}

-- the side that the twin in memory is turned to, as a deck in memory
abbrev pub side_memory : TwinMemory → Memory
side_memory m = memory_on m.turned m

-- what the twin in memory means, as the state of a deck: of the side that it is turned to
abbrev pub twin_state : TwinMemory → State
twin_state m = memory_state (memory_on m.turned m)

-- What was announced before a call that found no memory, if there was one, is within what was announced after the last entered
-- call.
abbrev pub IsNested : Option Snapshot → Announced → Type 0
IsNested None a = ⊤
IsNested (Some s) a = (least_announced a ≤ least_announced s.announced) × (greatest_announced s.announced ≤ greatest_announced a)

-- A side that found no memory for a call has the count of faults 2^64 - 1.
abbrev pub IsFull : Option Snapshot → ℕ → Type 0
IsFull None n = ⊤
IsFull (Some s) n = n ≡ 2 ^ 64 - 1

-- What the twin in memory keeps is what it means: what each disk holds now is what its calls made of what it held at first, each
-- call lies within the disk, and what was pulled is of the input.
pub record IsWholeTwin (first second : List ℕ) (first_changed second_changed : Option (Vec ℕ Global)) (entries : List TwinEntry) (span : Span) (input : List ℕ)
    : Type 0 where
  pub taken : span.taken ≤ length input
  pub first_held : held_after (entries_on First entries) first ≡ current first first_changed
  pub second_held : held_after (entries_on Second entries) second ≡ current second second_changed
  pub first_inside : AreInside (entries_on First entries) first
  pub second_inside : AreInside (entries_on Second entries) second
  pub first_nested : IsNested span.first_lost span.announced
  pub second_nested : IsNested span.second_lost span.announced
  pub first_full : IsFull span.first_lost span.first_faults
  pub second_full : IsFull span.second_lost span.second_faults

-- the twin in memory after a call of a side that was entered, with these numbers and this rest of the input
abbrev pub entered_by : TwinMemory → Side → SideCall → Span → List ℕ → ℕ → TwinMemory
entered_by old side call now input input_faults = record old {
  entries = old.entries ++ (record { side = side; call = call; span = old.span } ∷ []);
  span = now;
  input = input;
  input_faults = input_faults;
}

-- No number was announced since, and no call found no memory since.
pub record IsFresh (old now : Span) : Type 0 where
  pub announced : now.announced.number ≡ old.announced.number
  pub least : least_announced now.announced ≡ old.announced.number
  pub greatest : greatest_announced now.announced ≡ old.announced.number
  pub first_lost : now.first_lost ≡ None
  pub second_lost : now.second_lost ≡ None

-- One more call of the side that the twin in memory is turned to is entered, and nothing else changed but the numbers.
pub record IsTwinEntered (call : SideCall) (old new : TwinMemory) : Type 0 where
  pub entries : new.entries ≡ old.entries ++ (record { side = old.turned; call = call; span = old.span } ∷ [])
  pub fresh : IsFresh old.span new.span
  pub turned : new.turned ≡ old.turned
  pub first : new.first ≡ old.first
  pub second : new.second ≡ old.second
  pub failing : new.failing ≡ old.failing
  pub dead_first : new.dead_first ≡ old.dead_first
  pub dead_second : new.dead_second ≡ old.dead_second
  pub other_faults : counts_on (other_side old.turned) new.span ≡ counts_on (other_side old.turned) old.span
  pub own_faults : counts_on old.turned old.span ≤ counts_on old.turned new.span

-- One more call of the side that the twin in memory is turned to failed and is entered, and the side's count of faults is one
-- more.
pub record IsTwinFailed (call : SideCall) (old new : TwinMemory) : Type 0 where
  pub entered : IsTwinEntered call old new
  pub counted : counts_on old.turned new.span ≡ next_count (counts_on old.turned old.span)

-- the announced numbers and both counts of faults as they are now
abbrev pub snapshot : Span → Snapshot
snapshot span = record { announced = span.announced; first_faults = span.first_faults; second_faults = span.second_faults }

-- the numbers after a side's first call that found no memory: its count of faults is `count`, and what was before is kept
abbrev pub lose : Side → Span → ℕ → Span
lose First span count = record span { first_lost = Some (snapshot span); first_faults = count }
lose Second span count = record span { second_lost = Some (snapshot span); second_faults = count }

-- what was kept before a side's first call that found no memory, if there was one
abbrev pub lost_on : Side → Span → Option Snapshot
lost_on First span = span.first_lost
lost_on Second span = span.second_lost

-- A call of the side that the twin in memory is turned to found no memory. The first such call after the last entered one sets
-- the side's count of faults to 2^64 - 1; a further one leaves all as it was.
abbrev pub IsTwinLost : TwinMemory → TwinMemory → Type 0
IsTwinLost old new = ((lost_on old.turned old.span ≡ None) × (new ≡ record old { span = lose old.turned old.span (2 ^ 64 - 1) }))
    ⊎ ((counts_on old.turned old.span ≡ 2 ^ 64 - 1) × (new ≡ old))

-- the numbers with a side's count of faults one higher, up to 2^64 - 1
abbrev pub raise : Side → Span → Span
raise First span = record span { first_faults = next_count span.first_faults }
raise Second span = record span { second_faults = next_count span.second_faults }

-- The next call of the twin in memory is one of those that are to fail.
abbrev pub IsTwinListed : TwinMemory → Type 0
IsTwinListed m = Contains m.failing (length m.entries)

-- A disk that is dead from a certain call on, if it is, is dead by this call.
abbrev pub IsDeadBy : Option ℕ → ℕ → Type 0
IsDeadBy None call = ⊥
IsDeadBy (Some from) call = from ≤ call

-- the call from which on the disk of a side is dead, if there is one
abbrev pub dead_on : Side → TwinMemory → Option ℕ
dead_on First m = m.dead_first
dead_on Second m = m.dead_second

-- The next call of the disk that the twin in memory is turned to is to fail: it is listed, or that disk is dead by then.
abbrev pub IsToFail : TwinMemory → Type 0
IsToFail m = IsTwinListed m ⊎ IsDeadBy (dead_on m.turned m) (length m.entries)

-- One call more was entered in the twin in memory.
abbrev pub HasOneTwinCallMore : TwinMemory → TwinMemory → Type 0
HasOneTwinCallMore old new = length new.entries ≡ length old.entries + 1

-- A call of a disk of the twin in memory failed because it was to, and has its number; or because there was no memory to enter
-- it, and has none.
abbrev pub IsFailedTwinCall : TwinMemory → TwinMemory → Type 0
IsFailedTwinCall old new = (IsToFail old × HasOneTwinCallMore old new) ⊎ IsTwinLost old new

-- A pull of the twin in memory found no memory: the count of the input's faults is one higher, and nothing else changed.
abbrev pub IsUnpulled : TwinMemory → TwinMemory → Type 0
IsUnpulled old new = new ≡ record old { input_faults = next_count old.input_faults }

-- A pull of the twin in memory failed because it is listed, and has its number; or because there was no memory to enter it, and
-- has none.
abbrev pub IsFailedPull : TwinMemory → TwinMemory → Type 0
IsFailedPull old new = (IsTwinListed old × HasOneTwinCallMore old new) ⊎ IsUnpulled old new
