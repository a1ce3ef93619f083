-- What the calls of a storage do.
use Rattle.std.specs.Prelude.{◌≡◌, ◌⊎◌, ℕ, ◌+◌, ◌<◌, ◌≤◌, List, length, take, drop, replicate, IsTrue, ⊤}
use Rattle.fdr_io.specs.Faults.{Rose}
use Rattle.fdr_deck.specs.State.{Moment}
use Rattle.fdr_deck.specs.Disk.{Torn, patched, IsZeros}
use Rattle.fdr_storage.specs.Disk.{Told, StoredFile, IsIn, span_of, begun_of}
use Rattle.fdr_storage.specs.declared.numbers.Numbers.{Numbers}
use Rattle.fdr_storage.specs.declared.refusal.Refusal.{Refusal}
use Rattle.fdr_storage.specs.declared.refusal.Refusal.TheVariants.{Interrupted, Failed}

-- What the storage holds and what a stop may leave are as they were.
pub record Keeps (old new : StoredFile) : Type 0 where
  pub held : new.held ≡ old.held
  pub no_more : (image : List ℕ) → new.may_leave image → old.may_leave image
  pub no_less : (image : List ℕ) → old.may_leave image → new.may_leave image

-- A stop leaves what the storage holds and nothing else.
abbrev pub IsFileSettled : StoredFile → Type 0
IsFileSettled d = (image : List ℕ) → d.may_leave image → image ≡ d.held

-- A call above began: the moments from before it are past, those with its numbers among them.
pub record StartsCall (told : Told) (numbers : Numbers) (old new : StoredFile) : Type 0 where
  pub begun : IsTrue told.stops → new.begun ≡ begun_of numbers
  pub later : old.clock ≤ new.clock
  pub earlier : IsTrue told.stops → (t : ℕ) (m : Moment) → t ≤ old.clock → old.past t m → new.past t m
  pub kept : IsTrue told.stops → (t : ℕ) (m : Moment) → t ≤ old.clock → IsIn old.may_leave (span_of numbers) m → new.past t m
  pub no_more : IsTrue told.stops → (t : ℕ) (m : Moment) → t ≤ old.clock → new.past t m → old.past t m ⊎ new.past old.clock m
  pub moments : IsTrue told.stops → (m : Moment) → new.past old.clock m → IsIn old.may_leave (span_of numbers) m

-- No call above began.
pub record IsUnstarted (told : Told) (old new : StoredFile) : Type 0 where
  pub clock : new.clock ≡ old.clock
  pub earlier : IsTrue told.stops → (t : ℕ) (m : Moment) → old.past t m → new.past t m
  pub no_more : IsTrue told.stops → (t : ℕ) (m : Moment) → new.past t m → old.past t m

-- Time goes on within the call above that began last: the moments from before are past, or still those of now. Each moment that
-- was added has an image from before the call or after it.
pub record Goes (told : Told) (old new : StoredFile) : Type 0 where
  pub begun : IsTrue told.stops → new.begun ≡ old.begun
  pub later : old.clock ≤ new.clock
  pub earlier : IsTrue told.stops → (t : ℕ) (m : Moment) → t ≤ old.clock → old.past t m → new.past t m
  pub kept : IsTrue told.stops → (t : ℕ) (m : Moment) → t ≤ old.clock → IsIn old.may_leave old.begun m
      → new.past t m ⊎ IsIn new.may_leave old.begun m
  pub no_more : IsTrue told.stops → (t : ℕ) (m : Moment) → t ≤ old.clock → new.past t m → old.past t m ⊎ new.past old.clock m
  pub moments : IsTrue told.stops → (m : Moment) → new.past old.clock m
      → IsIn (λ image. old.may_leave image ⊎ new.may_leave image) old.begun m

-- The length and the name are as durable as they were.
pub record KeepsMarks (old new : StoredFile) : Type 0 where
  pub whole : new.whole ≡ old.whole
  pub flushed : new.flushed ≡ old.flushed

-- No call failed, and none was interrupted.
pub record HasSameCounts (old new : StoredFile) : Type 0 where
  pub faults : new.faults ≡ old.faults
  pub interruptions : new.interruptions ≡ old.interruptions

-- A call did nothing of what it is for, and was counted for that, where the storage tells its bytes.
abbrev pub HasCallCause : Told → Refusal → StoredFile → StoredFile → Type 0
HasCallCause told Interrupted old new = IsTrue told.bytes → (new.faults ≡ old.faults) × Rose old.interruptions new.interruptions
HasCallCause told Failed old new = IsTrue told.bytes → Rose old.faults new.faults × (new.interruptions ≡ old.interruptions)

-- A call that was interrupted did nothing. Of one that failed this says nothing.
abbrev pub IsUndone : Refusal → StoredFile → StoredFile → Type 0
IsUndone Interrupted old new = Keeps old new × KeepsMarks old new
IsUndone Failed old new = ⊤

-- A read put the n bytes from the place `at` on at the front of the buffer, and none only where there are none or there is no
-- room.
pub record ReadsFile (at n : ℕ) (held buffer : List ℕ) : Type 0 where
  pub within : n ≤ length (drop at held)
  pub front : take n buffer ≡ take n (drop at held)
  pub some : at < length held → 0 < length buffer → 0 < n

-- A write put these bytes at the place `at`. A stop may leave any bytes there.
pub record WritesFile (told : Told) (at : ℕ) (bytes : List ℕ) (old new : StoredFile) : Type 0 where
  pub held : IsTrue told.bytes → new.held ≡ patched at bytes old.held
  pub pending : IsTrue told.stops → (from image : List ℕ) → old.may_leave from → Torn at (length bytes) from image → new.may_leave image

-- What any write of n bytes at the place `at` leaves, also one that failed: each image that a stop may leave now is one that it
-- could leave before, torn in the range; each that it could leave before it may leave now.
pub record TearsFile (told : Told) (at n : ℕ) (old new : StoredFile) : Type 0 where
  pub held : IsTrue told.bytes → Torn at n old.held new.held
  pub no_more : IsTrue told.stops → (image : List ℕ) → new.may_leave image → (from : List ℕ) × (old.may_leave from × Torn at n from image)
  pub no_less : IsTrue told.stops → (image : List ℕ) → old.may_leave image → new.may_leave image

-- At most this many zeros were put at the end of a file of zeros, also by a call that failed: each image that a stop may leave
-- now is one that it could leave before, or zeros up to the new end; each that it could leave before it may leave now.
pub record GrowsFile (told : Told) (at count : ℕ) (old new : StoredFile) : Type 0 where
  pub held : IsTrue told.bytes → (k : ℕ) × (k ≤ count × new.held ≡ replicate (at + k) 0)
  pub no_more : IsTrue told.stops → (image : List ℕ) → new.may_leave image → old.may_leave image ⊎ IsZeros (at + count) image
  pub no_less : IsTrue told.stops → (image : List ℕ) → old.may_leave image → new.may_leave image
