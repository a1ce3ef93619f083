-- What calls do to the disk.
use Rattle.std.specs.Prelude.{◌≡◌, ◌⊎◌, ℕ, ◌+◌, ◌<◌, ◌≤◌, List, ◌++◌, length, take, drop, slice_range, replicate, IsTrue}
use Rattle.fdr_deck.specs.State.{State, Tells}

-- the bytes with others written over them from the place `at` on, and all else as it was
abbrev pub patched : ℕ → List ℕ → List ℕ → List ℕ
patched at bytes old = take at old ++ (bytes ++ drop (at + length bytes) old)

-- An image has any bytes in the range of n bytes from the place `at` on, and all else as it was.
pub record Torn (at n : ℕ) (old new : List ℕ) : Type 0 where
  pub size : length new ≡ length old
  pub front : take at new ≡ take at old
  pub behind : drop (at + n) new ≡ drop (at + n) old

-- The image is zeros, at most this many.
pub record IsZeros (most : ℕ) (image : List ℕ) : Type 0 where
  pub within : length image ≤ most
  pub zeros : image ≡ replicate (length image) 0

-- The disk is settled: a stop leaves what the disk holds and nothing else.
abbrev pub IsSettled : State → Type 0
IsSettled d = (image : List ℕ) → d.may_leave image → image ≡ d.held

-- What the disk holds and what a stop may leave are as they were.
pub record KeepsDisk (old new : State) : Type 0 where
  pub held : new.held ≡ old.held
  pub no_more : (image : List ℕ) → new.may_leave image → old.may_leave image
  pub no_less : (image : List ℕ) → old.may_leave image → new.may_leave image

-- A call may have learned the length of the disk. Only a deck that tells neither its bytes nor its stops, and whose length was 0,
-- has another length after it.
pub record LearnsExtent (tells : Tells) (old new : State) : Type 0 where
  pub bytes : IsTrue tells.bytes → new.extent ≡ old.extent
  pub stops : IsTrue tells.stops → new.extent ≡ old.extent
  pub known : 0 < old.extent → new.extent ≡ old.extent

-- A read gave the bytes of the disk from the place `at` on, as many as the buffer has.
abbrev pub Reads : Tells → ℕ → State → List ℕ → Type 0
Reads tells at d buffer = IsTrue tells.bytes → buffer ≡ slice_range d.held at (at + length buffer)

-- What any write of n bytes at the place `at` leaves, also one that stopped half way: each image that a stop may leave now is one
-- that it could leave before, torn in the range; each that it could leave before it may leave now.
pub record Tears (tells : Tells) (at n : ℕ) (old new : State) : Type 0 where
  pub held : IsTrue tells.bytes → Torn at n old.held new.held
  pub no_more : IsTrue tells.stops → (image : List ℕ) → new.may_leave image → (from : List ℕ) × (old.may_leave from × Torn at n from image)
  pub no_less : IsTrue tells.stops → (image : List ℕ) → old.may_leave image → new.may_leave image

-- A write put the bytes at the place `at`. Nothing of them is durable yet: a stop may leave any bytes in their range.
pub record Writes (tells : Tells) (at : ℕ) (bytes : List ℕ) (old new : State) : Type 0 where
  pub held : IsTrue tells.bytes → new.held ≡ patched at bytes old.held
  pub pending : IsTrue tells.stops → (from image : List ℕ) → old.may_leave from → Torn at (length bytes) from image → new.may_leave image

-- An empty disk was given `size` bytes of zeros, and is settled.
pub record Provides (tells : Tells) (size : ℕ) (new : State) : Type 0 where
  pub extent : new.extent ≡ size
  pub held : IsTrue tells.bytes → new.held ≡ replicate size 0
  pub settled : IsTrue tells.stops → IsSettled new

-- An empty disk was given some zeros, at most `size` of them. A stop leaves some zeros, or what it could leave before.
pub record Begins (tells : Tells) (size : ℕ) (old new : State) : Type 0 where
  pub extent : new.extent ≤ size
  pub held : IsTrue tells.bytes → new.held ≡ replicate new.extent 0
  pub no_more : IsTrue tells.stops → (image : List ℕ) → new.may_leave image → old.may_leave image ⊎ IsZeros size image
  pub no_less : IsTrue tells.stops → (image : List ℕ) → old.may_leave image → new.may_leave image
