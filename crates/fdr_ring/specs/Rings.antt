-- What a ring knows of its deck, and what its calls leave at each moment.
use Rattle.std.specs.Prelude.{◌≡◌, ◌≤◌, ℕ, ◌+◌, ◌-◌, List, Some, IsTrue, IsSome}
use Rattle.fdr_deck.specs.State.{State, Tells}
use Rattle.fdr_deck.specs.Disk.{IsSettled, Torn}
use Rattle.fdr_deck.specs.Calls.{IsDiskWork, Succeeds}
use Rattle.fdr_slot.specs.declared.image.Header.{Header}
use Rattle.fdr_slot.specs.Places.{image_size, gate_at}
use Rattle.fdr_recover.specs.Blocks.{Block}
use Rattle.fdr_recover.specs.Images.{next_of, recovered_run}
use Rattle.fdr_ring.specs.Gates.{IsClosed, waiting_block}
use Rattle.fdr_ring.specs.Closing.{IsTurned, image_with_closed_gate}
use Rattle.fdr_ring.specs.Bodies.{IsPlacing, image_to_commit}
use Rattle.fdr_ring.specs.Runs.{KeepsRun, MayAdd, last_blocks}

-- What a ring knows of its deck: the disk is long enough; where bytes are told, the number is the next one of the image, and the
-- gate of its slot is closed.
pub record IsRing (tells : Tells) (h : Header) (number : ℕ) (d : State) : Type 0 where
  pub extent : image_size h ≤ d.extent
  pub next : IsTrue tells.bytes → number ≡ next_of h d.held
  pub closed : IsTrue tells.bytes → IsClosed h d.held number

-- What a ring knows of its deck, and besides that no stop leaves the gate of the next number open.
pub record IsSureRing (tells : Tells) (h : Header) (number : ℕ) (d : State) : Type 0 where
  pub ring : IsRing tells h number d
  pub stops : IsTrue tells.stops → (image : List ℕ) → d.may_leave image → IsClosed h image number

-- What a prepared block knows: a block waits after the closed gate of the slot of the next number, and the gate of the following
-- slot is closed too.
pub record IsPrepared (tells : Tells) (h : Header) (number : ℕ) (d : State) : Type 0 where
  pub ring : IsRing tells h number d
  pub waits : IsTrue tells.bytes → IsSome (waiting_block h d.held number)
  pub following : IsTrue tells.bytes → IsClosed h d.held (number + 1)

-- What `attach` may leave of an image: the run except for its oldest block. Only the gate of the next number may be another byte,
-- where it was open.
pub record IsAttaching (h : Header) (old new : List ℕ) : Type 0 where
  pub run : KeepsRun h (h.slots - 1) old new
  pub bytes : IsTurned (gate_at h (next_of h old)) old new

-- What `prepare` may leave of an image: the run except for its two oldest blocks. Only what it writes may be other bytes.
pub record IsPreparing (h : Header) (number size : ℕ) (old new : List ℕ) : Type 0 where
  pub run : KeepsRun h (h.slots - 2) old new
  pub bytes : IsPlacing h number size old new

-- What `commit` may leave of an image: the run as it was, or with the block that waited after it. Only the gate of its slot may
-- be another byte.
pub record IsCommitting (h : Header) (number : ℕ) (old new : List ℕ) : Type 0 where
  pub run : (b : Block) → waiting_block h old number ≡ Some b → MayAdd h b old new
  pub bytes : Torn (gate_at h number) 1 old new

-- Where the disk was settled at entry, the image is what these changes may leave of what the disk held then.
abbrev pub OfSettled : State → (List ℕ → List ℕ → Type 0) → List ℕ → Type 0
OfSettled entry Leaves image = IsSettled entry → Leaves entry.held image

-- What a call leaves of the disk's image, whatever it answers, is one of these changes: at its end, and at each moment where the
-- disk was settled at entry.
pub record ChangesImage (tells : Tells) (Leaves : List ℕ → List ℕ → Type 0) (old new : State) : Type 0 where
  pub keeps : IsTrue tells.bytes → Leaves old.held new.held
  pub extent : new.extent ≡ old.extent
  pub disk_work : IsDiskWork tells (OfSettled old Leaves) old new

-- What `attach` has done where it answers a ring with this next number: the number is that of the image, its gate is closed, the
-- last N - 1 blocks are there, and a stop leaves what the disk holds.
pub record HasAttached (tells : Tells) (h : Header) (number : ℕ) (old new : State) : Type 0 where
  pub next : IsTrue tells.bytes → number ≡ next_of h old.held
  pub held : IsTrue tells.bytes → new.held ≡ image_with_closed_gate (gate_at h (next_of h old.held)) old.held
  pub run : IsTrue tells.bytes → recovered_run h new.held ≡ last_blocks (h.slots - 1) (recovered_run h old.held)
  pub settled : IsTrue tells.stops → IsSettled new
  pub succeeds : Succeeds old new

-- What `prepare` has done where it answers: the block waits after the closed gate of its slot, the last N - 2 blocks are there,
-- and a stop leaves what the disk holds.
pub record HasPlaced (tells : Tells) (h : Header) (number session : ℕ) (payload : List ℕ) (old new : State) : Type 0 where
  pub held : IsTrue tells.bytes → new.held ≡ image_to_commit h number session payload old.held
  pub block : IsTrue tells.bytes
      → waiting_block h new.held number ≡ Some (record { number = number; session = session; payload = payload })
  pub run : IsTrue tells.bytes → recovered_run h new.held ≡ last_blocks (h.slots - 2) (recovered_run h old.held)
  pub settled : IsTrue tells.stops → IsSettled new
  pub succeeds : Succeeds old new
