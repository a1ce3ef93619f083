-- The blocks of an image with a given header.
use Rattle.std.specs.Prelude.{ℕ, ◌+◌, ◌-◌, filter_map, if◌then◌else◌, List, [], slice_range, Option, Some, None}
use Rattle.std.specs.List.{range_with_len}
use Rattle.fdr_slot.specs.declared.image.Header.{Header}
use Rattle.fdr_slot.specs.declared.head.SlotHead.{SlotHead}
use Rattle.fdr_slot.specs.Places.{slot_at}
use Rattle.fdr_slot.specs.Heads.{head_of, is_valid, session_in}
use Rattle.fdr_recover.specs.Blocks.{Block, IsNextOfBlocks, IsLongestRun, next_among, standing_block, run_below}

-- the head of slot i of an image with this header
unfoldable pub head_at : Header → List ℕ → ℕ → SlotHead
head_at h image i = head_of (slice_range image (slot_at h i) (slot_at h i + 16))

-- the first n bytes after the head of slot i of an image with this header
unfoldable pub bytes_in : Header → List ℕ → ℕ → ℕ → List ℕ
bytes_in h image i n = slice_range image (slot_at h i + 16) (slot_at h i + 16 + n)

-- the block with this head in slot i of an image with this header
abbrev pub block_of : Header → List ℕ → ℕ → SlotHead → Block
block_of h image i head = record { number = head.seq; session = session_in h head; payload = bytes_in h image i head.len }

-- the block that slot i of an image with this header holds, where the slot is valid
unfoldable pub block_in : Header → List ℕ → ℕ → Option Block
block_in h image i =
    if is_valid h i (head_at h image i) then Some (block_of h image i (head_at h image i)) else None

-- the block with this number in an image with this header, where its own slot holds it
unfoldable pub block_numbered : Header → List ℕ → ℕ → Option Block
block_numbered h image number = standing_block h.slots (block_in h image) number

-- the bytes of a block, and none where there is no block
abbrev pub payload_of : Option Block → List ℕ
payload_of None = []
payload_of (Some b) = b.payload

-- the bytes of the block with this number in an image with this header, and none where its slot doesn't hold it
abbrev pub payload_at : Header → List ℕ → ℕ → List ℕ
payload_at h image number = payload_of (block_numbered h image number)

-- the session of a block, and 0 where there is no block
abbrev pub session_of_slot : Option Block → ℕ
session_of_slot None = 0
session_of_slot (Some b) = b.session

-- the session of the block with this number in an image with this header, and 0 where its slot doesn't hold it
abbrev pub session_at : Header → List ℕ → ℕ → ℕ
session_at h image number = session_of_slot (block_numbered h image number)

-- the blocks that an image has of the numbers from `first` on, below `next`
abbrev pub blocks_between : Header → List ℕ → ℕ → ℕ → List Block
blocks_between h image first next = filter_map (block_numbered h image) (range_with_len first (next - first))

-- the next number of an image: one more than the greatest number in a valid slot, or 0 where no slot is valid
unfoldable pub next_of : Header → List ℕ → ℕ
next_of h image = next_among h.slots (block_in h image)

-- The number is one more than the greatest number of a block in its own slot of the image, or 0 where there is none.
abbrev pub IsNextNumber : Header → List ℕ → ℕ → Type 0
IsNextNumber h image next = IsNextOfBlocks h.slots (block_in h image) next

-- the blocks of an image below a number, down to the first whose slot doesn't hold it
unfoldable pub blocks_below : Header → List ℕ → ℕ → List Block
blocks_below h image number = run_below h.slots (block_in h image) number

-- The blocks are the recovered run of an image: the longest list of blocks in their own slots with numbers that go up by one to
-- the greatest of all.
abbrev pub IsRecovered : Header → List ℕ → List Block → Type 0
IsRecovered h image run = IsLongestRun h.slots (block_in h image) run

-- the recovered run of an image: the blocks with consecutive numbers down from the greatest, to the first number that its slot
-- doesn't hold
abbrev pub recovered_run : Header → List ℕ → List Block
recovered_run h image = blocks_below h image (next_of h image)
