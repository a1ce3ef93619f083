-- The image that a stop leaves under a tear.
use Rattle.std.specs.Prelude.{ℕ, zero, suc, ◌/◌, List, [], ◌∷◌, length, take, replicate}
use Rattle.fdr_deck.specs.Disk.{patched}
use Rattle.fdr_deck.specs.Memory.{Memory, held_by}
use Rattle.fdr_deck.specs.declared.calls.Call.{Call}
use Rattle.fdr_deck.specs.declared.calls.Call.TheVariants.{Pass, Write, FailedWrite, Sync, Provide, FailedProvide}
use Rattle.fdr_deck.specs.declared.calls.Entry.{Entry}
use Rattle.fdr_deck.specs.declared.stops.Tear.{Tear}
use Rattle.fdr_deck.specs.declared.stops.Tear.TheVariants.{Old, New, Half, Fill}

-- what has come to the disk of a write of these bytes under a tear: nothing, all of them, the first half, or one byte throughout;
-- after it the range holds what it held before
abbrev pub come_of : Tear → List ℕ → List ℕ
come_of Old bytes = []
come_of New bytes = bytes
come_of Half bytes = take (length bytes / 2) bytes
come_of (Fill byte) bytes = replicate (length bytes) byte

-- an image in which a write of these bytes at the place `at` is torn
abbrev pub torn_by : Tear → ℕ → List ℕ → List ℕ → List ℕ
torn_by tear at bytes image = patched at (come_of tear bytes) image

-- how many zeros have come, under a tear, of a disk that was to be provided with `size` of them
abbrev pub size_of : Tear → ℕ → ℕ
size_of Old size = 0
size_of New size = size
size_of Half size = size / 2
size_of (Fill byte) size = size

-- the image that a stop after a call leaves under a tear, where `held` was held before the call and a stop then left `image`
abbrev pub image_after : Tear → Call → List ℕ → List ℕ → List ℕ
image_after tear Pass held image = image
image_after tear (Write at bytes) held image = torn_by tear at bytes.items image
image_after tear (FailedWrite at bytes) held image = torn_by tear at bytes.items image
image_after tear Sync held image = held
image_after tear (Provide size) held image = replicate size 0
image_after tear (FailedProvide size) held image = replicate (size_of tear size) 0

-- the image that a stop within a call leaves under a tear, where a stop before it left `image`: a sync has made nothing durable
-- yet, and of a disk that is provided only some zeros have come
abbrev pub image_within : Tear → Call → List ℕ → List ℕ
image_within tear Pass image = image
image_within tear (Write at bytes) image = torn_by tear at bytes.items image
image_within tear (FailedWrite at bytes) image = torn_by tear at bytes.items image
image_within tear Sync image = image
image_within tear (Provide size) image = replicate (size_of tear size) 0
image_within tear (FailedProvide size) image = replicate (size_of tear size) 0

-- the image that a stop leaves under a tear within call n of these, or after all of them where n is their number
unfoldable pub image_at : Tear → List Entry → ℕ → List ℕ → List ℕ → List ℕ
image_at tear [] n held image = image
image_at tear (e ∷ es) zero held image = image_within tear e.call image
image_at tear (e ∷ es) (suc n) held image = image_at tear es n (held_by e.call held) (image_after tear e.call held image)

-- the image that a stop leaves under a tear within the call of this number of a deck in memory, whose disk began settled
abbrev pub stopped_image : Tear → Memory → ℕ → List ℕ
stopped_image tear m call = image_at tear m.entries call m.first m.first
