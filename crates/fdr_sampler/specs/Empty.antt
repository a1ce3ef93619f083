-- The slots of a superframe that have nothing: their words are 0.
use Rattle.std.specs.Prelude.{ℕ, ◌≡◌, ◌<◌, ◌+◌, ◌*◌, List, [], length, slice_index}
use Rattle.fdr_frame.specs.declared.SlotKind.TheVariants.{Plain}
use Rattle.fdr_frame.specs.Slots.{kind_of}
use Rattle.fdr_table.specs.Rows.{FrameRow}
use Rattle.fdr_layout.specs.SlotParts.{Laid}
use Rattle.fdr_sampler.specs.Kept.{slot_parts}

-- The word slot of the superframe has no part, no sync word and no counter. Its word rests on nothing that is held, so it may be
-- drawn later. A slot with a part may not: another word may be held by then.
pub record IsEmptySlot (f : FrameRow) (l : Laid) (slot : ℕ) : Type 0 where
  pub parts : slot_parts l slot ≡ []
  pub plain : kind_of f.words f.cword f.csub slot ≡ Plain

-- So many word slots from this one on are in the superframe and empty.
abbrev pub HasEmptyRun : FrameRow → Laid → ℕ → ℕ → Type 0
HasEmptyRun f l slot run = (j : ℕ) → j < run → (slot + j < 64 * f.words) × IsEmptySlot f l (slot + j)

-- So many word slots from this one on are empty, and the slot after them isn't, where the superframe has one there.
pub record IsEmptyRun (f : FrameRow) (l : Laid) (slot run : ℕ) : Type 0 where
  pub slots : HasEmptyRun f l slot run
  pub ends : slot + run < 64 * f.words → IsEmptySlot f l (slot + run) → ⊥

-- The numbers say for each word slot of the superframe exactly how many slots from it on are empty.
pub record AreEmptyRuns (f : FrameRow) (l : Laid) (runs : List ℕ) : Type 0 where
  pub long : length runs ≡ 64 * f.words
  pub each : (slot : ℕ) → IsEmptyRun f l slot (slice_index runs slot)
