-- What each slot of a superframe takes of the samples.
use Rattle.std.specs.Prelude.{ℕ, ◌≡◌, ◌<◌, ◌+◌, ◌%◌, ◌==◌, Bool, List, length, map, slice_index}
use Rattle.std.specs.List.{All, flat_map, range_with_len}
use Rattle.fdr_layout.specs.Samples.{Sample}
use Rattle.fdr_layout.specs.SlotParts.{SlotPart, Laid}
use Rattle.fdr_sampler.specs.Held.{first_part_slot}
use Rattle.fdr_sampler.specs.Kept.{slot_parts}

-- a part with what its word slot needs of its sample: the number of the sample, the sample's parameter, and whether it begins in
-- the part's slot; how many bits of the raw value are below the part, its lowest bit in its word counted from 0, and how many
-- bits it has
pub record SlotStep : Type 0 where
  pub sample : ℕ
  pub param : ℕ
  pub begins : Bool
  pub shift : ℕ
  pub low : ℕ
  pub width : ℕ

-- a part in this word slot with what the slot needs, where these are the parameters of the samples and the slots that they begin
-- in
abbrev pub step_of : List ℕ → List ℕ → ℕ → SlotPart → SlotStep
step_of owners firsts slot a = record {
  sample = a.sample;
  param = slice_index owners a.sample;
  begins = slice_index firsts a.sample == slot;
  shift = a.part.shift;
  low = a.part.at % 12;
  width = a.part.width;
}

-- the parts of a word slot with what it needs, where these are the parameters of the samples and the slots that they begin in
abbrev pub steps_in : List ℕ → List ℕ → Laid → ℕ → List SlotStep
steps_in owners firsts l slot = map (step_of owners firsts slot) (slot_parts l slot)

-- the parts of a word slot with what it needs, by how the samples are placed
abbrev pub slot_steps : Laid → ℕ → List SlotStep
slot_steps l slot = steps_in (map (λ (s : Sample). s.param) l.samples) (map first_part_slot l.samples) l slot

-- The flat list has the parts of all word slots with what these need, one slot after another; the numbers say where those of each
-- begin and those of the last end.
pub record IsSchedule (l : Laid) (begins : List ℕ) (flat : List SlotStep) : Type 0 where
  pub steps : flat ≡ flat_map (slot_steps l) (range_with_len 0 (length l.slots))
  pub starts : begins ≡ map (λ k. length (flat_map (slot_steps l) (range_with_len 0 k))) (range_with_len 0 (length l.slots + 1))
  pub numbers : (k : ℕ) → k < length l.slots → All (λ (a : SlotPart). a.sample < length l.samples) (slot_parts l k)
