-- The parts of all samples by the word slot that they are in.
use Rattle.std.specs.Prelude.{ℕ, ◌*◌, ◌<◌, ◌==◌, ◌^◌, List, filter, length, map}
use Rattle.std.specs.List.{All, flat_map, range_with_len, enumerate_from}
use Rattle.fdr_table.specs.Rows.{TableRows}
use Rattle.fdr_layout.specs.Samples.{Part, Sample, samples, ending_in}
use Rattle.fdr_layout.specs.Cycles.{AreCycles}

-- a part, and the number of its sample among all samples of a superframe
pub record SlotPart : Type 0 where
  pub sample : ℕ
  pub part : Part

-- these parts, with the number n of their sample
abbrev pub parts_of_sample : ℕ → List Part → List SlotPart
parts_of_sample n parts = map (λ (p : Part). record { sample = n; part = p }) parts

-- parts without the numbers of their samples
abbrev pub plain_parts : List SlotPart → List Part
plain_parts parts = map (λ (a : SlotPart). a.part) parts

-- the parts of all of these samples, which are numbered from 0 on
unfoldable pub parts_among : List Sample → List SlotPart
parts_among samples = flat_map (λ (e : ℕ × Sample). parts_of_sample e.0 e.1.parts) (enumerate_from 0 samples)

-- all parts of a table's samples in a superframe
abbrev pub all_parts : TableRows → List SlotPart
all_parts t = parts_among (samples t)

-- those of the parts whose lowest bit is bit x of the superframe
abbrev pub parts_at : List SlotPart → ℕ → List SlotPart
parts_at parts x = filter (λ (a : SlotPart). a.part.at == x) parts

-- those of the parts that are in word slot k of the superframe, by lowest bit
unfoldable pub parts_of_slot : List SlotPart → ℕ → List SlotPart
parts_of_slot parts k = flat_map (parts_at parts) (range_with_len (12 * k) 12)

-- the parts of a table's samples that are in word slot k of the superframe, by lowest bit
abbrev pub parts_in : TableRows → ℕ → List SlotPart
parts_in t k = parts_of_slot (all_parts t) k

-- how the samples of a table are placed in a superframe: by the cycle that they end in, all of them by number, and their parts by
-- word slot
pub record Laid : Type 0 where
  pub cycles : List (List Sample)
  pub samples : List Sample
  pub slots : List (List SlotPart)

-- how a table's samples are placed in its superframe of 16 cycles and 64 W word slots
abbrev pub laid_of : TableRows → Laid
laid_of t = record {
  cycles = map (ending_in t) (range_with_len 0 16);
  samples = samples t;
  slots = map (parts_in t) (range_with_len 0 (64 * t.frame.words));
}

-- What holds of samples as they are placed: there are 16 cycles, fewer than 2^32 samples, and each part's sample is among them.
pub record IsLaid (l : Laid) : Type 0 where
  pub cycles : AreCycles l.cycles
  pub sample_count : length l.samples < 2 ^ 32
  pub numbers : All (λ (parts : List SlotPart). All (λ (a : SlotPart). a.sample < length l.samples) parts) l.slots
