-- What a layout's flat lists say.
use Rattle.std.specs.Prelude.{ℕ, ◌≡◌, ◌+◌, ◌-◌, ◌<◌, ◌≤◌, ◌==◌, List, length, map, find}
use Rattle.std.specs.Option.{option_map_or}
use Rattle.std.specs.List.{All, range_with_len}
use Rattle.fdr_layout.specs.declared.flat.FlatLists.{FlatLists}
use Rattle.fdr_layout.specs.declared.parts.Sample.{Sample as ListedSample}
use Rattle.fdr_layout.specs.Flat.{segment, segments, AreStarts}
use Rattle.fdr_layout.specs.Samples.{Part, Sample}
use Rattle.fdr_layout.specs.SlotParts.{SlotPart, Laid, IsLaid}
use Rattle.fdr_layout.specs.Listed.{IsListedSample}

-- the parts of the sample with this number, of all parts by sample
abbrev pub parts_numbered : List ℕ → List SlotPart → ℕ → List Part
parts_numbered starts parts n = map (λ (a : SlotPart). a.part) (segment starts parts n)

-- a listed sample with its parts, of all parts by sample
abbrev pub listed_sample : List ℕ → List SlotPart → ListedSample → Sample
listed_sample starts parts e = record { param = e.param; index = e.index; parts = parts_numbered starts parts e.number }

-- the sample with this number, out of the flat lists of a layout: each is listed in the cycle in which it ends
abbrev pub sample_numbered : List ℕ → List SlotPart → List ListedSample → ℕ → Sample
sample_numbered starts parts ending n = record {
  param = option_map_or (λ (e : ListedSample). e.param) (find (λ (e : ListedSample). e.number == n) ending) 0;
  index = option_map_or (λ (e : ListedSample). e.index) (find (λ (e : ListedSample). e.number == n) ending) 0;
  parts = parts_numbered starts parts n;
}

-- how samples are placed in a superframe, by the flat lists of the program's layout
abbrev pub laid : FlatLists → Laid
laid l = record {
  cycles = map (λ (es : List ListedSample). map (listed_sample l.sample_starts.items l.by_sample.items) es) (segments l.cycle_starts.items l.ending.items);
  samples = map (sample_numbered l.sample_starts.items l.by_sample.items l.ending.items) (range_with_len 0 (length l.sample_starts.items - 1));
  slots = segments l.slot_starts.items l.by_slot.items;
}

-- What holds of the flat lists of each layout: their lists are one after another, there are 16 cycles, each listed sample is
-- among the samples, and a sample has at most four parts.
pub record IsKept (l : FlatLists) : Type 0 where
  pub stands : IsLaid (laid l)
  pub cycles : AreStarts l.cycle_starts.items (length l.ending.items)
  pub sixteen : length l.cycle_starts.items ≡ 17
  pub samples : AreStarts l.sample_starts.items (length l.by_sample.items)
  pub slots : AreStarts l.slot_starts.items (length l.by_slot.items)
  pub listed : All (IsListedSample (laid l)) l.ending.items
  pub owners : (n : ℕ) → n + 1 < length l.sample_starts.items → All (λ (a : SlotPart). a.sample ≡ n) (segment l.sample_starts.items l.by_sample.items n)
  pub four : (n : ℕ) → n + 1 < length l.sample_starts.items → length (segment l.sample_starts.items l.by_sample.items n) ≤ 4
