-- Samples as a layout lists them.
use Rattle.std.specs.Prelude.{ℕ, ◌≡◌, ◌/◌, List, [], Some, slice_get}
use Rattle.std.specs.Option.{option_map_or}
use Rattle.fdr_layout.specs.declared.parts.Sample.{Sample as ListedSample}
use Rattle.fdr_layout.specs.Samples.{Part, Sample, first_at, last_at}
use Rattle.fdr_layout.specs.SlotParts.{Laid}

-- the parts of the sample with this number in a layout
abbrev pub numbered_parts : Laid → ℕ → List Part
numbered_parts l n = option_map_or (λ (s : Sample). s.parts) (slice_get l.samples n) []

-- the sample that is listed so in a layout: its parts are those of the sample with its number
abbrev pub sample_in : Laid → ListedSample → Sample
sample_in l e = record { param = e.param; index = e.index; parts = numbered_parts l e.number }

-- A sample of the layout is listed so: with its number, its parameter, its index, and the word slots of its earliest and its last
-- part.
pub record IsListedSample (l : Laid) (e : ListedSample) : Type 0 where
  pub sample : slice_get l.samples e.number ≡ Some (sample_in l e)
  pub first : e.first ≡ first_at (numbered_parts l e.number) / 12
  pub last : e.last ≡ last_at (numbered_parts l e.number) / 12
