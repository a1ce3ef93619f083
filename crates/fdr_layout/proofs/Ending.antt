-- How the parts of a sample lie round the end of the sample.
use Rattle.std.specs.Prelude.{◌≡◌, ℕ, ◌≤◌}
use Rattle.std.specs.List.{All}
use Rattle.fdr_check.specs.Occurrences.{cycle_of}
use Rattle.fdr_layout.specs.Samples.{Part, Sample, first_at, last_at}

-- The sample ends in this cycle, of frames with subframes of w words: its last part lies in it, and each part lies in it
-- or before it, and not before the earliest part.
pub record EndsIn (w cycle : ℕ) (s : Sample) : Type 0 where
  pub last : cycle_of w (last_at s.parts) ≡ cycle
  pub first : cycle_of w (first_at s.parts) ≤ cycle
  pub low : All (λ (p : Part). cycle_of w (first_at s.parts) ≤ cycle_of w p.at) s.parts
  pub high : All (λ (p : Part). cycle_of w p.at ≤ cycle) s.parts
