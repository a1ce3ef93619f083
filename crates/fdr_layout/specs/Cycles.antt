-- The samples of the 16 cycles of a superframe.
use Rattle.std.specs.Prelude.{◌<◌, ◌^◌, ◌≡◌, List, length}
use Rattle.std.specs.List.{All}
use Rattle.fdr_layout.specs.Samples.{Sample}

-- There are 16 lists of samples, one for each cycle of a superframe, and each has fewer than 2^32 samples.
pub record AreCycles (cycles : List (List Sample)) : Type 0 where
  pub count : length cycles ≡ 16
  pub sample_counts : All (λ (samples : List Sample). length samples < 2 ^ 32) cycles
