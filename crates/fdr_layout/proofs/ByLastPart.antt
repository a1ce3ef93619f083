-- Samples in the order of their last parts, by stretches of bits.
use Rattle.std.specs.Prelude.{ℕ, ◌*◌, ◌==◌, List, filter}
use Rattle.std.specs.List.{flat_map, range_with_len}
use Rattle.fdr_check.specs.Occurrences.{frame_bits}
use Rattle.fdr_layout.specs.Samples.{Sample, last_at}

-- those samples whose last part begins at bit x
abbrev pub ending_at : List Sample → ℕ → List Sample
ending_at samples x = filter (λ (s : Sample). last_at s.parts == x) samples

-- those whose last part lies in a cycle
unfoldable pub ending_among : ℕ → List Sample → ℕ → List Sample
ending_among w samples cycle = flat_map (ending_at samples) (range_with_len (frame_bits w * cycle) (frame_bits w))
