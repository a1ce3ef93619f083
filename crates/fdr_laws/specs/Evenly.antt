-- When the samples of a parameter are taken, in every recording.
use Rattle.std.specs.Prelude.{ℕ, ◌≡◌, ◌+◌, ◌-◌, ◌*◌, ◌<◌}
use Rattle.fdr_table.specs.Rows.{TableRows}
use Rattle.fdr_layout.specs.Samples.{Sample, parts_of}
use Rattle.fdr_sampler.specs.Held.{first_part_slot}

-- sample i of the parameter with this index in a superframe
abbrev pub sample_at : TableRows → ℕ → ℕ → Sample
sample_at t n i = record { param = n; index = i; parts = parts_of t.frame.words t.places n i }

-- the word slot of a recording at which sample i of a parameter is taken in superframe j: that of its earliest part
abbrev pub sampling_slot : TableRows → ℕ → ℕ → ℕ → ℕ
sampling_slot t n j i = 64 * t.frame.words * j + first_part_slot (sample_at t n i)

-- The parameter is sampled at equal distances in every recording: from each of its samples to the next it is one superframe by
-- its rate, within a superframe and from the last of one to the first of the next.
pub record IsEvenlySampled (t : TableRows) (n rate : ℕ) : Type 0 where
  pub within : (j i : ℕ) → i + 1 < rate → rate * sampling_slot t n j (i + 1) ≡ rate * sampling_slot t n j i + 64 * t.frame.words
  pub across : (j : ℕ) → rate * sampling_slot t n (j + 1) 0 ≡ rate * sampling_slot t n j (rate - 1) + 64 * t.frame.words
