-- Bits that are cut in two, and what of the whole is in the parts.
use Rattle.std.specs.Prelude.{◌∷◌, false, ℕ, ◌≡◌, ◌+◌, List, ◌++◌, map, Contains}
use Rattle.fdr_bits.specs.Bits.{bits_in}
use Rattle.fdr_sync.specs.Accepted.{accepted_frames}
use Rattle.fdr_table.specs.Rows.{TableRows}
use Rattle.fdr_readout.specs.Listing.{is_frame_linked, rows_at}
use Rattle.fdr_readout.specs.Survival.{AreAmong, IsClearBefore}

-- these places, each of them n bits later
abbrev pub moved : ℕ → List ℕ → List ℕ
moved n places = map (λ p. n + p) places

-- No frame position reaches over the place where the bytes a end and the bytes b follow.
abbrev pub IsCleanCut : ℕ → List ℕ → List ℕ → Type 0
IsCleanCut w a b = IsClearBefore (a ++ b) w (bits_in a)

-- What is listed of bits that follow one another is what is listed of each by itself, but for rows joined over the cut: the
-- frames are the same, and so are the rows of the first part's. The rows of each frame of the second are among those that it has
-- in the whole, in the same order; and they are the same, unless the first frame of the second part is linked to the last of the
-- first.
pub record KeepsRows (t : TableRows) (a b : List ℕ) : Type 0 where
  pub frames : accepted_frames (a ++ b) t.frame.words
      ≡ accepted_frames a t.frame.words ++ moved (bits_in a) (accepted_frames b t.frame.words)
  pub first : (p : ℕ) → Contains (accepted_frames a t.frame.words) p → rows_at t (a ++ b) p ≡ rows_at t a p
  pub second : (p : ℕ) → Contains (accepted_frames b t.frame.words) p → AreAmong (rows_at t b p) (rows_at t (a ++ b) (bits_in a + p))
  pub unlinked : (x : ℕ) (rest : List ℕ) → accepted_frames b t.frame.words ≡ x ∷ rest → is_frame_linked t (a ++ b) (bits_in a + x) ≡ false
      → (p : ℕ) → Contains (accepted_frames b t.frame.words) p → rows_at t (a ++ b) (bits_in a + p) ≡ rows_at t b p
