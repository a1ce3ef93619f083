-- The frames that were read, for which a value stands.
use Rattle.std.specs.Prelude.{ℕ, ◌-◌, ◌*◌, ◌<◌, ◌≡◌, min, Bool, false, if◌then◌else◌, List, [], ◌∷◌, length, zero, suc}
use Rattle.std.specs.List.{All, flat_map}
use Rattle.circular_buffer.specs.Buffer.{keep_last}
use Rattle.fdr_table.specs.Rows.{FrameRow, TableRows}
use Rattle.fdr_layout.specs.SlotParts.{laid_of}
use Rattle.fdr_recon.specs.Rows.{ReadFrame, frame_at, are_linked}
use Rattle.fdr_recon.specs.Kept.{RebuildKept}

-- a frame as it is read: whether it begins where the frame before it ends, and its words
abbrev pub read_frame : Bool → List ℕ → ReadFrame
read_frame adjacent words = record { adjacent = adjacent; words = words }

-- how many frames in a row before frame i are joined with it
unfoldable pub joined_count : FrameRow → List ReadFrame → ℕ → ℕ
joined_count f frames zero = 0
joined_count f frames (suc i) = if are_linked f (frame_at frames i) (frame_at frames (suc i)) then suc (joined_count f frames i) else 0

-- whether frame i is linked to the one before it
abbrev pub is_linked_at : FrameRow → List ReadFrame → ℕ → Bool
is_linked_at f frames zero = false
is_linked_at f frames (suc i) = are_linked f (frame_at frames i) (frame_at frames (suc i))

-- The first of these frames, if there is one, isn't adjacent to a frame before it.
abbrev pub BeginsApart : List ReadFrame → Type 0
BeginsApart [] = Unit {0}
BeginsApart (r ∷ frames) = r.adjacent ≡ false

-- The frame has four subframes of w words of 12 bits.
pub record IsWholeFrame (w : ℕ) (r : ReadFrame) : Type 0 where
  pub whole : length r.words ≡ 4 * w
  pub small : All (λ word. word < 4096) r.words

-- What the rebuild keeps stands for the whole list of frames that were read, by this table.
pub record RepresentsRebuild (k : RebuildKept) (t : TableRows) (past : List ReadFrame) : Type 0 where
  pub frame : k.frame ≡ t.frame
  pub params : k.params ≡ t.params
  pub laid : k.laid ≡ laid_of t
  pub frames : All (IsWholeFrame t.frame.words) past
  pub words : k.words ≡ keep_last (64 * t.frame.words) (flat_map (λ (r : ReadFrame). r.words) past)
  pub joined : k.joined ≡ min 15 (joined_count t.frame past (length past - 1))
