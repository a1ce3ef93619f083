-- What is listed of the blocks of an image before and after it is upgraded.
use Rattle.std.specs.Prelude.{false, ℕ, ◌≡◌, ◌+◌, List, ◌∷◌, ◌++◌, map, Contains}
use Rattle.std.specs.List.{flat_map}
use Rattle.fdr_bits.specs.Bits.{bits_in}
use Rattle.fdr_recover.specs.Blocks.{Block}
use Rattle.fdr_recover.specs.Payloads.{contents_of, payloads_of}
use Rattle.fdr_sync.specs.Accepted.{accepted_frames}
use Rattle.fdr_table.specs.Rows.{TableRows}
use Rattle.fdr_readout.specs.Listing.{is_frame_linked, rows_at}
use Rattle.fdr_readout.specs.Survival.{AreAmong}
use Rattle.fdr_top.specs.Sessions.{sessions_of}
use Rattle.fdr_laws.specs.Cuts.{IsCleanCut}

-- The blocks are the same, but for their sessions.
abbrev pub HaveSameContents : List Block → List Block → Type 0
HaveSameContents before after = map contents_of after ≡ map contents_of before

-- the blocks of some sessions, one after another
abbrev pub blocks_of_sessions : List (List Block) → List Block
blocks_of_sessions parts = flat_map (λ (part : List Block). part) parts

-- This is one session of the blocks, with these before and after it, and no frame of the whole bits reaches over its beginning or
-- its end.
pub record IsSessionAmong (w : ℕ) (blocks : List Block) (earlier : List (List Block)) (session : List Block)
    (later : List (List Block)) : Type 0 where
  pub cut : sessions_of blocks ≡ earlier ++ session ∷ later
  pub begins : IsCleanCut w (payloads_of (blocks_of_sessions earlier)) (payloads_of (session ++ blocks_of_sessions later))
  pub ends : IsCleanCut w (payloads_of session) (payloads_of (blocks_of_sessions later))

-- Frame p of a session, listed by itself, is a frame of the whole bits, where these bytes stand before the session. Its rows are
-- among those that it has there, in the same order; and they are the same, unless the session's first frame is linked there to
-- the one before it.
pub record IsListedAlike (t : TableRows) (whole earlier session : List ℕ) (p : ℕ) : Type 0 where
  pub frame : Contains (accepted_frames whole t.frame.words) (bits_in earlier + p)
  pub rows : AreAmong (rows_at t session p) (rows_at t whole (bits_in earlier + p))
  pub same : (x : ℕ) (rest : List ℕ) → accepted_frames session t.frame.words ≡ x ∷ rest
      → is_frame_linked t whole (bits_in earlier + x) ≡ false
      → rows_at t whole (bits_in earlier + p) ≡ rows_at t session p
