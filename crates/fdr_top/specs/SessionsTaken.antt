-- What a taker took of blocks that come one after another, session by session.
use Rattle.std.specs.Prelude.{ℕ, ◌≡◌, ◌<◌, ◌-◌, ◌==◌, if◌then◌else◌, List, [], ◌∷◌, ◌++◌, drop, length, take, Option, Some, None}
use Rattle.std.specs.List.{flat_map}
use Rattle.fdr_recover.specs.Blocks.{Block}
use Rattle.fdr_recover.specs.Payloads.{payloads_of}
use Rattle.fdr_recover.specs.Stretches.{last_session}
use Rattle.fdr_sync.specs.Events.{decided_events}
use Rattle.fdr_table.specs.Rows.{TableRows}
use Rattle.fdr_readout.specs.declared.events.EventReader.{EventReader}
use Rattle.fdr_readout.specs.Entries.{Entry, LineEntry, entry_lines}
use Rattle.fdr_readout.specs.Reading.{entries_in}
use Rattle.fdr_readout.specs.Taken.{HasTaken}
use Rattle.fdr_top.specs.Sessions.{entries_of_blocks, session_entries, session_line, sessions_of}

-- Of the blocks that came, these are the ones whose bits are read now, and those the sessions before them. No session is open in
-- version 1, where all blocks are read together, and before the first block; else the last session is, by its number.
abbrev pub IsOpenSession : ℕ → List Block → Option ℕ → List (List Block) → List Block → Type 0
IsOpenSession version blocks None closed current = (version ≡ 2 → blocks ≡ []) × (current ≡ blocks)
IsOpenSession version blocks (Some number) closed current =
    (version ≡ 2) × (0 < length current) × (last_session current ≡ number) × (sessions_of blocks ≡ closed ++ current ∷ [])

-- the entries that come before the bits of the open session: those of the sessions before it, and its line
abbrev pub entries_before : TableRows → Option ℕ → List (List Block) → List Block → List Entry
entries_before t None closed current = []
entries_before t (Some number) closed current = flat_map (session_entries t) closed ++ LineEntry (session_line current) ∷ []

-- These blocks came, and since the taker and the sink were as they were at first the taker took all that the blocks decide,
-- session by session, as far as nothing that follows changes it.
pub record HasTakenBlocks {S O : Type 0} (took : TableRows → S → O → S → O → List Entry → Type 0) (t : TableRows) (version : ℕ)
    (open_session : Option ℕ) (r : EventReader) (blocks : List Block) (first : S) (out_first : O) (now : S) (out_now : O) : Type 0 where
  pub closed : List (List Block)
  pub current : List Block
  pub mid : S
  pub out_mid : O
  pub session : IsOpenSession version blocks open_session closed current
  pub before : took t first out_first mid out_mid (entries_before t open_session closed current)
  pub bits : HasTaken took t r (payloads_of current) mid out_mid now out_now

-- These blocks came, the taker took all that they decide, and one more block comes, whose session is open: its bits are still to
-- be read.
pub record HasBegunBlock {S O : Type 0} (took : TableRows → S → O → S → O → List Entry → Type 0) (t : TableRows) (version : ℕ)
    (open_session : Option ℕ) (r : EventReader) (blocks : List Block) (b : Block) (first : S) (out_first : O) (now : S) (out_now : O)
    : Type 0 where
  pub closed : List (List Block)
  pub current : List Block
  pub mid : S
  pub out_mid : O
  pub session : IsOpenSession version (blocks ++ b ∷ []) open_session closed (current ++ b ∷ [])
  pub before : took t first out_first mid out_mid (entries_before t open_session closed (current ++ b ∷ []))
  pub bits : HasTaken took t r (payloads_of current) mid out_mid now out_now

-- the entries that bytes decide which may go on
abbrev pub decided_entries : TableRows → List ℕ → List Entry
decided_entries t bytes = entries_in t bytes (decided_events bytes t.frame.words)

-- the entries that a session decides which may go on: its line, and what its bits decide
abbrev pub decided_session : TableRows → List Block → List Entry
decided_session t session = LineEntry (session_line session) ∷ decided_entries t (payloads_of session)

-- the entries that sessions decide of which the last may go on: all of those before it, and what the last decides
abbrev pub decided_of_sessions : TableRows → List (List Block) → List Entry
decided_of_sessions t sessions = let closed = length sessions - 1 in
    flat_map (session_entries t) (take closed sessions) ++ flat_map (decided_session t) (drop closed sessions)

-- the entries that blocks decide which may go on: of each session in order, or in version 1 of all bits together
unfoldable pub decided_of_blocks : TableRows → ℕ → List Block → List Entry
decided_of_blocks t version blocks =
    if version == 2 then decided_of_sessions t (sessions_of blocks) else decided_entries t (payloads_of blocks)

-- the lines of the entries that blocks decide which may go on
abbrev pub decided_lines : TableRows → ℕ → List Block → List ℕ
decided_lines t version blocks = flat_map (entry_lines t) (decided_of_blocks t version blocks)

-- The first blocks of a list were read, and of these the taker took what they decide, which comes first in all that the list
-- decides.
pub record TakesFirstBlocks {S O : Type 0} (took : TableRows → S → O → S → O → List Entry → Type 0) (t : TableRows) (version : ℕ)
    (whole : List Block) (first : S) (out_first : O) (now : S) (out_now : O) : Type 0 where
  pub read : List Block
  pub unread : List Block
  pub parted : whole ≡ read ++ unread
  pub taken : took t first out_first now out_now (decided_of_blocks t version read)
  pub later : List Entry
  pub ahead : entries_of_blocks t version whole ≡ decided_of_blocks t version read ++ later
