-- The sessions of blocks, and what is listed of blocks: in version 1 of all of them together, in version 2 of each session by
-- itself.
use Rattle.std.specs.Prelude.{ℕ, ◌≡◌, ◌==◌, ◌%◌, ◌^◌, Bool, if◌then◌else◌, List, [], ◌∷◌, ◌++◌, map, sum_by, codes, decimal}
use Rattle.std.specs.List.{flat_map}
use Rattle.fdr_recover.specs.Blocks.{Block}
use Rattle.fdr_recover.specs.Payloads.{payloads_of}
use Rattle.fdr_recover.specs.Stretches.{stretches}
use Rattle.fdr_table.specs.Rows.{TableRows}
use Rattle.fdr_readout.specs.Entries.{Entry, LineEntry, entries_of}
use Rattle.fdr_readout.specs.Listing.{listing_of}
use Rattle.fdr_readout.specs.Summary.{summary_of}
use Rattle.fdr_readout.specs.declared.tally.Summary.{Summary}

-- whether two blocks have one session number
abbrev pub are_of_one_session : Block → Block → Bool
are_of_one_session a b = a.session == b.session

-- the sessions of a list of blocks: its longest stretches of neighbours with one session number
abbrev pub sessions_of : List Block → List (List Block)
sessions_of blocks = stretches are_of_one_session blocks

-- These blocks are the last session of a list.
abbrev pub IsLastSession : List Block → List Block → Type 0
IsLastSession session blocks = (earlier : List (List Block)) × (sessions_of blocks ≡ earlier ++ session ∷ [])

-- the lists of blocks that are listed by themselves: in version 1 all blocks together, in version 2 each session
abbrev pub listed_apart : ℕ → List Block → List (List Block)
listed_apart version blocks = if version == 2 then sessions_of blocks else blocks ∷ []

-- the line `session,SESSION,FIRST`: the number of a session, and the number of its first block
unfoldable pub session_text : ℕ → ℕ → List ℕ
session_text session first = codes "session," ++ decimal session ++ codes "," ++ decimal first ++ 10 ∷ []

-- the line of a session with these blocks
abbrev pub session_line : List Block → List ℕ
session_line [] = []
session_line (b ∷ bs) = session_text b.session b.number

-- the listing of a session by a table: its line, and the listing of its bits; places of gaps are counted from its first bit
abbrev pub session_listing : TableRows → List Block → List ℕ
session_listing t session = session_line session ++ listing_of t (payloads_of session)

-- the listing of the blocks of an image of this version: of each session in order, or in version 1 of all bits together
unfoldable pub listing_of_blocks : TableRows → ℕ → List Block → List ℕ
listing_of_blocks t version blocks =
    if version == 2 then flat_map (session_listing t) (sessions_of blocks) else listing_of t (payloads_of blocks)

-- the entries of a session: its line, and the entries of its bits
abbrev pub session_entries : TableRows → List Block → List Entry
session_entries t session = LineEntry (session_line session) ∷ entries_of t (payloads_of session)

-- the entries of the blocks of an image of this version: of each session in order, or in version 1 of all bits together
unfoldable pub entries_of_blocks : TableRows → ℕ → List Block → List Entry
entries_of_blocks t version blocks =
    if version == 2 then flat_map (session_entries t) (sessions_of blocks) else entries_of t (payloads_of blocks)

-- the summary of each part of the blocks that is listed by itself
abbrev pub summaries_of_blocks : TableRows → ℕ → List Block → List Summary
summaries_of_blocks t version blocks = map (λ (part : List Block). summary_of t (payloads_of part)) (listed_apart version blocks)

-- the summary of the blocks of an image of this version: all frames, all rows, and the sum of all values modulo 2^64
unfoldable pub summary_of_blocks : TableRows → ℕ → List Block → Summary
summary_of_blocks t version blocks = record {
  frames = sum_by (λ (s : Summary). s.frames) (summaries_of_blocks t version blocks);
  rows = sum_by (λ (s : Summary). s.rows) (summaries_of_blocks t version blocks);
  sum = sum_by (λ (s : Summary). s.sum) (summaries_of_blocks t version blocks) % 2 ^ 64;
}
