-- What bits hold, entry by entry: their gaps, their accepted frames, and after each frame its rows. Other lines may come between.
use Rattle.std.specs.Prelude.{ℕ, ◌-◌, Bool, true, false, List, [], ◌∷◌, length, map, Option, Some, None}
use Rattle.std.specs.List.{flat_map}
use Rattle.fdr_sync.specs.Events.{Event, Frame, Gap, events_of}
use Rattle.fdr_table.specs.Rows.{TableRows}
use Rattle.fdr_recon.specs.declared.Row.{Row}
use Rattle.fdr_recon.specs.Past.{is_linked_at}
use Rattle.fdr_recon.specs.Rows.{ReadFrame, rows_looked_at}
use Rattle.fdr_listing.specs.Text.{gap_text}
use Rattle.fdr_readout.specs.Listing.{is_frame_linked, rows_at, row_line_of}

-- one entry of what is listed: a gap, by its first bit and its number of bits, a frame, with whether it is linked to the one
-- before it, a row of the frame before, or a line of its own, as that of a session
pub data Entry : Type 0 where
  GapEntry : ℕ → ℕ → Entry
  FrameEntry : Bool → Entry
  RowEntry : Row → Entry
  LineEntry : List ℕ → Entry

-- the entry of a row, as a list: of one entry, or empty where the row isn't listed
unfoldable pub row_entries : Option Row → List Entry
row_entries None = []
row_entries (Some r) = RowEntry r ∷ []

-- the entries of the last of the frames that were read: the frame, and after it its rows
unfoldable pub last_frame_entries : TableRows → List ReadFrame → List Entry
last_frame_entries t frames =
    FrameEntry (is_linked_at t.frame frames (length frames - 1)) ∷ flat_map row_entries (rows_looked_at t frames (length frames - 1))

-- the entries of an event, where these frames were read up to it: its gap, or its frame and after it the frame's rows
abbrev pub event_entries : TableRows → List ReadFrame → Event → List Entry
event_entries t read (Frame a) = last_frame_entries t read
event_entries t read (Gap a n) = GapEntry a n ∷ []

-- the entries of an event of bits: its gap, or its frame and after it the frame's rows
unfoldable pub entries_at : TableRows → List ℕ → Event → List Entry
entries_at t b (Frame a) = FrameEntry (is_frame_linked t b a) ∷ map RowEntry (rows_at t b a)
entries_at t b (Gap a n) = GapEntry a n ∷ []

-- all entries of bits, in their order
unfoldable pub entries_of : TableRows → List ℕ → List Entry
entries_of t b = flat_map (entries_at t b) (events_of b t.frame.words)

-- the line of an entry; a frame has none of its own. The lines of all entries are the listing
unfoldable pub entry_lines : TableRows → Entry → List ℕ
entry_lines t (GapEntry a n) = gap_text a n
entry_lines t (FrameEntry linked) = []
entry_lines t (RowEntry r) = row_line_of t r
entry_lines t (LineEntry line) = line

-- the row of an entry that is one
abbrev pub row_of_entry : Entry → Option Row
row_of_entry (GapEntry a n) = None
row_of_entry (FrameEntry linked) = None
row_of_entry (RowEntry r) = Some r
row_of_entry (LineEntry line) = None

-- whether an entry is a frame
abbrev pub is_frame_entry : Entry → Bool
is_frame_entry (GapEntry a n) = false
is_frame_entry (FrameEntry linked) = true
is_frame_entry (RowEntry r) = false
is_frame_entry (LineEntry line) = false
