-- The listing of a bit list: the text of its gaps and of the rows of its accepted frames, in bit order.
use Rattle.std.specs.Prelude.{ℕ, ◌≡◌, ◌+◌, ◌-◌, ◌*◌, ◌==◌, Bool, nat_le, nat_lt, if◌then◌else◌, List, [], length, map, filter}
use Rattle.std.specs.List.{flat_map, range_with_len, list_any}
use Rattle.fdr_bits.specs.Bits.{word_at}
use Rattle.fdr_sync.specs.Accepted.{accepted_frames}
use Rattle.fdr_sync.specs.Events.{Event, Frame, Gap, decided_events, events_of, AreEvents, EventsAreUnique}
use Rattle.fdr_table.specs.Rows.{TableRows}
use Rattle.fdr_recon.specs.declared.Row.{Row}
use Rattle.fdr_recon.specs.Past.{is_linked_at}
use Rattle.fdr_recon.specs.Rows.{ReadFrame, rows_of_frame, param_at}
use Rattle.fdr_listing.specs.Text.{gap_text, row_text}

-- the words of the frame that begins at bit a, where a subframe has w words
unfoldable pub frame_words : List ℕ → ℕ → ℕ → List ℕ
frame_words b w a = map (λ k. word_at b (a + 12 * k)) (range_with_len 0 (4 * w))

-- the accepted frame at bit a as it is read: whether another accepted frame ends where it begins, and its words
unfoldable pub frame_read : List ℕ → ℕ → ℕ → ReadFrame
frame_read b w a = record { adjacent = list_any (λ x. x + 48 * w == a) (accepted_frames b w); words = frame_words b w a }

-- the accepted frames of bits up to the one at bit a
abbrev pub accepted_to : List ℕ → ℕ → ℕ → List ℕ
accepted_to b w a = filter (λ x. nat_le x a) (accepted_frames b w)

-- the rows of the accepted frame at bit a
unfoldable pub rows_at : TableRows → List ℕ → ℕ → List Row
rows_at t b a = let before = accepted_to b t.frame.words a in rows_of_frame t (map (frame_read b t.frame.words) before) (length before - 1)

-- whether the accepted frame at bit `a` is linked to the accepted frame before it: it begins where that ends, and its counter is
-- one more
unfoldable pub is_frame_linked : TableRows → List ℕ → ℕ → Bool
is_frame_linked t b a =
    let before = accepted_to b t.frame.words a in is_linked_at t.frame (map (frame_read b t.frame.words) before) (length before - 1)

-- the line of a row, with its parameter's name and number of decimals
unfoldable pub row_line_of : TableRows → Row → List ℕ
row_line_of t r = let p = param_at t.params r.param in row_text r p.name p.decimals

-- the line of the gap from one bit to another, if there is a bit between them
unfoldable pub gap_lines : ℕ → ℕ → List ℕ
gap_lines from end = if nat_lt from end then gap_text from (end - from) else []

-- the lines of an event of bits: its gap's line, or the lines of its frame's rows
unfoldable pub lines_of : TableRows → List ℕ → Event → List ℕ
lines_of t b (Frame a) = flat_map (row_line_of t) (rows_at t b a)
lines_of t b (Gap a n) = gap_text a n

-- the listing of bits by a table: the lines of all their events, in order
unfoldable pub listing_of : TableRows → List ℕ → List ℕ
listing_of t b = flat_map (lines_of t b) (events_of b t.frame.words)

-- the lines of the events that bytes decide which may go on
unfoldable pub decided_listing : TableRows → List ℕ → List ℕ
decided_listing t b = flat_map (lines_of t b) (decided_events b t.frame.words)

-- The listing is that of the accepted frames and the gaps, of which the bits have exactly one list: it has the lines of
-- those events, one after another.
pub record ListsEvents (t : TableRows) (b : List ℕ) : Type 0 where
  pub unique : EventsAreUnique b t.frame.words
  pub lines : (es : List Event) → AreEvents b t.frame.words es → listing_of t b ≡ flat_map (lines_of t b) es
