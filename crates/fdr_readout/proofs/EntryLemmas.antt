-- The entries of rows, and the lines of all entries.
use Rattle.std.proofs.Common.{◌≡◌, ℕ, ◌+◌, List, [], ◌∷◌, ◌++◌, map, ap, refl, ◌∙◌}
use Rattle.std.proofs.lemmas.List.{append-nil, take-append-drop, take_more}
use Rattle.std.proofs.lemmas.Option.{slice_get_within, get_or_from_slice_get}
use Rattle.std.proofs.lemmas.List.Concat.{flat_map-append}
use Rattle.std.specs.Prelude.{Option, Some, None, slice_get, take, drop}
use Rattle.std.specs.List.{flat_map, filter_map}
use Rattle.fdr_sync.specs.Events.{Event, Frame, Gap, events_of}
use Rattle.fdr_table.specs.Rows.{TableRows}
use Rattle.fdr_recon.specs.declared.Row.{Row}
use Rattle.fdr_readout.specs.Listing.{row_line_of, lines_of, listing_of, rows_at}
use Rattle.fdr_readout.specs.Entries.{Entry, RowEntry, row_entries, entries_at, entries_of, entry_lines}

-- one more row
pub flat_map_next : {X Y : Type 0} (f : X → List Y) (xs : List X) (i : ℕ) (x : X) → slice_get xs i ≡ Some x
    → flat_map f (take (i + 1) xs) ≡ flat_map f (take i xs) ++ f x
flat_map_next f xs i x got =
    rw (take_more xs i x (slice_get_within xs i x got), get_or_from_slice_get xs i x x got)
    (flat_map-append f (take i xs) (x ∷ []) ∙ rw (append-nil (f x)) refl)

-- the rows before one, it, and those after it
pub flat_map_around : {X Y : Type 0} (f : X → List Y) (xs : List X) (i : ℕ) (x : X) → slice_get xs i ≡ Some x
    → flat_map f xs ≡ (flat_map f (take i xs) ++ f x) ++ flat_map f (drop (i + 1) xs)
flat_map_around f xs i x h = rw (← flat_map_next f xs i x h, ← flat_map-append f (take (i + 1) xs) (drop (i + 1) xs), take-append-drop) refl

-- the entries of the rows that are listed
pub flat_map_row_entries : (rows : List (Option Row)) → flat_map row_entries rows ≡ map RowEntry (filter_map (λ r. r) rows)
unfolding row_entries
flat_map_row_entries [] = refl
flat_map_row_entries (None ∷ rows) = flat_map_row_entries rows
flat_map_row_entries (Some r ∷ rows) = ap (λ (rest : List Entry). RowEntry r ∷ rest) (flat_map_row_entries rows)

-- ---- the lines of entries

row_entry_lines : (t : TableRows) (rows : List Row) → flat_map (entry_lines t) (map RowEntry rows) ≡ flat_map (row_line_of t) rows
unfolding entry_lines
row_entry_lines t [] = refl
row_entry_lines t (r ∷ rows) = ap (λ (rest : List ℕ). row_line_of t r ++ rest) (row_entry_lines t rows)

event_lines : (t : TableRows) (b : List ℕ) (e : Event) → flat_map (entry_lines t) (entries_at t b e) ≡ lines_of t b e
unfolding entry_lines entries_at lines_of
event_lines t b (Frame a) = row_entry_lines t (rows_at t b a)
event_lines t b (Gap a n) = append-nil _

pub lines_of_events : (t : TableRows) (b : List ℕ) (es : List Event) → flat_map (entry_lines t) (flat_map (entries_at t b) es) ≡ flat_map (lines_of t b) es
lines_of_events t b [] = refl
lines_of_events t b (e ∷ es) =
    flat_map-append (entry_lines t) (entries_at t b e) (flat_map (entries_at t b) es) ∙ rw (event_lines t b e, lines_of_events t b es) refl

-- the listing is the lines of all entries
pub lines_of_entries : (t : TableRows) (b : List ℕ) → flat_map (entry_lines t) (entries_of t b) ≡ listing_of t b
unfolding entries_of listing_of
lines_of_entries t b = lines_of_events t b (events_of b t.frame.words)
