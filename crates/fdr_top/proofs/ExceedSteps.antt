-- What a watch is given of the entries of blocks.
use Rattle.std.proofs.Common.{◌≡◌, ℕ, ◌==◌, true, false, cond, List, [], ◌∷◌, ◌++◌, map, ap, sym, refl, ◌∙◌, append-nil}
use Rattle.std.specs.List.{flat_map, filter_map}
use Rattle.std.proofs.lemmas.Grind.{flat_map-append}
use Rattle.fdr_sync.specs.Events.{Event, Frame, Gap, events_of, frame_of_event}
use Rattle.fdr_sync.proofs.EventLemmas.{frames_of_events}
use Rattle.fdr_table.specs.Rows.{TableRows}
use Rattle.fdr_recover.specs.Blocks.{Block}
use Rattle.fdr_recover.specs.Payloads.{payloads_of}
use Rattle.fdr_recon.specs.declared.Row.{Row}
use Rattle.fdr_exceed.specs.Exceedances.{WatchStep, RowStep, ResetStep}
use Rattle.fdr_readout.specs.Entries.{FrameEntry, RowEntry, entries_at, entries_of}
use Rattle.fdr_readout.specs.Listing.{is_frame_linked, rows_at}
use Rattle.fdr_top.specs.Exceed.{frame_steps, part_steps, steps_of_bits, steps_of_blocks}
use Rattle.fdr_top.specs.Exceed.{entry_steps, steps_of_entries}
use Rattle.fdr_top.specs.Sessions.{entries_of_blocks, session_entries, sessions_of}

steps_of_rows : (rows : List Row) → steps_of_entries (map RowEntry rows) ≡ map RowStep rows
steps_of_rows [] = refl
steps_of_rows (r ∷ rows) = ap (λ (rest : List WatchStep). RowStep r ∷ rest) (steps_of_rows rows)

steps_of_event : (t : TableRows) (b : List ℕ) (a : ℕ) → steps_of_entries (entries_at t b (Frame a)) ≡ frame_steps t b a
unfolding entries_at
steps_of_event t b a =
    ap (λ (rest : List WatchStep). entry_steps (FrameEntry (is_frame_linked t b a)) ++ rest) (steps_of_rows (rows_at t b a))

steps_of_events : (t : TableRows) (b : List ℕ) (es : List Event)
    → steps_of_entries (flat_map (entries_at t b) es) ≡ flat_map (frame_steps t b) (filter_map frame_of_event es)
unfolding entries_at
steps_of_events t b [] = refl
steps_of_events t b (Frame a ∷ es) =
    flat_map-append entry_steps (entries_at t b (Frame a)) (flat_map (entries_at t b) es)
    ∙ ap (λ (front : List WatchStep). front ++ steps_of_entries (flat_map (entries_at t b) es)) (steps_of_event t b a)
    ∙ ap (λ (rest : List WatchStep). frame_steps t b a ++ rest) (steps_of_events t b es)
steps_of_events t b (Gap a n ∷ es) = steps_of_events t b es

-- of bits
pub steps_of_bits_is : (t : TableRows) (b : List ℕ) → steps_of_entries (entries_of t b) ≡ steps_of_bits t b
unfolding entries_of steps_of_bits
steps_of_bits_is t b =
    steps_of_events t b (events_of b t.frame.words) ∙ ap (flat_map (frame_steps t b)) (frames_of_events b t.frame.words)

-- of sessions
steps_of_sessions : (t : TableRows) (sessions : List (List Block))
    → steps_of_entries (flat_map (session_entries t) sessions) ≡ flat_map (part_steps t) sessions
steps_of_sessions t [] = refl
steps_of_sessions t (session ∷ sessions) =
    flat_map-append entry_steps (session_entries t session) (flat_map (session_entries t) sessions)
    ∙ ap (λ (front : List WatchStep). front ++ steps_of_entries (flat_map (session_entries t) sessions)) (steps_of_bits_is t (payloads_of session))
    ∙ ap (λ (rest : List WatchStep). part_steps t session ++ rest) (steps_of_sessions t sessions)

-- of blocks, with the end of the last stretch
pub steps_of_blocks_is : (t : TableRows) (version : ℕ) (blocks : List Block)
    → steps_of_entries (entries_of_blocks t version blocks) ++ ResetStep ∷ [] ≡ steps_of_blocks t version blocks
unfolding entries_of_blocks steps_of_blocks
steps_of_blocks_is t version blocks =
    ap (λ (front : List WatchStep). front ++ ResetStep ∷ []) (
    elim (version == 2) as (λ v. steps_of_entries (cond v (flat_map (session_entries t) (sessions_of blocks)) (entries_of t (payloads_of blocks)))
    ≡ flat_map (part_steps t) (cond v (sessions_of blocks) (blocks ∷ []))) [
      | true ↦ steps_of_sessions t (sessions_of blocks)
      | false ↦ steps_of_bits_is t (payloads_of blocks) ∙ sym (append-nil (part_steps t blocks))
    ]
    )
