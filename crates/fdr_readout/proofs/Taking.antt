-- What a taker took, piece by piece.
use Rattle.std.proofs.Common.{refl, ◌≡◌, ℕ, List, [], ◌++◌, Result, Ok, Err, sym, ap, ◌∙◌, arith, append-nil}
use Rattle.std.specs.Prelude.{OnOk}
use Rattle.std.specs.List.{flat_map}
use Rattle.std.proofs.lemmas.List.Concat.{flat_map-append}
use Rattle.fdr_frame.specs.WordCount.{IsWordCount}
use Rattle.fdr_resync.proofs.Growing.{events_extend}
use Rattle.fdr_sync.specs.Events.{decided_events}
use Rattle.fdr_sync.proofs.FrameLemmas.{none_in_few_bytes}
use Rattle.fdr_sync.proofs.EventSteps.{decided_from_none, events_from_none}
use Rattle.fdr_sync.proofs.FrameSteps.{word_count_some}
use Rattle.fdr_table.specs.Rows.{TableRows}
use Rattle.fdr_readout.specs.declared.events.EventReader.{EventReader}
use Rattle.fdr_readout.specs.Listing.{decided_listing, lines_of}
use Rattle.fdr_readout.specs.Entries.{Entry, entries_at, entries_of, entry_lines}
use Rattle.fdr_readout.specs.Reading.{ReadsEvents, entries_in, decided_past}
use Rattle.fdr_readout.specs.Taken.{HasTaken}
use Rattle.fdr_readout.specs.Takers.{TakerLaws}
use Rattle.fdr_readout.proofs.EntryLemmas.{lines_of_events}

pub on_both : {X E : Type 0} (r : Result X E) (A B : Type 0) → OnOk r A → OnOk r B → OnOk r (A × B)
on_both (Ok x) A B a b = (a, b)
on_both (Err e) A B a b = tt

-- nothing was taken of no bytes
pub taken_nothing : {S O : Type 0} (took : TableRows → S → O → S → O → List Entry → Type 0)
    (failed_in : TableRows → S → O → O → List Entry → Type 0) → TakerLaws took failed_in
    → (t : TableRows) (r : EventReader) (s : S) (o : O) → ReadsEvents t r (decided_past t.frame.words []) → HasTaken took t r [] s o s o
taken_nothing took failed_in laws t r s o reads =
    let w = t.frame.words in
    let empty : decided_events [] w ≡ [] = decided_from_none [] w 0 (none_in_few_bytes [] w 0 (omega (arith, word_count_some w reads.count))) in
    record { reads = reads; entries = []; taken = laws.nothing t s o; decided = λ more. ap (entries_in t more) empty }

-- the lines of the entries that were taken
pub lines_of_taken : (t : TableRows) (bytes : List ℕ) (entries : List Entry)
    → ((more : List ℕ) → entries_in t (bytes ++ more) (decided_events bytes t.frame.words) ≡ entries)
    → flat_map (entry_lines t) entries ≡ decided_listing t bytes
unfolding decided_listing
lines_of_taken t bytes entries decided =
    ap (flat_map (entry_lines t)) (sym (decided []) ∙ ap (λ b. entries_in t b (decided_events bytes t.frame.words)) (append-nil bytes))
    ∙ lines_of_events t bytes (decided_events bytes t.frame.words)

-- nothing is decided of no bytes
pub nothing_decided : (t : TableRows) → IsWordCount t.frame.words → decided_listing t [] ≡ []
unfolding decided_listing
nothing_decided t count =
    let w = t.frame.words in
    ap (flat_map (lines_of t [])) (decided_from_none [] w 0 (none_in_few_bytes [] w 0 (omega (arith, word_count_some w count))))

-- and nothing is listed of them
pub nothing_listed : (t : TableRows) → IsWordCount t.frame.words → entries_of t [] ≡ []
unfolding entries_of
nothing_listed t count =
    let w = t.frame.words in
    ap (entries_in t []) (events_from_none [] w 0 (none_in_few_bytes [] w 0 (omega (arith, word_count_some w count))))

-- what was taken comes first, however the bytes go on
pub taken_first : {S O : Type 0} (took : TableRows → S → O → S → O → List Entry → Type 0) (t : TableRows) (r : EventReader) (bytes more : List ℕ)
    (a : S) (p : O) (b : S) (q : O) → (had : HasTaken took t r bytes a p b q) → (rest : List Entry) × (entries_of t (bytes ++ more) ≡ had.entries ++ rest)
unfolding entries_of
taken_first took t r bytes more a p b q had =
    let w = t.frame.words in
    let all = bytes ++ more in
    let last = events_extend bytes more w (word_count_some w had.reads.count) in
    (entries_in t all last.0, rw last.1 (flat_map-append (entries_at t all) (decided_events bytes w) last.0 ∙ rw (had.decided more) refl))
