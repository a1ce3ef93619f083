-- What is written of the listing of an input.
use Rattle.std.proofs.Common.{◌≡◌, ◌⊎◌, ℕ, ◌+◌, ◌<◌, List, [], ◌++◌, take, Option, ap, sym, ◌∙◌, append-nil}
use Rattle.std.proofs.Common.{length-append, arith}
use Rattle.std.specs.Prelude.{OnErr, OnOk, Result}
use Rattle.std.proofs.lemmas.List.Concat.{flat_map-append}
use Rattle.std.specs.List.{flat_map}
use Rattle.fdr_io.specs.Output.{Emits, EmitsPart}
use Rattle.fdr_io.specs.Told.{followed_by}
use Rattle.fdr_io.proofs.Telling.{followed_by-followed_by, followed_by-nil}
use Rattle.fdr_io.proofs.OutputSteps.{EmitsPart-longer, finished_part, part_at_end}
use Rattle.fdr_frame.specs.WordCount.{IsWordCount}
use Rattle.fdr_table.specs.Rows.{TableRows}
use Rattle.fdr_readout.specs.declared.events.EventReader.{EventReader}
use Rattle.fdr_readout.specs.Entries.{Entry, entries_of, entry_lines}
use Rattle.fdr_readout.specs.Listing.{decided_listing, listing_of}
use Rattle.fdr_readout.specs.Taken.{HasTaken, WritesLines}
use Rattle.fdr_readout.proofs.EntryLemmas.{lines_of_entries}
use Rattle.fdr_readout.proofs.Taking.{lines_of_taken, nothing_decided, taken_first}
use Rattle.fdr_deck.specs.State.{State, Tells}
use Rattle.fdr_pieces.specs.Pieces.{before_last}
use Rattle.fdr_pieces.specs.Limits.{most_input_bytes}
use Rattle.fdr_top.specs.Listbits.{HasWrittenDecided, ListsInput}
use Rattle.fdr_top.specs.InputTexts.{WritesFront, WritesOfInput}
use Rattle.fdr_top.specs.declared.outcome.Outcome.{Outcome}
use Rattle.fdr_top.specs.declared.outcome.Outcome.TheVariants as outcome

-- ---- what is written

-- where nothing waits, the lines of all that is decided are written
pub decided_written : {O : Type 0} (written : O → Option (List ℕ)) (t : TableRows) (r : EventReader) (bytes : List ℕ) (out_first out_now : O)
    → HasTaken (WritesLines written) t r bytes [] out_first [] out_now
    → written out_now ≡ followed_by (written out_first) (decided_listing t bytes)
decided_written written t r bytes out_first out_now had =
    had.taken.written
    ∙ ap (followed_by (written out_first))
    (sym (append-nil had.taken.gone) ∙ had.taken.waits ∙ lines_of_taken t bytes had.entries had.decided)

-- more was written than what is decided
pub in_time_then : (t : TableRows) (bytes more : List ℕ) (start head now : Option (List ℕ)) → head ≡ followed_by start (decided_listing t bytes)
    → now ≡ followed_by head more → HasWrittenDecided t bytes start now
in_time_then t bytes more start head now all grown = record {
  gone = decided_listing t bytes ++ more;
  written = grown ∙ ap (λ told. followed_by told more) all ∙ followed_by-followed_by start (decided_listing t bytes) more;
  enough = omega (arith, length-append (decided_listing t bytes) more);
}

-- more was written
pub in_time_more : (t : TableRows) (bytes more : List ℕ) (start head now : Option (List ℕ)) → HasWrittenDecided t bytes start head
    → now ≡ followed_by head more → HasWrittenDecided t bytes start now
in_time_more t bytes more start head now had grown = record {
  gone = had.gone ++ more;
  written = grown ∙ ap (λ told. followed_by told more) had.written ∙ followed_by-followed_by start had.gone more;
  enough = omega (arith, had.enough, length-append had.gone more);
}

-- before the first piece
pub in_time_none : (t : TableRows) (start : Option (List ℕ)) → IsWordCount t.frame.words → HasWrittenDecided t [] start start
in_time_none t start count = record { gone = []; written = sym (followed_by-nil start); enough = rw (nothing_decided t count) (omega arith) }

-- what goes out while entries are taken, and what waits after that
pub grown_by : (before mid now : Option (List ℕ)) (held waiting text out : List ℕ) → Emits before mid held waiting text
    → now ≡ followed_by mid out → (more : List ℕ) × (now ≡ followed_by before more)
grown_by before mid now held waiting text out emits last = (
  emits.gone ++ out,
  last ∙ ap (λ told. followed_by told out) emits.written ∙ followed_by-followed_by before emits.gone out,
)

-- where all that waited is written
pub taken_flushed : {O : Type 0} (written : O → Option (List ℕ)) (t : TableRows) (r : EventReader) (bytes waiting : List ℕ)
    (out_first out_mid out_now : O) → HasTaken (WritesLines written) t r bytes [] out_first waiting out_mid
    → written out_now ≡ followed_by (written out_mid) waiting → HasTaken (WritesLines written) t r bytes [] out_first [] out_now
taken_flushed written t r bytes waiting out_first out_mid out_now had last = record {
  reads = had.reads;
  entries = had.entries;
  taken = record {
    gone = had.taken.gone ++ waiting;
    written = last ∙ ap (λ told. followed_by told waiting) had.taken.written
        ∙ followed_by-followed_by (written out_first) had.taken.gone waiting;
    waits = append-nil (had.taken.gone ++ waiting) ∙ had.taken.waits;
  };
  decided = had.decided;
}

-- ---- parts of the listing

-- where a front part of all lines was written
pub part_of_entries : (t : TableRows) (all : List Entry) (text : List ℕ) (start now : Option (List ℕ)) → flat_map (entry_lines t) all ≡ text
    → EmitsPart start now [] (flat_map (entry_lines t) all) → (k : ℕ) × (now ≡ followed_by start (take k text))
part_of_entries t all text start now lines part =
    (part.count, part.written ∙ ap (λ (xs : List ℕ). followed_by start (take part.count xs)) lines)

pub part_of_lines : (t : TableRows) (bytes : List ℕ) (start now : Option (List ℕ))
    → EmitsPart start now [] (flat_map (entry_lines t) (entries_of t bytes))
    → (k : ℕ) × (now ≡ followed_by start (take k (listing_of t bytes)))
part_of_lines t bytes start now part = part_of_entries t (entries_of t bytes) (listing_of t bytes) start now (lines_of_entries t bytes) part

-- where the lines of the first entries were to be written
pub part_of_first : {E : Type 0} (t : TableRows) (whole : List Entry) (text : List ℕ) (start mid now : Option (List ℕ)) (waiting : List ℕ)
    (entries rest : List Entry) (r : Result (Unit {0}) E) → flat_map (entry_lines t) whole ≡ text → whole ≡ entries ++ rest
    → Emits start mid [] waiting (flat_map (entry_lines t) entries)
    → OnOk r (now ≡ followed_by mid waiting) → OnErr r ((k : ℕ) × (now ≡ followed_by mid (take k waiting)))
    → (k : ℕ) × (now ≡ followed_by start (take k text))
part_of_first t whole text start mid now waiting entries rest r lines split emits all part =
    let some = finished_part start mid now waiting (flat_map (entry_lines t) entries) r emits all part in
    let front : EmitsPart start now [] (flat_map (entry_lines t) entries) = record { count = some.0; written = some.1 } in
    let longer = EmitsPart-longer start now [] (flat_map (entry_lines t) entries) (flat_map (entry_lines t) rest) front in
    let both : flat_map (entry_lines t) entries ++ flat_map (entry_lines t) rest ≡ text =
    sym (flat_map-append (entry_lines t) entries rest) ∙ ap (flat_map (entry_lines t)) (sym split) ∙ lines in
    (longer.count, longer.written ∙ ap (λ (xs : List ℕ). followed_by start (take longer.count xs)) both)

-- ---- a sink that failed

-- where what waited of the entries of some bytes was to be written and something failed: a front part of the listing went out,
-- however the bytes go on
pub waiting_front : {O : Type 0} (written : O → Option (List ℕ)) (t : TableRows) (r : EventReader) (bytes more waiting : List ℕ)
    (out_first out_mid : O) (now : Option (List ℕ)) (k : ℕ)
    → HasTaken (WritesLines written) t r bytes [] out_first waiting out_mid → now ≡ followed_by (written out_mid) (take k waiting)
    → WritesFront (listing_of t (bytes ++ more)) (written out_first) now
waiting_front written t r bytes more waiting out_first out_mid now k had last =
    let n = part_at_end (written out_first) (written out_mid) now waiting (flat_map (entry_lines t) had.entries) k had.taken last in
    let some : EmitsPart (written out_first) now [] (flat_map (entry_lines t) had.entries) = record { count = n.0; written = n.1 } in
    let rest = taken_first (WritesLines written) t r bytes more [] out_first waiting out_mid had in
    let all = EmitsPart-longer (written out_first) now [] (flat_map (entry_lines t) had.entries) (flat_map (entry_lines t) rest.0) some in
    part_of_lines t (bytes ++ more) (written out_first) now (record {
      count = all.count;
      written = all.written ∙ ap (λ (xs : List ℕ). followed_by (written out_first) (take all.count xs))
          (sym (flat_map-append (entry_lines t) had.entries rest.0) ∙ ap (flat_map (entry_lines t)) (sym rest.1));
    })

-- ---- what `listbits` promises

pub lists : (t : TableRows) (tells : Tells) (old new : State) (start now : Option (List ℕ)) (answer : Outcome)
    (all : WritesOfInput (listing_of t) tells old new start now answer)
    → (answer ≡ outcome.WriteFault → HasWrittenDecided t (before_last most_input_bytes old new all.pulled) start now)
    → (old.taken + most_input_bytes < new.taken → (answer ≡ outcome.TooLong) ⊎ (answer ≡ outcome.WriteFault)) → ListsInput t tells old new start now answer
lists t tells old new start now answer all in_time too_long = record { lists = all; in_time = in_time; too_long_always = too_long }
