-- What a taker took of bytes that come in pieces.
use Rattle.std.specs.Prelude.{ℕ, ◌≡◌, ◌++◌, List, Option}
use Rattle.std.specs.List.{flat_map}
use Rattle.fdr_io.specs.Output.{Emits}
use Rattle.fdr_sync.specs.Events.{decided_events}
use Rattle.fdr_table.specs.Rows.{TableRows}
use Rattle.fdr_readout.specs.declared.events.EventReader.{EventReader}
use Rattle.fdr_readout.specs.Entries.{Entry, entry_lines}
use Rattle.fdr_readout.specs.Reading.{ReadsEvents, entries_in, decided_past}

-- These bytes came to a reader, and since the taker and the sink were as they were at first the taker took the entries of all
-- events that they decide, which are the same however the bytes go on.
pub record HasTaken {S O : Type 0} (took : TableRows → S → O → S → O → List Entry → Type 0) (t : TableRows) (r : EventReader)
    (bytes : List ℕ) (first : S) (out_first : O) (now : S) (out_now : O) : Type 0 where
  pub reads : ReadsEvents t r (decided_past t.frame.words bytes)
  pub entries : List Entry
  pub taken : took t first out_first now out_now entries
  pub decided : (more : List ℕ) → entries_in t (bytes ++ more) (decided_events bytes t.frame.words) ≡ entries

-- The taker that writes lines took these entries: their lines went out to the sink, or wait in its buffer.
abbrev pub WritesLines : {O : Type 0} → (O → Option (List ℕ)) → TableRows → List ℕ → O → List ℕ → O → List Entry → Type 0
WritesLines written t before out_before now out_now entries =
    Emits (written out_before) (written out_now) before now (flat_map (entry_lines t) entries)
