-- What `salvage` promises: the listing of every run of blocks that the disk still holds.
use Rattle.std.specs.Prelude.{◌≡◌, ◌⊎◌, ◌≤◌, ℕ, List, [], ◌∷◌, ◌++◌, Option, Some, None, IsTrue, length, map, take, codes, decimal}
use Rattle.std.specs.List.{flat_map}
use Rattle.fdr_io.specs.Faults.{Rose}
use Rattle.fdr_io.specs.Told.{followed_by}
use Rattle.fdr_deck.specs.State.{State, Tells}
use Rattle.fdr_slot.specs.declared.image.Header.{Header}
use Rattle.fdr_slot.specs.Limits.{IsInLimits}
use Rattle.fdr_slot.specs.Places.{image_size}
use Rattle.fdr_recover.specs.Blocks.{Block}
use Rattle.fdr_recover.specs.ImageHeader.{header_in, IsFor}
use Rattle.fdr_salvage.specs.declared.salvage.Run.{Run}
use Rattle.fdr_salvage.specs.Runs.{blocks_in_run, run_length, run_numbers, runs_of}
use Rattle.fdr_table.specs.Rows.{TableRows}
use Rattle.fdr_readout.specs.Entries.{Entry, LineEntry}
use Rattle.fdr_readout.specs.Reading.{ReadsEvents, decided_past}
use Rattle.fdr_top.specs.Recover.{OnlyLooks}
use Rattle.fdr_top.specs.Refusals.{IsReadable, RefusesBy, ring_fault}
use Rattle.fdr_top.specs.Sessions.{entries_of_blocks, listing_of_blocks}
use Rattle.fdr_top.specs.SessionsTaken.{decided_lines, decided_of_blocks}
use Rattle.fdr_top.specs.declared.listing.ImageReader.{ImageReader}
use Rattle.fdr_top.specs.declared.outcome.Outcome.{Outcome}
use Rattle.fdr_top.specs.declared.outcome.Outcome.TheVariants as outcome

-- The header by which an image is salvaged: its own, or one of these slots and this payload, for the table's words. Then only the
-- byte that tells the version is the image's own.
abbrev pub salvage_header : TableRows → Option (ℕ × ℕ) → List ℕ → Header
salvage_header t None image = header_in image
salvage_header t (Some ring) image = record { slots = ring.0; payload = ring.1; words = t.frame.words; version = (header_in image).version }

-- the image can be salvaged: it has no fault and is for the table's words, or it has the length of the ring
abbrev pub CanBeSalvaged : TableRows → Option (ℕ × ℕ) → List ℕ → Type 0
CanBeSalvaged t None image = IsFor t.frame.words image
CanBeSalvaged t (Some ring) image = ring_fault ring (length image) ≡ None

-- `run,FIRST,BLOCKS` and a line feed: the number of a run's first block, and how many blocks it has
unfoldable pub run_text : ℕ → ℕ → List ℕ
run_text first blocks = codes "run," ++ decimal first ++ codes "," ++ decimal blocks ++ 10 ∷ []

-- a run's line, and the listing of its blocks
abbrev pub run_listing : TableRows → ℕ → List Block → List ℕ
run_listing t version run = run_text (run_numbers run).first (length run) ++ listing_of_blocks t version run

-- the listing of every run of an image with this header, in the order of their numbers
unfoldable pub salvage_text : TableRows → Header → List ℕ → List ℕ
salvage_text t h image = flat_map (run_listing t h.version) (runs_of h image)

-- the listing of every run of an image, by its own header, or by a ring in place of it
abbrev pub salvage_in : TableRows → Option (ℕ × ℕ) → List ℕ → List ℕ
salvage_in t ring image = salvage_text t (salvage_header t ring image) image

-- Some first runs of an image were read, and some first blocks of the next: the listing of these runs was written, the line of
-- the next, and all lines that these blocks decide, and nothing else.
pub record SalvagesRead (t : TableRows) (h : Header) (image : List ℕ) (written_before written_now : Option (List ℕ)) : Type 0 where
  pub earlier : List (List Block)
  pub run : List Block
  pub later : List (List Block)
  pub runs : runs_of h image ≡ earlier ++ run ∷ later
  pub read : List Block
  pub unread : List Block
  pub parted : run ≡ read ++ unread
  pub text : written_now ≡ followed_by written_before (flat_map (run_listing t h.version) earlier
      ++ (run_text (run_numbers run).first (length run) ++ decided_lines t h.version read))

-- The image was salvaged: what was written, and which refusal is answered.
pub record SalvagesImage (t : TableRows) (ring : Option (ℕ × ℕ)) (tells : Tells) (old new : State) (written_before written_now : Option (List ℕ))
    (sink_before sink_now : ℕ) (answer : Outcome) : Type 0 where
  pub looks : OnlyLooks tells old new
  pub text : answer ≡ outcome.Done → IsTrue tells.bytes → written_now ≡ followed_by written_before (salvage_in t ring old.held)
  pub part : IsTrue tells.bytes → (k : ℕ) × (written_now ≡ followed_by written_before (take k (salvage_in t ring old.held)))
  -- Where the disk failed and the output didn't, nothing was written, or all lines that some first runs and blocks decide: none
  -- waits, and none is cut.
  pub drained : answer ≡ outcome.DiskFault → IsTrue tells.bytes → (Rose sink_before sink_now → ⊥)
      → (written_now ≡ written_before) ⊎ SalvagesRead t (salvage_header t ring old.held) old.held written_before written_now
  pub good : (answer ≡ outcome.Done) ⊎ (answer ≡ outcome.WriteFault) → IsTrue tells.bytes → CanBeSalvaged t ring old.held
  -- Nothing was written, or the image can be salvaged.
  pub begun : (written_now ≡ written_before) ⊎ (IsTrue tells.bytes → CanBeSalvaged t ring old.held)
  pub image : RefusesBy ring t tells old new answer

-- An image was opened to be salvaged: it can be read, and there is memory for reading its bits.
pub record IsOpenedBy (ring : Option (ℕ × ℕ)) (t : TableRows) (tells : Tells) (old new : State) (r : ImageReader) : Type 0 where
  pub limits : IsInLimits r.header
  pub whole : image_size r.header ≤ new.extent
  pub header : IsTrue tells.bytes → r.header ≡ salvage_header t ring old.held
  pub image : IsTrue tells.bytes → CanBeSalvaged t ring old.held
  pub readable : IsReadable ring tells old new
  pub fresh : ReadsEvents t r.events (decided_past t.frame.words [])

-- These are the runs of an image by their numbers.
pub record AreRunsOf (h : Header) (image : List ℕ) (runs : List Run) : Type 0 where
  pub numbers : runs ≡ map run_numbers (runs_of h image)
  pub blocks : map (blocks_in_run h image) runs ≡ runs_of h image

-- the entries of a run that has these numbers: its line, and the entries of the blocks that an image has of them
abbrev pub entries_in_run : TableRows → Header → List ℕ → Run → List Entry
entries_in_run t h image run = LineEntry (run_text run.first (run_length run)) ∷ entries_of_blocks t h.version (blocks_in_run h image run)

-- the entries of runs
abbrev pub entries_in_runs : TableRows → Header → List ℕ → List Run → List Entry
entries_in_runs t h image runs = flat_map (entries_in_run t h image) runs

-- the entries that a run with these numbers decides of which these blocks were read: its line, and what they decide
abbrev pub decided_in_run : TableRows → Header → Run → List Block → List Entry
decided_in_run t h run read = LineEntry (run_text run.first (run_length run)) ∷ decided_of_blocks t h.version read

-- The first blocks of a run with these numbers were read, and the taker took its line and what they decide, which comes first in
-- all that the run decides.
pub record TakesFirstOfRun {S O : Type 0} (took : TableRows → S → O → S → O → List Entry → Type 0) (t : TableRows) (h : Header)
    (image : List ℕ) (run : Run) (first : S) (out_first : O) (now : S) (out_now : O) : Type 0 where
  pub read : List Block
  pub unread : List Block
  pub parted : blocks_in_run h image run ≡ read ++ unread
  pub taken : took t first out_first now out_now (decided_in_run t h run read)
  pub later : List Entry
  pub ahead : entries_in_run t h image run ≡ decided_in_run t h run read ++ later

-- Of runs with these numbers the first ones were read, and the first blocks of the next, and the taker took what they decide.
pub record TakesFirstRuns {S O : Type 0} (took : TableRows → S → O → S → O → List Entry → Type 0) (t : TableRows) (h : Header)
    (image : List ℕ) (runs : List Run) (first : S) (out_first : O) (now : S) (out_now : O) : Type 0 where
  pub earlier : List Run
  pub run : Run
  pub others : List Run
  pub in_order : runs ≡ earlier ++ run ∷ others
  pub read : List Block
  pub unread : List Block
  pub parted : blocks_in_run h image run ≡ read ++ unread
  pub taken : took t first out_first now out_now (entries_in_runs t h image earlier ++ decided_in_run t h run read)
  pub later : List Entry
  pub ahead : entries_in_runs t h image runs ≡ (entries_in_runs t h image earlier ++ decided_in_run t h run read) ++ later
