-- What is written of the blocks that were read before the disk failed.
use Rattle.std.proofs.Common.{◌≡◌, ℕ, List, [], ◌++◌, ap, Option, Result, Ok, Err, refl, sym, ◌∙◌}
use Rattle.std.specs.Prelude.{OnErr, OnOk}
use Rattle.fdr_io.specs.Faults.{Rose}
use Rattle.fdr_io.specs.Output.{Emits}
use Rattle.fdr_io.specs.Told.{followed_by}
use Rattle.fdr_io.proofs.OutputSteps.{written_at_end}
use Rattle.fdr_io.proofs.Telling.{followed_by-nil}
use Rattle.fdr_frame.specs.WordCount.{IsWordCount}
use Rattle.fdr_recover.specs.Blocks.{Block}
use Rattle.fdr_readout.specs.Entries.{entry_lines}
use Rattle.fdr_table.specs.Rows.{TableRows}
use Rattle.std.specs.List.{flat_map}
use Rattle.fdr_top.specs.List.{ListsRead}
use Rattle.fdr_top.specs.SessionsTaken.{decided_lines}
use Rattle.fdr_top.proofs.Results.{rose_after}
use Rattle.fdr_top.proofs.SessionEntries.{decided_of_none}

-- what waited went out, as far as the sink didn't fail
pub drained_after : {E : Type 0} (start mid now : Option (List ℕ)) (waiting text : List ℕ) (f_start f_mid f_now : ℕ) (r : Result (Unit {0}) E)
    → Emits start mid [] waiting text → f_mid ≡ f_start → OnOk r (now ≡ followed_by mid waiting) → OnErr r (Rose f_mid f_now)
    → (Rose f_start f_now → ⊥) → now ≡ followed_by start text
drained_after start mid now waiting text f_start f_mid f_now (Ok v) emits kept all cause none = written_at_end start mid now waiting text emits all
drained_after start mid now waiting text f_start f_mid f_now (Err e) emits kept all cause none = absurd (none (rose_after f_start f_mid f_now kept cause))

-- the lines that the blocks decide which were read were written
pub read_listed : {E : Type 0} (t : TableRows) (version : ℕ) (whole : List Block) (start mid now : Option (List ℕ)) (waiting : List ℕ)
    (read unread : List Block) (f_start f_mid f_now : ℕ) (r : Result (Unit {0}) E) → whole ≡ read ++ unread
    → Emits start mid [] waiting (decided_lines t version read) → f_mid ≡ f_start → OnOk r (now ≡ followed_by mid waiting)
    → OnErr r (Rose f_mid f_now) → (Rose f_start f_now → ⊥) → ListsRead t version whole start now
read_listed t version whole start mid now waiting read unread f_start f_mid f_now r parted emits kept all cause none = record {
  read = read;
  unread = unread;
  parted = parted;
  text = drained_after start mid now waiting (decided_lines t version read) f_start f_mid f_now r emits kept all cause none;
}

-- nothing was read
pub none_listed : (t : TableRows) (version : ℕ) (whole : List Block) (written : Option (List ℕ)) → IsWordCount t.frame.words
    → ListsRead t version whole written written
none_listed t version whole written count = record {
  read = [];
  unread = whole;
  parted = refl;
  text = sym (ap (λ es. followed_by written (flat_map (entry_lines t) es)) (decided_of_none t version count) ∙ followed_by-nil written);
}
