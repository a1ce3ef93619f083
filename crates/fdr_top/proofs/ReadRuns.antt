-- What is written of the runs that were read before the disk failed.
use Rattle.std.proofs.Common.{◌≡◌, ℕ, List, [], ◌∷◌, ◌++◌, length, map, ap, ap₂, Option, Result, sym, ◌∙◌}
use Rattle.std.specs.Prelude.{OnErr, OnOk}
use Rattle.std.specs.List.{flat_map}
use Rattle.std.proofs.lemmas.Grind.{flat_map-append}
use Rattle.std.proofs.lemmas.List.{map-append}
use Rattle.fdr_io.specs.Faults.{Rose}
use Rattle.fdr_io.specs.Output.{Emits}
use Rattle.fdr_io.specs.Told.{followed_by}
use Rattle.fdr_slot.specs.declared.image.Header.{Header}
use Rattle.fdr_recover.specs.Blocks.{Block}
use Rattle.fdr_salvage.specs.declared.salvage.Run.{Run}
use Rattle.fdr_salvage.specs.Runs.{blocks_in_run, run_length, run_numbers}
use Rattle.fdr_table.specs.Rows.{TableRows}
use Rattle.fdr_readout.specs.Entries.{entry_lines}
use Rattle.fdr_top.specs.Salvage.{AreRunsOf, SalvagesRead, decided_in_run, entries_in_runs, run_listing, run_text}
use Rattle.fdr_top.specs.SessionsTaken.{decided_lines}
use Rattle.fdr_top.proofs.ReadLines.{drained_after}
use Rattle.fdr_top.proofs.Salvages.{length_of_run, lines_of_runs}

module _ (t : TableRows) (h : Header) (image : List ℕ) where
  abbrev blocks_of : Run → List Block
  blocks_of run = blocks_in_run h image run

  -- where runs have the numbers of their blocks, the first ones and the next have
  numbers_kept : (earlier : List Run) (run : Run) (others : List Run)
      → map run_numbers (map blocks_of (earlier ++ run ∷ others)) ≡ earlier ++ run ∷ others
      → (map run_numbers (map blocks_of earlier) ≡ earlier) × (run_numbers (blocks_of run) ≡ run)
  numbers_kept [] run others same = (cc, cc)
  numbers_kept (first ∷ earlier) run others same =
      let one : run_numbers (blocks_of first) ≡ first = cc in
      let rest : map run_numbers (map blocks_of (earlier ++ run ∷ others)) ≡ earlier ++ run ∷ others = cc in
      let kept = numbers_kept earlier run others rest in
      (ap₂ (λ (r : Run) (rs : List Run). r ∷ rs) one kept.0, kept.1)

  lines_of_line : (run : Run) (read : List Block) → run_numbers (blocks_of run) ≡ run
      → flat_map (entry_lines t) (decided_in_run t h run read)
      ≡ run_text (run_numbers (blocks_of run)).first (length (blocks_of run)) ++ decided_lines t h.version read
  unfolding entry_lines
  lines_of_line run read same =
      ap (λ (l : List ℕ). l ++ decided_lines t h.version read) (
      ap (λ (n : Run). run_text n.first (run_length n)) (sym same)
      ∙ ap (run_text (run_numbers (blocks_of run)).first) (length_of_run (blocks_of run)))

  -- the lines that the runs and blocks decide which were read were written
  pub runs_read : {E : Type 0} (runs : List Run) (start mid now : Option (List ℕ)) (waiting : List ℕ) (earlier : List Run) (run : Run)
      (others : List Run) (read unread : List Block) (f_start f_mid f_now : ℕ) (r : Result (Unit {0}) E) → AreRunsOf h image runs
      → runs ≡ earlier ++ run ∷ others → blocks_in_run h image run ≡ read ++ unread
      → Emits start mid [] waiting (flat_map (entry_lines t) (entries_in_runs t h image earlier ++ decided_in_run t h run read))
      → f_mid ≡ f_start → OnOk r (now ≡ followed_by mid waiting) → OnErr r (Rose f_mid f_now) → (Rose f_start f_now → ⊥)
      → SalvagesRead t h image start now
  runs_read runs start mid now waiting earlier run others read unread f_start f_mid f_now r are in_order parted emits kept all cause none =
      let numbers : map run_numbers (map blocks_of runs) ≡ runs = ap (map run_numbers) are.blocks ∙ sym are.numbers in
      let same = numbers_kept earlier run others (sym (ap (λ (rs : List Run). map run_numbers (map blocks_of rs)) in_order) ∙ numbers ∙ in_order) in
      let first : flat_map (entry_lines t) (entries_in_runs t h image earlier) ≡ flat_map (run_listing t h.version) (map blocks_of earlier) =
      ap (λ (rs : List Run). flat_map (entry_lines t) (entries_in_runs t h image rs)) (sym same.0)
      ∙ lines_of_runs t h image (map blocks_of earlier) (ap (map blocks_of) same.0) in
      let entries = entries_in_runs t h image earlier ++ decided_in_run t h run read in
      record {
        earlier = map blocks_of earlier;
        run = blocks_of run;
        later = map blocks_of others;
        runs = sym are.blocks ∙ ap (map blocks_of) in_order ∙ map-append blocks_of earlier (run ∷ others);
        read = read;
        unread = unread;
        parted = parted;
        text = drained_after start mid now waiting (flat_map (entry_lines t) entries) f_start f_mid f_now r emits kept all cause none
            ∙ ap (followed_by start) (flat_map-append (entry_lines t) (entries_in_runs t h image earlier) (decided_in_run t h run read)
            ∙ ap₂ (λ (xs ys : List ℕ). xs ++ ys) first (lines_of_line run read same.1));
      }
