use Rattle.std.proofs.Common.{◌≡◌, ◌⊎◌, ⊎_elim, ℕ, List, [], Option, take, ◌∙◌, ap, inl, inr, refl, subst, sym, Err, rules}
use Rattle.std.specs.Prelude.{IsTrue}
use Rattle.fdr_io.specs.Faults.{Rose}
use Rattle.fdr_io.specs.Told.{followed_by}
use Rattle.fdr_deck.specs.Moments.{IsSoundDeck}
use Rattle.fdr_deck.specs.State.{State, Tells}
use Rattle.fdr_recover.specs.Looks.{Looks}
use Rattle.fdr_table.specs.Rows.{TableRows}
use Rattle.fdr_readout.specs.Reading.{decided_past}
use Rattle.fdr_top.specs.List.{RefusesOpening}
use Rattle.fdr_top.specs.Recover.{OnlyLooks}
use Rattle.fdr_top.specs.Refusals.{RefusesBy}
use Rattle.fdr_top.specs.Salvage.{IsOpenedBy, SalvagesImage, SalvagesRead, salvage_text}
use Rattle.fdr_top.specs.declared.listing.ImageReader.{ImageReader}
use Rattle.fdr_top.specs.declared.outcome.Outcome.{Outcome}
use Rattle.fdr_top.specs.declared.outcome.Outcome.TheVariants as outcome
use Rattle.fdr_top.proofs.Images.{OnlyLooks-then}
use Rattle.fdr_top.proofs.ListedImages.{IsOfBlocks, of_blocks_begun, of_blocks_salvage}
use Rattle.fdr_top.proofs.Openings.{shut_unwritten}
use Rattle.fdr_top.proofs.Results.{err_same, memory_not_disk, memory_not_write, ok_not_err, rose_later}
use Rattle.fdr_top.proofs.Salvages.{opening_own, readable_kept, refuses_by_nothing, runs_salvaged, unsalvaged}
use Rattle.fdr_top.proofs.salvaging.salvage_image.Goals as goal

-- they are listed, or memory ended before
found_salvaged : (t : TableRows) (ring : Option (ℕ × ℕ)) (tells : Tells) (old mid new : State) (r : ImageReader) (before now : Option (List ℕ))
    (sink_before sink_now : ℕ) (answer : Outcome) → IsSoundDeck tells old → OnlyLooks tells old mid → Looks tells mid new → IsOpenedBy ring t tells old mid r
    → (answer ≡ outcome.NoMemory) ⊎ IsOfBlocks answer
    → (answer ≡ outcome.Done → IsTrue tells.bytes → now ≡ followed_by before (salvage_text t r.header mid.held))
    → (IsTrue tells.bytes → (k : ℕ) × (now ≡ followed_by before (take k (salvage_text t r.header mid.held))))
    → (answer ≡ outcome.DiskFault → IsTrue tells.bytes → (Rose sink_before sink_now → ⊥)
    → (now ≡ before) ⊎ SalvagesRead t r.header mid.held before now)
    → (answer ≡ outcome.NoMemory → now ≡ before) → SalvagesImage t ring tells old new before now sink_before sink_now answer
found_salvaged t ring tells old mid new r before now sink_before sink_now answer sound first second opened either text part drained same = ⊎_elim
    (λ (none : answer ≡ outcome.NoMemory). subst (λ (w : Option (List ℕ)). SalvagesImage t ring tells old new before w sink_before sink_now answer)
    (sym (same none)) (unsalvaged t ring tells old new before sink_before sink_now answer (OnlyLooks-then tells old mid new sound first second)
    (subst RefusesOpening (sym none) tt)
    (subst (RefusesBy ring t tells old new) (sym none) (refuses_by_nothing ring t tells old new outcome.NoMemory (λ past. past)))))
    (λ (of : IsOfBlocks answer). runs_salvaged t ring tells old mid new r before now sink_before sink_now answer sound first second opened of text part drained)
    either

pub list_found-requires-clause-reads : goal.list_found-requires-clause-reads
list_found-requires-clause-reads g c =
    rw c.table.ensures (decided_past c.args.sound.now.frame.words [], c.in-Ok.ensures.opened.fresh)

pub returns : goal.returns
returns g c = record {
  answer = λ path image. ⊎_elim
      (λ none. inl none)
      (λ of. inr (of_blocks_salvage path image c.args.ring c.list_found.result of))
      c.list_found.ensures.answer;
  salvages = found_salvaged c.args.sound.now c.args.ring _ _ _ _ c.in-Ok.reader _ _ _ _ c.list_found.result
      (g.met.D.Deck.sound c.args.deck.now) c.open_by.ensures.looks c.list_found.ensures.looks c.in-Ok.ensures.opened c.list_found.ensures.answer
      (rw c.table.ensures at c.list_found.ensures.text) (rw c.table.ensures at c.list_found.ensures.part)
      (rw c.table.ensures at c.list_found.ensures.drained)
      (λ none. ap g.O.Sink.written (c.list_found.ensures.no_memory none));
  disk_fault = λ fails. rose_later _ _ _ c.open_by.ensures.looks.disk_work.passes.disk_faults (c.list_found.ensures.disk_fault fails);
  write_fault = c.list_found.ensures.write_fault;
  no_disk_fault = λ other. c.list_found.ensures.no_disk_fault other ∙ c.in-Ok.ensures.no_disk_fault (ok_not_err _ _);
  no_write_fault = c.list_found.ensures.no_write_fault;
  memory = λ e. readable_kept c.args.ring _ _ _ _ c.list_found.ensures.looks.extent c.in-Ok.ensures.opened.readable;
  unwritten = λ nothing. ⊎_elim
      (λ none. c.list_found.ensures.no_memory none)
      (λ of. absurd (of_blocks_begun c.list_found.result of nothing))
      c.list_found.ensures.answer;
}

-- where the image isn't opened
pub returns-in-Err : goal.returns-in-Err
returns-in-Err g c = record {
  answer = λ path image. opening_own path image c.args.ring c.args.sound.now _ _ _ c.in-Err.answer c.in-Err.ensures.shut c.in-Err.ensures.refused;
  salvages = unsalvaged c.args.sound.now c.args.ring _ _ _ _ _ _ c.in-Err.answer c.open_by.ensures.looks c.in-Err.ensures.shut c.in-Err.ensures.refused;
  disk_fault = λ e. c.in-Err.ensures.disk_fault (ap Err e);
  write_fault = λ e. absurd (shut_unwritten c.in-Err.answer c.in-Err.ensures.shut e);
  no_disk_fault = λ other. c.in-Err.ensures.no_disk_fault (λ e. other (err_same _ _ e));
  no_write_fault = search rules;
  memory = c.in-Err.ensures.memory;
  unwritten = search rules;
}

-- where there is no room for lines
pub returns-in_default : goal.returns-in_default
returns-in_default g c = record {
  answer = λ path image. inl refl;
  salvages =
      unsalvaged c.args.sound.now c.args.ring _ _ _ _ _ _ outcome.NoMemory c.open_by.ensures.looks tt
      (refuses_by_nothing c.args.ring _ _ _ _ outcome.NoMemory (λ past. past));
  disk_fault = λ e. absurd (memory_not_disk e);
  write_fault = λ e. absurd (memory_not_write e);
  no_disk_fault = λ other. c.in-Ok.ensures.no_disk_fault (ok_not_err _ _);
  no_write_fault = search rules;
  memory = λ e. c.in-Ok.ensures.opened.readable;
  unwritten = search rules;
}
