use Rattle.std.proofs.Common.{◌≡◌, ◌∙◌, ap, inl, inr, refl, sym, Err, rules}
use Rattle.fdr_io.proofs.Telling.{followed_by-nil}
use Rattle.fdr_recover.proofs.Looking.{Looks-then}
use Rattle.fdr_salvage.specs.declared.fault.SalvageFault.{SalvageFault}
use Rattle.fdr_salvage.specs.declared.fault.SalvageFault.TheVariants as fault
use Rattle.fdr_top.specs.Salvage.{AreRunsOf}
use Rattle.fdr_top.proofs.Answering.{memory_writes}
use Rattle.fdr_top.proofs.ListedImages.{of_blocks_begun}
use Rattle.fdr_top.proofs.Results.{disk_not_done, disk_not_write, err_same, memory_not_disk, memory_not_done, memory_not_write, ok_not_err, rose_later}
use Rattle.fdr_top.proofs.salvaging.list_found.Goals as goal

fault_differs : (f : SalvageFault) → f ≡ fault.NoMemory → f ≡ fault.DiskFault → ⊥
fault_differs f memory disk = let e : fault.NoMemory ≡ fault.DiskFault = sym memory ∙ disk in cc

-- where the runs are found
pub returns : goal.returns
returns g c = record {
  answer = inr c.list_runs.ensures.answer;
  text = λ done told.
      let held = c.runs.ensures.looks.disk.held in
      let are : AreRunsOf c.args.header.now (g.D.Deck.state c.runs.new.deck).held c.deref.result.now =
      rw (held, c.deref.ensures.value) (record { numbers = c.in-Ok.ensures.runs told; blocks = c.in-Ok.ensures.blocks told }) in
      rw held at (c.list_runs.ensures.text done told are);
  part = λ told.
      let held = c.runs.ensures.looks.disk.held in
      let are : AreRunsOf c.args.header.now (g.D.Deck.state c.runs.new.deck).held c.deref.result.now =
      rw (held, c.deref.ensures.value) (record { numbers = c.in-Ok.ensures.runs told; blocks = c.in-Ok.ensures.blocks told }) in
      rw held at (c.list_runs.ensures.part told are);
  drained = λ fails told none.
      let held = c.runs.ensures.looks.disk.held in
      let are : AreRunsOf c.args.header.now (g.D.Deck.state c.runs.new.deck).held c.deref.result.now =
      rw (held, c.deref.ensures.value) (record { numbers = c.in-Ok.ensures.runs told; blocks = c.in-Ok.ensures.blocks told }) in
      inr (rw held at (c.list_runs.ensures.drained fails told none are));
  looks = Looks-then _ _ _ _ (g.met.D.Deck.sound c.args.deck.now) c.runs.ensures.looks c.list_runs.ensures.looks;
  disk_fault = λ fails. rose_later _ _ _ c.runs.ensures.looks.disk_work.passes.disk_faults (c.list_runs.ensures.disk_fault fails);
  write_fault = c.list_runs.ensures.write_fault;
  no_disk_fault = λ other. c.list_runs.ensures.no_disk_fault other ∙ c.in-Ok.ensures.disk_unfailed (ok_not_err _ _);
  no_write_fault = c.list_runs.ensures.no_write_fault;
  no_memory = λ e. absurd (of_blocks_begun c.list_runs.result c.list_runs.ensures.answer (memory_writes _ e));
}

-- where the disk fails while they are looked for
pub returns-in-Err-DiskFault : goal.returns-in-Err-DiskFault
returns-in-Err-DiskFault g c = record {
  answer = inr (inr (inr refl));
  text = λ done told. absurd (disk_not_done done);
  drained = λ fails told none. inl refl;
  part = λ told. (0, sym (followed_by-nil (g.O.Sink.written c.args.out.now)));
  looks = c.runs.ensures.looks;
  disk_fault = λ e. c.in-Err-DiskFault.ensures.disk_fault (ap Err c.in-Err-DiskFault.field-0-is);
  write_fault = λ e. absurd (disk_not_write e);
  no_disk_fault = λ other. absurd (other refl);
  no_write_fault = search rules;
  no_memory = search rules;
}

-- where there is no room for them
pub returns-in-Err-NoMemory : goal.returns-in-Err-NoMemory
returns-in-Err-NoMemory g c = record {
  answer = inl refl;
  text = λ done told. absurd (memory_not_done done);
  drained = λ fails. absurd (memory_not_disk fails);
  part = λ told. (0, sym (followed_by-nil (g.O.Sink.written c.args.out.now)));
  looks = c.runs.ensures.looks;
  disk_fault = λ e. absurd (memory_not_disk e);
  write_fault = λ e. absurd (memory_not_write e);
  no_disk_fault = λ other. c.in-Err-NoMemory.ensures.disk_unfailed (λ e. fault_differs _ c.in-Err-NoMemory.field-0-is (err_same _ _ e));
  no_write_fault = search rules;
  no_memory = search rules;
}
