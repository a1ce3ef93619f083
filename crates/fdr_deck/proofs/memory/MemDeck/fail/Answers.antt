use Rattle.std.proofs.Common.{ℕ, ◌≤◌, inl, inr, ap, ◌∙◌, subst}
use Rattle.fdr_io.specs.Faults.{next_count}
use Rattle.fdr_deck.proofs.MemorySteps.{entered_then, unentered_then, pulled_then}
use Rattle.fdr_deck.proofs.memory.MemDeck.fail.Goals as goal

pub returns-in-Ok : goal.returns-in-Ok
returns-in-Ok c = record {
  entered = inl (entered_then c.args.call c.args.self.now c.enter.new.self c.count_fault.new.self c.in-Ok.ensures.entered
      c.count_fault.ensures.unentered);
  pulled = pulled_then c.args.self.now c.enter.new.self c.count_fault.new.self c.enter.ensures.pulled c.count_fault.ensures.pulled;
  disk_faults = c.count_fault.ensures.disk_faults ∙ ap next_count c.enter.ensures.disk_faults;
  monotone = subst (λ (n : ℕ). n ≤ c.count_fault.new.self.disk_faults) c.enter.ensures.disk_faults c.count_fault.ensures.monotone;
}

pub returns-in-Err : goal.returns-in-Err
returns-in-Err c = record {
  entered = inr (unentered_then c.args.self.now c.enter.new.self c.count_fault-in-Err.new.self c.in-Err.ensures.unentered
      c.count_fault-in-Err.ensures.unentered);
  pulled = pulled_then c.args.self.now c.enter.new.self c.count_fault-in-Err.new.self c.enter.ensures.pulled
      c.count_fault-in-Err.ensures.pulled;
  disk_faults = c.count_fault-in-Err.ensures.disk_faults ∙ ap next_count c.enter.ensures.disk_faults;
  monotone = subst (λ (n : ℕ). n ≤ c.count_fault-in-Err.new.self.disk_faults) c.enter.ensures.disk_faults
      c.count_fault-in-Err.ensures.monotone;
}
