use Rattle.std.proofs.Common.{ℕ, ◌≤◌, ap, ◌∙◌, subst, arith, rules}
use Rattle.fdr_io.specs.Faults.{next_count}
use Rattle.fdr_deck.proofs.MemorySteps.{unentered_then, pulled_then}
use Rattle.fdr_deck.proofs.memory.MemDeck.make.Goals as goal

pub returns-in-Ok : goal.returns-in-Ok
returns-in-Ok c = record {
  entered = c.in-Ok.ensures.entered;
  no_fault = c.enter_provide.ensures.disk_faults;
  unentered = search rules;
  disk_faults = search rules;
  monotone = omega (arith, c.enter_provide.ensures.disk_faults);
  pulled = c.enter_provide.ensures.pulled;
}

pub returns-in-Err : goal.returns-in-Err
returns-in-Err c = record {
  entered = search rules;
  no_fault = search rules;
  unentered = unentered_then c.args.self.now c.enter_provide.new.self c.count_fault.new.self c.in-Err.ensures.unentered
      c.count_fault.ensures.unentered;
  disk_faults = c.count_fault.ensures.disk_faults ∙ ap next_count c.enter_provide.ensures.disk_faults;
  monotone = subst (λ (n : ℕ). n ≤ c.count_fault.new.self.disk_faults) c.enter_provide.ensures.disk_faults
      c.count_fault.ensures.monotone;
  pulled = pulled_then c.args.self.now c.enter_provide.new.self c.count_fault.new.self c.enter_provide.ensures.pulled
      c.count_fault.ensures.pulled;
}
