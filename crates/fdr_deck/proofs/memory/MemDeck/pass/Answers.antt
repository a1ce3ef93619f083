use Rattle.std.proofs.Common.{ℕ, ◌≤◌, inr, ap, ◌∙◌, subst, arith, rules}
use Rattle.fdr_io.specs.Faults.{next_count}
use Rattle.fdr_deck.specs.declared.calls.Call.TheVariants.{Pass}
use Rattle.fdr_deck.proofs.MemorySteps.{unentered_then, pulled_then, one_more, failed_listed, not_listed}
use Rattle.fdr_deck.proofs.memory.MemDeck.pass.Goals as goal

pub returns-then-fails : goal.returns-then-fails
returns-then-fails c = record {
  entered = search rules;
  no_fault = search rules;
  failed = c.fail.ensures.entered;
  disk_faults = c.fail.ensures.disk_faults;
  monotone = c.fail.ensures.monotone;
  pulled = c.fail.ensures.pulled;
  listed = search rules;
  unlisted = failed_listed Pass c.args.self.now c.fail.new.self (c.fails.ensures.0 c.if-fails.true) c.fail.ensures.entered;
  numbered = search rules;
}

pub returns-in-Ok : goal.returns-in-Ok
returns-in-Ok c = record {
  entered = c.in-Ok.ensures.entered;
  no_fault = c.enter.ensures.disk_faults;
  failed = search rules;
  disk_faults = search rules;
  monotone = omega (arith, c.enter.ensures.disk_faults);
  pulled = c.enter.ensures.pulled;
  listed = λ listed. absurd (not_listed c.fails.result c.args.self.now c.fails.ensures c.if-fails.false listed);
  unlisted = search rules;
  numbered = one_more c.args.call c.args.self.now c.enter.new.self c.in-Ok.ensures.entered;
}

pub returns-in-Err : goal.returns-in-Err
returns-in-Err c = record {
  entered = search rules;
  no_fault = search rules;
  failed = inr (unentered_then c.args.self.now c.enter.new.self c.count_fault.new.self c.in-Err.ensures.unentered
      c.count_fault.ensures.unentered);
  disk_faults = c.count_fault.ensures.disk_faults ∙ ap next_count c.enter.ensures.disk_faults;
  monotone = subst (λ (n : ℕ). n ≤ c.count_fault.new.self.disk_faults) c.enter.ensures.disk_faults c.count_fault.ensures.monotone;
  pulled = pulled_then c.args.self.now c.enter.new.self c.count_fault.new.self c.enter.ensures.pulled c.count_fault.ensures.pulled;
  listed = search rules;
  unlisted = inr (unentered_then c.args.self.now c.enter.new.self c.count_fault.new.self c.in-Err.ensures.unentered
      c.count_fault.ensures.unentered);
  numbered = search rules;
}
