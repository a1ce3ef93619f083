use Rattle.std.proofs.Common.{ℕ, ◌≤◌, inl, inr, ap, ◌∙◌, subst, arith, rules}
use Rattle.fdr_io.specs.Faults.{next_count}
use Rattle.fdr_deck.specs.declared.calls.Call.TheVariants.{Pass}
use Rattle.fdr_deck.specs.declared.calls.Numbers.{Numbers}
use Rattle.fdr_deck.proofs.MemorySteps.{entered_then, unentered_then, one_more, failed_listed, not_listed}
use Rattle.fdr_deck.proofs.memory.MemDeck.pass_pull.Goals as goal

pub returns-then-fails : goal.returns-then-fails
returns-then-fails c = record {
  entered = search rules;
  no_fault = search rules;
  failed = inl (entered_then Pass c.args.self.now c.enter.new.self c.count_input_fault.new.self c.in-Ok.ensures.entered
      c.count_input_fault.ensures.unentered);
  input_faults = c.count_input_fault.ensures.input_faults ∙ ap next_count c.enter.ensures.pulled.input_faults;
  monotone = subst (λ (n : ℕ). n ≤ c.count_input_fault.new.self.input_faults) c.enter.ensures.pulled.input_faults
      c.count_input_fault.ensures.monotone;
  input = c.count_input_fault.ensures.input ∙ c.enter.ensures.pulled.input;
  taken = ap (λ (n : Numbers). n.taken) c.count_input_fault.ensures.unentered.numbers ∙ c.enter.ensures.pulled.taken;
  pulled_before = ap (λ (n : Numbers). n.pulled_before) c.count_input_fault.ensures.unentered.numbers ∙
      c.enter.ensures.pulled.pulled_before;
  disk_faults = c.count_input_fault.ensures.disk_faults ∙ c.enter.ensures.disk_faults;
  listed = search rules;
  unlisted = failed_listed Pass c.args.self.now c.count_input_fault.new.self (c.fails-fails.ensures.0 c.if-fails.true)
      (inl (entered_then Pass c.args.self.now c.enter.new.self c.count_input_fault.new.self c.in-Ok.ensures.entered c.count_input_fault.ensures.unentered));
  numbered = search rules;
}

pub returns-else-fails : goal.returns-else-fails
returns-else-fails c = record {
  entered = c.in-Ok.ensures.entered;
  no_fault = c.enter.ensures.pulled.input_faults;
  failed = search rules;
  input_faults = search rules;
  monotone = omega (arith, c.enter.ensures.pulled.input_faults);
  input = c.enter.ensures.pulled.input;
  taken = c.enter.ensures.pulled.taken;
  pulled_before = c.enter.ensures.pulled.pulled_before;
  disk_faults = c.enter.ensures.disk_faults;
  listed = λ listed. absurd (not_listed c.fails-fails.result c.args.self.now c.fails-fails.ensures c.if-fails.false listed);
  unlisted = search rules;
  numbered = one_more Pass c.args.self.now c.enter.new.self c.in-Ok.ensures.entered;
}

pub returns-in-Err : goal.returns-in-Err
returns-in-Err c = record {
  entered = search rules;
  no_fault = search rules;
  failed = inr (unentered_then c.args.self.now c.enter.new.self c.count_input_fault-in-Err.new.self c.in-Err.ensures.unentered
      c.count_input_fault-in-Err.ensures.unentered);
  input_faults = c.count_input_fault-in-Err.ensures.input_faults ∙ ap next_count c.enter.ensures.pulled.input_faults;
  monotone = subst (λ (n : ℕ). n ≤ c.count_input_fault-in-Err.new.self.input_faults) c.enter.ensures.pulled.input_faults
      c.count_input_fault-in-Err.ensures.monotone;
  input = c.count_input_fault-in-Err.ensures.input ∙ c.enter.ensures.pulled.input;
  taken = ap (λ (n : Numbers). n.taken) c.count_input_fault-in-Err.ensures.unentered.numbers ∙ c.enter.ensures.pulled.taken;
  pulled_before = ap (λ (n : Numbers). n.pulled_before) c.count_input_fault-in-Err.ensures.unentered.numbers ∙
      c.enter.ensures.pulled.pulled_before;
  disk_faults = c.count_input_fault-in-Err.ensures.disk_faults ∙ c.enter.ensures.disk_faults;
  listed = search rules;
  unlisted = inr (unentered_then c.args.self.now c.enter.new.self c.count_input_fault-in-Err.new.self
      c.in-Err.ensures.unentered c.count_input_fault-in-Err.ensures.unentered);
  numbered = search rules;
}
