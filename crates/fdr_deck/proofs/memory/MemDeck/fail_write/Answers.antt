use Rattle.std.proofs.Common.{inl, inr, ⊎_elim, arith, rules}
use Rattle.fdr_deck.proofs.memory.MemDeck.fail_write.Goals as goal

pub returns-in-Ok : goal.returns-in-Ok
returns-in-Ok c = record {
  entered = ⊎_elim (λ entered. inl (c.in-Ok.copy, c.in-Ok.ensures, entered)) (λ unentered. inr unentered) c.fail.ensures.entered;
  pulled = search rules;
  disk_faults = omega arith;
  monotone = omega arith;
}

pub returns-in-Err : goal.returns-in-Err
returns-in-Err c = record {
  entered = search rules;
  pulled = search rules;
  disk_faults = omega arith;
  monotone = omega arith;
}
