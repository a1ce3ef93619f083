use Rattle.std.proofs.Common.{refl, arith}
use Rattle.fdr_storage.proofs.Entered.{Goes-same}
use Rattle.fdr_storage.proofs.memory.MemStorage.idle_call.Goals as goal

pub returns-in-Interrupted-clause-fails : goal.returns-in-Interrupted-clause-fails
returns-in-Interrupted-clause-fails c = record {
  keeps = record { held = refl; no_more = λ image left. left; no_less = λ image left. left };
  marks = record { whole = refl; flushed = refl };
  goes = Goes-same c.args.self.now.first.items c.args.self.now.entries.items c.args.self.now.begun
      c.args.self.now.faults c.args.self.now.interruptions _ _ c.args.self.now.whole c.args.self.now.flushed _ _;
  cause = λ is. (omega (arith, c.add_one.ensures), refl);
}

pub returns-in-Whole-clause-idles : goal.returns-in-Whole-clause-idles
returns-in-Whole-clause-idles c = record {
  keeps = record { held = refl; no_more = λ image left. left; no_less = λ image left. left };
  marks = record { whole = refl; flushed = refl };
  goes = Goes-same c.args.self.now.first.items c.args.self.now.entries.items c.args.self.now.begun
      c.args.self.now.faults c.args.self.now.interruptions _ _ c.args.self.now.whole c.args.self.now.flushed _ _;
  counts = record { faults = refl; interruptions = refl };
}
