use Rattle.std.proofs.Common.{◌∙◌}
use Rattle.fdr_storage.specs.declared.entries.Step.TheVariants.{Begin}
use Rattle.fdr_storage.proofs.Entered.{held_entered, Keeps-begun, StartsCall-begun}
use Rattle.fdr_storage.proofs.memory.MemStorageStorage.begin.Goals as goal

pub invariant_of-self : goal.invariant_of-self
invariant_of-self c = record {
  absent = c.args.self.now.absent;
  same = held_entered c.args.self.now.first.items c.args.self.now.entries.items c.enter.new.entries.items Begin c.args.numbers
      c.args.self.now.faults c.args.self.now.interruptions c.args.self.now.faults c.args.self.now.interruptions c.args.self.now.whole c.args.self.now.flushed
      c.args.self.now.whole c.args.self.now.flushed c.in-Ok.ensures.entered ∙ c.args.self.now.same;
  fits = c.args.self.now.fits;
}

pub returns-in-Ok-clause-disk : goal.returns-in-Ok-clause-disk
returns-in-Ok-clause-disk c = Keeps-begun c.args.self.now.first.items c.args.self.now.entries.items c.enter.new.entries.items
    c.args.numbers c.args.self.now.begun c.begun_with-self.result c.args.self.now.faults c.args.self.now.interruptions c.args.self.now.faults
    c.args.self.now.interruptions c.args.self.now.whole c.args.self.now.flushed c.args.self.now.whole c.args.self.now.flushed
    c.in-Ok.ensures.entered c.begun_with-self.ensures

pub returns-in-Ok-clause-starts : goal.returns-in-Ok-clause-starts
returns-in-Ok-clause-starts c = StartsCall-begun c.args.self.now.first.items c.args.self.now.entries.items c.enter.new.entries.items
    c.args.numbers c.args.self.now.begun c.begun_with-self.result c.args.self.now.faults c.args.self.now.interruptions c.args.self.now.faults
    c.args.self.now.interruptions c.args.self.now.whole c.args.self.now.flushed c.args.self.now.whole c.args.self.now.flushed
    c.in-Ok.ensures.entered c.begun_with-self.ensures
