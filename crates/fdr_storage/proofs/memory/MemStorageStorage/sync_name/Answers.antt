use Rattle.std.proofs.Common.{true, ◌∙◌}
use Rattle.fdr_storage.specs.declared.entries.Step.TheVariants.{Sync}
use Rattle.fdr_storage.proofs.Entered.{Goes-same, Goes-entered, held_synced, IsFileSettled-synced, no_more_synced}
use Rattle.fdr_storage.proofs.memory.MemStorageStorage.sync_name.Goals as goal

pub returns-in-Interrupted-clause-goes : goal.returns-in-Interrupted-clause-goes
returns-in-Interrupted-clause-goes c = Goes-same c.args.self.now.first.items c.args.self.now.entries.items c.args.self.now.begun
    c.args.self.now.faults c.args.self.now.interruptions _ _ c.args.self.now.whole c.args.self.now.flushed _ _

pub returns-in-Failed-clause-goes : goal.returns-in-Failed-clause-goes
returns-in-Failed-clause-goes c = Goes-same c.args.self.now.first.items c.args.self.now.entries.items c.args.self.now.begun
    c.args.self.now.faults c.args.self.now.interruptions _ _ c.args.self.now.whole c.args.self.now.flushed _ _

pub returns-then-not-self-clause-goes : goal.returns-then-not-self-clause-goes
returns-then-not-self-clause-goes c = Goes-same c.args.self.now.first.items c.args.self.now.entries.items c.args.self.now.begun
    c.args.self.now.faults c.args.self.now.interruptions _ _ c.args.self.now.whole c.args.self.now.flushed _ _

pub invariant_of-self-in-Ok : goal.invariant_of-self-in-Ok
invariant_of-self-in-Ok c = record {
  absent = c.args.self.now.absent;
  same = held_synced c.args.self.now.first.items c.args.self.now.entries.items c.enter.new.entries.items c.args.self.now.begun
      c.args.self.now.faults c.args.self.now.interruptions c.args.self.now.faults c.args.self.now.interruptions c.args.self.now.whole c.args.self.now.flushed
      true c.args.self.now.flushed c.in-Ok.ensures.entered ∙ c.args.self.now.same;
  fits = c.args.self.now.fits;
}

pub returns-in-Ok-clause-settles : goal.returns-in-Ok-clause-settles
returns-in-Ok-clause-settles c told marked = IsFileSettled-synced c.args.self.now.first.items c.args.self.now.entries.items c.enter.new.entries.items
    c.args.self.now.begun
    c.args.self.now.faults c.args.self.now.interruptions c.args.self.now.faults c.args.self.now.interruptions c.args.self.now.whole c.args.self.now.flushed true
    c.args.self.now.flushed c.in-Ok.ensures.entered

pub returns-in-Ok-clause-no_more : goal.returns-in-Ok-clause-no_more
returns-in-Ok-clause-no_more c = no_more_synced c.args.self.now.first.items c.args.self.now.entries.items c.enter.new.entries.items c.args.self.now.begun
    c.args.self.now.faults c.args.self.now.interruptions c.args.self.now.faults c.args.self.now.interruptions c.args.self.now.whole c.args.self.now.flushed true
    c.args.self.now.flushed c.in-Ok.ensures.entered

pub returns-in-Ok-clause-goes : goal.returns-in-Ok-clause-goes
returns-in-Ok-clause-goes c = Goes-entered c.args.self.now.first.items c.args.self.now.entries.items c.enter.new.entries.items Sync c.args.self.now.begun
    c.args.self.now.faults c.args.self.now.interruptions c.args.self.now.faults c.args.self.now.interruptions c.args.self.now.whole c.args.self.now.flushed true
    c.args.self.now.flushed c.in-Ok.ensures.entered

pub returns-in-Err-clause-goes : goal.returns-in-Err-clause-goes
returns-in-Err-clause-goes c = rw c.in-Err.ensures.unentered
    (Goes-same c.args.self.now.first.items c.args.self.now.entries.items c.args.self.now.begun
    c.args.self.now.faults c.args.self.now.interruptions c.add_one-in-Err.new.count c.args.self.now.interruptions c.args.self.now.whole c.args.self.now.flushed
    c.args.self.now.whole c.args.self.now.flushed)
