use Rattle.std.proofs.lemmas.Bool.{true≢false}
use Rattle.std.proofs.Common.{refl, false, ◌+◌, ℕ, List, length, sym, ap, arith, ◌∙◌}
use Rattle.std.proofs.lemmas.List.{length-replicate}
use Rattle.fdr_storage.specs.declared.entries.Step.TheVariants.{Grow, Pad}
use Rattle.fdr_storage.proofs.Entered.{Goes-same, Goes-entered, GrowsFile-grown, GrowsFile-padded, held_entered, held_grown}
use Rattle.fdr_storage.proofs.memory.MemStorageStorage.grow.Goals as goal

pub returns-in-Interrupted-clause-goes : goal.returns-in-Interrupted-clause-goes
returns-in-Interrupted-clause-goes c = Goes-same c.args.self.now.first.items c.args.self.now.entries.items c.args.self.now.begun
    c.args.self.now.faults c.args.self.now.interruptions _ _ c.args.self.now.whole c.args.self.now.flushed _ _

pub invariant_of-self-in-Ok : goal.invariant_of-self-in-Ok
invariant_of-self-in-Ok c = record {
  absent = c.args.self.now.absent;
  same = held_entered c.args.self.now.first.items c.args.self.now.entries.items c.enter.new.entries.items (Pad (c.args.at + c.args.count)) c.args.self.now.begun
      c.args.self.now.faults c.args.self.now.interruptions c.args.self.now.faults c.args.self.now.interruptions c.args.self.now.whole c.args.self.now.flushed
      c.args.self.now.whole c.args.self.now.flushed c.in-Ok.ensures.entered ∙ c.args.self.now.same;
  fits = c.args.self.now.fits;
}

pub returns-in-Ok-clause-grows : goal.returns-in-Ok-clause-grows
returns-in-Ok-clause-grows c = GrowsFile-padded c.args.self.now.first.items c.args.self.now.entries.items c.enter.new.entries.items c.args.at c.args.count
    c.args.self.now.begun
    c.args.self.now.faults c.args.self.now.interruptions c.add_one-in-Ok.new.count c.args.self.now.interruptions c.args.self.now.whole c.args.self.now.flushed
    false false (c.requires.zeros refl) c.in-Ok.ensures.entered

pub returns-in-Ok-clause-goes : goal.returns-in-Ok-clause-goes
returns-in-Ok-clause-goes c = Goes-entered c.args.self.now.first.items c.args.self.now.entries.items c.enter.new.entries.items (Pad (c.args.at + c.args.count))
    c.args.self.now.begun
    c.args.self.now.faults c.args.self.now.interruptions c.add_one-in-Ok.new.count c.args.self.now.interruptions c.args.self.now.whole c.args.self.now.flushed
    false false c.in-Ok.ensures.entered

pub returns-in-Err-clause-goes : goal.returns-in-Err-clause-goes
returns-in-Err-clause-goes c = rw c.in-Err.ensures.unentered
    (Goes-same c.args.self.now.first.items c.args.self.now.entries.items c.args.self.now.begun
    c.args.self.now.faults c.args.self.now.interruptions c.add_one-in-Err.new.count c.args.self.now.interruptions c.args.self.now.whole c.args.self.now.flushed
    false false)

pub invariant_of-self-in-Ok-lengthen : goal.invariant_of-self-in-Ok-lengthen
invariant_of-self-in-Ok-lengthen c = record {
  absent = λ gone. absurd (true≢false gone);
  same = held_grown c.args.self.now.first.items c.args.self.now.entries.items c.lengthen.new.entries.items c.args.at c.moved-grown.result c.args.self.now.begun
      c.args.self.now.faults c.args.self.now.interruptions c.args.self.now.faults c.args.self.now.interruptions c.args.self.now.whole c.args.self.now.flushed
      c.args.self.now.whole c.args.self.now.flushed c.in-Ok-lengthen.ensures.entered ∙ sym c.in-Ok-lengthen.ensures.grown;
  fits = omega (
    arith,
    c.requires.fits,
    c.moved-grown.ensures.bound,
    ap (λ (h : List ℕ). length h) c.in-Ok-lengthen.ensures.grown,
    length-replicate {A = ℕ} (c.args.at + c.moved-grown.result) 0,
  );
}

pub returns-in-Ok-lengthen-clause-grows : goal.returns-in-Ok-lengthen-clause-grows
returns-in-Ok-lengthen-clause-grows c = GrowsFile-grown c.args.self.now.first.items c.args.self.now.entries.items c.lengthen.new.entries.items c.args.at
    c.moved-grown.result c.args.self.now.begun
    c.args.self.now.faults c.args.self.now.interruptions c.args.self.now.faults c.args.self.now.interruptions c.args.self.now.whole c.args.self.now.flushed
    false false c.in-Ok-lengthen.ensures.entered c.args.count c.moved-grown.ensures.bound

pub returns-in-Ok-lengthen-clause-goes : goal.returns-in-Ok-lengthen-clause-goes
returns-in-Ok-lengthen-clause-goes c = Goes-entered c.args.self.now.first.items c.args.self.now.entries.items c.lengthen.new.entries.items (Grow (c.args.at +
    c.moved-grown.result)) c.args.self.now.begun
    c.args.self.now.faults c.args.self.now.interruptions c.args.self.now.faults c.args.self.now.interruptions c.args.self.now.whole c.args.self.now.flushed
    false false c.in-Ok-lengthen.ensures.entered

pub returns-in-Err-lengthen-clause-goes : goal.returns-in-Err-lengthen-clause-goes
returns-in-Err-lengthen-clause-goes c = rw c.in-Err-lengthen.ensures.unentered
    (Goes-same c.args.self.now.first.items c.args.self.now.entries.items c.args.self.now.begun
    c.args.self.now.faults c.args.self.now.interruptions c.add_one-in-Err-lengthen.new.count c.args.self.now.interruptions c.args.self.now.whole
    c.args.self.now.flushed false false)
