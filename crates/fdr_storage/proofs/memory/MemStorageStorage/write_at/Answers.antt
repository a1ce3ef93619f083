use Rattle.std.proofs.lemmas.Bool.{true≢false}
use Rattle.std.proofs.Common.{refl, false, ◌+◌, ◌≤◌, ℕ, List, length, take, sym, ap, arith, ◌∙◌}
use Rattle.std.proofs.lemmas.List.{length-take-le}
use Rattle.fdr_deck.specs.Disk.{patched}
use Rattle.fdr_deck.proofs.Torn.{length-patched}
use Rattle.fdr_storage.specs.Memory.{memory_told, memory_disk, bytes_after}
use Rattle.fdr_storage.specs.declared.entries.Step.TheVariants.{Write, Tear}
use Rattle.fdr_storage.proofs.Parts.{TearsFile-longer}
use Rattle.fdr_storage.proofs.Entered.{Goes-same, Goes-entered, TearsFile-torn, TearsFile-written, WritesFile-entered, held_entered}
use Rattle.fdr_storage.proofs.memory.MemStorageStorage.write_at.Goals as goal

pub returns-in-Interrupted-clause-goes : goal.returns-in-Interrupted-clause-goes
returns-in-Interrupted-clause-goes c = Goes-same c.args.self.now.first.items c.args.self.now.entries.items c.args.self.now.begun
    c.args.self.now.faults c.args.self.now.interruptions _ _ c.args.self.now.whole c.args.self.now.flushed _ _

pub invariant_of-self-in-Ok : goal.invariant_of-self-in-Ok
invariant_of-self-in-Ok c = record {
  absent = c.args.self.now.absent;
  same = held_entered c.args.self.now.first.items c.args.self.now.entries.items c.enter.new.entries.items (Tear c.args.at (length c.args.bytes.now))
      c.args.self.now.begun
      c.args.self.now.faults c.args.self.now.interruptions c.args.self.now.faults c.args.self.now.interruptions c.args.self.now.whole c.args.self.now.flushed
      c.args.self.now.whole c.args.self.now.flushed c.in-Ok.ensures.entered ∙ c.args.self.now.same;
  fits = c.args.self.now.fits;
}

pub returns-in-Ok-clause-tears : goal.returns-in-Ok-clause-tears
returns-in-Ok-clause-tears c = TearsFile-torn c.args.self.now.first.items c.args.self.now.entries.items c.enter.new.entries.items c.args.at (length
    c.args.bytes.now) c.args.self.now.begun
    c.args.self.now.faults c.args.self.now.interruptions c.add_one-in-Ok.new.count c.args.self.now.interruptions c.args.self.now.whole c.args.self.now.flushed
    c.args.self.now.whole false c.in-Ok.ensures.entered

pub returns-in-Ok-clause-goes : goal.returns-in-Ok-clause-goes
returns-in-Ok-clause-goes c = Goes-entered c.args.self.now.first.items c.args.self.now.entries.items c.enter.new.entries.items (Tear c.args.at (length
    c.args.bytes.now)) c.args.self.now.begun
    c.args.self.now.faults c.args.self.now.interruptions c.add_one-in-Ok.new.count c.args.self.now.interruptions c.args.self.now.whole c.args.self.now.flushed
    c.args.self.now.whole false c.in-Ok.ensures.entered

pub returns-in-Err-clause-goes : goal.returns-in-Err-clause-goes
returns-in-Err-clause-goes c = rw c.in-Err.ensures.unentered
    (Goes-same c.args.self.now.first.items c.args.self.now.entries.items c.args.self.now.begun
    c.args.self.now.faults c.args.self.now.interruptions c.add_one-in-Err.new.count c.args.self.now.interruptions c.args.self.now.whole c.args.self.now.flushed
    c.args.self.now.whole false)

pub invariant_of-self-in-Ok-put : goal.invariant_of-self-in-Ok-put
invariant_of-self-in-Ok-put c =
    let bytes : List ℕ = (take c.moved-count.result c.args.bytes.now) in
    let few : length bytes ≤ length c.args.bytes.now =
    omega (arith, length-take-le c.moved-count.result c.args.bytes.now c.moved-count.ensures.bound, c.moved-count.ensures.bound) in
    let within : c.args.at + length bytes ≤ length c.args.self.now.held.items =
    omega (arith, few, c.requires refl, ap (λ (h : List ℕ). length h) c.args.self.now.same) in
    record {
      absent = λ gone. absurd (true≢false gone);
      same = held_entered c.args.self.now.first.items c.args.self.now.entries.items c.put.new.entries.items
          (Write c.args.at c.in-Ok-put.ensures.entered.0) c.args.self.now.begun c.args.self.now.faults c.args.self.now.interruptions c.args.self.now.faults
          c.args.self.now.interruptions c.args.self.now.whole c.args.self.now.flushed c.args.self.now.whole c.args.self.now.flushed
          c.in-Ok-put.ensures.entered.2
          ∙ ap (λ (l : List ℕ). patched c.args.at l (bytes_after c.args.self.now.entries.items c.args.self.now.first.items)) c.in-Ok-put.ensures.entered.1
          ∙ ap (λ (h : List ℕ). patched c.args.at bytes h) c.args.self.now.same ∙ sym c.in-Ok-put.ensures.written;
      fits = omega (
        arith,
        c.args.self.now.fits,
        length-patched c.args.at bytes c.args.self.now.held.items within,
        ap (λ (h : List ℕ). length h) c.in-Ok-put.ensures.written,
      );
    }

pub returns-in-Ok-put-clause-writes : goal.returns-in-Ok-put-clause-writes
returns-in-Ok-put-clause-writes c =
    let bytes : List ℕ = (take c.moved-count.result c.args.bytes.now) in
    let few : length bytes ≤ length c.args.bytes.now =
    omega (arith, length-take-le c.moved-count.result c.args.bytes.now c.moved-count.ensures.bound, c.moved-count.ensures.bound) in
    WritesFile-entered c.args.self.now.first.items c.args.self.now.entries.items c.put.new.entries.items c.args.at
    (take c.moved-count.result c.args.bytes.now) c.in-Ok-put.ensures.entered.0 c.args.self.now.begun
    c.args.self.now.faults c.args.self.now.interruptions c.args.self.now.faults c.args.self.now.interruptions c.args.self.now.whole c.args.self.now.flushed
    c.args.self.now.whole false c.in-Ok-put.ensures.entered.1
    (omega (arith, few, c.requires refl)) c.in-Ok-put.ensures.entered.2

pub returns-in-Ok-put-clause-tears : goal.returns-in-Ok-put-clause-tears
returns-in-Ok-put-clause-tears c =
    let bytes : List ℕ = (take c.moved-count.result c.args.bytes.now) in
    let few : length bytes ≤ length c.args.bytes.now =
    omega (arith, length-take-le c.moved-count.result c.args.bytes.now c.moved-count.ensures.bound, c.moved-count.ensures.bound) in
    TearsFile-longer memory_told c.args.at (length bytes) (length c.args.bytes.now)
    (memory_disk c.args.self.now.first.items c.args.self.now.entries.items c.args.self.now.begun c.args.self.now.faults c.args.self.now.interruptions
    c.args.self.now.whole c.args.self.now.flushed)
    (memory_disk c.args.self.now.first.items c.put.new.entries.items c.args.self.now.begun c.args.self.now.faults c.args.self.now.interruptions
    c.args.self.now.whole false)
    few (TearsFile-written c.args.self.now.first.items c.args.self.now.entries.items c.put.new.entries.items c.args.at
    (take c.moved-count.result c.args.bytes.now) c.in-Ok-put.ensures.entered.0 c.args.self.now.begun
    c.args.self.now.faults c.args.self.now.interruptions c.args.self.now.faults c.args.self.now.interruptions c.args.self.now.whole c.args.self.now.flushed
    c.args.self.now.whole false c.in-Ok-put.ensures.entered.1
    (omega (arith, few, c.requires refl)) c.in-Ok-put.ensures.entered.2)

pub returns-in-Ok-put-clause-goes : goal.returns-in-Ok-put-clause-goes
returns-in-Ok-put-clause-goes c = Goes-entered c.args.self.now.first.items c.args.self.now.entries.items c.put.new.entries.items
    (Write c.args.at c.in-Ok-put.ensures.entered.0) c.args.self.now.begun c.args.self.now.faults c.args.self.now.interruptions c.args.self.now.faults
    c.args.self.now.interruptions c.args.self.now.whole c.args.self.now.flushed c.args.self.now.whole false c.in-Ok-put.ensures.entered.2

pub returns-in-Err-put-clause-goes : goal.returns-in-Err-put-clause-goes
returns-in-Err-put-clause-goes c = rw c.in-Err-put.ensures.unentered
    (Goes-same c.args.self.now.first.items c.args.self.now.entries.items c.args.self.now.begun
    c.args.self.now.faults c.args.self.now.interruptions c.add_one-in-Err-put.new.count c.args.self.now.interruptions c.args.self.now.whole
    c.args.self.now.flushed c.args.self.now.whole false)
