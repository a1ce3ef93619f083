use Rattle.std.proofs.Common.{◌≡◌, List, ℕ, subst, arith}
use Rattle.fdr_deck.specs.Memory.{IsStoppedAfter}
use Rattle.fdr_deck.specs.Stops.{image_after}
use Rattle.fdr_deck.proofs.MemoryStops.{IsLeft-start, IsLeft-inside, IsLeft-fits, IsLeft-more, IsLeft-left, IsLeft-long}
use Rattle.fdr_deck.proofs.MemoryStops.{image_before-start, image_before-more, image_before-all}
use Rattle.fdr_deck.proofs.stops.stop_before.Goals as goal

pub loop-entry-init : goal.loop-entry-init
loop-entry-init c = record {
  left = IsLeft-start c.args.entries.now c.args.first.now c.in_ok-held.held.items c.in_ok-left.left.items
      c.in_ok-held.ensures c.in_ok-left.ensures;
  image = image_before-start c.args.tear c.args.entries.now c.args.first.now c.in_ok-left.left.items
      c.in_ok-left.ensures;
}

pub stop_after-requires : goal.stop_after-requires
stop_after-requires c = IsLeft-fits c.args.entries.now c.args.first.now c.loop-entry.entry-index
    c.loop-entry.held.items c.loop-entry.left.items c.entry-item.result (omega arith) c.entry-item.is c.requires
    c.loop-entry.invariant.left

pub replay-requires : goal.replay-requires
replay-requires c = IsLeft-inside c.args.entries.now c.args.first.now c.loop-entry.entry-index c.loop-entry.held.items
    c.loop-entry.left.items c.entry-item.result (omega arith) c.entry-item.is c.requires c.loop-entry.invariant.left

pub loop-entry-preserved : goal.loop-entry-preserved
loop-entry-preserved c = record {
  left = IsLeft-more c.args.entries.now c.args.first.now c.loop-entry.entry-index c.loop-entry.held.items
      c.loop-entry.left.items c.replay.new.held.items c.in_ok-left-2.left.items c.entry-item.result (omega arith)
      c.entry-item.is c.requires c.loop-entry.invariant.left
      c.in_ok-replay.ensures (subst (λ (l : List ℕ). IsStoppedAfter c.entry-item.result.call l c.loop-entry.left.items
      c.in_ok-left-2.left.items) c.deref.ensures.value c.in_ok-left-2.ensures.stopped);
  image = image_before-more c.args.tear c.args.entries.now c.args.first.now c.loop-entry.entry-index
      c.loop-entry.held.items c.loop-entry.left.items c.in_ok-left-2.left.items c.entry-item.result (omega arith)
      c.entry-item.is c.loop-entry.invariant.left c.loop-entry.invariant.image
      (subst (λ (l : List ℕ). c.in_ok-left-2.left.items ≡ image_after c.args.tear c.entry-item.result.call l
      c.loop-entry.left.items) c.deref.ensures.value c.in_ok-left-2.ensures.image);
}

pub returns-clause-image : goal.returns-clause-image
returns-clause-image c = image_before-all c.args.tear c.args.entries.now c.args.first.now c.loop-entry.left.items
    c.loop-entry.entry-index (omega arith) c.loop-entry.invariant.image

pub returns-clause-left : goal.returns-clause-left
returns-clause-left c = IsLeft-left c.args.entries.now c.args.first.now c.loop-entry.entry-index c.loop-entry.held.items c.loop-entry.left.items
    (omega arith) c.loop-entry.invariant.left

pub returns-clause-long : goal.returns-clause-long
returns-clause-long c = IsLeft-long c.args.entries.now c.args.first.now c.loop-entry.entry-index c.loop-entry.held.items c.loop-entry.left.items
    (omega arith) c.loop-entry.invariant.left
