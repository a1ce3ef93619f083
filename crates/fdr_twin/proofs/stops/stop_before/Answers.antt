use Rattle.std.proofs.Common.{arith}
use Rattle.fdr_deck.proofs.MemoryStops.{IsLeft-start, IsLeft-inside, IsLeft-fits, IsLeft-more, image_before-start, image_before-more, image_before-all}
use Rattle.fdr_twin.specs.TwinMemory.{entry_on, entries_on}
use Rattle.fdr_twin.specs.TwinFaces.{entries_long}
use Rattle.fdr_twin.proofs.TwinStops.{entry_is, below_on, left_all}
use Rattle.fdr_twin.proofs.stops.stop_before.Goals as goal

pub loop-entry-init : goal.loop-entry-init
loop-entry-init c = record {
  left = IsLeft-start (entries_on c.args.side c.args.entries.now) c.args.first.now c.in_ok-held.held.items c.in_ok-left.left.items
      c.in_ok-held.ensures c.in_ok-left.ensures;
  image = image_before-start c.args.tear (entries_on c.args.side c.args.entries.now) c.args.first.now c.in_ok-left.left.items
      c.in_ok-left.ensures;
}

pub stop_after-requires : goal.stop_after-requires
stop_after-requires c =
    let es = c.args.entries.now in
    rw c.seen_by-call.ensures
    (IsLeft-fits (entries_on c.args.side es) c.args.first.now c.loop-entry.entry-index c.loop-entry.held.items c.loop-entry.left.items
    (entry_on c.args.side c.entry-item.result) (below_on c.args.side c.loop-entry.entry-index es (omega arith))
    (entry_is c.args.side c.loop-entry.entry-index es c.entry-item.result c.entry-item.is) c.requires.inside c.loop-entry.invariant.left)

pub replay-requires : goal.replay-requires
replay-requires c =
    let es = c.args.entries.now in
    rw c.seen_by-call.ensures
    (IsLeft-inside (entries_on c.args.side es) c.args.first.now c.loop-entry.entry-index c.loop-entry.held.items c.loop-entry.left.items
    (entry_on c.args.side c.entry-item.result) (below_on c.args.side c.loop-entry.entry-index es (omega arith))
    (entry_is c.args.side c.loop-entry.entry-index es c.entry-item.result c.entry-item.is) c.requires.inside c.loop-entry.invariant.left)

pub loop-entry-preserved : goal.loop-entry-preserved
loop-entry-preserved c =
    let es = c.args.entries.now in
    let e = entry_on c.args.side c.entry-item.result in
    let below = below_on c.args.side c.loop-entry.entry-index es (omega arith) in
    let is = entry_is c.args.side c.loop-entry.entry-index es c.entry-item.result c.entry-item.is in
    let stopped = rw (c.seen_by-call.ensures, c.deref.ensures.value) at c.in_ok-left-2.ensures.stopped in
    let after = rw (c.seen_by-call.ensures, c.deref.ensures.value) at c.in_ok-left-2.ensures.image in
    let replayed = rw c.seen_by-call.ensures at c.in_ok-replay.ensures in
    record {
      left = IsLeft-more (entries_on c.args.side es) c.args.first.now c.loop-entry.entry-index c.loop-entry.held.items
          c.loop-entry.left.items c.replay.new.held.items c.in_ok-left-2.left.items e below is c.requires.inside c.loop-entry.invariant.left replayed stopped;
      image = image_before-more c.args.tear (entries_on c.args.side es) c.args.first.now c.loop-entry.entry-index
          c.loop-entry.held.items c.loop-entry.left.items c.in_ok-left-2.left.items e below is c.loop-entry.invariant.left c.loop-entry.invariant.image after;
    }

pub returns-clause-left : goal.returns-clause-left
returns-clause-left c = (left_all (entries_on c.args.side c.args.entries.now) c.args.first.now c.loop-entry.held.items c.loop-entry.left.items
    c.loop-entry.entry-index (omega (arith, entries_long c.args.side c.args.entries.now)) c.loop-entry.invariant.left).0

pub returns-clause-long : goal.returns-clause-long
returns-clause-long c = (left_all (entries_on c.args.side c.args.entries.now) c.args.first.now c.loop-entry.held.items c.loop-entry.left.items
    c.loop-entry.entry-index (omega (arith, entries_long c.args.side c.args.entries.now)) c.loop-entry.invariant.left).1

pub returns-clause-image : goal.returns-clause-image
returns-clause-image c = image_before-all c.args.tear (entries_on c.args.side c.args.entries.now) c.args.first.now c.loop-entry.left.items
    c.loop-entry.entry-index (omega (arith, entries_long c.args.side c.args.entries.now)) c.loop-entry.invariant.image
