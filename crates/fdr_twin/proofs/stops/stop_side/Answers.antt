use Rattle.std.proofs.Common.{◌≡◌, ℕ, List, length, take, get_or, refl, ap, sym, ◌∙◌}
use Rattle.std.proofs.lemmas.Option.{get_or_from_slice_get}
use Rattle.fdr_deck.specs.Memory.{held_after, left_after}
use Rattle.fdr_deck.specs.declared.calls.Call.{Call}
use Rattle.fdr_deck.specs.declared.calls.Entry.{Entry}
use Rattle.fdr_deck.proofs.MemoryStops.{AreInside-take, AreInside-at, FitsIn-from_inside, stopped_within, image_at-within}
use Rattle.fdr_deck.specs.Stops.{image_within, image_at}
use Rattle.fdr_twin.specs.TwinMemory.{entry_on, entries_on}
use Rattle.fdr_twin.proofs.TwinStops.{entry_is, take_on, below_on}
use Rattle.fdr_twin.proofs.stops.stop_side.Goals as goal

pub stop_before-requires : goal.stop_before-requires
stop_before-requires c = record {
  inside = rw (take_on c.args.side c.args.call c.args.entries.now)
      (AreInside-take c.args.call (entries_on c.args.side c.args.entries.now) c.args.first.now c.requires.inside);
  none = refl;
}

pub stop_within-requires : goal.stop_within-requires
stop_within-requires c =
    let es = entries_on c.args.side c.args.entries.now in
    let d = entry_on c.args.side c.index-entries-call.result in
    let is = entry_is c.args.side c.args.call c.args.entries.now c.index-entries-call.result c.index-entries-call.is in
    let long = rw (take_on c.args.side c.args.call c.args.entries.now) at c.in_ok-left.ensures.long in
    rw (c.seen_by.ensures ∙ ap (λ (x : Entry). x.call) is)
    (FitsIn-from_inside (get_or es c.args.call d).call (held_after (take c.args.call es) c.args.first.now) (length c.in_ok-left.left.items)
    (AreInside-at c.args.call es c.args.first.now d (below_on c.args.side c.args.call c.args.entries.now c.requires.made) c.requires.inside) long)

pub returns-clause-left : goal.returns-clause-left
returns-clause-left c = λ e got.
    let es = entries_on c.args.side c.args.entries.now in
    let d = entry_on c.args.side c.index-entries-call.result in
    let first = c.args.first.now in
    let is : get_or es c.args.call d ≡ e = get_or_from_slice_get es c.args.call e d got in
    let call = entry_is c.args.side c.args.call c.args.entries.now c.index-entries-call.result c.index-entries-call.is in
    let stopped = rw (c.seen_by.ensures ∙ ap (λ (x : Entry). x.call) (call ∙ is)) at c.in_ok-image.ensures.stopped in
    let left = rw (take_on c.args.side c.args.call c.args.entries.now) at c.in_ok-left.ensures.left in
    stopped_within e.call (held_after (take c.args.call es) first) (left_after (take c.args.call es) first (λ i. i ≡ first))
    c.in_ok-left.left.items c.in_ok-image.image.items left stopped

pub returns-clause-image : goal.returns-clause-image
returns-clause-image c =
    let es = entries_on c.args.side c.args.entries.now in
    let d = entry_on c.args.side c.index-entries-call.result in
    let first = c.args.first.now in
    let call = entry_is c.args.side c.args.call c.args.entries.now c.index-entries-call.result c.index-entries-call.is in
    c.in_ok-image.ensures.image
    ∙ ap (λ (x : Call). image_within c.args.tear x c.in_ok-left.left.items) (c.seen_by.ensures ∙ ap (λ (x : Entry). x.call) call)
    ∙ ap (λ (l : List ℕ). image_within c.args.tear (get_or es c.args.call d).call l) (c.in_ok-left.ensures.image
    ∙ ap (λ (l : List Entry). image_at c.args.tear l (length l) first first) (take_on c.args.side c.args.call c.args.entries.now))
    ∙ sym (image_at-within c.args.tear c.args.call es first first d (below_on c.args.side c.args.call c.args.entries.now c.requires.made))
