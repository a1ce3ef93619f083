use Rattle.std.proofs.Common.{◌≡◌, ℕ, List, length, take, get_or, ap, sym, ◌∙◌, subst}
use Rattle.std.proofs.lemmas.Option.{get_or_from_slice_get}
use Rattle.fdr_deck.specs.Memory.{held_after, left_after, IsLeftWithin}
use Rattle.fdr_deck.specs.declared.calls.Entry.{Entry}
use Rattle.fdr_deck.proofs.MemoryStops.{AreInside-take, AreInside-at, FitsIn-from_inside, stopped_within, image_at-within}
use Rattle.fdr_deck.specs.Stops.{image_within}
use Rattle.fdr_deck.proofs.stops.stop_at.Goals as goal

pub stop_before-requires : goal.stop_before-requires
stop_before-requires c = AreInside-take c.args.call c.args.entries.now c.args.first.now c.requires.inside

pub stop_within-requires : goal.stop_within-requires
stop_within-requires c =
    let d = c.index-entries-call.result in
    FitsIn-from_inside (get_or c.args.entries.now c.args.call d).call (held_after (take c.args.call c.args.entries.now) c.args.first.now)
    (length c.in_ok-left.left.items)
    (AreInside-at c.args.call c.args.entries.now c.args.first.now d c.requires.made c.requires.inside) c.in_ok-left.ensures.long

pub returns-clause-left : goal.returns-clause-left
returns-clause-left c = λ e got.
    let is = get_or_from_slice_get c.args.entries.now c.args.call e c.index-entries-call.result got in
    let before = take c.args.call c.args.entries.now in
    let first = c.args.first.now in
    let stopped : IsLeftWithin e.call c.in_ok-left.left.items c.in_ok-image.image.items = subst
    (λ (x : Entry). IsLeftWithin x.call c.in_ok-left.left.items c.in_ok-image.image.items) is
    c.in_ok-image.ensures.stopped in
    stopped_within e.call (held_after before first) (left_after before first (λ i. i ≡ first))
    c.in_ok-left.left.items c.in_ok-image.image.items c.in_ok-left.ensures.left stopped

pub returns-clause-image : goal.returns-clause-image
returns-clause-image c =
    let e = get_or c.args.entries.now c.args.call c.index-entries-call.result in
    c.in_ok-image.ensures.image ∙ ap (λ (l : List ℕ). image_within c.args.tear e.call l) c.in_ok-left.ensures.image
    ∙ sym (image_at-within c.args.tear c.args.call c.args.entries.now c.args.first.now c.args.first.now
    c.index-entries-call.result c.requires.made)
