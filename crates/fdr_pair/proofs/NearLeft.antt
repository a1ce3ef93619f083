-- A side that calls leave is no further ahead of what is announced.
use Rattle.std.proofs.Common.{ℕ, ◌≤◌, List, arith}
use Rattle.fdr_deck.specs.State.{Tells}
use Rattle.fdr_slot.specs.declared.image.Header.{Header}
use Rattle.fdr_twin.specs.declared.side.Side.{Side}
use Rattle.fdr_twin.specs.Pair.{Pair, disk_on, image_on}
use Rattle.fdr_twin.specs.Serving.{EachPairMoment}
use Rattle.fdr_pair.specs.Ahead.{StaysNearOn}

pub near_left : (tells : Tells) (h : Header) (side : Side) (p q : Pair) → EachPairMoment tells p q (λ m. (disk_on side p).may_leave (image_on side m))
    → EachPairMoment tells p q (λ m. p.least ≤ m.announced)
    → ((image : List ℕ) → (disk_on side q).may_leave image → (disk_on side p).may_leave image) → p.least ≤ q.least → StaysNearOn tells h side p q
near_left tells h side p q left low no_more least = record {
  moments = λ mark near stops m since.
      let few = near (image_on side m) (left stops m since) in
      let told = low stops m since in
      omega (arith, few, told);
  now = λ stops mark near image leaves. let few = near image (no_more image leaves) in omega (arith, few, least);
}
