-- A side, over blocks that are recorded one after another.
use Rattle.std.proofs.Common.{inl, inr, ⊎_elim, ℕ, List, ◌++◌, sym, ◌∙◌, subst, arith}
use Rattle.std.proofs.Common.{length-append, Option, Some, None}
use Rattle.fdr_io.specs.Faults.{Rose}
use Rattle.fdr_deck.specs.State.{Tells}
use Rattle.fdr_slot.specs.declared.image.Header.{Header}
use Rattle.fdr_recover.specs.Blocks.{Block}
use Rattle.fdr_recover.specs.Images.{recovered_run}
use Rattle.fdr_ring.specs.declared.ring.Ring.{Ring}
use Rattle.fdr_twin.specs.declared.side.Side.{Side}
use Rattle.fdr_twin.specs.Pair.{Pair, PairMoment, disk_on, image_on}
use Rattle.fdr_twin.specs.Rest.{PairElapses}
use Rattle.fdr_twin.specs.Sound.{IsSoundPair}
use Rattle.fdr_twin.specs.Serving.{EachPairMoment}
use Rattle.fdr_recorder.specs.Keeping.{RecoversPrefix, RecoversAll}
use Rattle.fdr_pair.specs.Living.{HasGoneOn, SideMoment, SideNow}
use Rattle.fdr_recorder.proofs.Steps.{keeps_on, keeps_more, all_on}
use Rattle.fdr_pair.specs.Putting.{AddsExactly}
use Rattle.fdr_pair.proofs.Going.{exact_on, on, known}

-- the blocks to come change nothing of a moment
pub moment_more : (side : Side) (first : Option Ring) (new more : List Block) (start : Pair) (m : PairMoment) → SideMoment side first new start m
    → SideMoment side first (new ++ more) start m
moment_more side None new more start m is = is
moment_more side (Some r) new more start m is = ⊎_elim (λ rose. inl rose)
    (λ keeps. inr (keeps_more r.header (disk_on side start).held (image_on side m) (recovered_run r.header
    (disk_on side start).held) new more m.announced keeps)) is

module _ (tells : Tells) (Q : PairMoment → Type 0) (side : Side) (done more : List Block) (start p q : Pair) (sound : IsSoundPair tells p)
    (before : PairElapses start p) (time : PairElapses p q) where
  -- where Q holds of a moment, the side keeps these blocks
  abbrev Kept : Option Ring → List Block → Pair → PairMoment → Type 0
  Kept o new old m = Q m → SideMoment side o new old m

  earlier : (first : Option Ring) → EachPairMoment tells start p (Kept first done start) → EachPairMoment tells start p (Kept first (done ++ more) start)
  earlier first was stops m since holds = moment_more side first done more start m (was stops m since holds)

  stretch : (r s : Ring) → HasGoneOn tells side r s done start p → EachPairMoment tells p q (Kept (Some s) more p)
      → EachPairMoment tells p q (Kept (Some r) (done ++ more) start)
  stretch r s gone moments stops m since holds = ⊎_elim
      (λ rose. inl (omega (arith, rose, gone.faults)))
      (λ keeps. inr (keeps_on r.header (disk_on side start).held (disk_on side p).held (image_on side m) (recovered_run r.header
      (disk_on side start).held) done more m.announced
      (gone.keeps ((sound.sides side).stops_need_bytes stops))
      (subst (λ (h : Header). RecoversPrefix h (disk_on side p).held (recovered_run h (disk_on side p).held) more m.announced
      (image_on side m)) gone.header keeps)))
      (moments stops m since holds)

  -- the moments of both stretches of which Q holds
  pub moments_where : (first o : Option Ring) → SideNow tells side first o done start p → EachPairMoment tells start p (Kept first done start)
      → EachPairMoment tells p q (Kept o more p) → EachPairMoment tells start q (Kept first (done ++ more) start)
  moments_where None None gone was moments = on tells (Kept None (done ++ more) start) start p q before time (earlier None was)
      (λ stops m since holds. ⊎_elim
      (λ here. known tells (Kept None (done ++ more) start) start p sound before (earlier None was) stops m here holds)
      (λ faults. inr (faults ∙ gone)) (moments stops m since holds))
  moments_where None (Some s) gone was moments = absurd gone
  moments_where (Some r) None gone was moments = on tells (Kept (Some r) (done ++ more) start) start p q before time (earlier (Some r) was)
      (λ stops m since holds. ⊎_elim
      (λ here. known tells (Kept (Some r) (done ++ more) start) start p sound before (earlier (Some r) was) stops m here holds)
      (λ faults. inl (subst (λ (n : ℕ). Rose (disk_on side start).faults n) (sym faults) gone)) (moments stops m since holds))
  moments_where (Some r) (Some s) gone was moments = on tells (Kept (Some r) (done ++ more) start) start p q before time (earlier (Some r) was)
      (stretch r s gone moments)

-- the moments of both stretches
pub moments_on : (tells : Tells) (side : Side) (done more : List Block) (start p q : Pair) → IsSoundPair tells p → PairElapses start p → PairElapses p q
    → (first o : Option Ring) → SideNow tells side first o done start p → EachPairMoment tells start p (SideMoment side first done start)
    → EachPairMoment tells p q (SideMoment side o more p) → EachPairMoment tells start q (SideMoment side first (done ++ more) start)
moments_on tells side done more start p q sound before time first o gone was moments = λ stops m since.
    moments_where tells (λ m. Unit {0}) side done more start p q sound before time first o gone (λ stops m since any. was stops m since)
    (λ stops m since any. moments stops m since) stops m since tt

-- what a side is after both stretches
pub now_on : (tells : Tells) (side : Side) (done more : List Block) (start p q : Pair) (first o o' : Option Ring) → SideNow tells side first o done start p
    → SideNow tells side o o' more p q → SideNow tells side first o' (done ++ more) start q
now_on tells side done more start p q None None None was now = now ∙ was
now_on tells side done more start p q None None (Some t) was now = absurd now
now_on tells side done more start p q None (Some s) o' was now = absurd was
now_on tells side done more start p q (Some r) None None was now = subst (λ (n : ℕ). Rose (disk_on side start).faults n) (sym now) was
now_on tells side done more start p q (Some r) None (Some t) was now = absurd now
now_on tells side done more start p q (Some r) (Some s) None was now = omega (arith, now, was.faults)
now_on tells side done more start p q (Some r) (Some s) (Some t) was now = record {
  header = now.header ∙ was.header;
  next = omega (arith, now.next, was.next, length-append done more);
  faults = omega (arith, now.faults, was.faults);
  keeps = λ told. all_on r.header (disk_on side start).held (disk_on side p).held (disk_on side q).held (recovered_run r.header
      (disk_on side start).held) done more (was.keeps told)
      (subst (λ (h : Header). RecoversAll h (disk_on side p).held (recovered_run h (disk_on side p).held) more (disk_on side q).held) was.header
      (now.keeps told));
  exact = λ told. exact_on r.header done more (disk_on side start).held (disk_on side p).held (disk_on side q).held (was.exact told)
      (subst (λ (h : Header). AddsExactly h more (disk_on side p).held (disk_on side q).held) was.header (now.exact told));
  ring = now.ring;
}
