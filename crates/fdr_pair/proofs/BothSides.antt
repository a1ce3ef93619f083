-- Both sides, over calls that record blocks.
use Rattle.std.proofs.Common.{◌≡◌, inl, inr, ℕ, ◌+◌, ◌≤◌, List, [], ◌++◌, length, refl, sym, ◌∙◌, subst, arith, length-append, Option, Some, None}
use Rattle.fdr_deck.specs.State.{Tells}
use Rattle.fdr_slot.specs.declared.image.Header.{Header}
use Rattle.fdr_recover.specs.Blocks.{Block}
use Rattle.fdr_recover.specs.Images.{recovered_run}
use Rattle.fdr_ring.specs.declared.ring.Ring.{Ring}
use Rattle.fdr_twin.specs.declared.side.Side.{Side}
use Rattle.fdr_twin.specs.declared.side.Side.TheVariants.{First, Second}
use Rattle.fdr_twin.specs.Pair.{Pair, disk_on, image_on}
use Rattle.fdr_twin.specs.RestSound.{LeavesSide-here}
use Rattle.fdr_twin.specs.Sound.{IsSoundPair}
use Rattle.fdr_twin.specs.Serving.{EachPairMoment}
use Rattle.fdr_twin.proofs.Serves.{other_left}
use Rattle.fdr_recorder.proofs.Steps.{keeps_none, keeps_run, same_run}
use Rattle.fdr_recorder.specs.Keeping.{RecoversPrefix}
use Rattle.fdr_pair.specs.Living.{Follows, HasLiving, IsReadyFor, SideMoment, SideNow}
use Rattle.fdr_pair.specs.PairRecording.{AreSettled, BothFailed, IsSettledSide, PairRecordsAll, PairRecordsFirst}
use Rattle.fdr_pair.specs.declared.rings.PairRings.{PairRings}
use Rattle.fdr_pair.proofs.Counting.{counts_here, counts_more, counts_then}
use Rattle.fdr_pair.proofs.Going.{exact_none}
use Rattle.fdr_pair.proofs.Onward.{moment_more, moments_on, now_on}
use Rattle.fdr_pair.proofs.Servings.{now_told}
use Rattle.fdr_pair.proofs.KeptSides.{kept_here, kept_more, kept_then}
use Rattle.fdr_pair.proofs.Nearness.{near_here, near_on_then}
use Rattle.fdr_pair.specs.Ahead.{StaysNearOn}

-- ---- one side

-- a settled side is ready for blocks that fit
pub ready_side : (tells : Tells) (side : Side) (o : Option Ring) (h : Header) (next session : ℕ) (bytes : List ℕ) (p : Pair) → Follows h next o
    → h.version ≡ 2 → length bytes ≤ h.payload → IsSettledSide tells side o p → IsReadyFor tells side o next session bytes p
ready_side tells side None h next session bytes p follows current fits settled = tt
ready_side tells side (Some r) h next session bytes p follows current fits settled = record {
  ring = settled;
  next = (follows r refl).1;
  old_version = λ old. absurd (let no : h.version ≡ 1 = subst (λ (x : Header). x.version ≡ 1) (follows r refl).0 old in omega (arith, no, current));
  fits = subst (λ (x : Header). length bytes ≤ x.payload) (sym (follows r refl).0) fits;
}

-- the ring of a side, after blocks
pub follows_now : (tells : Tells) (side : Side) (o o' : Option Ring) (h : Header) (next after : ℕ) (done : List Block) (p q : Pair)
    → Follows h next o → after ≡ next + length done → SideNow tells side o o' done p q → Follows h after o'
follows_now tells side o None h next after done p q follows at now = λ x is. absurd (cc)
follows_now tells side None (Some s) h next after done p q follows at now = absurd now
follows_now tells side (Some r) (Some s) h next after done p q follows at now = λ x is.
    let same : s ≡ x = cc in
    subst (λ (y : Ring). (y.header ≡ h) × (y.next ≡ after)) same
    (now.header ∙ (follows r refl).0, omega (arith, now.next, (follows r refl).1, at))

pub settled_now : (tells : Tells) (side : Side) (o o' : Option Ring) (done : List Block) (p q : Pair) → SideNow tells side o o' done p q
    → IsSettledSide tells side o' q
settled_now tells side None None done p q now = tt
settled_now tells side None (Some s) done p q now = absurd now
settled_now tells side (Some r) None done p q now = tt
settled_now tells side (Some r) (Some s) done p q now = now.ring

-- a side that has failed has, whatever blocks were to be recorded
pub failed_side : (tells : Tells) (side : Side) (o : Option Ring) (done other : List Block) (p q : Pair) → SideNow tells side o None done p q
    → SideNow tells side o None other p q
failed_side tells side None done other p q now = now
failed_side tells side (Some r) done other p q now = now

-- nothing was done
pub side_here : (tells : Tells) (side : Side) (o : Option Ring) (p : Pair) → IsSettledSide tells side o p → SideNow tells side o o [] p p
side_here tells side None p settled = refl
side_here tells side (Some r) p settled = record {
  header = refl;
  next = omega arith;
  faults = omega arith;
  keeps = λ told. keeps_none r.header (disk_on side p).held;
  exact = λ told. exact_none r.header (disk_on side p).held;
  ring = settled;
}

pub moment_here : (tells : Tells) (side : Side) (o : Option Ring) (h : Header) (next : ℕ) (new : List Block) (p : Pair) → IsSoundPair tells p
    → Follows h next o → IsSettledSide tells side o p → p.greatest ≤ next → EachPairMoment tells p p (SideMoment side o new p)
moment_here tells side None h next new p sound follows settled few stops m since = inl since
moment_here tells side (Some r) h next new p sound follows settled few stops m since =
    let bytes = (sound.sides side).stops_need_bytes stops in
    let still : image_on side m ≡ (disk_on side p).held =
    settled.settled stops (image_on side m) (other_left tells side p p sound (LeavesSide-here side p) stops m since) in
    let told = now_told tells side p sound stops m since in
    inr (subst (λ (l : List ℕ). RecoversPrefix r.header (disk_on side p).held (recovered_run r.header (disk_on side p).held) new m.announced l) (sym still)
    (keeps_run r.header (disk_on side p).held (disk_on side p).held new m.announced (same_run r.header (disk_on side p).held)
    (omega (arith, told, few, settled.sure.ring.next bytes, (follows r refl).1))))

-- ---- both sides

pub ready_now : (tells : Tells) (rings left : PairRings) (new : List Block) (p q : Pair) → PairRecordsAll tells rings left new p q
    → AreSettled tells left q
ready_now tells rings left new p q all = record {
  first = settled_now tells First rings.first left.first new p q all.first;
  second = settled_now tells Second rings.second left.second new p q all.second;
}

pub PairRecordsFirst-here : (tells : Tells) (rings : PairRings) (new : List Block) (p : Pair) → IsSoundPair tells p → AreSettled tells rings p
    → PairRecordsFirst tells rings new p p
PairRecordsFirst-here tells rings new p sound settled = record {
  first = moment_here tells First rings.first rings.header rings.next new p sound rings.first_follows settled.first;
  second = moment_here tells Second rings.second rings.header rings.next new p sound rings.second_follows settled.second;
  first_kept = kept_here tells First rings.first new p sound settled.first;
  second_kept = kept_here tells Second rings.second new p sound settled.second;
  numbers = counts_here tells rings.next (length new) p sound;
  near = λ told side. near_here tells rings.header side p sound;
}

pub PairRecordsAll-here : (tells : Tells) (rings : PairRings) (p : Pair) → AreSettled tells rings p → PairRecordsAll tells rings rings [] p p
PairRecordsAll-here tells rings p settled = record {
  first = side_here tells First rings.first p settled.first;
  second = side_here tells Second rings.second p settled.second;
  header = refl;
  next = omega arith;
  announced = λ told. omega (arith, told);
}

-- further blocks to come
pub PairRecordsFirst-more : (tells : Tells) (rings : PairRings) (new more : List Block) (p q : Pair) → PairRecordsFirst tells rings new p q
    → PairRecordsFirst tells rings (new ++ more) p q
PairRecordsFirst-more tells rings new more p q is = record {
  first = λ few stops m since. moment_more First rings.first new more p m (is.first few stops m since);
  second = λ few stops m since. moment_more Second rings.second new more p m (is.second few stops m since);
  first_kept = λ stops m since. kept_more First rings.first new more p m (is.first_kept stops m since);
  second_kept = λ stops m since. kept_more Second rings.second new more p m (is.second_kept stops m since);
  numbers = counts_more tells rings.next (length new) (length (new ++ more)) p q (omega (arith, length-append new more)) is.numbers;
  near = is.near;
}

-- blocks, and then others
module _ (tells : Tells) (rings mid : PairRings) (new more : List Block) (p q r : Pair) (sound : IsSoundPair tells q)
    (first : PairRecordsFirst tells rings new p q) (all : PairRecordsAll tells rings mid new p q) where
  pub PairRecordsFirst-then : PairRecordsFirst tells mid more q r → PairRecordsFirst tells rings (new ++ more) p r
  PairRecordsFirst-then next = record {
    first = λ few. moments_on tells First new more p q r sound first.numbers.time next.numbers.time rings.first mid.first all.first (first.first few)
        (next.first (let most = first.numbers.greatest few in omega (arith, most, all.next)));
    second = λ few. moments_on tells Second new more p q r sound first.numbers.time next.numbers.time rings.second mid.second all.second
        (first.second few) (next.second (let most = first.numbers.greatest few in omega (arith, most, all.next)));
    first_kept = kept_then tells First new more p q r sound first.numbers.time next.numbers.time rings.first mid.first all.first first.first_kept
        next.first_kept;
    second_kept = kept_then tells Second new more p q r sound first.numbers.time next.numbers.time rings.second mid.second all.second first.second_kept
        next.second_kept;
    numbers = counts_more tells rings.next (length new + length more) (length (new ++ more)) p r (omega (arith, length-append new more))
        (counts_then tells rings.next mid.next (length new) (length more) p q r sound all.next first.numbers next.numbers);
    near = λ told side.
        let here = all.announced told in
        near_on_then tells rings.header side p q r first.numbers.time next.numbers.time (first.near told side)
        (subst (λ (h : Header). StaysNearOn tells h side q r) all.header (next.near (omega (arith, here, all.next)) side));
  }

-- all of the first, and then what became of the others
module _ (tells : Tells) (rings mid : PairRings) (new : List Block) (p q r : Pair) (all : PairRecordsAll tells rings mid new p q) where
  pub PairRecordsAll-then : (left : PairRings) (more : List Block) → PairRecordsAll tells mid left more q r
      → PairRecordsAll tells rings left (new ++ more) p r
  PairRecordsAll-then left more next = record {
    first = now_on tells First new more p q r rings.first mid.first left.first all.first next.first;
    second = now_on tells Second new more p q r rings.second mid.second left.second all.second next.second;
    header = next.header ∙ all.header;
    next = omega (arith, next.next, all.next, length-append new more);
    announced = λ told.
        let here = all.announced told in
        let there = next.announced (omega (arith, here, all.next)) in
        omega (arith, there, all.next, length-append new more);
  }

  pub BothFailed-then : BothFailed tells mid q r → BothFailed tells rings p r
  BothFailed-then failed = record {
    first = failed_side tells First rings.first (new ++ []) [] p r (now_on tells First new [] p q r rings.first mid.first None all.first failed.first);
    second = failed_side tells Second rings.second (new ++ []) [] p r (now_on tells Second new [] p q r rings.second mid.second None all.second failed.second);
  }

-- ---- a block

pub living_now : (tells : Tells) (rings : PairRings) (o u : Option Ring) (done : List Block) (p q : Pair) → (HasLiving o u → ⊥)
    → SideNow tells First rings.first o done p q → SideNow tells Second rings.second u done p q → BothFailed tells rings p q
living_now tells rings (Some r) u done p q none first second = absurd (none refl)
living_now tells rings None (Some s) done p q none first second = absurd (none refl)
living_now tells rings None None done p q none first second = record {
  first = failed_side tells First rings.first done [] p q first;
  second = failed_side tells Second rings.second done [] p q second;
}
