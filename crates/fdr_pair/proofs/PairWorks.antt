-- Calls that work on both disks of a twin, one after another.
use Rattle.std.proofs.Common.{⊎_elim, ℕ, ◌≤◌, List, refl, sym, ◌∙◌, arith}
use Rattle.std.specs.Prelude.{IsTrue}
use Rattle.fdr_deck.specs.State.{State, Tells, Moment}
use Rattle.fdr_deck.specs.Moments.{IsSoundDeck}
use Rattle.fdr_deck.specs.Calls.{KeepsAnnounced}
use Rattle.fdr_deck.proofs.Moments.{KeepsAnnounced-greatest}
use Rattle.fdr_recover.specs.Looks.{Looks}
use Rattle.fdr_twin.specs.declared.side.Side.{Side}
use Rattle.fdr_twin.specs.declared.side.Side.TheVariants.{First, Second}
use Rattle.fdr_twin.specs.Pair.{Pair, PairMoment, Disk, other_side, disk_on, image_on, seen}
use Rattle.fdr_twin.specs.Same.{IsSameState, IsSameDisk, Turns}
use Rattle.fdr_twin.specs.Rest.{HasSameRest}
use Rattle.fdr_twin.specs.Sound.{IsSoundPair}
use Rattle.fdr_twin.specs.Serving.{Serves}
use Rattle.fdr_twin.specs.RestSound.{PairElapses-here, PairElapses-then, LeavesSide-here}
use Rattle.fdr_twin.proofs.Serves.{other_left}
use Rattle.fdr_twin.proofs.Turns.{Turns-disk}
use Rattle.fdr_pair.proofs.Sides.{facing_side}
use Rattle.fdr_pair.specs.PairWork.{IsSameContent, LeavesLine, PairWork, IsLookedAt}
use Rattle.fdr_pair.proofs.SideCounts.{counted_here, counted_then}
use Rattle.fdr_pair.specs.SideCounts.{CountsBoth}

-- a disk that is as it was
pub content_here : (d : Disk) → IsSameContent d d
content_here d = record { extent = refl; held = refl; no_more = λ image is. is; no_less = λ image is. is }

pub content_then : (a b c : Disk) → IsSameContent a b → IsSameContent b c → IsSameContent a c
content_then a b c one two = record {
  extent = two.extent ∙ one.extent;
  held = two.held ∙ one.held;
  no_more = λ image is. one.no_more image (two.no_more image is);
  no_less = λ image is. two.no_less image (one.no_less image is);
}

pub content_of : (a b : Disk) → IsSameDisk a b → IsSameContent a b
content_of a b same = record { extent = same.extent; held = same.held; no_more = same.no_more; no_less = same.no_less }

-- a turn to a side, and then calls that only look at it
pub looked_content : (tells : Tells) (side : Side) (s t : State) (old mid new : Pair) → Turns side old mid → IsSameState s (seen mid.turned mid)
    → IsSameState t (seen new.turned new) → HasSameRest mid new → Looks tells s t → IsSameContent (disk_on side old) (disk_on side new)
looked_content tells side s t old mid new turns same_mid same_new rest looks =
    let turned = Turns-disk side side old mid turns in
    let before = facing_side s mid side same_mid turns.turned in
    let after = facing_side t new side same_new (rest.turned ∙ turns.turned) in
    content_then (disk_on side old) (disk_on side mid) (disk_on side new) (content_of (disk_on side old) (disk_on side mid) turned) (record {
      extent = after.extent ∙ looks.extent ∙ sym before.extent;
      held = after.held ∙ looks.disk.held ∙ sym before.held;
      no_more = λ image is. before.leaves image (looks.disk.no_more image (after.left image is));
      no_less = λ image is. after.leaves image (looks.disk.no_less image (before.left image is));
    })

-- a number that was announced stays
announced_least : (tells : Tells) (old new : State) → IsSoundDeck tells old → KeepsAnnounced old new → old.least ≤ new.least
announced_least tells old new sound keeps =
    ⊎_elim (λ fresh. omega (arith, fresh.0, keeps.announced, sound.least)) (λ kept. omega (arith, kept.0)) keeps.numbers

-- calls that serve one side announce and pull nothing
pub line_left : (tells : Tells) (side : Side) (P : List ℕ → Type 0) (old new : Pair) → IsSoundPair tells old → Serves tells side P old new
    → LeavesLine old new
line_left tells side P old new sound served = let passes = served.disk_work.passes in record {
  input = passes.input.input;
  taken = passes.input.taken;
  pulled_before = passes.input.pulled_before;
  input_faults = passes.input_faults;
  announced = passes.announced.announced;
  least = announced_least tells (seen side old) (seen side new) (sound.sides side) passes.announced;
  greatest = KeepsAnnounced-greatest tells (seen side old) (seen side new) (sound.sides side) passes.announced;
}

-- calls that serve one side
pub work_of : (tells : Tells) (side : Side) (P : List ℕ → Type 0) (Q : PairMoment → Type 0) (old new : Pair) → IsSoundPair tells old
    → Serves tells side P old new → CountsBoth old new
    → (IsTrue tells.stops → (m : PairMoment) → P (image_on side m) → (disk_on (other_side side) old).may_leave (image_on (other_side side) m) → Q m)
    → PairWork tells Q old new
work_of tells side P Q old new sound served counts holds = record {
  time = served.time;
  counts = counts;
  line = line_left tells side P old new sound served;
  line_moments = λ stops m since. let at = served.moments stops m since in
      record { least = at.least; greatest = at.greatest; taken = at.taken; pulled_before = at.pulled_before };
  moments = λ stops m since. let at = served.moments stops m since in holds stops m at.image at.other;
}

-- no calls
pub work_here : (tells : Tells) (Q : PairMoment → Type 0) (p : Pair) → IsSoundPair tells p
    → (IsTrue tells.stops → (m : PairMoment) → p.first.may_leave m.first → p.second.may_leave m.second → Q m) → PairWork tells Q p p
work_here tells Q p sound holds = record {
  time = PairElapses-here p sound.falls;
  counts = counted_here p;
  line = record {
    input = refl;
    taken = refl;
    pulled_before = refl;
    input_faults = refl;
    announced = refl;
    least = omega arith;
    greatest = omega arith;
  };
  line_moments = λ stops m since.
      let shown : Moment = record { image = image_on First m; announced = m.announced; taken = m.taken; pulled_before = m.pulled_before } in
      let is = (sound.sides First).only_now stops shown (m, (since, record { image = refl; announced = refl; taken = refl; pulled_before = refl })) in
      record { least = is.least; greatest = is.greatest; taken = is.pulled.taken; pulled_before = is.pulled.pulled_before };
  moments = λ stops m since. holds stops m (other_left tells First p p sound (LeavesSide-here First p) stops m since)
      (other_left tells Second p p sound (LeavesSide-here Second p) stops m since);
}

-- one work after another
pub work_then : (tells : Tells) (P Q R : PairMoment → Type 0) (old mid new : Pair) → IsSoundPair tells mid → PairWork tells P old mid → PairWork tells Q mid new
    → (IsTrue tells.stops → (m : PairMoment) → P m → R m) → (IsTrue tells.stops → (m : PairMoment) → Q m → R m) → PairWork tells R old new
work_then tells P Q R old mid new sound one two first second = record {
  time = PairElapses-then old mid new one.time two.time;
  counts = counted_then tells old mid new sound one.time two.time one.counts two.counts;
  line = record {
    input = two.line.input ∙ one.line.input;
    taken = two.line.taken ∙ one.line.taken;
    pulled_before = two.line.pulled_before ∙ one.line.pulled_before;
    input_faults = two.line.input_faults ∙ one.line.input_faults;
    announced = two.line.announced ∙ one.line.announced;
    least = omega (arith, one.line.least, two.line.least);
    greatest = omega (arith, one.line.greatest, two.line.greatest);
  };
  line_moments = λ stops m since. ⊎_elim
      (λ was. one.line_moments stops m was)
      (λ is. let at = two.line_moments stops m is in record {
        least = omega (arith, at.least, one.line.least);
        greatest = omega (arith, at.greatest, one.line.greatest);
        taken = at.taken ∙ one.line.taken;
        pulled_before = at.pulled_before ∙ one.line.pulled_before;
      })
      (two.time.no_more old.clock m one.time.later since);
  moments = λ stops m since. ⊎_elim
      (λ was. first stops m (one.moments stops m was))
      (λ is. second stops m (two.moments stops m is))
      (two.time.no_more old.clock m one.time.later since);
}

pub work_weaken : (tells : Tells) (P Q : PairMoment → Type 0) (old new : Pair) → PairWork tells P old new
    → (IsTrue tells.stops → (m : PairMoment) → P m → Q m) → PairWork tells Q old new
work_weaken tells P Q old new work holds = record {
  time = work.time;
  counts = work.counts;
  line = work.line;
  line_moments = work.line_moments;
  moments = λ stops m since. holds stops m (work.moments stops m since);
}

-- both disks are as they were
looked_before : (old mid : Pair) → IsSameContent old.first mid.first → IsSameContent old.second mid.second → (m : PairMoment) → IsLookedAt mid m
    → IsLookedAt old m
looked_before old mid first second m is = record { first = first.no_more m.first is.first; second = second.no_more m.second is.second }

pub looked_here : (tells : Tells) (p : Pair) → IsSoundPair tells p → PairWork tells (IsLookedAt p) p p
looked_here tells p sound = work_here tells (IsLookedAt p) p sound (λ stops m first second. record { first = first; second = second })

pub looked_then : (tells : Tells) (old mid new : Pair) → IsSoundPair tells mid → IsSameContent old.first mid.first → IsSameContent old.second mid.second
    → PairWork tells (IsLookedAt old) old mid → PairWork tells (IsLookedAt mid) mid new → PairWork tells (IsLookedAt old) old new
looked_then tells old mid new sound first second one two =
    work_then tells (IsLookedAt old) (IsLookedAt mid) (IsLookedAt old) old mid new sound one two (λ stops m is. is)
    (λ stops m is. looked_before old mid first second
    m is)

pub looked_first : (tells : Tells) (old new : Pair) → IsSoundPair tells old → Serves tells First old.first.may_leave old new
    → CountsBoth old new → PairWork tells (IsLookedAt old) old new
looked_first tells old new sound served counts =
    work_of tells First old.first.may_leave (IsLookedAt old) old new sound served counts (λ stops m own other. record { first = own; second = other })

pub looked_second : (tells : Tells) (old new : Pair) → IsSoundPair tells old → Serves tells Second old.second.may_leave old new
    → CountsBoth old new → PairWork tells (IsLookedAt old) old new
looked_second tells old new sound served counts =
    work_of tells Second old.second.may_leave (IsLookedAt old) old new sound served counts (λ stops m own other. record { first = other; second = own })
