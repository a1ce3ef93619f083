-- The line and the announced numbers, over calls that record blocks.
use Rattle.std.proofs.Common.{◌≡◌, ℕ, ◌+◌, ◌≤◌, List, ◌∙◌, arith, Option, Some, None}
use Rattle.fdr_deck.specs.State.{Tells}
use Rattle.fdr_ring.specs.declared.ring.Ring.{Ring}
use Rattle.fdr_twin.specs.declared.side.Side.TheVariants.{First, Second}
use Rattle.fdr_twin.specs.Pair.{Pair, PairMoment}
use Rattle.fdr_twin.specs.Sound.{IsSoundPair}
use Rattle.fdr_twin.specs.RestSound.{PairElapses-here, PairElapses-then}
use Rattle.fdr_pair.specs.Announcing.{AnnouncesLiving, PairAnnounces}
use Rattle.fdr_pair.specs.Living.{HasLiving}
use Rattle.fdr_pair.specs.Numbers.{CountsOn, HasPulled, KeepsLine}
use Rattle.fdr_pair.specs.SidePuts.{PutsUnlessFailed}
use Rattle.fdr_twin.specs.declared.side.Side.{Side}
use Rattle.fdr_pair.proofs.Going.{on}
use Rattle.fdr_pair.proofs.Servings.{line_here, now_quiet}
use Rattle.fdr_pair.proofs.SideCounts.{counted_here, counted_then}

pub line_then : (a b c : Pair) → KeepsLine a b → KeepsLine b c → KeepsLine a c
line_then a b c one two = record {
  input = two.input ∙ one.input;
  taken = two.taken ∙ one.taken;
  pulled_before = two.pulled_before ∙ one.pulled_before;
  input_faults = two.input_faults ∙ one.input_faults;
}

pulled_then : (a b : Pair) (m : PairMoment) → KeepsLine a b → HasPulled b m → HasPulled a m
pulled_then a b m line at = record { taken = at.taken ∙ line.taken; pulled_before = at.pulled_before ∙ line.pulled_before }

-- no block
pub counts_here : (tells : Tells) (next count : ℕ) (p : Pair) → IsSoundPair tells p → CountsOn tells next count p p
counts_here tells next count p sound = record {
  time = PairElapses-here p sound.falls;
  counts = counted_here p;
  line = line_here p;
  pulled = λ stops m since. (now_quiet tells First p sound stops m since).pulled;
  told = λ few stops m since. (now_quiet tells First p sound stops m since).least;
  least = λ few. omega arith;
  greatest = λ few. omega (arith, few);
}

-- blocks, and then more of them
pub counts_then : (tells : Tells) (next middle count more : ℕ) (a b c : Pair) → IsSoundPair tells b → middle ≡ next + count → CountsOn tells next count a b
    → CountsOn tells middle more b c → CountsOn tells next (count + more) a c
counts_then tells next middle count more a b c sound at one two = record {
  time = PairElapses-then a b c one.time two.time;
  counts = counted_then tells a b c sound one.time two.time one.counts two.counts;
  line = line_then a b c one.line two.line;
  pulled = on tells (HasPulled a) a b c one.time two.time one.pulled (λ stops m since. pulled_then a b m one.line (two.pulled stops m since));
  told = λ few. on tells (λ m. a.least ≤ m.announced) a b c one.time two.time (one.told few)
      (λ stops m since.
      let least = one.least few in
      let most = one.greatest few in
      let told = two.told (omega (arith, most, at)) stops m since in
      omega (arith, least, told));
  least = λ few.
      let least = one.least few in
      let most = one.greatest few in
      let more = two.least (omega (arith, most, at)) in
      omega (arith, least, more);
  greatest = λ few.
      let most = one.greatest few in
      let end = two.greatest (omega (arith, most, at)) in
      omega (arith, end, at);
}

-- at most as many blocks
pub counts_more : (tells : Tells) (next count more : ℕ) (a b : Pair) → count ≤ more → CountsOn tells next count a b → CountsOn tells next more a b
counts_more tells next count more a b le one = record {
  time = one.time;
  counts = one.counts;
  line = one.line;
  pulled = one.pulled;
  told = one.told;
  least = one.least;
  greatest = λ few. let most = one.greatest few in omega (arith, most, le);
}

-- a block on a side
counts_put : (tells : Tells) (side : Side) (next session : ℕ) (bytes : List ℕ) (o o' : Option Ring) (p q : Pair)
    → PutsUnlessFailed tells side o o' session bytes p q → CountsOn tells next 0 p q
counts_put tells side next session bytes o o' p q puts = record {
  time = puts.time;
  counts = puts.counts;
  line = puts.line;
  pulled = λ stops m since. (puts.moments stops m since).pulled;
  told = λ few stops m since. (puts.moments stops m since).least;
  least = λ few. puts.least;
  greatest = λ few. omega (arith, puts.greatest, few);
}

-- an announcement
counts_announced : (tells : Tells) (side : Side) (next : ℕ) (p q : Pair) → IsSoundPair tells p → PairAnnounces tells side (next + 1) p q
    → CountsOn tells next 1 p q
counts_announced tells side next p q sound tell = record {
  time = tell.time;
  counts = tell.counts;
  line = tell.line;
  pulled = λ stops m since. (tell.moments stops m since).pulled;
  told = λ few stops m since.
      let least = (tell.moments stops m since).least in
      omega (arith, least, few, (sound.sides side).least, (sound.sides side).greatest);
  least = λ few. omega (arith, tell.least, few, (sound.sides side).least, (sound.sides side).greatest);
  greatest = λ few. omega (arith, tell.greatest, few);
}

counts_told : (tells : Tells) (next : ℕ) (o u : Option Ring) (p q : Pair) → IsSoundPair tells p → AnnouncesLiving tells o u (next + 1) p q
    → CountsOn tells next 1 p q
counts_told tells next (Some r) u p q sound tell = counts_announced tells First next p q sound tell
counts_told tells next None (Some s) p q sound tell = counts_announced tells Second next p q sound tell
counts_told tells next None None p q sound tell = record {
  time = tell.time;
  counts = tell.counts;
  line = tell.line;
  pulled = λ stops m since. (now_quiet tells First p sound stops m (tell.moments m since)).pulled;
  told = λ few stops m since. (now_quiet tells First p sound stops m (tell.moments m since)).least;
  least = λ few. omega (arith, tell.least);
  greatest = λ few. omega (arith, tell.greatest, few);
}

-- a block on both sides, and its announcement
pub counts_block : (tells : Tells) (next session : ℕ) (bytes : List ℕ) (o o' u u' : Option Ring) (p0 p1 p2 p3 : Pair) → IsSoundPair tells p1 → IsSoundPair
    tells p2
    → PutsUnlessFailed tells First o o' session bytes p0 p1 → PutsUnlessFailed tells Second u u' session bytes p1 p2
    → AnnouncesLiving tells o' u' (next + 1) p2 p3 → CountsOn tells next 1 p0 p3
counts_block tells next session bytes o o' u u' p0 p1 p2 p3 sound_one sound one two tell =
    counts_more tells next (0 + 0 + 1) 1 p0 p3 (omega arith)
    (counts_then tells next next (0 + 0) 1 p0 p2 p3 sound (omega arith)
    (counts_then tells next next 0 0 p0 p1 p2 sound_one (omega arith) (counts_put tells First next session bytes o o' p0 p1 one)
    (counts_put tells Second next session bytes u u' p1 p2 two))
    (counts_told tells next o' u' p2 p3 sound tell))

pub told_living : (tells : Tells) (o u : Option Ring) (count : ℕ) (p q : Pair) → HasLiving o u → AnnouncesLiving tells o u count p q
    → q.announced ≡ count
told_living tells (Some r) u count p q living tell = tell.announced
told_living tells None (Some s) count p q living tell = tell.announced
told_living tells None None count p q living tell = absurd (cc)
