-- What a recording on two disks that was started goes on from.
use Rattle.std.proofs.lemmas.List.{append-nil}
use Rattle.std.proofs.Common.{◌≡◌, ◌⊎◌, inl, inr, ⊎_elim, ℕ, ◌+◌, ◌-◌, ◌%◌, ◌^◌, ◌≤◌, List, [], ◌++◌, refl, sym, ◌∙◌, ap, subst, arith, Option, Some, None}
use Rattle.std.specs.Prelude.{IsTrue, max}
use Rattle.std.specs.Option.{ForSome}
use Rattle.fdr_io.specs.Faults.{Rose}
use Rattle.fdr_deck.specs.State.{Tells}
use Rattle.fdr_slot.specs.declared.image.Header.{Header}
use Rattle.fdr_slot.specs.Limits.{IsInLimits}
use Rattle.fdr_recover.specs.Blocks.{Block}
use Rattle.fdr_recover.specs.Images.{recovered_run, next_of}
use Rattle.fdr_recover.specs.ImageHeader.{image_fault_of, header_in}
use Rattle.fdr_recover.specs.Payloads.{run_in}
use Rattle.fdr_recover.specs.declared.run.Found.{Found}
use Rattle.fdr_recover.proofs.Between.{between_none}
use Rattle.fdr_ring.specs.Gates.{KeepsHeader}
use Rattle.fdr_ring.specs.Runs.{last_blocks}
use Rattle.fdr_ring.specs.declared.ring.Ring.{Ring}
use Rattle.fdr_table.specs.Rows.{TableRows}
use Rattle.fdr_trace.specs.Reading.{RepresentsTrace}
use Rattle.fdr_twin.specs.declared.side.Side.{Side}
use Rattle.fdr_twin.specs.declared.side.Side.TheVariants.{First, Second}
use Rattle.fdr_twin.specs.Pair.{Pair, other_side, disk_on}
use Rattle.fdr_twin.specs.RestSound.{PairElapses-then}
use Rattle.fdr_recorder.specs.NewBlocks.{next_in}
use Rattle.fdr_recorder.specs.Past.{past_at_start, session_of}
use Rattle.fdr_recorder.proofs.Starting.{session_of-is}
use Rattle.fdr_pair.specs.Alike.{AreAlike, HaveOneHeader, lead_on, follower_on}
use Rattle.fdr_pair.specs.Attaching.{start_on, AttachedNow, HasGoneOnFrom}
use Rattle.fdr_pair.specs.Bringing.{HasNoFault}
use Rattle.fdr_pair.specs.Brought.{brought_run, missing_blocks, IsFarBehind}
use Rattle.fdr_pair.specs.Joining.{IsBroughtUp}
use Rattle.fdr_pair.specs.Opening.{AreCountsBelowMost}
use Rattle.fdr_pair.specs.PairPast.{RepresentsPair}
use Rattle.fdr_pair.specs.PairRecording.{IsSettledSide, AreSettled}
use Rattle.fdr_pair.specs.PairStarting.{KeepsAtStart, IsCountedByRing, IsPairStarted, ring_on, HasHeaderUnlessFailed, HaveRightHeader}
use Rattle.fdr_pair.specs.PairStarting.{StartsOnRun, StartsWithLead, StartsWithoutLead}
use Rattle.fdr_pair.specs.declared.join.Follower.{Follower}
use Rattle.fdr_pair.specs.declared.join.Follower.TheVariants as follower
use Rattle.fdr_pair.specs.declared.join.Joined.{Joined}
use Rattle.fdr_pair.specs.declared.open.Opened.{Opened}
use Rattle.fdr_pair.specs.declared.rings.PairRings.{PairRings}
use Rattle.fdr_pair.specs.declared.runs.SideRuns.{SideRuns}
use Rattle.fdr_pair.specs.declared.start.PairStart.{PairStart}
use Rattle.fdr_pair.proofs.Alikes.{header_of_side, no_fault_of_side}
use Rattle.fdr_pair.proofs.Bringing.{other_twice}
use Rattle.fdr_pair.proofs.BroughtRuns.{missing_between}
use Rattle.fdr_pair.proofs.Counting.{line_then}
use Rattle.fdr_pair.proofs.StartCounts.{counts_none, none_rose}
use Rattle.fdr_pair.proofs.StartJoined.{on_both, lead_start, other_start, AreJoined, HasOther, header_limits, each_counted, counted_by_ring}
use Rattle.fdr_pair.proofs.StartRefusals.{sides, work_joined}
use Rattle.fdr_pair.proofs.StartSteps.{HasOpened, HasFoundRuns, HasJoinedSides}
use Rattle.fdr_pair.proofs.SideCounts.{counted_then}

-- two sides are the same, or one is the other of the second
side_cases : (a b : Side) → (a ≡ b) ⊎ (a ≡ other_side b)
side_cases First First = inl refl
side_cases First Second = inr refl
side_cases Second First = inr refl
side_cases Second Second = inl refl

-- a brought run with no block that is missing
level_run : (h : Header) (lead follower : List ℕ) → IsInLimits h → (IsFarBehind h lead follower → ⊥) → next_of h follower ≡ next_of h lead
    → recovered_run h follower ≡ brought_run h lead follower
level_run h lead follower limits near same =
    let none : missing_blocks h lead follower ≡ [] =
    missing_between h lead follower (next_of h follower) (next_of h follower) limits near refl same
    ∙ between_none h lead (next_of h follower) (next_of h follower) (omega arith) in
    sym (append-nil (recovered_run h follower)) ∙ ap (λ (l : List Block). recovered_run h follower ++ l) (sym none)

starts_as : (ring : Option Ring) (side : Side) (h k : Header) (run other : List Block) (next number : ℕ) (p q : Pair) → h ≡ k → run ≡ other → next ≡ number
    → StartsOnRun ring h side run next p q → StartsOnRun ring k side other number p q
starts_as ring side h k run other next number p q header same at is =
    subst (λ (n : ℕ). StartsOnRun ring k side other n p q) at
    (subst (λ (l : List Block). StartsOnRun ring k side l next p q) same
    (subst (λ (x : Header). StartsOnRun ring x side run next p q) header is))

-- a side that had failed
still_failed : (tells : Tells) (h : Header) (side : Side) (ring : Option Ring) (p0 p3 p5 : Pair)
    → Rose (disk_on side p0).faults (disk_on side p3).faults → AttachedNow tells h side follower.Failed ring p3 p5
    → (ring ≡ None) × Rose (disk_on side p0).faults (disk_on side p5).faults
still_failed tells h side None p0 p3 p5 rose is = (refl, subst (λ (n : ℕ). Rose (disk_on side p0).faults n) (sym is) rose)
still_failed tells h side (Some r) p0 p3 p5 rose is = absurd is

settled_ring : (tells : Tells) (h : Header) (side : Side) (x : Follower) (ring : Option Ring) (p q : Pair) → AttachedNow tells h side x ring p q
    → IsSettledSide tells side ring q
settled_ring tells h side x None p q is = tt
settled_ring tells h side follower.Failed (Some r) p q is = absurd is
settled_ring tells h side follower.Level (Some r) p q is = is.ring
settled_ring tells h side (follower.Brought b) (Some r) p q is = is.ring

for_ring : (ring : Option Ring) (P : Type 0) → P → ForSome ring (λ r. P)
for_ring ring P is r at = is

no_ring : (ring : Option Ring) (P : Type 0) → ring ≡ None → ForSome ring (λ r. P)
no_ring ring P none r at = absurd (cc)

-- a side that is attached holds its own run
level_starts : (tells : Tells) (h : Header) (side : Side) (ring : Option Ring) (p0 p3 p5 : Pair) → IsTrue tells.bytes
    → (disk_on side p3).held ≡ (disk_on side p0).held → (disk_on side p3).faults ≡ (disk_on side p0).faults
    → AttachedNow tells h side follower.Level ring p3 p5
    → StartsOnRun ring h side (recovered_run h (disk_on side p0).held) (next_of h (disk_on side p0).held) p0 p5
level_starts tells h side None p0 p3 p5 told held faults is = subst (λ (n : ℕ). Rose n (disk_on side p5).faults) faults is
level_starts tells h side (Some r) p0 p3 p5 told held faults is = record {
  kept = subst (λ (l : List ℕ). KeepsHeader l (disk_on side p5).held) held (is.keeps told).run.kept;
  last = is.run told ∙ ap (λ (l : List ℕ). last_blocks (h.slots - 1) (recovered_run h l)) held;
  number = (is.keeps told).run.next ∙ ap (λ (l : List ℕ). next_of h l) held;
}

-- a side that was brought up holds its brought run
brought_starts : (tells : Tells) (h : Header) (lead : Side) (r : Ring) (ring : Option Ring) (p0 p3 p5 : Pair) → IsBroughtUp h lead p0 p3
    → AttachedNow tells h (other_side lead) (follower.Brought r) ring p3 p5
    → StartsOnRun ring h (other_side lead) (brought_run h (disk_on lead p0).held (disk_on (other_side lead) p0).held) (next_of h (disk_on lead p0).held) p0 p5
brought_starts tells h lead r None p0 p3 p5 up is = absurd is
brought_starts tells h lead r (Some s) p0 p3 p5 up is = record {
  kept = subst (λ (l : List ℕ). KeepsHeader (disk_on (other_side lead) p0).held l) (sym is.disk.held) up.kept;
  last = ap (λ (l : List ℕ). recovered_run h l) is.disk.held ∙ up.run;
  number = ap (λ (l : List ℕ). next_of h l) is.disk.held ∙ up.next;
}

-- The recording goes on from the run of this side.
record StartsFrom (rings : PairRings) (session : ℕ) (side : Side) (old new : Pair) : Type 0 where
  pub header : rings.header ≡ header_in (disk_on side old).held
  pub next : rings.next ≡ next_in (disk_on side old).held
  pub after : session ≡ session_of (run_in (disk_on side old).held)
  pub own : StartsOnRun (ring_on side rings) rings.header side (run_in (disk_on side old).held) rings.next old new

-- What became of the other side: it is on its brought run, or it has failed.
abbrev StartsOther : PairRings → Side → Pair → Pair → Type 0
StartsOther rings lead old new = StartsOnRun (ring_on (other_side lead) rings) rings.header (other_side lead)
    (brought_run rings.header (disk_on lead old).held (disk_on (other_side lead) old).held) rings.next old new

abbrev FailedOther : PairRings → Side → Pair → Pair → Type 0
FailedOther rings lead old new =
    (ring_on (other_side lead) rings ≡ None) × Rose (disk_on (other_side lead) old).faults (disk_on (other_side lead) new).faults

module _ (words : ℕ) (tells : Tells) (h : Header) (lead : Side) (found : Found) (f : Follower) (rings : PairRings) (p0 p3 p5 : Pair)
    (joined : AreJoined words tells h lead found f p0 p3)
    (attached : (side : Side) → AttachedNow tells h side (start_on side lead f) (ring_on side rings) p3 p5) where
  lead_attached : AttachedNow tells h lead follower.Level (ring_on lead rings) p3 p5
  lead_attached = lead_start (λ (s : Side) (x : Follower). AttachedNow tells h s x (ring_on s rings) p3 p5) lead f attached

  other_attached : AttachedNow tells h (other_side lead) f (ring_on (other_side lead) rings) p3 p5
  other_attached = other_start (λ (s : Side) (x : Follower). AttachedNow tells h s x (ring_on s rings) p3 p5) lead f attached

  -- the other side, where it had failed
  other_failed : f ≡ follower.Failed → FailedOther rings lead p0 p5
  other_failed is = still_failed tells h (other_side lead) (ring_on (other_side lead) rings) p0 p3 p5
      (subst (λ (x : Follower). HasOther tells h lead found.next x p0 p3) is joined.other)
      (subst (λ (x : Follower). AttachedNow tells h (other_side lead) x (ring_on (other_side lead) rings) p3 p5) is other_attached)

  pub near_started : IsTrue tells.bytes → AreCountsBelowMost p5 → HasNoFault p0 p5 → AreAlike words p0
  near_started told below none = ⊎_elim
      (λ leads. leads.alike told)
      (λ is. absurd (none_rose (other_side lead) p0 p5 p5 (other_failed is).1 (counts_none p5 p5 (record { first = refl; second = refl })) below none))
      joined.two

  -- the header of each side that hasn't failed
  other_header : HaveOneHeader words p0 → IsTrue tells.bytes → h ≡ header_in (disk_on (other_side lead) p0).held
  other_header one told =
      joined.own.image.header told ∙ header_of_side words p0 lead one ∙ sym (header_of_side words p0 (other_side lead) one)

  side_header : IsTrue tells.bytes → (side : Side) → HasHeaderUnlessFailed h side p0 p5
  side_header told = on_both (λ (s : Side). HasHeaderUnlessFailed h s p0 p5) lead
      (inr (joined.own.image.good told, joined.own.image.header told))
      (⊎_elim
      (λ leads. let one = (leads.alike told).header in inr (no_fault_of_side words p0 (other_side lead) one, other_header one told))
      (λ is. inl (other_failed is).1)
      joined.two)

  pub right_header : IsTrue tells.bytes → h.words ≡ words → h.version ≡ 2 → HaveRightHeader words h p0 p5
  right_header told count version =
      record { first = side_header told First; second = side_header told Second; count = count; version = version }

  -- the image of a side that has a ring has no fault
  pub read_rings : IsTrue tells.bytes → (side : Side) → ForSome (ring_on side rings) (λ r. image_fault_of (disk_on side p0).held ≡ None)
  read_rings told = on_both (λ (s : Side). ForSome (ring_on s rings) (λ r. image_fault_of (disk_on s p0).held ≡ None)) lead
      (for_ring (ring_on lead rings) (image_fault_of (disk_on lead p0).held ≡ None) (joined.own.image.good told))
      (⊎_elim
      (λ leads. for_ring (ring_on (other_side lead) rings) (image_fault_of (disk_on (other_side lead) p0).held ≡ None)
      (no_fault_of_side words p0 (other_side lead) (leads.alike told).header))
      (λ is. no_ring (ring_on (other_side lead) rings) (image_fault_of (disk_on (other_side lead) p0).held ≡ None) (other_failed is).0)
      joined.two)

  pub counted_rings : (side : Side) → IsCountedByRing (ring_on side rings) (disk_on side p0).faults (disk_on side p5).faults
  counted_rings side = counted_by_ring tells h side (start_on side lead f) (ring_on side rings) p0 p3 p5
      (each_counted words tells h lead found f p0 p3 joined side) (attached side)

  pub settled_rings : AreSettled tells rings p5
  settled_rings = record {
    first = settled_ring tells h First (start_on First lead f) rings.first p3 p5 (attached First);
    second = settled_ring tells h Second (start_on Second lead f) rings.second p3 p5 (attached Second);
  }

  -- the run of the side that leads
  module _ (told : IsTrue tells.bytes) (number : ℕ) (header : rings.header ≡ h) (next : rings.next ≡ found.next)
      (session : number ≡ (found.session + 1) % 2 ^ 32) (limits : IsInLimits h) where
    own_header : h ≡ header_in (disk_on lead p0).held
    own_header = joined.own.image.header told

    own_next : rings.next ≡ next_of h (disk_on lead p0).held
    own_next = next ∙ (joined.own.image.run.run told).next

    own_run : recovered_run h (disk_on lead p0).held ≡ run_in (disk_on lead p0).held
    own_run = ap (λ (k : Header). recovered_run k (disk_on lead p0).held) own_header

    starts_from : StartsFrom rings number lead p0 p5
    starts_from = record {
      header = header ∙ own_header;
      next = own_next ∙ ap (λ (k : Header). next_of k (disk_on lead p0).held) own_header;
      after = session ∙ ap (λ (n : ℕ). (n + 1) % 2 ^ 32) (joined.own.image.run.session told)
          ∙ sym (session_of-is (recovered_run h (disk_on lead p0).held)) ∙ ap session_of own_run;
      own = starts_as (ring_on lead rings) lead h rings.header (recovered_run h (disk_on lead p0).held) (run_in (disk_on lead p0).held)
          (next_of h (disk_on lead p0).held) rings.next p0 p5 (sym header) own_run (sym own_next)
          (level_starts tells h lead (ring_on lead rings) p0 p3 p5 told joined.own.image.held joined.own.faults lead_attached);
    }

    -- the other side
    other_as : StartsOnRun (ring_on (other_side lead) rings) h (other_side lead)
        (brought_run h (disk_on lead p0).held (disk_on (other_side lead) p0).held) (next_of h (disk_on lead p0).held) p0 p5 → StartsOther rings lead p0 p5
    other_as is = starts_as (ring_on (other_side lead) rings) (other_side lead) h rings.header
        (brought_run h (disk_on lead p0).held (disk_on (other_side lead) p0).held)
        (brought_run rings.header (disk_on lead p0).held (disk_on (other_side lead) p0).held) (next_of h (disk_on lead p0).held) rings.next p0 p5
        (sym header) (ap (λ (k : Header). brought_run k (disk_on lead p0).held (disk_on (other_side lead) p0).held) (sym header)) (sym own_next) is

    other_starts : (x : Follower) → (IsFarBehind h (disk_on lead p0).held (disk_on (other_side lead) p0).held → ⊥) → HasOther tells h lead found.next x p0 p3
        → AttachedNow tells h (other_side lead) x (ring_on (other_side lead) rings) p3 p5 → StartsOther rings lead p0 p5 ⊎ FailedOther rings lead p0 p5
    other_starts follower.Failed near has is = inr (still_failed tells h (other_side lead) (ring_on (other_side lead) rings) p0 p3 p5 has is)
    other_starts follower.Level near has is =
        let same : next_of h (disk_on (other_side lead) p0).held ≡ next_of h (disk_on lead p0).held =
        has.next told ∙ (joined.own.image.run.run told).next in
        inl (other_as (starts_as (ring_on (other_side lead) rings) (other_side lead) h h (recovered_run h (disk_on (other_side lead) p0).held)
        (brought_run h (disk_on lead p0).held (disk_on (other_side lead) p0).held) (next_of h (disk_on (other_side lead) p0).held)
        (next_of h (disk_on lead p0).held) p0 p5 refl
        (level_run h (disk_on lead p0).held (disk_on (other_side lead) p0).held limits near same) same
        (level_starts tells h (other_side lead) (ring_on (other_side lead) rings) p0 p3 p5 told has.held has.faults is)))
    other_starts (follower.Brought r) near has is =
        inl (other_as (brought_starts tells h lead r (ring_on (other_side lead) rings) p0 p3 p5 (has.up told) is))

    near_at : AreAlike words p0 → lead ≡ lead_on p0 → IsFarBehind h (disk_on lead p0).held (disk_on (other_side lead) p0).held → ⊥
    near_at alike is far = alike.near
        (subst (λ (s : Side). IsFarBehind (header_in (disk_on s p0).held) (disk_on s p0).held (disk_on (other_side s) p0).held) is
        (subst (λ (k : Header). IsFarBehind k (disk_on lead p0).held (disk_on (other_side lead) p0).held) own_header far))

    with_lead : lead ≡ lead_on p0 → (AreAlike words p0 × StartsOther rings lead p0 p5) ⊎ FailedOther rings lead p0 p5 → StartsWithLead words rings number p0 p5
    with_lead is other =
        let from : StartsFrom rings number (lead_on p0) p0 p5 = subst (λ (s : Side). StartsFrom rings number s p0 p5) is starts_from in
        record {
          header = from.header;
          next = from.next;
          after = from.after;
          lead = from.own;
          follower = subst (λ (s : Side). (AreAlike words p0 × StartsOther rings s p0 p5) ⊎ FailedOther rings s p0 p5) is other;
        }

    without_lead : lead ≡ follower_on p0 → FailedOther rings lead p0 p5 → StartsWithoutLead words rings number p0 p5
    without_lead is other =
        let from : StartsFrom rings number (follower_on p0) p0 p5 = subst (λ (s : Side). StartsFrom rings number s p0 p5) is starts_from in
        record {
          header = from.header;
          next = from.next;
          after = from.after;
          lead = subst (λ (s : Side). (ring_on s rings ≡ None) × Rose (disk_on s p0).faults (disk_on s p5).faults)
              (ap other_side is ∙ other_twice (lead_on p0)) other;
          follower = from.own;
        }

    pub goes_on_from : StartsWithLead words rings number p0 p5 ⊎ StartsWithoutLead words rings number p0 p5
    goes_on_from = ⊎_elim
        (λ leads. inl (with_lead (leads.lead told) (⊎_elim (λ starts. inl (leads.alike told, starts)) (λ failed. inr failed)
        (other_starts f (near_at (leads.alike told) (leads.lead told)) joined.other other_attached))))
        (λ is. ⊎_elim
        (λ same. inl (with_lead same (inr (other_failed is))))
        (λ other. inr (without_lead other (other_failed is)))
        (side_cases lead (lead_on p0)))
        joined.two

-- the rings of each side
each_attached : (tells : Tells) (h : Header) (j : Joined) (rings : PairRings) (p q : Pair) → HasGoneOnFrom tells h j rings p q
    → (side : Side) → AttachedNow tells h side (start_on side j.lead j.follower) (ring_on side rings) p q
each_attached tells h j rings p q gone First = gone.first
each_attached tells h j rings p q gone Second = gone.second

-- A recording was started.
module _ (t : TableRows) (tells : Tells) (o : Opened) (found : SideRuns) (j : Joined) (rings : PairRings) (number : ℕ) (s : PairStart)
    (p0 p1 p2 p3 p5 : Pair) (opened : HasOpened tells t.frame.words o p0 p1) (has : HasFoundRuns tells o found p1 p2)
    (joins : HasJoinedSides tells o.header found j p2 p3) (gone : HasGoneOnFrom tells o.header j rings p3 p5) where
  both_sides : AreJoined t.frame.words tells o.header j.lead j.found j.follower p0 p3
  both_sides = sides t tells o found j p0 p1 p2 p3 p5 opened has joins

  attached_each : (side : Side) → AttachedNow tells o.header side (start_on side j.lead j.follower) (ring_on side rings) p3 p5
  attached_each = each_attached tells o.header j rings p3 p5 gone

  pub started : RepresentsTrace s.trace [] [] → s.session.rings ≡ rings → RepresentsPair s.session (past_at_start t rings.header rings.next number)
      → number ≡ (j.found.session + 1) % 2 ^ 32 → KeepsAtStart t.frame.words tells p0 p5 → IsPairStarted t tells s p0 p5
  started trace same stands session keeps =
      let work = work_joined t tells o found j p0 p1 p2 p3 p5 opened has joins in
      let numbered : number ≡ s.session.session = sym stands.session in
      record {
        trace = trace;
        begun = record {
          none = refl;
          stands = subst (λ (n : ℕ). RepresentsPair s.session (past_at_start t s.session.rings.header s.session.rings.next n)) numbered
              (subst (λ (r : PairRings). RepresentsPair s.session (past_at_start t r.header r.next number)) (sym same) stands);
          number = refl;
          settled = subst (λ (r : PairRings). AreSettled tells r p5) (sym same)
              (settled_rings t.frame.words tells o.header j.lead j.found j.follower rings p0 p3 p5 both_sides attached_each);
          announced = gone.announced ∙ ap (λ (r : PairRings). r.next) (sym same);
        };
        time = PairElapses-then p0 p3 p5 work.time gone.time;
        counted = counted_then tells p0 p3 p5 joins.sound work.time gone.time work.counts gone.counts;
        line = line_then p0 p3 p5 (record {
          input = work.line.input;
          taken = work.line.taken;
          pulled_before = work.line.pulled_before;
          input_faults = work.line.input_faults;
        }) gone.line;
        greatest =
            let most : p5.greatest ≤ max p3.greatest rings.next = gone.greatest in
            subst (λ (r : PairRings). p5.greatest ≤ max p0.greatest r.next) (sym same) (omega (arith, most, work.line.greatest));
        counts = subst (λ (r : PairRings). (side : Side) → IsCountedByRing (ring_on side r) (disk_on side p0).faults (disk_on side p5).faults) (sym same)
            (counted_rings t.frame.words tells o.header j.lead j.found j.follower rings p0 p3 p5 both_sides attached_each);
        keeps = keeps;
        read = λ told.
            subst (λ (r : PairRings). (side : Side) → ForSome (ring_on side r) (λ x. image_fault_of (disk_on side p0).held ≡ None)) (sym same)
            (read_rings t.frame.words tells o.header j.lead j.found j.follower rings p0 p3 p5 both_sides attached_each told);
        header = λ told. subst (λ (k : Header). HaveRightHeader t.frame.words k p0 p5) (sym gone.header ∙ ap (λ (r : PairRings). r.header) (sym same))
            (right_header t.frame.words tells o.header j.lead j.found j.follower rings p0 p3 p5 both_sides attached_each told opened.words opened.version);
        near = λ told below none.
            near_started t.frame.words tells o.header j.lead j.found j.follower rings p0 p3 p5 both_sides attached_each told below none;
        goes_on = λ told.
            subst (λ (r : PairRings). StartsWithLead t.frame.words r s.session.session p0 p5 ⊎ StartsWithoutLead t.frame.words r s.session.session p0 p5)
            (sym same)
            (subst (λ (n : ℕ). StartsWithLead t.frame.words rings n p0 p5 ⊎ StartsWithoutLead t.frame.words rings n p0 p5) numbered
            (goes_on_from t.frame.words tells o.header j.lead j.found j.follower rings p0 p3 p5 both_sides attached_each told number gone.header
            (gone.next told) session (header_limits tells o.header o.living p0 p1 opened.header)));
      }
