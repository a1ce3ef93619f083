-- What both images keep at each moment of a start of a recording on two disks.
use Rattle.std.proofs.Common.{◌≡◌, ◌⊎◌, inl, inr, ⊎_elim, ℕ, ◌-◌, ◌≤◌, max, List, [], ◌++◌, length, Some, None}
use Rattle.std.proofs.Common.{refl, sym, ◌∙◌, ap, subst, arith, length-drop}
use Rattle.std.proofs.lemmas.Bool.{cases_lt}
use Rattle.std.proofs.lemmas.List.{append-nil, take_all}
use Rattle.std.specs.Prelude.{IsTrue}
use Rattle.fdr_io.specs.Faults.{Rose}
use Rattle.fdr_deck.specs.State.{Tells}
use Rattle.fdr_deck.specs.Disk.{IsSettled}
use Rattle.fdr_slot.specs.declared.image.Header.{Header}
use Rattle.fdr_slot.specs.declared.image.ImageFault.{ImageFault}
use Rattle.fdr_slot.specs.Limits.{IsInLimits}
use Rattle.fdr_recover.specs.Blocks.{Block}
use Rattle.fdr_recover.specs.Images.{recovered_run, next_of}
use Rattle.fdr_recover.specs.ImageHeader.{image_fault_of, header_in}
use Rattle.fdr_recover.specs.Payloads.{run_in}
use Rattle.fdr_recover.specs.declared.run.Found.{Found}
use Rattle.fdr_ring.specs.Gates.{KeepsHeader}
use Rattle.fdr_ring.specs.Runs.{IsTail, KeepsRun, last_blocks}
use Rattle.fdr_twin.specs.declared.side.Side.{Side}
use Rattle.fdr_twin.specs.declared.side.Side.TheVariants.{First, Second}
use Rattle.fdr_twin.specs.Pair.{Pair, PairMoment, other_side, disk_on, image_on, seen}
use Rattle.fdr_twin.specs.Sound.{IsSoundPair}
use Rattle.fdr_twin.specs.Serving.{EachPairMoment}
use Rattle.fdr_recorder.specs.Keeping.{RecoversPrefix}
use Rattle.fdr_recorder.specs.NewBlocks.{next_in}
use Rattle.fdr_recorder.proofs.Steps.{tail_same}
use Rattle.fdr_pair.specs.PairWork.{IsSameContent, PairWork, IsLookedAt}
use Rattle.fdr_pair.specs.Numbers.{HasPulled}
use Rattle.fdr_pair.specs.Brought.{brought_run, missing_blocks, first_of, IsFarBehind}
use Rattle.fdr_pair.specs.Bringing.{HasNoFault}
use Rattle.fdr_pair.specs.Alike.{AreAlike, lead_on, follower_on, lead_image, follower_image}
use Rattle.fdr_pair.specs.Opening.{AreLiving, OnLiving, IsHeaderOn}
use Rattle.fdr_pair.specs.SideRuns.{IsRunOn, LooksAtBoth, AreFoundRuns, AreRunsOfBoth}
use Rattle.fdr_pair.specs.Joining.{IsJoining, JoinMoment, IsBroughtUp, HasJoined, IsJoinedAlone, AreJoinedSides, found_on, lead_by_found}
use Rattle.fdr_pair.specs.Attaching.{start_on, AttachMoment, AreAttachMoments, HasGoneOnFrom, IsGoingRefused}
use Rattle.fdr_pair.specs.SideKeeping.{KeepsRecording}
use Rattle.fdr_pair.specs.PairMoments.{MayRecordPair, HasFailedBy, KeepsRunWith, KeepsRunUntilPull, StaysAsAtEntry}
use Rattle.fdr_pair.specs.PairStarting.{KeepsAtStart}
use Rattle.fdr_pair.specs.declared.open.LivingSides.{LivingSides}
use Rattle.fdr_pair.specs.declared.open.LivingSides.TheVariants.{Both, OnlyFirst, OnlySecond}
use Rattle.fdr_pair.specs.declared.open.Opened.{Opened}
use Rattle.fdr_pair.specs.declared.join.Follower.{Follower}
use Rattle.fdr_pair.specs.declared.join.Follower.TheVariants.{Failed, Level, Brought}
use Rattle.fdr_pair.specs.declared.join.Joined.{Joined}
use Rattle.fdr_pair.specs.declared.outcome.PairOutcome.{PairOutcome}
use Rattle.fdr_pair.specs.declared.rings.PairRings.{PairRings}
use Rattle.fdr_pair.specs.declared.runs.SideRuns.{SideRuns}
use Rattle.fdr_pair.specs.declared.runs.SideRuns.TheVariants as runs
use Rattle.fdr_pair.proofs.Alikes.{no_fault_of_side, lead_not_less, opened_disk, opened_held, opened_header, header_is, looked_content_of, both_found}
use Rattle.fdr_pair.proofs.Alikes.{lead_found, alike}
use Rattle.fdr_pair.proofs.Bringing.{other_twice, no_fault_of, no_fault_then}
use Rattle.fdr_pair.proofs.BroughtRuns.{missing_count}
use Rattle.fdr_pair.proofs.Going.{known, on}
use Rattle.fdr_pair.proofs.PairWorks.{work_then, work_weaken}
use Rattle.fdr_pair.proofs.StartSteps.{HasOpened, HasFoundRuns, HasJoinedSides}
use Rattle.fdr_pair.proofs.KeptSides.{moment_of_image}

-- ---- sides

-- two sides are the same, or one is the other of the two
side_cases : (a b : Side) → (a ≡ b) ⊎ (b ≡ other_side a)
side_cases First First = inl refl
side_cases First Second = inr refl
side_cases Second First = inr refl
side_cases Second Second = inl refl

not_other : (s : Side) → s ≡ other_side s → ⊥
not_other First is = absurd (cc)
not_other Second is = absurd (cc)

settled_side : (side : Side) (p : Pair) → MayRecordPair p → IsSettled (seen side p)
settled_side First p may = may.first
settled_side Second p may = may.second

-- ---- an image at a moment

-- The image of a side at a moment keeps the run that it had, except for its oldest block, where the disk was settled.
pub record IsOwnKept (side : Side) (entry : Pair) (m : PairMoment) : Type 0 where
  pub no_fault : image_fault_of (disk_on side entry).held ≡ None
  pub keeps : IsSettled (seen side entry) → KeepsRun (header_in (disk_on side entry).held) ((header_in (disk_on side entry).held).slots - 1)
      (disk_on side entry).held (image_on side m)

-- The side doesn't lead, both images are alike, and that of the side keeps its run and the first of the blocks that it hasn't.
pub record IsBroughtOn (words : ℕ) (side : Side) (entry : Pair) (m : PairMoment) : Type 0 where
  pub follower : side ≡ follower_on entry
  pub alike : AreAlike words entry
  pub keeps : MayRecordPair entry
      → KeepsRunWith (follower_on entry) (missing_blocks (header_in (lead_image entry)) (lead_image entry) (follower_image entry)) entry m

-- What a side's image is at a moment of a start, whether the side has failed or not: one that a stop could leave at entry, one that
-- keeps its own run, or one that is brought on.
abbrev pub StartImage : ℕ → Side → Pair → PairMoment → Type 0
StartImage words side entry m = (disk_on side entry).may_leave (image_on side m) ⊎ (IsOwnKept side entry m ⊎ IsBroughtOn words side entry m)

-- it is so of an image that is the same
image_as : (words : ℕ) (side : Side) (entry : Pair) (a b : PairMoment) → image_on side a ≡ image_on side b → StartImage words side entry a
    → StartImage words side entry b
image_as words side entry a b same is = ⊎_elim
    (λ leaves. inl (subst (λ (l : List ℕ). (disk_on side entry).may_leave l) same leaves))
    (λ more. ⊎_elim
    (λ own. inr (inl (record {
      no_fault = own.no_fault;
      keeps = λ settled. subst (λ (l : List ℕ). KeepsRun (header_in (disk_on side entry).held) ((header_in (disk_on side entry).held).slots - 1)
          (disk_on side entry).held l) same (own.keeps settled);
    })))
    (λ brought. inr (inr (record {
      follower = brought.follower;
      alike = brought.alike;
      keeps = λ may. subst (λ (l : List ℕ). KeepsRecording (header_in (follower_image entry)) (follower_image entry) (run_in (follower_image entry))
          (next_in (follower_image entry)) (missing_blocks (header_in (lead_image entry)) (lead_image entry) (follower_image entry)) 0 l)
          (subst (λ (x : Side). image_on x a ≡ image_on x b) brought.follower same) (brought.keeps may);
    })))
    more)
    is

pub record StartImages (words : ℕ) (entry : Pair) (m : PairMoment) : Type 0 where
  pub first : StartImage words First entry m
  pub second : StartImage words Second entry m

-- A moment of a start: of both images, of the announced number, and of the bytes pulled.
pub record StartMoment (words : ℕ) (entry : Pair) (m : PairMoment) : Type 0 where
  pub images : StartImages words entry m
  pub number : HasFailedBy (lead_on entry) entry m ⊎ (entry.greatest ≤ next_in (lead_image entry) → m.announced ≤ next_in (lead_image entry))
  pub pulled : HasPulled entry m

image_of : (words : ℕ) (side : Side) (entry : Pair) (m : PairMoment) → StartImages words entry m → StartImage words side entry m
image_of words First entry m at = at.first
image_of words Second entry m at = at.second

images_by : (words : ℕ) (side : Side) (entry : Pair) (m : PairMoment) → StartImage words side entry m → StartImage words (other_side side) entry m
    → StartImages words entry m
images_by words First entry m own other = record { first = own; second = other }
images_by words Second entry m own other = record { first = other; second = own }

-- a longer tail is one of fewer blocks
tail_less : (most least : ℕ) (whole part : List Block) → least ≤ most → IsTail most whole part → IsTail least whole part
tail_less most least whole part le tail = record { lost = tail.lost; within = tail.within; tail = tail.tail; enough = omega (arith, tail.enough, le) }

tail_last : (most least : ℕ) (whole : List Block) → least ≤ most → IsTail least whole (last_blocks most whole)
tail_last most least whole le = record {
  lost = length whole - most;
  within = omega arith;
  tail = refl;
  enough = omega (arith, length-drop (length whole - most) whole, le);
}

-- the run is kept, and no block is added
keeps_own : (h : Header) (entry image : List ℕ) (new : List Block) (told : ℕ) → KeepsRun h (h.slots - 1) entry image → told ≤ next_of h entry
    → KeepsRecording h entry (recovered_run h entry) (next_of h entry) new told image
keeps_own h entry image new told keeps le = record {
  kept = keeps.kept;
  count = 0;
  fits = omega arith;
  run = subst (λ (l : List Block). IsTail (h.slots - 2) l (recovered_run h image)) (sym (append-nil (recovered_run h entry)))
      (tail_less (h.slots - 1) (h.slots - 2) (recovered_run h entry) (recovered_run h image) (omega arith) keeps.run);
  next = omega (arith, keeps.next);
  announced = omega (arith, keeps.next, le);
}

same_own : (h : Header) (entry image : List ℕ) → image ≡ entry → KeepsRun h (h.slots - 1) entry image
same_own h entry image same = subst (λ (l : List ℕ). KeepsRun h (h.slots - 1) entry l) (sym same)
    (record { kept = record { size = refl; header = refl }; run = tail_same (h.slots - 1) (recovered_run h entry); next = refl })

-- an image that keeps the run, or is one that a stop could leave of a settled disk
own_image : (side : Side) (entry : Pair) (m : PairMoment) (new : List Block) (told : ℕ) → IsSettled (seen side entry)
    → told ≤ next_in (disk_on side entry).held → (disk_on side entry).may_leave (image_on side m) ⊎ IsOwnKept side entry m
    → KeepsRecording (header_in (disk_on side entry).held) (disk_on side entry).held (run_in (disk_on side entry).held)
    (next_in (disk_on side entry).held) new told (image_on side m)
own_image side entry m new told settled le is = ⊎_elim
    (λ leaves. keeps_own (header_in (disk_on side entry).held) (disk_on side entry).held (image_on side m) new told
    (same_own (header_in (disk_on side entry).held) (disk_on side entry).held (image_on side m) (settled (image_on side m) leaves)) le)
    (λ own. keeps_own (header_in (disk_on side entry).held) (disk_on side entry).held (image_on side m) new told (own.keeps settled) le)
    is

-- ---- what a start keeps, by its moments

module _ (words : ℕ) (entry : Pair) (m : PairMoment) (at : StartMoment words entry m) where
  lead_kept : (told : ℕ) → MayRecordPair entry → told ≤ next_in (lead_image entry) → KeepsRecording (header_in (lead_image entry)) (lead_image entry)
      (run_in (lead_image entry)) (next_in (lead_image entry)) [] told (image_on (lead_on entry) m)
  lead_kept told may le =
      let settled = settled_side (lead_on entry) entry may in
      ⊎_elim
      (λ leaves. own_image (lead_on entry) entry m [] told settled le (inl leaves))
      (λ more. ⊎_elim
      (λ own. own_image (lead_on entry) entry m [] told settled le (inr own))
      (λ brought. absurd (not_other (lead_on entry) brought.follower))
      more)
      (image_of words (lead_on entry) entry m at.images)

  lead_keeps : MayRecordPair entry → HasFailedBy (lead_on entry) entry m ⊎ KeepsRecording (header_in (lead_image entry)) (lead_image entry)
      (run_in (lead_image entry)) (next_in (lead_image entry)) [] m.announced (image_on (lead_on entry) m)
  lead_keeps may = ⊎_elim (λ failed. inl failed) (λ number. inr (lead_kept m.announced may (number may.greatest))) at.number

  follower_keeps : MayRecordPair entry → KeepsRunUntilPull words entry m
  follower_keeps may =
      let settled = settled_side (follower_on entry) entry may in
      ⊎_elim
      (λ leaves. inl (own_image (follower_on entry) entry m [] 0 settled (omega arith) (inl leaves)))
      (λ more. ⊎_elim
      (λ own. inl (own_image (follower_on entry) entry m [] 0 settled (omega arith) (inr own)))
      (λ brought. inr (brought.alike, brought.keeps may))
      more)
      (image_of words (follower_on entry) entry m at.images)

  unread_stays : (side : Side) (why : ImageFault) → image_fault_of (disk_on side entry).held ≡ Some why → IsSettled (seen side entry)
      → StaysAsAtEntry side entry m
  unread_stays side why fault settled = ⊎_elim
      (λ leaves. settled (image_on side m) leaves)
      (λ more. ⊎_elim
      (λ own. let none = own.no_fault in absurd (cc))
      (λ brought. let none = no_fault_of_side words entry side brought.alike.header in absurd (cc))
      more)
      (image_of words side entry m at.images)

pub keeps_at_start : (words : ℕ) (tells : Tells) (entry q : Pair) → EachPairMoment tells entry q (StartMoment words entry)
    → KeepsAtStart words tells entry q
keeps_at_start words tells entry q each = record {
  lead = λ none may stops m since. lead_keeps words entry m (each stops m since) may;
  lead_run = λ none may stops m since. lead_kept words entry m (each stops m since) 0 may (omega arith);
  follower = λ none may stops m since. follower_keeps words entry m (each stops m since) may;
  unread = λ side why fault settled stops m since. unread_stays words entry m (each stops m since) side why fault settled;
  unpulled = λ stops m since. (each stops m since).pulled;
}

-- the moments of calls that announce and pull nothing
worked : (words : ℕ) (tells : Tells) (entry q : Pair) → PairWork tells (StartImages words entry) entry q
    → EachPairMoment tells entry q (StartMoment words entry)
worked words tells entry q work stops m since =
    let line = work.line_moments stops m since in
    record {
      images = work.moments stops m since;
      number = inr (λ le. omega (arith, line.greatest, le));
      pulled = record { taken = line.taken; pulled_before = line.pulled_before };
    }

-- ---- the side that follows, while it is brought on

-- The image keeps the run by the header k, and the first of the blocks of the lead that are missing by the header h.
abbrev KeepsWith : Header → Header → List ℕ → List ℕ → List ℕ → Type 0
KeepsWith h k lead entry image = KeepsRecording k entry (recovered_run k entry) (next_of k entry) (missing_blocks h lead entry) 0 image

with_prefix : (h : Header) (lead entry image : List ℕ)
    → RecoversPrefix h entry (recovered_run h entry) (missing_blocks h lead entry) 0 image → KeepsWith h h lead entry image
with_prefix h lead entry image keeps =
    record { kept = keeps.kept; count = keeps.count; fits = keeps.fits; run = keeps.run; next = keeps.next; announced = keeps.announced }

-- with all of them
with_all : (h : Header) (lead entry image : List ℕ) → IsInLimits h → (IsFarBehind h lead entry → ⊥) → next_of h entry ≤ next_of h lead
    → KeepsHeader entry image → recovered_run h image ≡ last_blocks (h.slots - 1) (brought_run h lead entry) → next_of h image ≡ next_of h lead
    → KeepsWith h h lead entry image
with_all h lead entry image limits near le kept run next =
    let more = missing_blocks h lead entry in
    record {
      kept = kept;
      count = length more;
      fits = omega arith;
      run = subst (λ (l : List Block). IsTail (h.slots - 2) (recovered_run h entry ++ l) (recovered_run h image))
          (sym (take_all (length more) more (omega arith)))
          (subst (λ (l : List Block). IsTail (h.slots - 2) (brought_run h lead entry) l) (sym run)
          (tail_last (h.slots - 1) (h.slots - 2) (brought_run h lead entry) (omega arith)));
      next = next ∙ sym (missing_count h lead entry limits near le);
      announced = omega arith;
    }

-- ---- a side, before it is attached

-- The disk of a side is as it was at entry, and its image has this header.
record IsUnchanged (h : Header) (side : Side) (entry now : Pair) : Type 0 where
  pub faults : (disk_on side now).faults ≡ (disk_on side entry).faults
  pub held : (disk_on side now).held ≡ (disk_on side entry).held
  pub no_more : (image : List ℕ) → (disk_on side now).may_leave image → (disk_on side entry).may_leave image
  pub no_fault : image_fault_of (disk_on side entry).held ≡ None
  pub header : header_in (disk_on side entry).held ≡ h

-- The side that doesn't lead was brought up to the lead, and is settled.
record IsBroughtNow (tells : Tells) (words : ℕ) (side : Side) (entry now : Pair) : Type 0 where
  pub follower : side ≡ follower_on entry
  pub alike : AreAlike words entry
  pub settled : IsTrue tells.stops → IsSettled (seen side now)
  pub keeps : (m : PairMoment) → image_on side m ≡ (disk_on side now).held
      → KeepsRunWith (follower_on entry) (missing_blocks (header_in (lead_image entry)) (lead_image entry) (follower_image entry)) entry m

-- What is so of a side that is attached from this: it has failed, is as it was, or was brought up.
abbrev IsReadyFrom : Tells → ℕ → Header → Side → Follower → Pair → Pair → Type 0
IsReadyFrom tells words h side Failed entry now = Rose (disk_on side entry).faults (disk_on side now).faults
IsReadyFrom tells words h side Level entry now = IsUnchanged h side entry now
IsReadyFrom tells words h side (Brought r) entry now = IsBroughtNow tells words side entry now

-- the image while it is attached
attach_image : (tells : Tells) (words : ℕ) (h : Header) (side : Side) (start : Follower) (entry now : Pair) (m : PairMoment) → IsTrue tells.stops
    → IsReadyFrom tells words h side start entry now → (now.since now.clock m → StartImage words side entry m)
    → ((disk_on side now).may_leave (image_on side m) → StartImage words side entry m) → AttachMoment h side start now m
    → StartImage words side entry m
attach_image tells words h side Failed entry now m stops ready was left is = ⊎_elim (λ since. was since) (λ stays. left stays.image) is
attach_image tells words h side Level entry now m stops ready was left attaching = inr (inl (record {
  no_fault = ready.no_fault;
  keeps = λ settled.
      let settled_now : IsSettled (seen side now) = λ image leaves. settled image (ready.no_more image leaves) ∙ sym ready.held in
      let keeps : KeepsRun h (h.slots - 1) (disk_on side now).held (image_on side m) = (attaching settled_now).run in
      subst (λ (k : Header). KeepsRun k (k.slots - 1) (disk_on side entry).held (image_on side m)) (sym ready.header)
      (subst (λ (l : List ℕ). KeepsRun h (h.slots - 1) l (image_on side m)) ready.held keeps);
}))
attach_image tells words h side (Brought r) entry now m stops ready was left is = inr (inr (record {
  follower = ready.follower;
  alike = ready.alike;
  keeps = λ may. ready.keeps m (ready.settled stops (image_on side m) is);
}))

-- What is so of both sides once they are joined: the lead is as it was, the other is ready too, and the next number is that of
-- the side that led at entry, or that side has failed.
record AreReady (tells : Tells) (words : ℕ) (h : Header) (j : Joined) (entry now : Pair) : Type 0 where
  pub lead : IsUnchanged h j.lead entry now
  pub other : IsReadyFrom tells words h (other_side j.lead) j.follower entry now
  pub number : (j.found.next ≡ next_in (lead_image entry)) ⊎ ((start_on (lead_on entry) j.lead j.follower ≡ Failed)
      × Rose (disk_on (lead_on entry) entry).faults (disk_on (lead_on entry) now).faults)

ready_on : (tells : Tells) (words : ℕ) (h : Header) (lead side : Side) (other : Follower) (entry now : Pair) → IsUnchanged h lead entry now
    → IsReadyFrom tells words h (other_side lead) other entry now → IsReadyFrom tells words h side (start_on side lead other) entry now
ready_on tells words h First First other entry now lead_ready other_ready = lead_ready
ready_on tells words h First Second other entry now lead_ready other_ready = other_ready
ready_on tells words h Second First other entry now lead_ready other_ready = other_ready
ready_on tells words h Second Second other entry now lead_ready other_ready = lead_ready

attach_on_side : (h : Header) (lead side : Side) (other : Follower) (old : Pair) (m : PairMoment) → AreAttachMoments h lead other old m
    → AttachMoment h side (start_on side lead other) old m
attach_on_side h lead First other old m is = is.first
attach_on_side h lead Second other old m is = is.second

module _ (tells : Tells) (words : ℕ) (h : Header) (j : Joined) (entry now : Pair) (m : PairMoment) (stops : IsTrue tells.stops)
    (ready : AreReady tells words h j entry now) (is : AreAttachMoments h j.lead j.follower now m) where
  -- both images, while the sides are attached
  attach_images : (now.since now.clock m → StartImages words entry m)
      → ((side : Side) → (disk_on side now).may_leave (image_on side m) → StartImage words side entry m) → StartImages words entry m
  attach_images was left = record {
    first = attach_image tells words h First (start_on First j.lead j.follower) entry now m stops
        (ready_on tells words h j.lead First j.follower entry now ready.lead ready.other) (λ since. (was since).first) (left First) is.first;
    second = attach_image tells words h Second (start_on Second j.lead j.follower) entry now m stops
        (ready_on tells words h j.lead Second j.follower entry now ready.lead ready.other) (λ since. (was since).second) (left Second) is.second;
  }

  -- the announced number, which is none above the next
  going_number : now.greatest ≤ entry.greatest → m.announced ≤ max now.greatest j.found.next → (now.since now.clock m → StartMoment words entry m)
      → HasFailedBy (lead_on entry) entry m ⊎ (entry.greatest ≤ next_in (lead_image entry) → m.announced ≤ next_in (lead_image entry))
  going_number less told was = ⊎_elim
      (λ next. inr (λ le. omega (arith, less, told, next, le)))
      (λ failed. ⊎_elim
      (λ since. (was since).number)
      (λ stays. inl (subst (λ (n : ℕ). Rose (disk_on (lead_on entry) entry).faults n) (sym stays.faults) failed.1))
      (let at : AttachMoment h (lead_on entry) Failed now m = subst (λ (f : Follower). AttachMoment h (lead_on entry) f now m) failed.0
      (attach_on_side h j.lead (lead_on entry) j.follower now m is) in at))
      ready.number

-- What is so where this run alone was found: the other side has failed since entry.
record IsAlone (tells : Tells) (h : Header) (side : Side) (found : Found) (p0 p1 p2 : Pair) : Type 0 where
  pub header : IsHeaderOn tells h side p0 p1
  pub run : IsRunOn tells h side found p1
  pub faults : (disk_on side p2).faults ≡ (disk_on side p0).faults
  pub failed : Rose (disk_on (other_side side) p0).faults (disk_on (other_side side) p2).faults

-- of both sides what is so of each
on_both : (P : Side → Type 0) (side : Side) → P First × P Second → P side
on_both P First both = both.0
on_both P Second both = both.1

alone_by : (tells : Tells) (h : Header) (s : LivingSides) (side : Side) (run : Found) (p0 p1 p2 : Pair) → AreLiving s p0 p1
    → OnLiving s (λ (x : Side). IsHeaderOn tells h x p0 p1) → AreFoundRuns tells h s (runs.Alone side run) p1 p2
    → IsAlone tells h side run p0 p1 p2
alone_by tells h Both side run p0 p1 p2 living header found = record {
  header = on_both (λ (x : Side). IsHeaderOn tells h x p0 p1) side header;
  run = found.0;
  faults = subst (λ (s : Side). (disk_on s p2).faults ≡ (disk_on s p1).faults) (other_twice side) found.1.other ∙ no_fault_of side p0 p1 living;
  failed = subst (λ (n : ℕ). Rose n (disk_on (other_side side) p2).faults) (no_fault_of (other_side side) p0 p1 living) found.1.rose;
}
alone_by tells h OnlyFirst side run p0 p1 p2 living header found = subst (λ (s : Side). IsAlone tells h s run p0 p1 p2) (sym found.0) (record {
  header = header;
  run = found.1;
  faults = found.2.first ∙ living.other;
  failed = subst (λ (n : ℕ). Rose p0.second.faults n) (sym found.2.second) living.rose;
})
alone_by tells h OnlySecond side run p0 p1 p2 living header found = subst (λ (s : Side). IsAlone tells h s run p0 p1 p2) (sym found.0) (record {
  header = header;
  run = found.1;
  faults = found.2.second ∙ living.other;
  failed = subst (λ (n : ℕ). Rose p0.first.faults n) (sym found.2.first) living.rose;
})

start_other : (side : Side) (f : Follower) → start_on (other_side side) side f ≡ f
start_other First f = refl
start_other Second f = refl

-- ---- step by step

looked_images : (words : ℕ) (tells : Tells) (p0 p1 : Pair) → PairWork tells (IsLookedAt p0) p0 p1 → PairWork tells (StartImages words p0) p0 p1
looked_images words tells p0 p1 work = work_weaken tells (IsLookedAt p0) (StartImages words p0) p0 p1 work
    (λ stops m is. record { first = inl is.first; second = inl is.second })

-- while the disks are looked at for the headers
pub keeps_looked : (words : ℕ) (tells : Tells) (p0 p1 : Pair) → PairWork tells (IsLookedAt p0) p0 p1 → KeepsAtStart words tells p0 p1
keeps_looked words tells p0 p1 work = keeps_at_start words tells p0 p1 (worked words tells p0 p1 (looked_images words tells p0 p1 work))

-- the headers were read
module _ (tells : Tells) (words : ℕ) (o : Opened) (p0 p1 : Pair) (opened : HasOpened tells words o p0 p1) where
  -- and both disks are looked at for the runs
  module _ (p2 : Pair) (looks : LooksAtBoth tells p1 p2) where
    left_then : (side : Side) (image : List ℕ) → (disk_on side p2).may_leave image → (disk_on side p0).may_leave image
    left_then side image leaves =
        (opened_disk tells words o p0 p1 opened side).no_more image ((looked_content_of tells side p1 p2 looks).no_more image leaves)

    held_then : (side : Side) → (disk_on side p2).held ≡ (disk_on side p0).held
    held_then side = (looked_content_of tells side p1 p2 looks).held ∙ opened_held tells words o p0 p1 opened side

    searched_images : PairWork tells (StartImages words p0) p0 p2
    searched_images = work_then tells (StartImages words p0) (IsLookedAt p1) (StartImages words p0) p0 p1 p2 opened.sound
        (looked_images words tells p0 p1 opened.work) looks.work (λ stops m is. is)
        (λ stops m is. record {
          first = inl (opened.first.disk.no_more m.first is.first);
          second = inl (opened.second.disk.no_more m.second is.second);
        })

    -- whether they are found or not
    pub keeps_searched : KeepsAtStart words tells p0 p2
    keeps_searched = keeps_at_start words tells p0 p2 (worked words tells p0 p2 searched_images)

    looked_join : (m : PairMoment) → IsLookedAt p2 m → StartImages words p0 m
    looked_join m is = record { first = inl (left_then First m.first is.first); second = inl (left_then Second m.second is.second) }

  -- and the runs of both sides were found, by which this side leads
  module _ (p2 : Pair) (first second : Found) (found : HasFoundRuns tells o (runs.Both first second) p1 p2) (told : IsTrue tells.bytes) (lead : Side)
      (is : lead ≡ lead_by_found first second) where
    living : o.living ≡ Both
    living = (both_found tells o.header o.living first second p1 p2 found.runs).0

    found_of_both : AreRunsOfBoth tells o.header (runs.Both first second) p1 p2
    found_of_both = (both_found tells o.header o.living first second p1 p2 found.runs).1

    is_lead : lead ≡ lead_on p0
    is_lead = is ∙ sym (lead_found tells words o p0 p1 p2 opened told first second found)

    header_on : (side : Side) → header_in (disk_on side p0).held ≡ o.header
    header_on side = header_is tells words o p0 p1 opened side told living

    -- what is so of what the side that follows held before holds of what it held at entry
    at_entry : (m : PairMoment) → KeepsWith o.header o.header (disk_on lead p2).held (disk_on (other_side lead) p2).held (image_on (other_side lead) m)
        → KeepsRunWith (follower_on p0) (missing_blocks (header_in (lead_image p0)) (lead_image p0) (follower_image p0)) p0 m
    at_entry m keeps =
        let one = subst (λ (l : List ℕ). KeepsWith o.header o.header (disk_on lead p2).held l (image_on (other_side lead) m))
        (held_then p2 found.looks (other_side lead)) keeps in
        let two = subst (λ (l : List ℕ). KeepsWith o.header o.header l (disk_on (other_side lead) p0).held (image_on (other_side lead) m))
        (held_then p2 found.looks lead) one in
        let three = subst (λ (s : Side). KeepsWith o.header o.header (disk_on s p0).held (disk_on (other_side s) p0).held (image_on (other_side s) m))
        is_lead two in
        let four = subst (λ (k : Header). KeepsWith k o.header (lead_image p0) (follower_image p0) (image_on (follower_on p0) m))
        (sym (header_on (lead_on p0))) three in
        subst (λ (k : Header). KeepsWith (header_in (lead_image p0)) k (lead_image p0) (follower_image p0) (image_on (follower_on p0) m))
        (sym (header_on (follower_on p0))) four

    alike_if : (IsFarBehind o.header (disk_on lead p2).held (disk_on (other_side lead) p2).held → ⊥) → AreAlike words p0
    alike_if near = alike tells words o p0 p1 p2 opened told first second found
        (λ far. near (subst (λ (s : Side). IsFarBehind o.header (disk_on s p2).held (disk_on (other_side s) p2).held) (sym is) far))

    settled_then : (side : Side) → MayRecordPair p0 → IsSettled (seen side p2)
    settled_then side may image leaves =
        settled_side side p0 may image (left_then p2 found.looks side image leaves) ∙ sym (held_then p2 found.looks side)

    -- a moment while the side that follows is brought up
    joining : (m : PairMoment) → IsJoining o.header lead p2 m → StartImages words p0 m
    joining m at = images_by words lead p0 m
        (inl (left_then p2 found.looks lead (image_on lead m) at.lead_image))
        (⊎_elim
        (λ far. inl (left_then p2 found.looks (other_side lead) (image_on (other_side lead) m) (at.far far)))
        (λ near. inr (inr (record {
          follower = ap other_side is_lead;
          alike = alike_if (λ far. omega (arith, far, near));
          keeps = λ may. at_entry m (with_prefix o.header (disk_on lead p2).held (disk_on (other_side lead) p2).held (image_on (other_side lead) m)
              (at.follower (settled_then (other_side lead) may)));
        })))
        (cases_lt (next_of o.header (disk_on (other_side lead) p2).held) (first_of o.header (disk_on lead p2).held)))

    none_then : HasNoFault p0 p2
    none_then = no_fault_then p0 p1 p2 (subst (λ (s : LivingSides). AreLiving s p0 p1) living opened.living) found_of_both.2

    next_found : (side : Side) → (found_on side first second).next ≡ next_of o.header (disk_on side p2).held
    next_found First = (found_of_both.0.run told).next ∙ ap (λ (l : List ℕ). next_of o.header l) (sym found.looks.first.held)
    next_found Second = (found_of_both.1.run told).next ∙ ap (λ (l : List ℕ). next_of o.header l) (sym found.looks.second.held)

    not_less : next_of o.header (disk_on (other_side lead) p2).held ≤ next_of o.header (disk_on lead p2).held
    not_less =
        let le = subst (λ (s : Side). (found_on (other_side s) first second).next ≤ (found_on s first second).next) (sym is) (lead_not_less first second) in
        omega (arith, le, next_found lead, next_found (other_side lead))

    -- once both sides are joined
    module _ (p3 : Pair) (near : IsFarBehind o.header (disk_on lead p2).held (disk_on (other_side lead) p2).held → ⊥) where
      unchanged : (side : Side) → IsSameContent (disk_on side p2) (disk_on side p3) → (disk_on side p3).faults ≡ (disk_on side p2).faults
          → IsUnchanged o.header side p0 p3
      unchanged side same none = record {
        faults = none ∙ no_fault_of side p0 p2 none_then;
        held = same.held ∙ held_then p2 found.looks side;
        no_more = λ image leaves. left_then p2 found.looks side image (same.no_more image leaves);
        no_fault = (opened_header tells words o p0 p1 opened side living).no_fault told;
        header = header_on side;
      }

      lead_faults : (f : Follower) (next : ℕ) → HasJoined tells o.header lead next f p2 p3 → (disk_on lead p3).faults ≡ (disk_on lead p2).faults
      lead_faults Failed next joined = subst (λ (s : Side). (disk_on s p3).faults ≡ (disk_on s p2).faults) (other_twice lead) joined.other
      lead_faults Level next joined = no_fault_of lead p2 p3 joined.0
      lead_faults (Brought r) next joined = no_fault_of lead p2 p3 joined.0

      brought_all : (m : PairMoment) → image_on (other_side lead) m ≡ (disk_on (other_side lead) p3).held → IsBroughtUp o.header lead p2 p3
          → KeepsWith o.header o.header (disk_on lead p2).held (disk_on (other_side lead) p2).held (image_on (other_side lead) m)
      brought_all m same up =
          subst (λ (l : List ℕ). KeepsWith o.header o.header (disk_on lead p2).held (disk_on (other_side lead) p2).held l) (sym same)
          (with_all o.header (disk_on lead p2).held (disk_on (other_side lead) p2).held (disk_on (other_side lead) p3).held
          (opened_header tells words o p0 p1 opened lead living).limits near not_less up.kept up.run up.next)

      other_ready : (f : Follower) (next : ℕ) → HasJoined tells o.header lead next f p2 p3 → IsReadyFrom tells words o.header (other_side lead) f p0 p3
      other_ready Failed next joined = subst (λ (n : ℕ). Rose n (disk_on (other_side lead) p3).faults) (no_fault_of (other_side lead) p0 p2 none_then)
          joined.rose
      other_ready Level next joined = unchanged (other_side lead) joined.1 (no_fault_of (other_side lead) p2 p3 joined.0)
      other_ready (Brought r) next joined = record {
        follower = ap other_side is_lead;
        alike = alike_if near;
        settled = joined.3.settled;
        keeps = λ m same. at_entry m (brought_all m same (joined.4 told));
      }

      lead_next : (found_on lead first second).next ≡ next_in (lead_image p0)
      lead_next = next_found lead ∙ ap (λ (l : List ℕ). next_of o.header l) (held_then p2 found.looks lead)
          ∙ ap (λ (k : Header). next_of k (disk_on lead p0).held) (sym (header_on lead)) ∙ ap (λ (s : Side). next_in (disk_on s p0).held) is_lead

      ready_both : (j : Joined) → j.lead ≡ lead → j.found ≡ found_on lead first second → HasJoined tells o.header lead j.found.next j.follower p2 p3
          → IsSameContent (disk_on lead p2) (disk_on lead p3) → AreReady tells words o.header j p0 p3
      ready_both j leads is_found joined kept = record {
        lead = subst (λ (s : Side). IsUnchanged o.header s p0 p3) (sym leads) (unchanged lead kept (lead_faults j.follower j.found.next joined));
        other = subst (λ (s : Side). IsReadyFrom tells words o.header (other_side s) j.follower p0 p3) (sym leads)
            (other_ready j.follower j.found.next joined);
        number = inl (ap (λ (f : Found). f.next) is_found ∙ lead_next);
      }

  -- and one run was found
  module _ (p2 : Pair) (side : Side) (run : Found) (found : HasFoundRuns tells o (runs.Alone side run) p1 p2) (told : IsTrue tells.bytes) where
    alone : IsAlone tells o.header side run p0 p1 p2
    alone = alone_by tells o.header o.living side run p0 p1 p2 opened.living opened.header found.runs

    -- and nothing more was done
    module _ (j : Joined) (p3 : Pair) (joined : IsJoinedAlone side run j p2 p3) where
      same_alone : (s : Side) → IsSameContent (disk_on s p2) (disk_on s p3)
      same_alone First = joined.first
      same_alone Second = joined.second

      lead_alone : IsUnchanged o.header side p0 p3
      lead_alone = record {
        faults = no_fault_of side p2 p3 joined.no_fault ∙ alone.faults;
        held = (same_alone side).held ∙ held_then p2 found.looks side;
        no_more = λ image leaves. left_then p2 found.looks side image ((same_alone side).no_more image leaves);
        no_fault = alone.header.no_fault told;
        header = sym (alone.header.read told);
      }

      rose_alone : Rose (disk_on (other_side side) p0).faults (disk_on (other_side side) p3).faults
      rose_alone = subst (λ (n : ℕ). Rose (disk_on (other_side side) p0).faults n) (sym (no_fault_of (other_side side) p2 p3 joined.no_fault)) alone.failed

      next_alone : j.found.next ≡ next_in (disk_on side p0).held
      next_alone = ap (λ (f : Found). f.next) joined.run ∙ (alone.run.run told).next
          ∙ ap (λ (l : List ℕ). next_of o.header l) (opened_held tells words o p0 p1 opened side)
          ∙ ap (λ (k : Header). next_of k (disk_on side p0).held) (alone.header.read told)

      -- where the other side led at entry
      other_led : lead_on p0 ≡ other_side side → (start_on (lead_on p0) j.lead j.follower ≡ Failed)
          × Rose (disk_on (lead_on p0) p0).faults (disk_on (lead_on p0) p3).faults
      other_led is = (
        subst (λ (s : Side). start_on s j.lead j.follower ≡ Failed) (sym is)
            (subst (λ (s : Side). start_on (other_side side) s j.follower ≡ Failed) (sym joined.lead) (start_other side j.follower ∙ joined.follower)),
        subst (λ (s : Side). Rose (disk_on s p0).faults (disk_on s p3).faults) (sym is) rose_alone,
      )

      ready_alone : AreReady tells words o.header j p0 p3
      ready_alone = record {
        lead = subst (λ (s : Side). IsUnchanged o.header s p0 p3) (sym joined.lead) lead_alone;
        other = subst (λ (s : Side). IsReadyFrom tells words o.header (other_side s) j.follower p0 p3) (sym joined.lead)
            (subst (λ (f : Follower). IsReadyFrom tells words o.header (other_side side) f p0 p3) (sym joined.follower) rose_alone);
        number = ⊎_elim
            (λ same. inl (next_alone ∙ ap (λ (s : Side). next_in (disk_on s p0).held) same))
            (λ other. inr (other_led other))
            (side_cases side (lead_on p0));
      }

  -- whatever was found
  module _ (p2 p3 : Pair) (sound : IsSoundPair tells p0) where
    joined_images : (found : SideRuns) → HasFoundRuns tells o found p1 p2 → PairWork tells (JoinMoment o.header found p2) p2 p3
        → PairWork tells (StartImages words p0) p0 p3
    joined_images (runs.Both first second) found work =
        work_then tells (StartImages words p0) (JoinMoment o.header (runs.Both first second) p2) (StartImages words p0) p0 p2 p3 found.sound
        (searched_images p2 found.looks) work (λ stops m is. is)
        (λ stops m is. joining p2 first second found ((sound.sides First).stops_need_bytes stops) (lead_by_found first second) refl m is)
    joined_images (runs.Alone side run) found work =
        work_then tells (StartImages words p0) (JoinMoment o.header (runs.Alone side run) p2) (StartImages words p0) p0 p2 p3 found.sound
        (searched_images p2 found.looks) work (λ stops m is. is)
        (λ stops m is. looked_join p2 found.looks m is)

    -- while they are joined
    pub keeps_joining : (found : SideRuns) → HasFoundRuns tells o found p1 p2 → PairWork tells (JoinMoment o.header found p2) p2 p3
        → KeepsAtStart words tells p0 p3
    keeps_joining found has work = keeps_at_start words tells p0 p3 (worked words tells p0 p3 (joined_images found has work))

    ready : (found : SideRuns) (j : Joined) → HasFoundRuns tells o found p1 p2 → AreJoinedSides tells o.header found j p2 p3 → IsTrue tells.bytes
        → AreReady tells words o.header j p0 p3
    ready (runs.Both first second) j found joined told =
        ready_both p2 first second found told (lead_by_found first second) refl p3 (joined.near told) j joined.lead joined.found joined.follower joined.kept
    ready (runs.Alone side run) j found joined told = ready_alone p2 side run found told j p3 joined

    -- once they are joined
    module _ (q : Pair) (sound_then : IsSoundPair tells p3) (found : SideRuns) (j : Joined) (has : HasFoundRuns tells o found p1 p2)
        (joins : HasJoinedSides tells o.header found j p2 p3) where
      before : PairWork tells (StartImages words p0) p0 p3
      before = joined_images found has joins.work

      ready_now : IsTrue tells.stops → AreReady tells words o.header j p0 p3
      ready_now stops = ready found j has joins.joined ((sound.sides First).stops_need_bytes stops)

      was_image : IsTrue tells.stops → (m : PairMoment) → p3.since p3.clock m → StartImages words p0 m
      was_image stops m since = known tells (StartImages words p0) p0 p3 sound_then before.time before.moments stops m since

      left_image : IsTrue tells.stops → (m : PairMoment) (side : Side) → (disk_on side p3).may_leave (image_on side m) → StartImage words side p0 m
      left_image stops m side leaves =
          let now = moment_of_image tells side p3 m sound_then stops leaves in
          image_as words side p0 now.0 m now.2 (image_of words side p0 now.0 (was_image stops now.0 now.1))

      was_moment : IsTrue tells.stops → (m : PairMoment) → p3.since p3.clock m → StartMoment words p0 m
      was_moment stops m since =
          known tells (StartMoment words p0) p0 p3 sound_then before.time (worked words tells p0 p3 before) stops m since

      -- and not attached
      pub keeps_not_going : (why : PairOutcome) → IsGoingRefused tells o.header j why p3 q → KeepsAtStart words tells p0 q
      keeps_not_going why refused = keeps_at_start words tells p0 q (worked words tells p0 q (work_then tells (StartImages words p0)
          (AreAttachMoments o.header j.lead j.follower p3) (StartImages words p0) p0 p3 q sound_then before refused.work (λ stops m is. is)
          (λ stops m is. attach_images tells words o.header j p0 p3 m stops (ready_now stops) is (λ since. was_image stops m since)
          (λ side leaves. left_image stops m side leaves))))

      -- and attached
      pub keeps_going : (rings : PairRings) → HasGoneOnFrom tells o.header j rings p3 q → KeepsAtStart words tells p0 q
      keeps_going rings gone = keeps_at_start words tells p0 q (on tells (StartMoment words p0) p0 p3 q before.time gone.time
          (worked words tells p0 p3 before) (λ stops m since.
          let is = gone.moments stops m since in
          let told = (sound.sides First).stops_need_bytes stops in
          record {
            images = attach_images tells words o.header j p0 p3 m stops (ready_now stops) is.sides (λ since. was_image stops m since)
                (λ side leaves. left_image stops m side leaves);
            number = going_number tells words o.header j p0 p3 m stops (ready_now stops) is.sides before.line.greatest
                (subst (λ (n : ℕ). m.announced ≤ max p3.greatest n) (gone.next told) is.announced) (λ since. was_moment stops m since);
            pulled = record {
              taken = is.pulled.taken ∙ before.line.taken;
              pulled_before = is.pulled.pulled_before ∙ before.line.pulled_before;
            };
          }))
