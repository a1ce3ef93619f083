-- What both sides are once they were joined for a recording, by what they were at entry.
use Rattle.std.proofs.Common.{◌≡◌, ◌⊎◌, inl, inr, ℕ, ◌-◌, ◌≤◌, List, refl, sym, ◌∙◌, ap, subst, Option, Some, None}
use Rattle.std.specs.Prelude.{IsTrue}
use Rattle.fdr_io.specs.Faults.{Rose}
use Rattle.fdr_deck.specs.State.{Tells}
use Rattle.fdr_slot.specs.declared.image.Header.{Header}
use Rattle.fdr_slot.specs.Limits.{IsInLimits}
use Rattle.fdr_slot.specs.Places.{image_size}
use Rattle.fdr_recover.specs.Images.{recovered_run, next_of}
use Rattle.fdr_recover.specs.ImageHeader.{image_fault_of, header_in}
use Rattle.fdr_recover.specs.Stretches.{last_session}
use Rattle.fdr_recover.specs.declared.run.Found.{Found}
use Rattle.fdr_ring.specs.Gates.{KeepsHeader}
use Rattle.fdr_ring.specs.Runs.{last_blocks}
use Rattle.fdr_ring.specs.declared.ring.Ring.{Ring}
use Rattle.fdr_twin.specs.declared.side.Side.{Side}
use Rattle.fdr_twin.specs.declared.side.Side.TheVariants.{First, Second}
use Rattle.fdr_twin.specs.Pair.{Pair, other_side, disk_on}
use Rattle.fdr_pair.specs.Alike.{AreAlike, lead_on}
use Rattle.fdr_pair.specs.Attaching.{start_on, IsAttachReady, HasNext, AttachedNow}
use Rattle.fdr_pair.specs.Bringing.{HasNoFault, HasFailedAlone}
use Rattle.fdr_pair.specs.Brought.{brought_run}
use Rattle.fdr_pair.specs.Differ.{HasFound}
use Rattle.fdr_pair.specs.Joining.{IsBroughtUp, HasJoined, HaveRuns, found_on, lead_by_found, AreBothJoined, AreJoinedSides}
use Rattle.fdr_pair.specs.Opening.{AreLiving, OnLiving, IsHeaderOn}
use Rattle.fdr_pair.specs.PairStarting.{IsCountedByRing}
use Rattle.fdr_pair.specs.PairWork.{IsSameContent}
use Rattle.fdr_pair.specs.SidePuts.{IsSettledRing}
use Rattle.fdr_pair.specs.SideRuns.{IsRunOn, AreFoundRuns}
use Rattle.fdr_pair.specs.declared.join.Follower.{Follower}
use Rattle.fdr_pair.specs.declared.join.Follower.TheVariants as follower
use Rattle.fdr_pair.specs.declared.join.Joined.{Joined}
use Rattle.fdr_pair.specs.declared.open.LivingSides.{LivingSides}
use Rattle.fdr_pair.specs.declared.open.LivingSides.TheVariants.{Both, OnlyFirst, OnlySecond}
use Rattle.fdr_pair.specs.declared.open.Opened.{Opened}
use Rattle.fdr_pair.specs.declared.runs.SideRuns.{SideRuns}
use Rattle.fdr_pair.specs.declared.runs.SideRuns.TheVariants as runs
use Rattle.fdr_pair.proofs.Alikes.{looked_content_of, opened_held, lead_found, alike_joined}
use Rattle.fdr_pair.proofs.Bringing.{other_twice, no_fault_of, no_fault_then, failed_after}
use Rattle.fdr_pair.proofs.FoundRuns.{failed_before}
use Rattle.fdr_pair.proofs.StartCounts.{KeepsCount, KeepsCounts, count_same, count_rose, counts_none, counts_failed}
use Rattle.fdr_pair.proofs.StartSteps.{HasOpened, HasFoundRuns}

-- what holds of the side that leads and of the other holds of each
pub on_both : (P : Side → Type 0) (lead : Side) → P lead → P (other_side lead) → (side : Side) → P side
on_both P First own other First = own
on_both P First own other Second = other
on_both P Second own other First = other
on_both P Second own other Second = own

-- the same of what each side is attached from
pub on_starts : (P : Side → Follower → Type 0) (lead : Side) (f : Follower) → P lead follower.Level → P (other_side lead) f
    → (side : Side) → P side (start_on side lead f)
on_starts P First f own other First = own
on_starts P First f own other Second = other
on_starts P Second f own other First = other
on_starts P Second f own other Second = own

pub lead_start : (P : Side → Follower → Type 0) (lead : Side) (f : Follower) → ((side : Side) → P side (start_on side lead f)) → P lead follower.Level
lead_start P First f each = each First
lead_start P Second f each = each Second

pub other_start : (P : Side → Follower → Type 0) (lead : Side) (f : Follower) → ((side : Side) → P side (start_on side lead f)) → P (other_side lead) f
other_start P First f each = each Second
other_start P Second f each = each First

-- A side holds what it held at entry, an image with this header and without a fault, and its disk has room for it. This was found
-- of its run.
pub record HasImage (tells : Tells) (h : Header) (side : Side) (found : Found) (entry now : Pair) : Type 0 where
  pub whole : image_size h ≤ (disk_on side now).extent
  pub held : (disk_on side now).held ≡ (disk_on side entry).held
  pub header : IsTrue tells.bytes → h ≡ header_in (disk_on side entry).held
  pub good : IsTrue tells.bytes → image_fault_of (disk_on side entry).held ≡ None
  pub run : IsRunOn tells h side found entry

-- The sides that haven't failed, with these runs, hold their images. Of one alone the other has failed.
abbrev pub HaveImages : Tells → Header → SideRuns → Pair → Pair → Type 0
HaveImages tells h (runs.Both first second) entry now =
    HasImage tells h First first entry now × HasImage tells h Second second entry now × HasNoFault entry now
HaveImages tells h (runs.Alone side found) entry now = HasImage tells h side found entry now × HasFailedAlone (other_side side) entry now

run_held : (tells : Tells) (h : Header) (side : Side) (found : Found) (p q : Pair) → (disk_on side q).held ≡ (disk_on side p).held
    → IsRunOn tells h side found p → IsRunOn tells h side found q
run_held tells h side found p q same is = record {
  run = λ told. subst (λ (l : List ℕ). HasFound h found l) (sym same) (is.run told);
  session = λ told. is.session told ∙ ap (λ (l : List ℕ). last_session (recovered_run h l)) (sym same);
  order = is.order;
  bound = is.bound;
}

image_found : (tells : Tells) (h : Header) (side : Side) (found : Found) (p0 p1 p2 : Pair) → IsHeaderOn tells h side p0 p1
    → (disk_on side p1).held ≡ (disk_on side p0).held → IsSameContent (disk_on side p1) (disk_on side p2) → IsRunOn tells h side found p1
    → HasImage tells h side found p0 p2
image_found tells h side found p0 p1 p2 on held same run = record {
  whole = subst (λ (n : ℕ). image_size h ≤ n) (sym same.extent) on.whole;
  held = same.held ∙ held;
  header = on.read;
  good = on.no_fault;
  run = run_held tells h side found p1 p0 (sym held) run;
}

pub image_moved : (tells : Tells) (h : Header) (side : Side) (found : Found) (entry p q : Pair) → IsSameContent (disk_on side p) (disk_on side q)
    → HasImage tells h side found entry p → HasImage tells h side found entry q
image_moved tells h side found entry p q same image = record {
  whole = subst (λ (n : ℕ). image_size h ≤ n) (sym same.extent) image.whole;
  held = same.held ∙ image.held;
  header = image.header;
  good = image.good;
  run = image.run;
}

-- the runs that were found, and counts of faults
module _ (tells : Tells) (h : Header) (p0 p1 p2 : Pair) (held : (side : Side) → (disk_on side p1).held ≡ (disk_on side p0).held)
    (looks : (side : Side) → IsSameContent (disk_on side p1) (disk_on side p2)) where
  alone_found : (side s : Side) (found : Found) → side ≡ s → IsHeaderOn tells h s p0 p1 → IsRunOn tells h s found p1
      → HasFailedAlone (other_side s) p0 p2 → HaveImages tells h (runs.Alone side found) p0 p2
  alone_found side s found same on run failed = (
    image_found tells h side found p0 p1 p2 (subst (λ (x : Side). IsHeaderOn tells h x p0 p1) (sym same) on) (held side) (looks side)
        (subst (λ (x : Side). IsRunOn tells h x found p1) (sym same) run),
    subst (λ (x : Side). HasFailedAlone (other_side x) p0 p2) (sym same) failed,
  )

  on_side : (side : Side) → OnLiving Both (λ s. IsHeaderOn tells h s p0 p1) → IsHeaderOn tells h side p0 p1
  on_side First on = on.0
  on_side Second on = on.1

  images_found : (s : LivingSides) (found : SideRuns) → AreLiving s p0 p1 → OnLiving s (λ side. IsHeaderOn tells h side p0 p1)
      → AreFoundRuns tells h s found p1 p2 → HaveImages tells h found p0 p2
  images_found Both (runs.Both first second) living on is = (
    image_found tells h First first p0 p1 p2 on.0 (held First) (looks First) is.0,
    image_found tells h Second second p0 p1 p2 on.1 (held Second) (looks Second) is.1,
    no_fault_then p0 p1 p2 living is.2,
  )
  images_found Both (runs.Alone side found) living on is =
      alone_found side side found refl (on_side side on) is.0 (failed_after (other_side side) p0 p1 p2 living is.1)
  images_found OnlyFirst (runs.Both first second) living on is = absurd is
  images_found OnlyFirst (runs.Alone side found) living on is =
      alone_found side First found is.0 on is.1 (failed_before Second p0 p1 p2 living is.2)
  images_found OnlySecond (runs.Both first second) living on is = absurd is
  images_found OnlySecond (runs.Alone side found) living on is =
      alone_found side Second found is.0 on is.1 (failed_before First p0 p1 p2 living is.2)

pub found_images : (tells : Tells) (words : ℕ) (o : Opened) (found : SideRuns) (p0 p1 p2 : Pair) → HasOpened tells words o p0 p1
    → HasFoundRuns tells o found p1 p2 → HaveImages tells o.header found p0 p2
found_images tells words o found p0 p1 p2 opened has =
    images_found tells o.header p0 p1 p2 (opened_held tells words o p0 p1 opened) (λ side. looked_content_of tells side p1 p2 has.looks) o.living found
    opened.living opened.header has.runs

-- the header is in limits
pub header_limits : (tells : Tells) (h : Header) (s : LivingSides) (p q : Pair) → OnLiving s (λ side. IsHeaderOn tells h side p q) → IsInLimits h
header_limits tells h Both p q on = on.0.limits
header_limits tells h OnlyFirst p q on = on.limits
header_limits tells h OnlySecond p q on = on.limits

pub counts_found : (tells : Tells) (h : Header) (s : LivingSides) (found : SideRuns) (p q : Pair) → AreFoundRuns tells h s found p q → KeepsCounts p q
counts_found tells h Both (runs.Both first second) p q is = counts_none p q is.2
counts_found tells h Both (runs.Alone side found) p q is = counts_failed (other_side side) p q is.1
counts_found tells h OnlyFirst (runs.Both first second) p q is = absurd is
counts_found tells h OnlyFirst (runs.Alone side found) p q is = counts_none p q is.2
counts_found tells h OnlySecond (runs.Both first second) p q is = absurd is
counts_found tells h OnlySecond (runs.Alone side found) p q is = counts_none p q is.2

-- the runs as they are now
pub runs_now : (tells : Tells) (h : Header) (found : SideRuns) (entry now : Pair) → HaveImages tells h found entry now → HaveRuns tells h found now
runs_now tells h (runs.Both first second) entry now images = (
  record { whole = images.0.whole; run = run_held tells h First first entry now images.0.held images.0.run },
  record { whole = images.1.whole; run = run_held tells h Second second entry now images.1.held images.1.run },
)
runs_now tells h (runs.Alone side found) entry now images =
    record { whole = images.0.whole; run = run_held tells h side found entry now images.0.held images.0.run }

-- The side that leads hasn't failed and holds its image still.
pub record HasLead (tells : Tells) (h : Header) (lead : Side) (found : Found) (entry now : Pair) : Type 0 where
  pub image : HasImage tells h lead found entry now
  pub faults : (disk_on lead now).faults ≡ (disk_on lead entry).faults

-- The side that follows holds what it held, and has the lead's next number.
pub record IsLevelStill (tells : Tells) (h : Header) (side : Side) (number : ℕ) (entry now : Pair) : Type 0 where
  pub whole : image_size h ≤ (disk_on side now).extent
  pub held : (disk_on side now).held ≡ (disk_on side entry).held
  pub faults : (disk_on side now).faults ≡ (disk_on side entry).faults
  pub next : IsTrue tells.bytes → next_of h (disk_on side entry).held ≡ number

-- The side that follows was brought up to the lead, in this ring.
pub record IsBroughtTo (tells : Tells) (h : Header) (lead : Side) (number : ℕ) (r : Ring) (entry now : Pair) : Type 0 where
  pub faults : (disk_on (other_side lead) now).faults ≡ (disk_on (other_side lead) entry).faults
  pub ring : IsSettledRing tells (other_side lead) r now
  pub header : r.header ≡ h
  pub next : r.next ≡ number
  pub up : IsTrue tells.bytes → IsBroughtUp h lead entry now

-- What became of the side that follows: it failed, it is level, or it was brought up.
abbrev pub HasOther : Tells → Header → Side → ℕ → Follower → Pair → Pair → Type 0
HasOther tells h lead next follower.Failed entry now = Rose (disk_on (other_side lead) entry).faults (disk_on (other_side lead) now).faults
HasOther tells h lead next follower.Level entry now = IsLevelStill tells h (other_side lead) next entry now
HasOther tells h lead next (follower.Brought r) entry now = IsBroughtTo tells h lead next r entry now

-- This side leads by the images at entry, and they are alike.
pub record LeadsAlike (words : ℕ) (tells : Tells) (side : Side) (entry : Pair) : Type 0 where
  pub lead : IsTrue tells.bytes → side ≡ lead_on entry
  pub alike : IsTrue tells.bytes → AreAlike words entry

-- Both sides once they were joined.
pub record AreJoined (words : ℕ) (tells : Tells) (h : Header) (lead : Side) (found : Found) (f : Follower) (entry now : Pair) : Type 0 where
  pub own : HasLead tells h lead found entry now
  pub other : HasOther tells h lead found.next f entry now
  pub two : LeadsAlike words tells lead entry ⊎ (f ≡ follower.Failed)

pub image_of : (tells : Tells) (h : Header) (first second : Found) (entry now : Pair) → HaveImages tells h (runs.Both first second) entry now
    → (side : Side) → HasImage tells h side (found_on side first second) entry now
image_of tells h first second entry now images First = images.0
image_of tells h first second entry now images Second = images.1

-- both sides, by the one that leads
module _ (tells : Tells) (h : Header) (lead : Side) (first second : Found) (p0 p2 p3 : Pair)
    (images : HaveImages tells h (runs.Both first second) p0 p2) where
  lead_faults : (next : ℕ) (f : Follower) → HasJoined tells h lead next f p2 p3 → (disk_on lead p3).faults ≡ (disk_on lead p2).faults
  lead_faults next follower.Failed is = subst (λ (s : Side). (disk_on s p3).faults ≡ (disk_on s p2).faults) (other_twice lead) is.other
  lead_faults next follower.Level is = no_fault_of lead p2 p3 is.0
  lead_faults next (follower.Brought r) is = no_fault_of lead p2 p3 is.0

  lead_joined : (next : ℕ) (f : Follower) → HasJoined tells h lead next f p2 p3 → IsSameContent (disk_on lead p2) (disk_on lead p3)
      → HasLead tells h lead (found_on lead first second) p0 p3
  lead_joined next f is kept = record {
    image = image_moved tells h lead (found_on lead first second) p0 p2 p3 kept (image_of tells h first second p0 p2 images lead);
    faults = lead_faults next f is ∙ no_fault_of lead p0 p2 images.2;
  }

  brought_at : IsBroughtUp h lead p2 p3 → IsBroughtUp h lead p0 p3
  brought_at up =
      let own = (image_of tells h first second p0 p2 images lead).held in
      let other = (image_of tells h first second p0 p2 images (other_side lead)).held in
      record {
        kept = subst (λ (l : List ℕ). KeepsHeader l (disk_on (other_side lead) p3).held) other up.kept;
        run = up.run ∙ ap (λ (l : List ℕ). last_blocks (h.slots - 1) (brought_run h l (disk_on (other_side lead) p2).held)) own
            ∙ ap (λ (l : List ℕ). last_blocks (h.slots - 1) (brought_run h (disk_on lead p0).held l)) other;
        next = up.next ∙ ap (λ (l : List ℕ). next_of h l) own;
      }

  other_joined : (next : ℕ) (f : Follower) → HasJoined tells h lead next f p2 p3 → HasOther tells h lead next f p0 p3
  other_joined next follower.Failed is = subst (λ (n : ℕ). Rose n (disk_on (other_side lead) p3).faults) (no_fault_of (other_side lead) p0 p2 images.2) is.rose
  other_joined next follower.Level is =
      let image = image_of tells h first second p0 p2 images (other_side lead) in
      record {
        whole = subst (λ (n : ℕ). image_size h ≤ n) (sym is.1.extent) image.whole;
        held = is.1.held ∙ image.held;
        faults = no_fault_of (other_side lead) p2 p3 is.0 ∙ no_fault_of (other_side lead) p0 p2 images.2;
        next = λ told. ap (λ (l : List ℕ). next_of h l) (sym image.held) ∙ is.2 told;
      }
  other_joined next (follower.Brought r) is = record {
    faults = no_fault_of (other_side lead) p2 p3 is.0 ∙ no_fault_of (other_side lead) p0 p2 images.2;
    ring = is.3;
    header = is.1;
    next = is.2;
    up = λ told. brought_at (is.4 told);
  }

-- one side alone, which leads
module _ (words : ℕ) (tells : Tells) (h : Header) (p0 p2 p3 : Pair) where
  alone_joined : (side : Side) (found : Found) (f : Follower) → HasImage tells h side found p0 p2 → HasFailedAlone (other_side side) p0 p2
      → IsSameContent (disk_on side p2) (disk_on side p3) → HasNoFault p2 p3 → f ≡ follower.Failed → AreJoined words tells h side found f p0 p3
  alone_joined side found f image failed same none is = record {
    own = record {
      image = image_moved tells h side found p0 p2 p3 same image;
      faults = no_fault_of side p2 p3 none ∙ subst (λ (s : Side). (disk_on s p2).faults ≡ (disk_on s p0).faults) (other_twice side) failed.other;
    };
    other = subst (λ (x : Follower). HasOther tells h side found.next x p0 p3) (sym is)
        (subst (λ (n : ℕ). Rose (disk_on (other_side side) p0).faults n) (sym (no_fault_of (other_side side) p2 p3 none)) failed.rose);
    two = inr is;
  }

  same_on : (side : Side) → IsSameContent p2.first p3.first → IsSameContent p2.second p3.second → IsSameContent (disk_on side p2) (disk_on side p3)
  same_on First first second = first
  same_on Second first second = second

  -- the sides with these runs were joined
  pub are_joined : (found : SideRuns) (j : Joined) → HaveImages tells h found p0 p2
      → ((first second : Found) → found ≡ runs.Both first second → AreBothJoined tells h first second j p2 p3
      → LeadsAlike words tells (lead_by_found first second) p0)
      → AreJoinedSides tells h found j p2 p3 → AreJoined words tells h j.lead j.found j.follower p0 p3
  are_joined (runs.Both first second) j images alike is =
      let lead = lead_by_found first second in
      let next = j.found.next in
      let at : AreJoined words tells h lead (found_on lead first second) j.follower p0 p3 = record {
        own = lead_joined tells h lead first second p0 p2 p3 images next j.follower is.follower is.kept;
        other = subst (λ (x : Found). HasOther tells h lead x.next j.follower p0 p3) is.found
            (other_joined tells h lead first second p0 p2 p3 images next j.follower is.follower);
        two = inl (alike first second refl is);
      } in
      subst (λ (s : Side). AreJoined words tells h s j.found j.follower p0 p3) (sym is.lead)
      (subst (λ (x : Found). AreJoined words tells h lead x j.follower p0 p3) (sym is.found) at)
  are_joined (runs.Alone side found) j images alike is =
      let at = alone_joined side found j.follower images.0 images.1 (same_on side is.first is.second) is.no_fault is.follower in
      subst (λ (s : Side). AreJoined words tells h s j.found j.follower p0 p3) (sym is.lead)
      (subst (λ (x : Found). AreJoined words tells h side x j.follower p0 p3) (sym is.run) at)

pub counts_joined : (tells : Tells) (h : Header) (lead : Side) (next : ℕ) (f : Follower) (p q : Pair) → HasJoined tells h lead next f p q → KeepsCounts p q
counts_joined tells h lead next follower.Failed p q is = counts_failed (other_side lead) p q is
counts_joined tells h lead next follower.Level p q is = counts_none p q is.0
counts_joined tells h lead next (follower.Brought r) p q is = counts_none p q is.0

pub counts_sides : (tells : Tells) (h : Header) (found : SideRuns) (j : Joined) (p q : Pair) → AreJoinedSides tells h found j p q → KeepsCounts p q
counts_sides tells h (runs.Both first second) j p q is = counts_joined tells h (lead_by_found first second) j.found.next j.follower p q is.follower
counts_sides tells h (runs.Alone side found) j p q is = counts_none p q is.no_fault

-- images that are alike, where both were joined
pub leads_alike : (tells : Tells) (words : ℕ) (o : Opened) (found : SideRuns) (j : Joined) (p0 p1 p2 p3 : Pair) → HasOpened tells words o p0 p1
    → HasFoundRuns tells o found p1 p2 → (first second : Found) → found ≡ runs.Both first second
    → AreBothJoined tells o.header first second j p2 p3 → LeadsAlike words tells (lead_by_found first second) p0
leads_alike tells words o found j p0 p1 p2 p3 opened has first second is joined =
    let both : HasFoundRuns tells o (runs.Both first second) p1 p2 = subst (λ (x : SideRuns). HasFoundRuns tells o x p1 p2) is has in
    record {
      lead = λ told. sym (lead_found tells words o p0 p1 p2 opened told first second both);
      alike = λ told. alike_joined tells words o p0 p1 p2 opened told first second both j p3 joined;
    }

-- what each side is attached from
module _ (words : ℕ) (tells : Tells) (h : Header) (lead : Side) (found : Found) (f : Follower) (p0 p3 : Pair)
    (joined : AreJoined words tells h lead found f p0 p3) where
  other_ready : (x : Follower) → HasOther tells h lead found.next x p0 p3 → IsAttachReady tells h (other_side lead) x p3
  other_ready follower.Failed is = tt
  other_ready follower.Level is = is.whole
  other_ready (follower.Brought r) is = (is.ring, is.header)

  pub ready : (side : Side) → IsAttachReady tells h side (start_on side lead f) p3
  ready = on_starts (λ (s : Side) (x : Follower). IsAttachReady tells h s x p3) lead f joined.own.image.whole (other_ready f joined.other)

  other_next : (x : Follower) → HasOther tells h lead found.next x p0 p3 → HasNext tells h (other_side lead) x found.next p3
  other_next follower.Failed is = tt
  other_next follower.Level is = λ told. ap (λ (l : List ℕ). next_of h l) is.held ∙ is.next told
  other_next (follower.Brought r) is = is.next

  lead_next : IsTrue tells.bytes → next_of h (disk_on lead p3).held ≡ found.next
  lead_next told = ap (λ (l : List ℕ). next_of h l) joined.own.image.held ∙ sym (joined.own.image.run.run told).next

  pub next_ready : (side : Side) → HasNext tells h side (start_on side lead f) found.next p3
  next_ready = on_starts (λ (s : Side) (x : Follower). HasNext tells h s x found.next p3) lead f lead_next (other_next f joined.other)

-- The counts of faults of a side before it is attached: it had failed, or no fault was counted.
abbrev pub IsCountedBefore : Side → Follower → Pair → Pair → Type 0
IsCountedBefore side follower.Failed entry now = Rose (disk_on side entry).faults (disk_on side now).faults
IsCountedBefore side follower.Level entry now = (disk_on side now).faults ≡ (disk_on side entry).faults
IsCountedBefore side (follower.Brought r) entry now = (disk_on side now).faults ≡ (disk_on side entry).faults

other_counted : (tells : Tells) (h : Header) (lead : Side) (next : ℕ) (f : Follower) (entry now : Pair) → HasOther tells h lead next f entry now
    → IsCountedBefore (other_side lead) f entry now
other_counted tells h lead next follower.Failed entry now is = is
other_counted tells h lead next follower.Level entry now is = is.faults
other_counted tells h lead next (follower.Brought r) entry now is = is.faults

pub each_counted : (words : ℕ) (tells : Tells) (h : Header) (lead : Side) (found : Found) (f : Follower) (p0 p3 : Pair)
    → AreJoined words tells h lead found f p0 p3 → (side : Side) → IsCountedBefore side (start_on side lead f) p0 p3
each_counted words tells h lead found f p0 p3 joined =
    on_starts (λ (s : Side) (x : Follower). IsCountedBefore s x p0 p3) lead f joined.own.faults
    (other_counted tells h lead found.next f p0 p3 joined.other)

-- a side that has no ring now has failed since entry
pub rose_attached : (tells : Tells) (h : Header) (side : Side) (f : Follower) (p0 p3 p5 : Pair) → IsCountedBefore side f p0 p3
    → AttachedNow tells h side f None p3 p5 → Rose (disk_on side p0).faults (disk_on side p5).faults
rose_attached tells h side follower.Failed p0 p3 p5 was is = subst (λ (n : ℕ). Rose (disk_on side p0).faults n) (sym is) was
rose_attached tells h side follower.Level p0 p3 p5 was is = subst (λ (n : ℕ). Rose n (disk_on side p5).faults) was is
rose_attached tells h side (follower.Brought r) p0 p3 p5 was is = absurd is

-- the count of faults by the ring that a side has
pub counted_by_ring : (tells : Tells) (h : Header) (side : Side) (f : Follower) (ring : Option Ring) (p0 p3 p5 : Pair) → IsCountedBefore side f p0 p3
    → AttachedNow tells h side f ring p3 p5 → IsCountedByRing ring (disk_on side p0).faults (disk_on side p5).faults
counted_by_ring tells h side f None p0 p3 p5 was is = rose_attached tells h side f p0 p3 p5 was is
counted_by_ring tells h side follower.Failed (Some r) p0 p3 p5 was is = absurd is
counted_by_ring tells h side follower.Level (Some r) p0 p3 p5 was is = is.faults ∙ was
counted_by_ring tells h side (follower.Brought b) (Some r) p0 p3 p5 was is = is.disk.faults ∙ was

count_attached : (tells : Tells) (h : Header) (side : Side) (f : Follower) (ring : Option Ring) (p q : Pair) → AttachedNow tells h side f ring p q
    → KeepsCount (disk_on side p).faults (disk_on side q).faults
count_attached tells h side follower.Failed None p q is = count_same (disk_on side p).faults (disk_on side q).faults is
count_attached tells h side follower.Failed (Some r) p q is = absurd is
count_attached tells h side follower.Level None p q is = count_rose (disk_on side p).faults (disk_on side q).faults is
count_attached tells h side follower.Level (Some r) p q is = count_same (disk_on side p).faults (disk_on side q).faults is.faults
count_attached tells h side (follower.Brought r) None p q is = absurd is
count_attached tells h side (follower.Brought r) (Some s) p q is = count_same (disk_on side p).faults (disk_on side q).faults is.disk.faults

pub counts_attached : (tells : Tells) (h : Header) (f x : Follower) (one two : Option Ring) (p q : Pair) → AttachedNow tells h First f one p q
    → AttachedNow tells h Second x two p q → KeepsCounts p q
counts_attached tells h f x one two p q first second = record {
  first = count_attached tells h First f one p q first;
  second = count_attached tells h Second x two p q second;
}
