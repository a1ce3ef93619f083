-- The side that follows, while its ring is attached and it is brought up to the lead.
use Rattle.std.proofs.Common.{◌≡◌, ℕ, ◌-◌, ◌<◌, List, take, refl, sym, ◌∙◌, ap, subst, arith}
use Rattle.std.proofs.Common.{Result, Ok, Err}
use Rattle.std.specs.Prelude.{IsTrue, IfErr}
use Rattle.fdr_deck.specs.State.{Tells}
use Rattle.fdr_slot.specs.declared.image.Header.{Header}
use Rattle.fdr_recover.specs.Blocks.{Block}
use Rattle.fdr_recover.specs.Images.{recovered_run, next_of}
use Rattle.fdr_ring.specs.Runs.{KeepsRun, last_blocks}
use Rattle.fdr_ring.specs.Rings.{IsAttaching, OfSettled}
use Rattle.fdr_ring.specs.declared.ring.Ring.{Ring}
use Rattle.fdr_ring.proofs.Turning.{KeepsHeader-then}
use Rattle.fdr_twin.specs.declared.side.Side.{Side}
use Rattle.fdr_twin.specs.declared.side.Side.TheVariants.{First, Second}
use Rattle.fdr_twin.specs.Pair.{Pair, PairMoment, other_side, disk_on, image_on, seen}
use Rattle.fdr_twin.specs.Rest.{LeavesSide}
use Rattle.fdr_twin.specs.Sound.{IsSoundPair}
use Rattle.fdr_twin.specs.Serving.{Serves}
use Rattle.fdr_recorder.specs.Keeping.{RecoversPrefix}
use Rattle.fdr_recorder.proofs.Steps.{keeps_run, same_run, tail_on}
use Rattle.fdr_pair.specs.PairWork.{IsSameContent, PairWork}
use Rattle.fdr_pair.specs.Brought.{blocks_not_below, missing_blocks, IsFarBehind}
use Rattle.fdr_pair.specs.Putting.{AddsExactly}
use Rattle.fdr_pair.specs.Bringing.{IsBringing, HasNoFault}
use Rattle.fdr_pair.specs.Joining.{IsJoining, IsBroughtIn, HasJoined, IsJoinRefusal}
use Rattle.fdr_pair.specs.declared.join.Follower.{Follower}
use Rattle.fdr_pair.specs.declared.join.Follower.TheVariants as follower
use Rattle.fdr_pair.specs.declared.outcome.PairOutcome.{PairOutcome}
use Rattle.fdr_pair.specs.declared.outcome.PairOutcome.TheVariants as outcome
use Rattle.fdr_pair.proofs.PairWorks.{work_of, work_then, work_here, content_of}
use Rattle.fdr_pair.proofs.Bringing.{other_twice, no_fault_on, no_fault_then, failed_after}
use Rattle.fdr_pair.specs.SideCounts.{CountsBoth}

-- at least N - 1 blocks are at least N - 2
weaker : (h : Header) (old new : List ℕ) → KeepsRun h (h.slots - 1) old new → KeepsRun h (h.slots - 2) old new
weaker h old new keeps = record {
  kept = keeps.kept;
  run = record { lost = keeps.run.lost; within = keeps.run.within; tail = keeps.run.tail; enough = omega (arith, keeps.run.enough) };
  next = keeps.next;
}

-- what is kept of an image that was attached is kept of the image that it was before
kept_before : (h : Header) (entry middle image : List ℕ) (new : List Block) (told : ℕ) → KeepsRun h (h.slots - 2) entry middle
    → RecoversPrefix h middle (recovered_run h middle) new told image → RecoversPrefix h entry (recovered_run h entry) new told image
kept_before h entry middle image new told was is = record {
  kept = KeepsHeader-then entry middle image was.kept is.kept;
  count = is.count;
  fits = is.fits;
  run = tail_on (h.slots - 2) (recovered_run h entry) (recovered_run h middle) (take is.count new) (recovered_run h image) was.run is.run;
  next = omega (arith, is.next, was.next);
  announced = is.announced;
}

-- the same blocks are missing where the lead's image and the other's next number are the same
missing_same : (h k : Header) (lead was follower before : List ℕ) → k ≡ h → lead ≡ was → next_of h follower ≡ next_of h before
    → missing_blocks k lead follower ≡ missing_blocks h was before
missing_same h k lead was follower before header same next =
    ap (λ (x : Header). missing_blocks x lead follower) header
    ∙ ap (λ (l : List ℕ). missing_blocks h l follower) same
    ∙ ap (λ (n : ℕ). blocks_not_below n (recovered_run h was)) next

-- at a moment at which both images are ones that a stop could leave before
still : (h : Header) (lead : Side) (p : Pair) (m : PairMoment) → (disk_on lead p).may_leave (image_on lead m)
    → (disk_on (other_side lead) p).may_leave (image_on (other_side lead) m) → IsJoining h lead p m
still h lead p m own other = record {
  lead_image = own;
  follower = λ settled. keeps_run h (disk_on (other_side lead) p).held (image_on (other_side lead) m)
      (missing_blocks h (disk_on lead p).held (disk_on (other_side lead) p).held) 0
      (subst (λ (l : List ℕ). KeepsRun h (h.slots - 2) (disk_on (other_side lead) p).held l) (sym (settled (image_on (other_side lead) m) other))
      (same_run h (disk_on (other_side lead) p).held))
      (omega arith);
  far = λ far. other;
}

-- nothing is done
pub joins_here : (tells : Tells) (h : Header) (lead : Side) (p : Pair) → IsSoundPair tells p → PairWork tells (IsJoining h lead p) p p
joins_here tells h First p sound = work_here tells (IsJoining h First p) p sound (λ stops m first second. still h First p m first second)
joins_here tells h Second p sound = work_here tells (IsJoining h Second p) p sound (λ stops m first second. still h Second p m second first)

-- the side that follows is attached
module _ (tells : Tells) (h : Header) (lead side : Side) (p mid : Pair) (is_side : side ≡ other_side lead)
    (side_served : Serves tells side (OfSettled (seen side p) (IsAttaching h)) p mid) where
  served : Serves tells (other_side lead) (OfSettled (seen (other_side lead) p) (IsAttaching h)) p mid
  served = subst (λ (s : Side). Serves tells s (OfSettled (seen s p) (IsAttaching h)) p mid) is_side side_served

  left : LeavesSide lead p mid
  left = subst (λ (s : Side). LeavesSide s p mid) (other_twice lead) served.other

  pub lead_attached : IsSameContent (disk_on lead p) (disk_on lead mid)
  lead_attached = content_of (disk_on lead p) (disk_on lead mid) left.disk

  module _ (sound : IsSoundPair tells p) (near : IsTrue tells.bytes → IsFarBehind h (disk_on lead p).held (disk_on (other_side lead) p).held → ⊥) where
    pub joins_attached : CountsBoth p mid → PairWork tells (IsJoining h lead p) p mid
    joins_attached counts = work_of tells (other_side lead) (OfSettled (seen (other_side lead) p) (IsAttaching h)) (IsJoining h lead p) p mid sound served
        counts
        (λ stops m own other. record {
          lead_image = subst (λ (s : Side). (disk_on s p).may_leave (image_on s m)) (other_twice lead) other;
          follower = λ settled. keeps_run h (disk_on (other_side lead) p).held (image_on (other_side lead) m)
              (missing_blocks h (disk_on lead p).held (disk_on (other_side lead) p).held) 0
              (weaker h (disk_on (other_side lead) p).held (image_on (other_side lead) m) (own settled).run) (omega arith);
          far = λ far. absurd (near ((sound.sides First).stops_need_bytes stops) far);
        })

    -- and it is brought up in its ring, whose disk is that after `attach`
    module _ (r : Ring) (header : r.header ≡ h) (side_keeps : IsTrue tells.bytes → IsAttaching h (disk_on side p).held (disk_on side mid).held) where
      kept_run : IsTrue tells.bytes → KeepsRun h (h.slots - 2) (disk_on (other_side lead) p).held (disk_on (other_side lead) mid).held
      kept_run told = weaker h (disk_on (other_side lead) p).held (disk_on (other_side lead) mid).held
          (subst (λ (s : Side). IsAttaching h (disk_on s p).held (disk_on s mid).held) is_side (side_keeps told)).run

      missing_then : IsTrue tells.bytes → missing_blocks r.header (disk_on lead mid).held (disk_on (other_side lead) mid).held
          ≡ missing_blocks h (disk_on lead p).held (disk_on (other_side lead) p).held
      missing_then told = missing_same h r.header (disk_on lead mid).held (disk_on lead p).held (disk_on (other_side lead) mid).held
          (disk_on (other_side lead) p).held header left.disk.held (kept_run told).next

      bringing : (m : PairMoment) → IsTrue tells.bytes
          → IsBringing r.header lead (missing_blocks r.header (disk_on lead mid).held (disk_on (other_side lead) mid).held) mid m → IsJoining h lead p m
      bringing m told is = record {
        lead_image = left.disk.no_more (image_on lead m) is.lead_image;
        follower = λ settled. kept_before h (disk_on (other_side lead) p).held (disk_on (other_side lead) mid).held (image_on (other_side lead) m)
            (missing_blocks h (disk_on lead p).held (disk_on (other_side lead) p).held) 0 (kept_run told)
            (subst (λ (l : List Block). RecoversPrefix h (disk_on (other_side lead) mid).held (recovered_run h (disk_on (other_side lead) mid).held) l 0
            (image_on (other_side lead) m)) (missing_then told)
            (subst (λ (x : Header). RecoversPrefix x (disk_on (other_side lead) mid).held (recovered_run x (disk_on (other_side lead) mid).held)
            (missing_blocks r.header (disk_on lead mid).held (disk_on (other_side lead) mid).held) 0 (image_on (other_side lead) m)) header is.follower));
        far = λ far. absurd (near told far);
      }

      pub joins_brought : (q : Pair) → IsSoundPair tells mid → CountsBoth p mid → PairWork tells (IsBringing r.header lead
          (missing_blocks r.header (disk_on lead mid).held (disk_on (other_side lead) mid).held) mid) mid q → PairWork tells (IsJoining h lead p) p q
      joins_brought q sound_mid counts work = work_then tells (IsJoining h lead p) (IsBringing r.header lead
          (missing_blocks r.header (disk_on lead mid).held (disk_on (other_side lead) mid).held) mid) (IsJoining h lead p) p mid q sound_mid
          (joins_attached counts) work
          (λ stops m is. is)
          (λ stops m is. bringing m ((sound.sides First).stops_need_bytes stops) is)

      -- what became of it, by its counts of faults and its run after `attach`, where the lead's next number is this one
      module _ (next : ℕ) (q : Pair) (quiet : (disk_on side mid).faults ≡ (disk_on side p).faults) where
        no_fault : HasNoFault p mid
        no_fault = no_fault_on lead p mid left.disk.faults (subst (λ (s : Side). (disk_on s mid).faults ≡ (disk_on s p).faults) is_side quiet)

        pub joined_brought : (IsTrue tells.bytes → next ≡ next_of h (disk_on lead p).held)
            → (IsTrue tells.bytes → recovered_run h (disk_on side mid).held ≡ last_blocks (h.slots - 1) (recovered_run h (disk_on side p).held))
            → (f : Follower) → IsBroughtIn tells lead r next f mid q → HasJoined tells h lead next f p q
        joined_brought is_next run follower.Failed failed = failed_after (other_side lead) p mid q no_fault failed
        joined_brought is_next run follower.Level never = absurd never
        joined_brought is_next run (follower.Brought s) is =
            let brought = is.1 in
            let same_header = brought.header ∙ header in (
              no_fault_then p mid q no_fault brought.no_fault,
              same_header,
              is.0,
              brought.ring,
              λ told. record {
                kept = KeepsHeader-then (disk_on (other_side lead) p).held (disk_on (other_side lead) mid).held (disk_on (other_side lead) q).held
                    (kept_run told).kept (brought.keeps told).kept;
                run = subst (λ (l : List Block). AddsExactly h l (disk_on (other_side lead) mid).held (disk_on (other_side lead) q).held) (missing_then told)
                    (subst (λ (x : Header). AddsExactly x (missing_blocks r.header (disk_on lead mid).held (disk_on (other_side lead) mid).held)
                    (disk_on (other_side lead) mid).held (disk_on (other_side lead) q).held) header (brought.exact told))
                    (recovered_run h (disk_on (other_side lead) p).held)
                    (subst (λ (x : Side). recovered_run h (disk_on x mid).held ≡ last_blocks (h.slots - 1) (recovered_run h (disk_on x p).held)) is_side
                    (run told));
                next = ap (λ (x : Header). next_of x (disk_on (other_side lead) q).held) (sym same_header) ∙ sym (brought.ring.sure.ring.next told)
                    ∙ is.0 ∙ is_next told;
              },
            )

        -- why it wasn't brought up. It is never too far behind
        refused_for : (why : PairOutcome) → IsJoinRefusal tells r.header lead next why mid q → ((s : Side) → why ≡ outcome.FarBehind s → ⊥)
            → IsJoinRefusal tells h lead next why p q
        refused_for (outcome.LeadFault s) is near_enough =
            let behind : IsTrue tells.bytes → next_of h (disk_on (other_side lead) q).held < next =
            λ told. subst (λ (x : Header). next_of x (disk_on (other_side lead) q).held < next) header (is.2 told) in
            (is.0, failed_after lead p mid q no_fault is.1, behind)
        refused_for (outcome.FarBehind s) is near_enough = absurd (near_enough s refl)
        refused_for (outcome.BlocksDiffer seq) is near_enough = (no_fault_then p mid q no_fault is.0, is.1)
        refused_for outcome.Done is near_enough = is
        refused_for outcome.Usage is near_enough = is
        refused_for (outcome.TableRefused row f) is near_enough = is
        refused_for (outcome.TraceRefused index f) is near_enough = is
        refused_for (outcome.ImageRefused s why) is near_enough = is
        refused_for (outcome.WordsDiffer image table) is near_enough = is
        refused_for outcome.SeqEnd is near_enough = is
        refused_for (outcome.ReadFault i) is near_enough = is
        refused_for outcome.DiskFault is near_enough = is
        refused_for outcome.NoMemory is near_enough = is
        refused_for outcome.OldVersion is near_enough = is
        refused_for outcome.HeadersDiffer is near_enough = is

        pub refused_brought : (o : Result Follower PairOutcome) → IfErr o (λ why. IsJoinRefusal tells r.header lead next why mid q)
            → ((s : Side) → o ≡ Err (outcome.FarBehind s) → ⊥) → IfErr o (λ why. IsJoinRefusal tells h lead next why p q)
        refused_brought (Ok f) is near_enough = tt
        refused_brought (Err why) is near_enough = refused_for why is (λ s same. near_enough s (ap Err same))
