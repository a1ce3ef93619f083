-- What is kept of a pair at entry is kept of any pair with the same images, counts and numbers.
use Rattle.std.proofs.Common.{◌≡◌, inl, inr, ⊎_elim, ℕ, List, [], ◌++◌, None, ap, sym, ◌∙◌, subst, length, ◌+◌, arith}
use Rattle.fdr_bus.specs.declared.BusRecord.{BusRecord}
use Rattle.fdr_deck.specs.State.{Tells}
use Rattle.fdr_recover.specs.Blocks.{Block}
use Rattle.fdr_recover.specs.ImageHeader.{image_fault_of, header_in}
use Rattle.fdr_recover.specs.Payloads.{run_in}
use Rattle.fdr_table.specs.Rows.{TableRows}
use Rattle.fdr_recorder.specs.Lag.{IsInTime}
use Rattle.fdr_recorder.specs.NewBlocks.{new_blocks, next_in}
use Rattle.fdr_twin.specs.declared.side.Side.{Side}
use Rattle.fdr_twin.specs.declared.side.Side.TheVariants.{First, Second}
use Rattle.fdr_twin.specs.Pair.{Pair, PairMoment, disk_on, image_on, other_side}
use Rattle.fdr_pair.specs.Differ.{DifferAt}
use Rattle.fdr_pair.specs.Brought.{blocks_not_below, brought_run, missing_blocks, leader, IsFarBehind}
use Rattle.fdr_pair.specs.Alike.{AreAlike, lead_on, follower_on, lead_image, follower_image}
use Rattle.fdr_pair.specs.SideKeeping.{KeepsRecording}
use Rattle.fdr_pair.specs.Traces.{IsPairLagMoment}
use Rattle.fdr_pair.specs.PairMoments.{HasFailedBy, HasPulledBytes, HasFailedBeforePull, KeepsOwnRun, KeepsBroughtRun}
use Rattle.fdr_pair.specs.PairMoments.{KeepsRunWith, KeepsRunUntilPull, StaysAsAtEntry, blocks_to_get}
use Rattle.fdr_pair.specs.PairEnds.{FollowerHoldsBrought, FollowerHoldsOwn, HasFailedSince, HoldWithLead, HoldWithoutLead, HoldsAfter, LeadHolds}

-- Two pairs hold the same images, have the same counts of faults, and are at the same time with the same numbers of bytes pulled.
pub record IsSameEntry (a b : Pair) : Type 0 where
  pub first : b.first.held ≡ a.first.held
  pub second : b.second.held ≡ a.second.held
  pub first_faults : b.first.faults ≡ a.first.faults
  pub second_faults : b.second.faults ≡ a.second.faults
  pub clock : b.clock ≡ a.clock
  pub taken : b.taken ≡ a.taken
  pub pulled_before : b.pulled_before ≡ a.pulled_before

module _ (a b : Pair) (same : IsSameEntry a b) where
  -- a side's image
  held_same : (s : Side) → (disk_on s b).held ≡ (disk_on s a).held
  held_same First = same.first
  held_same Second = same.second

  -- a side's count of faults
  faults_same : (s : Side) → (disk_on s b).faults ≡ (disk_on s a).faults
  faults_same First = same.first_faults
  faults_same Second = same.second_faults

  -- the lead
  pub lead_same : lead_on b ≡ lead_on a
  lead_same = ap (λ (i : List ℕ). leader i b.second.held) same.first ∙ ap (λ (i : List ℕ). leader a.first.held i) same.second

  -- the lead's image
  pub lead_image_same : lead_image b ≡ lead_image a
  lead_image_same = ap (λ (s : Side). (disk_on s b).held) lead_same ∙ held_same (lead_on a)

  -- the image of the side that doesn't lead
  pub follower_image_same : follower_image b ≡ follower_image a
  follower_image_same = ap (λ (s : Side). (disk_on (other_side s) b).held) lead_same ∙ held_same (follower_on a)

  -- what is said of the lead's side
  pub at_lead : (P : Side → Type 0) → P (lead_on a) → P (lead_on b)
  at_lead P x = subst P (sym lead_same) x

  -- what is said of the other side
  pub at_follower : (P : Side → Type 0) → P (follower_on a) → P (follower_on b)
  at_follower P x = subst (λ (s : Side). P (other_side s)) (sym lead_same) x

  -- a side that has failed by a moment
  failed_same : (s : Side) (m : PairMoment) → HasFailedBy s a m → HasFailedBy s b m
  failed_same s m rose = let e = faults_same s in omega (arith, rose, e)

  -- bytes had been pulled
  pub pulled_same : (m : PairMoment) → HasPulledBytes b m → HasPulledBytes a m
  pulled_same m later = let e = same.taken in omega (arith, later, e)

  -- a side that failed before anything was pulled
  pub failed_before_same : (tells : Tells) (s : Side) (new : Pair) → HasFailedBeforePull tells s a new → HasFailedBeforePull tells s b new
  failed_before_same tells s new is = record {
    now = let e = faults_same s in let rose = is.now in omega (arith, rose, e);
    moments = λ stops m since pulled. failed_same s m
        (is.moments stops m (subst (λ (n : ℕ). new.since n m) same.clock since) (pulled_same m pulled));
  }

  -- a side that keeps its own run
  pub own_same : (s : Side) (t : TableRows) (records : List BusRecord) (m : PairMoment) → KeepsOwnRun s t records a m → KeepsOwnRun s t records b m
  own_same s t records m is = ⊎_elim (λ rose. inl (failed_same s m rose))
      (λ keeps. inr (subst (λ (i : List ℕ). KeepsRecording (header_in i) i (run_in i) (next_in i) (new_blocks t i records) m.announced (image_on s m))
      (sym (held_same s)) keeps)) is

  -- images that are alike
  pub alike_same : (words : ℕ) → AreAlike words a → AreAlike words b
  alike_same words is = record {
    header = record {
      first = subst (λ (i : List ℕ). image_fault_of i ≡ None) (sym same.first) is.header.first;
      second = subst (λ (i : List ℕ). image_fault_of i ≡ None) (sym same.second) is.header.second;
      same = subst (λ (i : List ℕ). header_in b.second.held ≡ header_in i) (sym same.first)
          (subst (λ (i : List ℕ). header_in i ≡ header_in a.first.held) (sym same.second) is.header.same);
      count = subst (λ (i : List ℕ). (header_in i).words ≡ words) (sym same.first) is.header.count;
      version = subst (λ (i : List ℕ). (header_in i).version ≡ 2) (sym same.first) is.header.version;
    };
    blocks = λ number differ. is.blocks number (subst (λ (i : List ℕ). DifferAt (run_in i) (run_in a.second.held) number) same.first
        (subst (λ (i : List ℕ). DifferAt (run_in b.first.held) (run_in i) number) same.second differ));
    near = λ far. is.near (subst (λ (i : List ℕ). IsFarBehind (header_in i) i (follower_image a)) lead_image_same
        (subst (λ (i : List ℕ). IsFarBehind (header_in (lead_image b)) (lead_image b) i) follower_image_same far));
  }

  -- a side keeps the run that it had, with some blocks
  pub run_with_same : (s : Side) (added : List Block) (m : PairMoment) → KeepsRunWith s added a m → KeepsRunWith s added b m
  run_with_same s added m is =
      subst (λ (i : List ℕ). KeepsRecording (header_in i) i (run_in i) (next_in i) added 0 (image_on s m)) (sym (held_same s)) is

  -- what a side is to get
  get_same : (base s : Side) (t : TableRows) (records : List BusRecord) → blocks_to_get base s t records b ≡ blocks_to_get base s t records a
  get_same base s t records =
      ap (λ (i : List ℕ). blocks_not_below (next_in i) (run_in (disk_on base b).held) ++ new_blocks t (disk_on base b).held records) (held_same s)
      ∙ ap (λ (i : List ℕ). blocks_not_below (next_in (disk_on s a).held) (run_in i) ++ new_blocks t i records) (held_same base)

  pub first_same : (base s : Side) (t : TableRows) (records : List BusRecord) (m : PairMoment)
      → KeepsRunWith s (blocks_to_get base s t records a) a m → KeepsRunWith s (blocks_to_get base s t records b) b m
  first_same base s t records m is = subst (λ (l : List Block). KeepsRunWith s l b m) (sym (get_same base s t records))
      (run_with_same s (blocks_to_get base s t records a) m is)

  -- a side that stays as it was
  pub stays_same : (s : Side) (m : PairMoment) → StaysAsAtEntry s a m → StaysAsAtEntry s b m
  stays_same s m is = is ∙ sym (held_same s)

  -- an image with a fault
  pub fault_same : (s : Side) → (image_fault_of (disk_on s b).held ≡ None → ⊥) → image_fault_of (disk_on s a).held ≡ None → ⊥
  fault_same s some none = some (subst (λ (i : List ℕ). image_fault_of i ≡ None) (sym (held_same s)) none)

  -- an image without a fault
  pub no_fault_same : (s : Side) → image_fault_of (disk_on s b).held ≡ None → image_fault_of (disk_on s a).held ≡ None
  no_fault_same s none = subst (λ (i : List ℕ). image_fault_of i ≡ None) (held_same s) none

  -- the blocks that the other side's brought run adds
  missing_same : missing_blocks (header_in (lead_image b)) (lead_image b) (follower_image b)
      ≡ missing_blocks (header_in (lead_image a)) (lead_image a) (follower_image a)
  missing_same = ap (λ (i : List ℕ). missing_blocks (header_in i) i (follower_image b)) lead_image_same
      ∙ ap (λ (i : List ℕ). missing_blocks (header_in (lead_image a)) (lead_image a) i) follower_image_same

  -- the other side keeps its run until bytes are pulled
  pub until_same : (words : ℕ) (m : PairMoment) → KeepsRunUntilPull words a m → KeepsRunUntilPull words b m
  until_same words m is = ⊎_elim
      (λ none. inl (at_follower (λ (s : Side). KeepsRunWith s [] b m) (run_with_same (follower_on a) [] m none)))
      (λ brought. inr (
        alike_same words brought.0,
        subst (λ (l : List Block). KeepsRunWith (follower_on b) l b m) (sym missing_same)
            (at_follower (λ (s : Side). KeepsRunWith s (missing_blocks (header_in (lead_image a)) (lead_image a) (follower_image a)) b m)
            (run_with_same (follower_on a) (missing_blocks (header_in (lead_image a)) (lead_image a) (follower_image a)) m brought.1)),
      )) is

  -- the other side keeps its brought run
  pub brought_same : (t : TableRows) (records : List BusRecord) (m : PairMoment) → KeepsBroughtRun t records a m → KeepsBroughtRun t records b m
  brought_same t records m is = ⊎_elim (λ rose. inl (at_follower (λ (s : Side). HasFailedBy s b m) (failed_same (follower_on a) m rose)))
      (λ keeps. inr (at_follower (λ (s : Side). KeepsRecording (header_in (lead_image b)) (disk_on (follower_on b) b).held
      (brought_run (header_in (lead_image b)) (lead_image b) (follower_image b)) (next_in (lead_image b)) (new_blocks t (lead_image b) records)
      m.announced (image_on s m))
      (subst (λ (f : List ℕ). KeepsRecording (header_in (lead_image b)) f (brought_run (header_in (lead_image b)) (lead_image b) f)
      (next_in (lead_image b)) (new_blocks t (lead_image b) records) m.announced (image_on (follower_on a) m)) (sym follower_image_same)
      (subst (λ (l : List ℕ). KeepsRecording (header_in l) (follower_image a) (brought_run (header_in l) l (follower_image a))
      (next_in l) (new_blocks t l records) m.announced (image_on (follower_on a) m)) (sym lead_image_same) keeps)))) is

  -- the recording keeps up
  pub lag_same : (owed : List BusRecord → ℕ) (pulled : List ℕ) (m : PairMoment) → IsPairLagMoment owed a pulled m → IsPairLagMoment owed b pulled m
  lag_same owed pulled m is = record {
    pulled = ⊎_elim (λ still. inl (record { taken = still.taken ∙ sym same.taken; pulled_before = still.pulled_before ∙ sym same.pulled_before }))
        (λ late. inr (subst (λ (n : ℕ). IsInTime owed n pulled m.announced m.pulled_before m.taken) (sym same.taken) late)) is.pulled;
  }

  -- a side holds the blocks, by the count of faults that it had
  holds_same : (tells : Tells) (s : Side) (h : _) (run : List Block) (next : ℕ) (blocks : List Block) (new : Pair)
      → HoldsAfter tells s h run next blocks a new → HoldsAfter tells s h run next blocks b new
  holds_same tells s h run next blocks new is = record {
    faults = is.faults ∙ sym (faults_same s);
    header = is.header;
    last = is.last;
    number = is.number;
    settled = is.settled;
  }

  -- the lead's side holds the blocks
  pub lead_holds_same : (tells : Tells) (blocks : List Block) (new : Pair) → LeadHolds tells blocks a new → LeadHolds tells blocks b new
  lead_holds_same tells blocks new is =
      at_lead (λ (s : Side). HoldsAfter tells s (header_in (lead_image b)) (run_in (lead_image b)) (next_in (lead_image b)) blocks b new)
      (subst (λ (i : List ℕ). HoldsAfter tells (lead_on a) (header_in i) (run_in i) (next_in i) blocks b new) (sym lead_image_same)
      (holds_same tells (lead_on a) (header_in (lead_image a)) (run_in (lead_image a)) (next_in (lead_image a)) blocks new is))

  -- the other side holds its brought run and the blocks
  brought_holds_same : (tells : Tells) (blocks : List Block) (new : Pair)
      → FollowerHoldsBrought tells blocks a new → FollowerHoldsBrought tells blocks b new
  brought_holds_same tells blocks new is = at_follower (λ (s : Side). HoldsAfter tells s (header_in (lead_image b))
      (brought_run (header_in (lead_image b)) (lead_image b) (follower_image b)) (next_in (lead_image b)) blocks b new)
      (subst (λ (f : List ℕ). HoldsAfter tells (follower_on a) (header_in (lead_image b)) (brought_run (header_in (lead_image b)) (lead_image b) f)
      (next_in (lead_image b)) blocks b new) (sym follower_image_same)
      (subst (λ (l : List ℕ). HoldsAfter tells (follower_on a) (header_in l) (brought_run (header_in l) l (follower_image a)) (next_in l) blocks b new)
      (sym lead_image_same) (holds_same tells (follower_on a) (header_in (lead_image a))
      (brought_run (header_in (lead_image a)) (lead_image a) (follower_image a)) (next_in (lead_image a)) blocks new is)))

  -- the other side holds its own run and the blocks
  own_holds_same : (tells : Tells) (blocks : List Block) (new : Pair) → FollowerHoldsOwn tells blocks a new → FollowerHoldsOwn tells blocks b new
  own_holds_same tells blocks new is = at_follower (λ (s : Side). HoldsAfter tells s (header_in (follower_image b)) (run_in (follower_image b))
      (next_in (follower_image b)) blocks b new)
      (subst (λ (i : List ℕ). HoldsAfter tells (follower_on a) (header_in i) (run_in i) (next_in i) blocks b new) (sym follower_image_same)
      (holds_same tells (follower_on a) (header_in (follower_image a)) (run_in (follower_image a)) (next_in (follower_image a)) blocks new is))

  -- a side that has failed
  failed_since_same : (s : Side) (new : Pair) → HasFailedSince s a new → HasFailedSince s b new
  failed_since_same s new rose = let e = faults_same s in omega (arith, rose, e)

  -- the blocks are held, with the lead
  pub hold_with_same : (tells : Tells) (blocks : List Block) (new : Pair) → HoldWithLead tells blocks a new → HoldWithLead tells blocks b new
  hold_with_same tells blocks new is = record {
    lead = ⊎_elim (λ rose. inl (at_lead (λ (s : Side). HasFailedSince s b new) (failed_since_same (lead_on a) new rose)))
        (λ holds. inr (lead_holds_same tells blocks new holds)) is.lead;
    follower = ⊎_elim (λ rose. inl (at_follower (λ (s : Side). HasFailedSince s b new) (failed_since_same (follower_on a) new rose)))
        (λ holds. inr (brought_holds_same tells blocks new holds)) is.follower;
    one = ⊎_elim (λ holds. inl (lead_holds_same tells blocks new holds)) (λ holds. inr (brought_holds_same tells blocks new holds)) is.one;
    announced = subst (λ (i : List ℕ). new.announced ≡ next_in i + length blocks) (sym lead_image_same) is.announced;
  }

  -- the blocks are held, without the lead
  pub hold_without_same : (tells : Tells) (blocks : List Block) (new : Pair) → HoldWithoutLead tells blocks a new → HoldWithoutLead tells blocks b new
  hold_without_same tells blocks new is = record {
    follower = own_holds_same tells blocks new is.follower;
    announced = subst (λ (i : List ℕ). new.announced ≡ next_in i + length blocks) (sym follower_image_same) is.announced;
  }
