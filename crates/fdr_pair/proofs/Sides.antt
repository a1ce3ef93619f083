-- What is said of a side, while calls serve the other or the same.
use Rattle.std.proofs.Common.{◌≡◌, ℕ, List, sym, ◌∙◌, ap, subst, arith}
use Rattle.fdr_deck.specs.State.{State, Tells}
use Rattle.fdr_deck.specs.Disk.{IsSettled}
use Rattle.fdr_slot.specs.declared.image.Header.{Header}
use Rattle.fdr_recover.specs.Images.{next_of}
use Rattle.fdr_ring.specs.Gates.{IsClosed}
use Rattle.fdr_ring.specs.Rings.{IsRing, IsSureRing, OfSettled}
use Rattle.fdr_twin.specs.declared.side.Side.{Side}
use Rattle.fdr_twin.specs.declared.side.Side.TheVariants.{First, Second}
use Rattle.fdr_twin.specs.Pair.{Pair, disk_on, other_side, seen}
use Rattle.fdr_twin.specs.Same.{IsSameState, IsSameDisk, Turns}
use Rattle.fdr_twin.specs.Sound.{IsSoundPair}
use Rattle.fdr_twin.specs.Serving.{Serves}
use Rattle.fdr_twin.proofs.Same.{IsSettled-same, IsSame-sym, IsSame-then}
use Rattle.fdr_twin.proofs.Turns.{Turns-seen}
use Rattle.fdr_twin.proofs.Serves.{serves, serves_turned}
use Rattle.fdr_io.specs.Faults.{Rose}
use Rattle.fdr_deck.specs.Calls.{IsDiskWork, Succeeds}
use Rattle.fdr_twin.specs.Rest.{HasSameRest}

-- a ring's fact under another name, or of a disk that is as it was
pub IsRing-same : (tells : Tells) (h : Header) (number : ℕ) (a b : State) → b.extent ≡ a.extent → b.held ≡ a.held → IsRing tells h number a
    → IsRing tells h number b
IsRing-same tells h number a b extent held ring = record {
  extent = omega (arith, ring.extent, extent);
  next = λ told. ring.next told ∙ ap (λ (l : List ℕ). next_of h l) (sym held);
  closed = λ told. subst (λ (l : List ℕ). IsClosed h l number) (sym held) (ring.closed told);
}

pub IsSureRing-same : (tells : Tells) (h : Header) (number : ℕ) (a b : State) → b.extent ≡ a.extent → b.held ≡ a.held
    → ((image : List ℕ) → b.may_leave image → a.may_leave image) → IsSureRing tells h number a → IsSureRing tells h number b
IsSureRing-same tells h number a b extent held left sure = record {
  ring = IsRing-same tells h number a b extent held sure.ring;
  stops = λ told image leaves. sure.stops told image (left image leaves);
}

-- what is left of a settled disk, under another name
pub OfSettled-same : (a b : State) (R : List ℕ → List ℕ → Type 0) → IsSameState a b → (image : List ℕ) → OfSettled b R image → OfSettled a R image
OfSettled-same a b R same image left settled =
    subst (λ (l : List ℕ). R l image) same.held (left (IsSettled-same a b same settled))

-- the state of a twin that is turned to a side is what that side shows
pub facing_side : (s : State) (p : Pair) (side : Side) → IsSameState s (seen p.turned p) → p.turned ≡ side → IsSameState s (seen side p)
facing_side s p side same turned = subst (λ (x : Side). IsSameState s (seen x p)) turned same

-- the state of a twin that was turned to a side is what that side showed
pub turned_side : (side : Side) (s : State) (old mid : Pair) → Turns side old mid → IsSameState s (seen mid.turned mid) → IsSameState (seen side old) s
turned_side side s old mid turns same =
    IsSame-then (seen side old) (seen side mid) s (Turns-seen side side old mid turns) (IsSame-sym s (seen side mid) (facing_side s mid side same turns.turned))

-- a turn to a side, and then calls of a deck that leave the rest: the deck's count of faults is that of the side
module _ (side : Side) (s t : State) (old mid new : Pair) (turns : Turns side old mid) (same_mid : IsSameState s (seen mid.turned mid))
    (same_new : IsSameState t (seen new.turned new)) (rest : HasSameRest mid new) where
  faults_before : s.disk_faults ≡ (disk_on side old).faults
  faults_before = (turned_side side s old mid turns same_mid).disk_faults

  faults_after : (disk_on side new).faults ≡ t.disk_faults
  faults_after = (facing_side t new side same_new (rest.turned ∙ turns.turned)).disk_faults

  pub rose_side : Rose s.disk_faults t.disk_faults → Rose (disk_on side old).faults (disk_on side new).faults
  rose_side rose = subst (λ (n : ℕ). Rose n (disk_on side new).faults) faults_before (subst (λ (n : ℕ). Rose s.disk_faults n) (sym faults_after) rose)

  pub no_fault_side : Succeeds s t → (disk_on side new).faults ≡ (disk_on side old).faults
  no_fault_side succeeds = faults_after ∙ succeeds.disk_faults ∙ faults_before

-- a turn to a side, and then calls of a deck that are quiet and leave the rest
pub serves_side : (tells : Tells) (R : List ℕ → List ℕ → Type 0) (side : Side) (s t : State) (old mid new : Pair) → IsSoundPair tells old
    → IsSoundPair tells mid → Turns side old mid → IsSameState s (seen mid.turned mid) → IsSameState t (seen new.turned new)
    → HasSameRest mid new → IsDiskWork tells (OfSettled s R) s t → Serves tells side (OfSettled (seen side old) R) old new
serves_side tells R side s t old mid new sound sound_mid turns same_mid same_new rest quiet =
    let faces = turned_side side s old mid turns same_mid in
    serves_turned tells (OfSettled s R) (OfSettled (seen side old) R) side old mid new sound sound_mid turns
    (serves tells (OfSettled s R) side s t mid new sound_mid same_mid same_new turns.turned rest quiet)
    (λ stops image left. OfSettled-same (seen side old) s R faces image left)

-- a turn to a side, and then calls that only look at it
pub looks_side : (tells : Tells) (side : Side) (s t : State) (old mid new : Pair) → IsSoundPair tells old → IsSoundPair tells mid → Turns side old mid
    → IsSameState s (seen mid.turned mid) → IsSameState t (seen new.turned new) → HasSameRest mid new → IsDiskWork tells s.may_leave s t
    → Serves tells side (disk_on side old).may_leave old new
looks_side tells side s t old mid new sound sound_mid turns same_mid same_new rest quiet =
    let faces = turned_side side s old mid turns same_mid in
    serves_turned tells s.may_leave (disk_on side old).may_leave side old mid new sound sound_mid turns
    (serves tells s.may_leave side s t mid new sound_mid same_mid same_new turns.turned rest quiet)
    (λ stops image left. faces.left image left)

-- one side, while the other is served
module _ (old new : Pair) (side : Side) (same : IsSameDisk (disk_on side old) (disk_on side new)) where
  pub settled_on : IsSettled (seen side old) → IsSettled (seen side new)
  settled_on settled image leaves = settled image (same.no_more image leaves) ∙ sym same.held

-- what holds of a side and of the other one holds of each
pub either_side : (P : Side → Type 0) (side turned : Side) → P turned → P (other_side turned) → P side
either_side P First First own other = own
either_side P First Second own other = other
either_side P Second First own other = other
either_side P Second Second own other = own
