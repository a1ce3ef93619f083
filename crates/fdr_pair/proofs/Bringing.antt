-- The side that follows, while blocks of the lead are put on it.
use Rattle.std.proofs.Common.{◌≡◌, ◌≢◌, ⊎_elim, ℕ, ◌+◌, ◌-◌, ◌<◌, ◌≤◌, List, [], ◌∷◌, ◌++◌, take, refl, sym, ◌∙◌, ap, arith, subst}
use Rattle.std.proofs.Common.{Option, Some, None}
use Rattle.std.specs.List.{cons_option}
use Rattle.std.proofs.lemmas.Bool.{cases_lt}
use Rattle.std.proofs.lemmas.List.{append-nil}
use Rattle.std.specs.Prelude.{◌↔◌, IsTrue}
use Rattle.fdr_io.specs.Faults.{Rose}
use Rattle.fdr_deck.specs.State.{Tells}
use Rattle.fdr_deck.specs.Disk.{IsSettled}
use Rattle.fdr_slot.specs.declared.image.Header.{Header}
use Rattle.fdr_recover.specs.Blocks.{Block}
use Rattle.fdr_slot.specs.Limits.{IsInLimits}
use Rattle.fdr_slot.proofs.HeaderLemmas.{in_limits-is}
use Rattle.fdr_recover.specs.Images.{recovered_run, next_of, block_numbered, blocks_between, payload_of, payload_at, session_of_slot, session_at}
use Rattle.fdr_recover.proofs.Between.{between_none, between_more, between_split, between_count, block_read}
use Rattle.fdr_ring.specs.Rings.{OfSettled}
use Rattle.fdr_ring.specs.declared.ring.Ring.{Ring}
use Rattle.fdr_twin.specs.declared.side.Side.{Side}
use Rattle.fdr_twin.specs.declared.side.Side.TheVariants.{First, Second}
use Rattle.fdr_twin.specs.Pair.{Pair, PairMoment, other_side, disk_on, image_on, seen}
use Rattle.fdr_twin.specs.Same.{IsSameDisk}
use Rattle.fdr_twin.specs.Rest.{LeavesSide}
use Rattle.fdr_twin.specs.Sound.{IsSoundPair}
use Rattle.fdr_twin.specs.Serving.{Serves}
use Rattle.fdr_recorder.specs.Keeping.{RecoversPrefix, RecoversAll}
use Rattle.fdr_recorder.proofs.Steps.{keeps_none, keeps_more, keeps_on, all_on}
use Rattle.fdr_pair.specs.Putting.{AddsExactly, HasPut, MayPut}
use Rattle.fdr_pair.specs.SidePuts.{next_block, IsSettledRing}
use Rattle.fdr_pair.specs.PairWork.{IsSameContent, PairWork}
use Rattle.fdr_pair.specs.Brought.{first_of, missing_blocks, IsFarBehind}
use Rattle.fdr_pair.specs.Bringing.{IsBringing, HasNoFault, HasFailedAlone, HasBrought}
use Rattle.fdr_pair.proofs.Going.{stands, may_stand, ring_left, exact_none, exact_on}
use Rattle.fdr_pair.proofs.PairWorks.{work_of, work_then, work_here, work_weaken, content_of, content_then}
use Rattle.fdr_pair.proofs.BroughtRuns.{missing_between, in_run}
use Rattle.fdr_pair.specs.SideCounts.{CountsBoth}

pub other_twice : (side : Side) → other_side (other_side side) ≡ side
other_twice First = refl
other_twice Second = refl

-- no fault on a side, and none on the other
pub no_fault_on : (side : Side) (old new : Pair) → (disk_on side new).faults ≡ (disk_on side old).faults
    → (disk_on (other_side side) new).faults ≡ (disk_on (other_side side) old).faults → HasNoFault old new
no_fault_on First old new own other = record { first = own; second = other }
no_fault_on Second old new own other = record { first = other; second = own }

pub no_fault_of : (side : Side) (old new : Pair) → HasNoFault old new → (disk_on side new).faults ≡ (disk_on side old).faults
no_fault_of First old new none = none.first
no_fault_of Second old new none = none.second

pub no_fault_then : (old mid new : Pair) → HasNoFault old mid → HasNoFault mid new → HasNoFault old new
no_fault_then old mid new one two = record { first = two.first ∙ one.first; second = two.second ∙ one.second }

pub no_fault_here : (p : Pair) → HasNoFault p p
no_fault_here p = record { first = refl; second = refl }

-- a fault after none
pub failed_after : (side : Side) (old mid new : Pair) → HasNoFault old mid → HasFailedAlone side mid new → HasFailedAlone side old new
failed_after side old mid new none failed = record {
  rose = subst (λ (n : ℕ). Rose n (disk_on side new).faults) (no_fault_of side old mid none) failed.rose;
  other = failed.other ∙ no_fault_of (other_side side) old mid none;
}

-- at a moment at which the side that follows holds what it held
stands_still : (h : Header) (lead : Side) (blocks : List Block) (p : Pair) (m : PairMoment) → (disk_on lead p).may_leave (image_on lead m)
    → image_on (other_side lead) m ≡ (disk_on (other_side lead) p).held → IsBringing h lead blocks p m
stands_still h lead blocks p m lead_image same = record {
  lead_image = lead_image;
  follower = stands h (disk_on (other_side lead) p).held (disk_on (other_side lead) p).held (image_on (other_side lead) m) [] blocks 0 same
      (keeps_none h (disk_on (other_side lead) p).held) (omega arith);
}

-- before the first call
pub brings_here : (tells : Tells) (h : Header) (lead : Side) (blocks : List Block) (p : Pair) → IsSoundPair tells p
    → (IsTrue tells.stops → IsSettled (seen (other_side lead) p)) → PairWork tells (IsBringing h lead blocks p) p p
brings_here tells h First blocks p sound settled = work_here tells (IsBringing h First blocks p) p sound
    (λ stops m first second. stands_still h First blocks p m first (settled stops m.second second))
brings_here tells h Second blocks p sound settled = work_here tells (IsBringing h Second blocks p) p sound
    (λ stops m first second. stands_still h Second blocks p m second (settled stops m.first first))

-- while the lead is looked at
pub brings_looked : (tells : Tells) (h : Header) (lead : Side) (blocks : List Block) (p q : Pair) → IsSoundPair tells p
    → (IsTrue tells.stops → IsSettled (seen (other_side lead) p)) → Serves tells lead (disk_on lead p).may_leave p q
    → CountsBoth p q → PairWork tells (IsBringing h lead blocks p) p q
brings_looked tells h lead blocks p q sound settled served counts =
    work_of tells lead (disk_on lead p).may_leave (IsBringing h lead blocks p) p q sound served counts
    (λ stops m own other. stands_still h lead blocks p m own (settled stops (image_on (other_side lead) m) other))

-- the next block of the ring
module _ (tells : Tells) (lead : Side) (r : Ring) (session : ℕ) (bytes : List ℕ) (blocks : List Block) (p q : Pair) (sound : IsSoundPair tells p)
    (settled : IsTrue tells.stops → IsSettled (seen (other_side lead) p)) (is : IsTrue tells.bytes → next_block r session bytes ∷ [] ≡ blocks)
    (served : Serves tells (other_side lead) (OfSettled (seen (other_side lead) p) (MayPut r.header (next_block r session bytes))) p q) where
  lead_left : LeavesSide lead p q
  lead_left = subst (λ (side : Side). LeavesSide side p q) (other_twice lead) served.other

  -- while it is put
  pub brings_put : CountsBoth p q → PairWork tells (IsBringing r.header lead blocks p) p q
  brings_put counts = work_of tells (other_side lead) (OfSettled (seen (other_side lead) p) (MayPut r.header (next_block r session bytes)))
      (IsBringing r.header lead blocks p) p q sound served counts
      (λ stops m own other. record {
        lead_image = subst (λ (side : Side). (disk_on side p).may_leave (image_on side m)) (other_twice lead) other;
        follower = subst (λ (l : List Block). RecoversPrefix r.header (disk_on (other_side lead) p).held
            (recovered_run r.header (disk_on (other_side lead) p).held) l 0 (image_on (other_side lead) m))
            (is ((sound.sides First).stops_need_bytes stops))
            (may_stand r.header (next_block r session bytes) (disk_on (other_side lead) p).held (disk_on (other_side lead) p).held
            (image_on (other_side lead) m) [] 0 (own (settled stops)) (keeps_none r.header (disk_on (other_side lead) p).held) (omega arith));
      })

  -- once it is put
  pub brought_put : (s : Ring) → s.header ≡ r.header
      → (IsTrue tells.bytes → HasPut r.header (next_block r session bytes) (disk_on (other_side lead) p).held (disk_on (other_side lead) q).held)
      → (IsTrue tells.bytes → AddsExactly r.header (next_block r session bytes ∷ []) (disk_on (other_side lead) p).held (disk_on (other_side lead) q).held)
      → IsSettledRing tells (other_side lead) s q → (disk_on (other_side lead) q).faults ≡ (disk_on (other_side lead) p).faults
      → HasBrought tells lead r s blocks p q
  brought_put s header put exact ring none = record {
    header = header;
    keeps = λ told. subst (λ (l : List Block). RecoversAll r.header (disk_on (other_side lead) p).held
        (recovered_run r.header (disk_on (other_side lead) p).held) l (disk_on (other_side lead) q).held) (is told)
        (let has = put told in record { kept = has.kept; run = has.run; next = has.next });
    exact = λ told. subst (λ (l : List Block). AddsExactly r.header l (disk_on (other_side lead) p).held (disk_on (other_side lead) q).held)
        (is told) (exact told);
    ring = ring;
    no_fault = no_fault_on lead p q lead_left.disk.faults none;
  }

-- further blocks change nothing of a moment
pub bringing_more : (h : Header) (lead : Side) (blocks more : List Block) (p : Pair) (m : PairMoment) → IsBringing h lead blocks p m
    → IsBringing h lead (blocks ++ more) p m
bringing_more h lead blocks more p m is = record {
  lead_image = is.lead_image;
  follower = keeps_more h (disk_on (other_side lead) p).held (image_on (other_side lead) m)
      (recovered_run h (disk_on (other_side lead) p).held) blocks more 0 is.follower;
}

-- after some blocks, and while further ones are brought
module _ (tells : Tells) (lead : Side) (r s : Ring) (blocks more : List Block) (start p q : Pair) (same : IsSameContent (disk_on lead start) (disk_on lead p))
    (brought : HasBrought tells lead r s blocks start p) (sound : IsSoundPair tells p) where
  bringing_on : (m : PairMoment) → IsTrue tells.bytes → IsBringing s.header lead more p m → IsBringing r.header lead (blocks ++ more) start m
  bringing_on m told is = record {
    lead_image = same.no_more (image_on lead m) is.lead_image;
    follower = keeps_on r.header (disk_on (other_side lead) start).held (disk_on (other_side lead) p).held (image_on (other_side lead) m)
        (recovered_run r.header (disk_on (other_side lead) start).held) blocks more 0 (brought.keeps told)
        (subst (λ (h : Header). RecoversPrefix h (disk_on (other_side lead) p).held (recovered_run h (disk_on (other_side lead) p).held) more 0
        (image_on (other_side lead) m)) brought.header is.follower);
  }

  pub brings_on : PairWork tells (IsBringing r.header lead blocks start) start p → PairWork tells (IsBringing s.header lead more p) p q
      → PairWork tells (IsBringing r.header lead (blocks ++ more) start) start q
  brings_on one two = work_then tells (IsBringing r.header lead blocks start) (IsBringing s.header lead more p)
      (IsBringing r.header lead (blocks ++ more) start) start p q sound one two
      (λ stops m is. bringing_more r.header lead blocks more start m is)
      (λ stops m is. bringing_on m ((sound.sides First).stops_need_bytes stops) is)

  pub brought_on : (t : Ring) → HasBrought tells lead s t more p q → HasBrought tells lead r t (blocks ++ more) start q
  brought_on t also = record {
    header = also.header ∙ brought.header;
    keeps = λ told. all_on r.header (disk_on (other_side lead) start).held (disk_on (other_side lead) p).held (disk_on (other_side lead) q).held
        (recovered_run r.header (disk_on (other_side lead) start).held) blocks more (brought.keeps told)
        (subst (λ (h : Header). RecoversAll h (disk_on (other_side lead) p).held (recovered_run h (disk_on (other_side lead) p).held) more
        (disk_on (other_side lead) q).held) brought.header (also.keeps told));
    exact = λ told. exact_on r.header blocks more (disk_on (other_side lead) start).held (disk_on (other_side lead) p).held
        (disk_on (other_side lead) q).held (brought.exact told)
        (subst (λ (h : Header). AddsExactly h more (disk_on (other_side lead) p).held (disk_on (other_side lead) q).held) brought.header (also.exact told));
    ring = also.ring;
    no_fault = no_fault_then start p q brought.no_fault also.no_fault;
  }

-- the lead is looked at, and then a block is put on the side that follows
module _ (tells : Tells) (lead : Side) (r : Ring) (blocks : List Block) (p mid q : Pair) (sound : IsSoundPair tells p)
    (settled : IsTrue tells.stops → IsSettled (seen (other_side lead) p)) (served : Serves tells lead (disk_on lead p).may_leave p mid)
    (same : IsSameContent (disk_on lead p) (disk_on lead mid)) where
  looked_bringing : (m : PairMoment) → IsBringing r.header lead blocks mid m → IsBringing r.header lead blocks p m
  looked_bringing m is = record {
    lead_image = same.no_more (image_on lead m) is.lead_image;
    follower = subst (λ (l : List ℕ). RecoversPrefix r.header l (recovered_run r.header l) blocks 0 (image_on (other_side lead) m))
        served.other.disk.held is.follower;
  }

  pub looks_then_brings : IsSoundPair tells mid → CountsBoth p mid → PairWork tells (IsBringing r.header lead blocks mid) mid q → PairWork tells
      (IsBringing r.header lead blocks p) p q
  looks_then_brings sound_mid counts work = work_then tells (IsBringing r.header lead blocks p) (IsBringing r.header lead blocks mid)
      (IsBringing r.header lead blocks p)
      p mid q sound_mid (brings_looked tells r.header lead blocks p mid sound settled served counts) work (λ stops m is. is)
      (λ stops m is. looked_bringing m is)

  pub looked_brought : (s : Ring) → (disk_on lead mid).faults ≡ (disk_on lead p).faults → HasBrought tells lead r s blocks mid q
      → HasBrought tells lead r s blocks p q
  looked_brought s none brought = record {
    header = brought.header;
    keeps = λ told. subst (λ (l : List ℕ). RecoversAll r.header l (recovered_run r.header l) blocks (disk_on (other_side lead) q).held)
        served.other.disk.held (brought.keeps told);
    exact = λ told. subst (λ (l : List ℕ). AddsExactly r.header blocks l (disk_on (other_side lead) q).held) served.other.disk.held (brought.exact told);
    ring = brought.ring;
    no_fault = no_fault_then p mid q (no_fault_on lead p mid none served.other.disk.faults) brought.no_fault;
  }

-- the block that was read is the one that the lead has with the ring's next number
pub read_block : (h : Header) (image : List ℕ) (r : Ring) (session : ℕ) (payload : List ℕ) → block_numbered h image r.next ≢ None
    → session ≡ session_at h image r.next → payload ≡ payload_at h image r.next
    → next_block r session payload ∷ [] ≡ blocks_between h image r.next (r.next + 1)
read_block h image r session payload there one two =
    block_read h image r.next session payload there one two
    ∙ ap (λ (l : List Block). l ++ cons_option (block_numbered h image r.next) []) (sym (between_none h image r.next r.next (omega arith)))
    ∙ sym (between_more h image r.next r.next (omega arith))

-- the same, of what was read by another header and number, which are those of the ring
pub block_of_read : (h : Header) (image : List ℕ) (r : Ring) (number len session : ℕ) (buf : List ℕ) → h ≡ r.header → number ≡ r.next
    → (len ≡ 0 → ⊥) → (len ≡ 0) ↔ (block_numbered h image number ≡ None) → session ≡ session_at h image number
    → take len buf ≡ payload_at h image number → next_block r session (take len buf) ∷ [] ≡ blocks_between r.header image r.next (r.next + 1)
block_of_read h image r number len session buf is_header is_number some none one two =
    let there : block_numbered h image number ≡ block_numbered r.header image r.next =
    ap (λ (k : Header). block_numbered k image number) is_header ∙ ap (block_numbered r.header image) is_number in
    read_block r.header image r session (take len buf) (λ gone. some (none.1 (there ∙ gone)))
    (one ∙ ap (λ (o : Option Block). session_of_slot o) there) (two ∙ ap (λ (o : Option Block). payload_of o) there)

-- the lead, while it is looked at and then a block is put on the other side
pub lead_kept : (tells : Tells) (lead side : Side) (P : List ℕ → Type 0) (p mid q : Pair) → side ≡ other_side lead
    → IsSameContent (disk_on lead p) (disk_on lead mid) → Serves tells side P mid q → IsSameContent (disk_on lead p) (disk_on lead q)
lead_kept tells lead side P p mid q is same served =
    content_then (disk_on lead p) (disk_on lead mid) (disk_on lead q) same (content_of (disk_on lead mid) (disk_on lead q)
    (subst (λ (s : Side). IsSameDisk (disk_on s mid) (disk_on s q)) (ap other_side is ∙ other_twice lead) served.other.disk))

-- the lead is looked at, and then a block is put on the side that follows
module _ (tells : Tells) (lead side : Side) (r : Ring) (session : ℕ) (bytes : List ℕ) (blocks : List Block) (p mid q : Pair) (sound : IsSoundPair tells p)
    (sound_mid : IsSoundPair tells mid) (is_side : side ≡ other_side lead) (ring : IsSettledRing tells (other_side lead) r p)
    (served : Serves tells lead (disk_on lead p).may_leave p mid) (same : IsSameContent (disk_on lead p) (disk_on lead mid))
    (is : IsTrue tells.bytes → next_block r session bytes ∷ [] ≡ blocks)
    (put : Serves tells side (OfSettled (seen side mid) (MayPut r.header (next_block r session bytes))) mid q) where
  put_there : Serves tells (other_side lead) (OfSettled (seen (other_side lead) mid) (MayPut r.header (next_block r session bytes))) mid q
  put_there = subst (λ (s : Side). Serves tells s (OfSettled (seen s mid) (MayPut r.header (next_block r session bytes))) mid q) is_side put

  ring_mid : IsSettledRing tells (other_side lead) r mid
  ring_mid = ring_left tells (other_side lead) r p mid served.other.disk ring

  pub put_work : CountsBoth p mid → CountsBoth mid q → PairWork tells (IsBringing r.header lead blocks p) p q
  put_work looked counts = looks_then_brings tells lead r blocks p mid q sound ring.settled served same sound_mid looked
      (brings_put tells lead r session bytes blocks mid q sound_mid ring_mid.settled is put_there counts)

  pub put_brought : (s : Ring) → s.header ≡ r.header
      → (IsTrue tells.bytes → HasPut r.header (next_block r session bytes) (disk_on side mid).held (disk_on side q).held)
      → (IsTrue tells.bytes → AddsExactly r.header (next_block r session bytes ∷ []) (disk_on side mid).held (disk_on side q).held)
      → IsSettledRing tells side s q → (disk_on side q).faults ≡ (disk_on side mid).faults → (disk_on lead mid).faults ≡ (disk_on lead p).faults
      → HasBrought tells lead r s blocks p q
  put_brought s header has exact settled none lead_none = looked_brought tells lead r blocks p mid q sound ring.settled served same s lead_none
      (brought_put tells lead r session bytes blocks mid q sound_mid ring_mid.settled is put_there s header
      (λ told. subst (λ (x : Side). HasPut r.header (next_block r session bytes) (disk_on x mid).held (disk_on x q).held) is_side (has told))
      (λ told. subst (λ (x : Side). AddsExactly r.header (next_block r session bytes ∷ []) (disk_on x mid).held (disk_on x q).held) is_side (exact told))
      (subst (λ (x : Side). IsSettledRing tells x s q) is_side settled)
      (subst (λ (x : Side). (disk_on x q).faults ≡ (disk_on x mid).faults) is_side none))

-- one block of those that are missing, of the number k
module _ (tells : Tells) (lead : Side) (r s : Ring) (k end : ℕ) (start p q : Pair) (sound : IsSoundPair tells p) (low : r.next ≤ k) (high : k < end)
    (is_end : IsTrue tells.bytes → end ≡ next_of r.header (disk_on lead start).held)
    (near : IsTrue tells.bytes → IsFarBehind r.header (disk_on lead start).held (disk_on (other_side lead) start).held → ⊥)
    (is_next : IsTrue tells.bytes → r.next ≡ next_of r.header (disk_on (other_side lead) start).held) (at : s.next ≡ k)
    (same : IsSameContent (disk_on lead start) (disk_on lead p))
    (brought : HasBrought tells lead r s (blocks_between r.header (disk_on lead start).held r.next k) start p) where
  limits : IsInLimits r.header
  limits = in_limits-is r.header r.limits

  lead_blocks : ℕ → ℕ → List Block
  lead_blocks from to = blocks_between r.header (disk_on lead start).held from to

  one_block : blocks_between s.header (disk_on lead p).held s.next (s.next + 1) ≡ blocks_between r.header (disk_on lead start).held k (k + 1)
  one_block =
      ap (λ (h : Header). blocks_between h (disk_on lead p).held s.next (s.next + 1)) brought.header
      ∙ ap (λ (l : List ℕ). blocks_between r.header l s.next (s.next + 1)) same.held
      ∙ ap (λ (n : ℕ). blocks_between r.header (disk_on lead start).held n (n + 1)) at

  so_far : blocks_between r.header (disk_on lead start).held r.next k ++ blocks_between s.header (disk_on lead p).held s.next (s.next + 1)
      ≡ blocks_between r.header (disk_on lead start).held r.next (k + 1)
  so_far =
      ap (λ (l : List Block). blocks_between r.header (disk_on lead start).held r.next k ++ l) one_block
      ∙ sym (between_split r.header (disk_on lead start).held r.next k (k + 1) low (omega arith))

  -- up to this block
  pub brings_next : PairWork tells (IsBringing r.header lead (blocks_between r.header (disk_on lead start).held r.next k) start) start p
      → PairWork tells (IsBringing s.header lead (blocks_between s.header (disk_on lead p).held s.next (s.next + 1)) p) p q
      → PairWork tells (IsBringing r.header lead (blocks_between r.header (disk_on lead start).held r.next (k + 1)) start) start q
  brings_next one two = subst (λ (l : List Block). PairWork tells (IsBringing r.header lead l start) start q) so_far
      (brings_on tells lead r s (blocks_between r.header (disk_on lead start).held r.next k)
      (blocks_between s.header (disk_on lead p).held s.next (s.next + 1)) start p q same brought sound one two)

  pub brought_next : (t : Ring) → HasBrought tells lead s t (blocks_between s.header (disk_on lead p).held s.next (s.next + 1)) p q
      → HasBrought tells lead r t (blocks_between r.header (disk_on lead start).held r.next (k + 1)) start q
  brought_next t also = subst (λ (l : List Block). HasBrought tells lead r t l start q) so_far
      (brought_on tells lead r s (blocks_between r.header (disk_on lead start).held r.next k)
      (blocks_between s.header (disk_on lead p).held s.next (s.next + 1)) start p q same brought sound t also)

  -- and of all of them
  missing : IsTrue tells.bytes → missing_blocks r.header (disk_on lead start).held (disk_on (other_side lead) start).held
      ≡ blocks_between r.header (disk_on lead start).held r.next (k + 1) ++ blocks_between r.header (disk_on lead start).held (k + 1) end
  missing told =
      missing_between r.header (disk_on lead start).held (disk_on (other_side lead) start).held r.next end limits (near told) (is_next told) (is_end told)
      ∙ between_split r.header (disk_on lead start).held r.next (k + 1) end (omega (arith, low)) (omega (arith, high))

  pub brings_missing : PairWork tells (IsBringing r.header lead (blocks_between r.header (disk_on lead start).held r.next k) start) start p
      → PairWork tells (IsBringing s.header lead (blocks_between s.header (disk_on lead p).held s.next (s.next + 1)) p) p q
      → PairWork tells (IsBringing r.header lead (missing_blocks r.header (disk_on lead start).held (disk_on (other_side lead) start).held) start) start q
  brings_missing one two = work_weaken tells (IsBringing r.header lead (blocks_between r.header (disk_on lead start).held r.next (k + 1)) start)
      (IsBringing r.header lead (missing_blocks r.header (disk_on lead start).held (disk_on (other_side lead) start).held) start) start q (brings_next one two)
      (λ stops m is. subst (λ (l : List Block). IsBringing r.header lead l start m) (sym (missing ((sound.sides First).stops_need_bytes stops)))
      (bringing_more r.header lead (blocks_between r.header (disk_on lead start).held r.next (k + 1))
      (blocks_between r.header (disk_on lead start).held (k + 1) end) start m is))

  -- the lead has this block
  pub found_there : IsTrue tells.bytes → block_numbered s.header (disk_on lead p).held s.next ≡ None → ⊥
  found_there told none =
      let low_enough : first_of r.header (disk_on lead start).held ≤ k = ⊎_elim
      (λ far. absurd (near told (omega (arith, far, low, is_next told)))) (λ is. is) (cases_lt k (first_of r.header (disk_on lead start).held)) in
      let there = in_run r.header (disk_on lead start).held k limits low_enough (omega (arith, high, is_end told)) in
      let moved : block_numbered s.header (disk_on lead p).held s.next ≡ block_numbered r.header (disk_on lead start).held k =
      ap (λ (h : Header). block_numbered h (disk_on lead p).held s.next) brought.header
      ∙ ap (λ (l : List ℕ). block_numbered r.header l s.next) same.held
      ∙ ap (block_numbered r.header (disk_on lead start).held) at in
      let some : Some there.0 ≡ None = sym there.1.1.1 ∙ sym moved ∙ none in
      absurd (cc)

-- all of the blocks that are missing
module _ (tells : Tells) (lead : Side) (r : Ring) (k end : ℕ) (start p : Pair) (sound : IsSoundPair tells p) (all : k - r.next ≡ end - r.next)
    (is_end : IsTrue tells.bytes → end ≡ next_of r.header (disk_on lead start).held)
    (near : IsTrue tells.bytes → IsFarBehind r.header (disk_on lead start).held (disk_on (other_side lead) start).held → ⊥)
    (is_next : IsTrue tells.bytes → r.next ≡ next_of r.header (disk_on (other_side lead) start).held) where
  all_missing : IsTrue tells.bytes → blocks_between r.header (disk_on lead start).held r.next k
      ≡ missing_blocks r.header (disk_on lead start).held (disk_on (other_side lead) start).held
  all_missing told =
      between_count r.header (disk_on lead start).held r.next k end all
      ∙ sym (missing_between r.header (disk_on lead start).held (disk_on (other_side lead) start).held r.next end (in_limits-is r.header r.limits)
      (near told) (is_next told) (is_end told))

  pub brings_all : PairWork tells (IsBringing r.header lead (blocks_between r.header (disk_on lead start).held r.next k) start) start p
      → PairWork tells (IsBringing r.header lead (missing_blocks r.header (disk_on lead start).held (disk_on (other_side lead) start).held) start) start p
  brings_all work = work_weaken tells (IsBringing r.header lead (blocks_between r.header (disk_on lead start).held r.next k) start)
      (IsBringing r.header lead (missing_blocks r.header (disk_on lead start).held (disk_on (other_side lead) start).held) start) start p work
      (λ stops m is. subst (λ (l : List Block). IsBringing r.header lead l start m) (all_missing ((sound.sides First).stops_need_bytes stops)) is)

  pub brought_all : (s : Ring) → HasBrought tells lead r s (blocks_between r.header (disk_on lead start).held r.next k) start p
      → HasBrought tells lead r s (missing_blocks r.header (disk_on lead start).held (disk_on (other_side lead) start).held) start p
  brought_all s brought = record {
    header = brought.header;
    keeps = λ told. subst (λ (l : List Block). RecoversAll r.header (disk_on (other_side lead) start).held
        (recovered_run r.header (disk_on (other_side lead) start).held) l (disk_on (other_side lead) p).held) (all_missing told) (brought.keeps told);
    exact = λ told. subst (λ (l : List Block). AddsExactly r.header l (disk_on (other_side lead) start).held (disk_on (other_side lead) p).held)
        (all_missing told) (brought.exact told);
    ring = brought.ring;
    no_fault = brought.no_fault;
  }

-- before the first of them
pub brought_none : (tells : Tells) (lead : Side) (r : Ring) (blocks : List Block) (start : Pair) → blocks ≡ [] → IsSettledRing tells (other_side lead) r start
    → HasBrought tells lead r r blocks start start
brought_none tells lead r blocks start none ring = record {
  header = refl;
  keeps = λ told. subst (λ (l : List Block). RecoversAll r.header (disk_on (other_side lead) start).held
      (recovered_run r.header (disk_on (other_side lead) start).held) l (disk_on (other_side lead) start).held) (sym none)
      (keeps_none r.header (disk_on (other_side lead) start).held);
  exact = λ told. subst (λ (l : List Block). AddsExactly r.header l (disk_on (other_side lead) start).held (disk_on (other_side lead) start).held)
      (sym none) (exact_none r.header (disk_on (other_side lead) start).held);
  ring = ring;
  no_fault = no_fault_here start;
}

-- the side that follows holds what it held with the ring s, whose next number is still below the lead's
pub behind_still : (tells : Tells) (lead : Side) (r s : Ring) (blocks : List Block) (k end : ℕ) (start p q : Pair) → HasBrought tells lead r s blocks start p
    → s.next ≡ k → k < end → (disk_on (other_side lead) q).held ≡ (disk_on (other_side lead) p).held → IsTrue tells.bytes
    → next_of r.header (disk_on (other_side lead) q).held < end
behind_still tells lead r s blocks k end start p q brought at high same told =
    let next : next_of r.header (disk_on (other_side lead) q).held ≡ s.next =
    ap (λ (l : List ℕ). next_of r.header l) same
    ∙ ap (λ (h : Header). next_of h (disk_on (other_side lead) p).held) (sym brought.header)
    ∙ sym (brought.ring.sure.ring.next told) in
    omega (arith, next, at, high)

-- the next block isn't found, once those before it were brought
pub brought_so_far : (tells : Tells) (lead : Side) (r s t : Ring) (blocks : ℕ → List Block) (n : ℕ) (start p q : Pair)
    → IsSameContent (disk_on lead start) (disk_on lead p) → HasBrought tells lead r s (blocks n) start p → IsSoundPair tells p
    → HasBrought tells lead s t [] p q → t.next ≡ n → HasBrought tells lead r t (blocks t.next) start q
brought_so_far tells lead r s t blocks n start p q same brought sound also number =
    subst (λ (k : ℕ). HasBrought tells lead r t (blocks k) start q) (sym number)
    (subst (λ (l : List Block). HasBrought tells lead r t l start q) (append-nil (blocks n))
    (brought_on tells lead r s (blocks n) [] start p q same brought sound t also))

-- the lead was looked at, and nothing was brought
pub brought_looked : (tells : Tells) (lead : Side) (r : Ring) (p mid : Pair) → IsSoundPair tells p → IsSettledRing tells (other_side lead) r p
    → Serves tells lead (disk_on lead p).may_leave p mid → IsSameContent (disk_on lead p) (disk_on lead mid)
    → (disk_on lead mid).faults ≡ (disk_on lead p).faults → HasBrought tells lead r r [] p mid
brought_looked tells lead r p mid sound ring served same none =
    looked_brought tells lead r [] p mid mid sound ring.settled served same r none
    (brought_none tells lead r [] mid refl (ring_left tells (other_side lead) r p mid served.other.disk ring))
