-- A side, over the calls that record a block.
use Rattle.std.proofs.lemmas.List.{append-nil}
use Rattle.std.proofs.Common.{◌≡◌, inl, inr, ⊎_elim, ℕ, ◌+◌, ◌-◌, ◌≤◌, append_assoc, List, [], ◌∷◌, ◌++◌, length, refl, sym, ◌∙◌, ap, subst, arith}
use Rattle.std.proofs.Common.{length-append, Option, Some, None}
use Rattle.std.specs.Prelude.{IsTrue}
use Rattle.fdr_io.specs.Faults.{Rose}
use Rattle.fdr_deck.specs.State.{Tells}
use Rattle.fdr_slot.specs.declared.image.Header.{Header}
use Rattle.fdr_recover.specs.Blocks.{Block}
use Rattle.fdr_recover.specs.Images.{recovered_run, next_of}
use Rattle.fdr_ring.specs.Runs.{last_blocks}
use Rattle.fdr_ring.specs.declared.ring.Ring.{Ring}
use Rattle.fdr_twin.specs.declared.side.Side.{Side}
use Rattle.fdr_twin.specs.Pair.{Pair, PairMoment, disk_on, image_on, seen}
use Rattle.fdr_twin.specs.Same.{IsSameDisk}
use Rattle.fdr_twin.specs.Rest.{PairElapses, LeavesSide}
use Rattle.fdr_twin.specs.Sound.{IsSoundPair}
use Rattle.fdr_twin.specs.Serving.{EachPairMoment}
use Rattle.fdr_twin.specs.RestSound.{LeavesSide-here}
use Rattle.fdr_twin.proofs.Serves.{other_left}
use Rattle.fdr_pair.proofs.Servings.{now_told}
use Rattle.fdr_pair.specs.Putting.{AddsExactly, HasPut, MayPut}
use Rattle.fdr_pair.proofs.Sides.{IsSureRing-same, settled_on}
use Rattle.fdr_recorder.specs.Keeping.{RecoversPrefix, RecoversAll}
use Rattle.fdr_pair.specs.SidePuts.{next_block, IsSettledRing, PutOwn}
use Rattle.fdr_pair.specs.Announcing.{PairAnnounces}
use Rattle.fdr_pair.specs.Living.{IsReadyRing, IsReadyFor, SideMoment, HasGoneOn, GoesOn}
use Rattle.fdr_recorder.proofs.Steps.{keeps_none, keeps_run, keeps_on, all_on, same_run}

-- Calls, at each of whose moments this holds: so it does over both stretches.
pub on : (tells : Tells) (P : PairMoment → Type 0) (start p q : Pair) → PairElapses start p → PairElapses p q → EachPairMoment tells start p P
    → EachPairMoment tells p q P → EachPairMoment tells start q P
on tells P start p q before time was is stops m since =
    ⊎_elim (λ early. was stops m early) (λ late. is stops m late) (time.no_more start.clock m before.later since)

-- a moment from before is one since the start
pub known : (tells : Tells) (P : PairMoment → Type 0) (start p : Pair) → IsSoundPair tells p → PairElapses start p → EachPairMoment tells start p P
    → EachPairMoment tells p p P
known tells P start p sound before was stops m since = was stops m (sound.falls start.clock p.clock m before.later (omega arith) since)

-- the settled ring of a side whose disk is as it was
pub ring_left : (tells : Tells) (side : Side) (r : Ring) (p q : Pair) → IsSameDisk (disk_on side p) (disk_on side q) → IsSettledRing tells side r p
    → IsSettledRing tells side r q
ring_left tells side r p q same ring = record {
  sure = IsSureRing-same tells r.header r.next (seen side p) (seen side q) same.extent same.held same.no_more ring.sure;
  settled = λ stops. settled_on p q side same (ring.settled stops);
}

-- what is left of a settled disk, whose blocks stand
pub stands : (h : Header) (entry held image : List ℕ) (done more : List Block) (told : ℕ) → image ≡ held
    → RecoversAll h entry (recovered_run h entry) done held → told ≤ next_of h held → RecoversPrefix h entry (recovered_run h entry) (done ++ more) told image
stands h entry held image done more told same all le =
    subst (λ (l : List ℕ). RecoversPrefix h entry (recovered_run h entry) (done ++ more) told l) (sym same)
    (keeps_on h entry held held (recovered_run h entry) done more told all (keeps_run h held held more told (same_run h held) le))

-- the block was put, or it wasn't
pub may_stand : (h : Header) (b : Block) (entry held image : List ℕ) (done : List Block) (told : ℕ) → MayPut h b held image
    → RecoversAll h entry (recovered_run h entry) done held → told ≤ next_of h held
    → RecoversPrefix h entry (recovered_run h entry) (done ++ b ∷ []) told image
may_stand h b entry held image done told may all le = keeps_on h entry held image (recovered_run h entry) done (b ∷ []) told all (⊎_elim
    (λ keeps. keeps_run h held image (b ∷ []) told keeps le)
    (λ put. record { kept = put.kept; count = 1; fits = omega arith; run = put.run; next = put.next; announced = omega (arith, put.next, le) })
    may)

-- the number that the blocks end at, on a disk that tells its bytes
ends_at : (tells : Tells) (side : Side) (r s : Ring) (number session : ℕ) (bytes : List ℕ) (done : List Block) (start p : Pair)
    → IsReadyRing tells side r number session bytes start
    → HasGoneOn tells side r s done start p → IsTrue tells.bytes → next_of r.header (disk_on side p).held ≡ number + length done
ends_at tells side r s number session bytes done start p ready gone told =
    omega (arith, (gone.keeps told).next, ready.ring.sure.ring.next told, ready.next)

-- no block is added
pub exact_none : (h : Header) (image : List ℕ) → AddsExactly h [] image image
exact_none h image whole is = is ∙ ap (λ (l : List Block). last_blocks (h.slots - 1) l) (sym (append-nil whole))

-- blocks are added, and then others
pub exact_on : (h : Header) (new more : List Block) (entry held image : List ℕ) → AddsExactly h new entry held → AddsExactly h more held image
    → AddsExactly h (new ++ more) entry image
exact_on h new more entry held image one two whole is =
    two (whole ++ new) (one whole is) ∙ ap (λ (l : List Block). last_blocks (h.slots - 1) l) (append_assoc whole new more)

-- the blocks so far, and those to come
module _ (tells : Tells) (side : Side) (number session : ℕ) (bytes : List ℕ) (new done : List Block) (start p q : Pair) (sound : IsSoundPair tells p)
    (before : PairElapses start p) (time : PairElapses p q) where
  -- while the other side is served
  pub going_away : (first o : Option Ring) (more : List Block) → new ≡ done ++ more → LeavesSide side p q
      → (start.greatest ≤ number → EachPairMoment tells p q (λ m. m.announced ≤ number + length done)) → IsReadyFor tells side first number session bytes start
      → GoesOn tells side first number new done start o p → GoesOn tells side first number new done start o q
  going_away None None more is leaves told ready going = record {
    moments = λ few. on tells (SideMoment side None new start) start p q before time (going.moments few)
        (λ stops m since. ⊎_elim (λ now. known tells (SideMoment side None new start) start p sound before (going.moments few) stops m now)
        (λ stays. inr (stays.faults ∙ going.now)) (leaves.moments m since));
    now = leaves.disk.faults ∙ going.now;
  }
  going_away None (Some s) more is leaves told ready going = absurd going.now
  going_away (Some r) None more is leaves told ready going = record {
    moments = λ few. on tells (SideMoment side (Some r) new start) start p q before time (going.moments few)
        (λ stops m since. ⊎_elim (λ now. known tells (SideMoment side (Some r) new start) start p sound before (going.moments few) stops m now)
        (λ stays. inl (subst (λ (n : ℕ). Rose (disk_on side start).faults n) (sym stays.faults) going.now)) (leaves.moments m since));
    now = subst (λ (n : ℕ). Rose (disk_on side start).faults n) (sym leaves.disk.faults) going.now;
  }
  going_away (Some r) (Some s) more is leaves told ready going = record {
    moments = λ few. on tells (SideMoment side (Some r) new start) start p q before time (going.moments few)
        (λ stops m since.
        let tells_bytes = (sound.sides side).stops_need_bytes stops in
        let image = other_left tells side p q sound leaves stops m since in
        inr (subst (λ (l : List Block). RecoversPrefix r.header (disk_on side start).held (recovered_run r.header (disk_on side start).held) l m.announced
        (image_on side m)) (sym is)
        (stands r.header (disk_on side start).held (disk_on side p).held (image_on side m) done more m.announced
        (going.now.ring.settled stops (image_on side m) image) (going.now.keeps tells_bytes)
        (let most = told few stops m since in omega (arith, most, ends_at tells side r s number session bytes done start p ready going.now tells_bytes)))));
    now = record {
      header = going.now.header;
      next = going.now.next;
      faults = omega (arith, going.now.faults, leaves.disk.faults);
      keeps = λ told. subst (λ (l : List ℕ). RecoversAll r.header (disk_on side start).held (recovered_run r.header (disk_on side start).held) done l)
          (sym leaves.disk.held) (going.now.keeps told);
      exact = λ told. subst (λ (l : List ℕ). AddsExactly r.header done (disk_on side start).held l) (sym leaves.disk.held) (going.now.exact told);
      ring = ring_left tells side s p q leaves.disk going.now.ring;
    };
  }

  -- the next block of the ring
  same_block : (r s : Ring) (b : Block) → b ≡ record { number = number + length done; session = session; payload = bytes }
      → IsReadyRing tells side r number session bytes start
      → HasGoneOn tells side r s done start p → next_block s session bytes ≡ b
  same_block r s b block ready gone =
      let at : s.next ≡ number + length done = omega (arith, gone.next, ready.next) in
      ap (λ (n : ℕ). let x : Block = record { number = n; session = session; payload = bytes } in x) at ∙ sym block

  kept_put : (r s : Ring) (b : Block) → new ≡ done ++ b ∷ [] → b ≡ record { number = number + length done; session = session; payload = bytes }
      → EachPairMoment tells p q (λ m. MayPut s.header (next_block s session bytes) (disk_on side p).held (image_on side m))
      → EachPairMoment tells p q (λ m. m.announced ≤ number + length done) → IsReadyRing tells side r number session bytes start
      → HasGoneOn tells side r s done start p → EachPairMoment tells p q (SideMoment side (Some r) new start)
  kept_put r s b is block own told ready gone stops m since =
      let tells_bytes = (sound.sides side).stops_need_bytes stops in
      let may : MayPut r.header b (disk_on side p).held (image_on side m) =
      subst (λ (x : Block). MayPut r.header x (disk_on side p).held (image_on side m)) (same_block r s b block ready gone)
      (subst (λ (h : Header). MayPut h (next_block s session bytes) (disk_on side p).held (image_on side m)) gone.header (own stops m since)) in
      inr (subst (λ (l : List Block). RecoversPrefix r.header (disk_on side start).held (recovered_run r.header (disk_on side start).held) l m.announced
      (image_on side m)) (sym is)
      (may_stand r.header b (disk_on side start).held (disk_on side p).held (image_on side m) done m.announced may (gone.keeps tells_bytes)
      (omega (arith, told stops m since, ends_at tells side r s number session bytes done start p ready gone tells_bytes))))

  -- while it is served itself
  pub going_put : (first o o' : Option Ring) (b : Block) → new ≡ done ++ b ∷ []
      → b ≡ record { number = number + length done; session = session; payload = bytes }
      → PutOwn tells side o o' session bytes p q
      → (start.greatest ≤ number → EachPairMoment tells p q (λ m. m.announced ≤ number + length done)) → IsReadyFor tells side first number session bytes start
      → GoesOn tells side first number new done start o p → GoesOn tells side first number new (done ++ b ∷ []) start o' q
  going_put None None None b is block own told ready going = record {
    moments = λ few. on tells (SideMoment side None new start) start p q before time (going.moments few)
        (λ stops m since. known tells (SideMoment side None new start) start p sound before (going.moments few) stops m (own.moments stops m since));
    now = own.faults ∙ going.now;
  }
  going_put None None (Some t) b is block own told ready going = absurd own
  going_put None (Some s) o' b is block own told ready going = absurd going.now
  going_put (Some r) None None b is block own told ready going = record {
    moments = λ few. on tells (SideMoment side (Some r) new start) start p q before time (going.moments few)
        (λ stops m since. known tells (SideMoment side (Some r) new start) start p sound before (going.moments few) stops m (own.moments stops m since));
    now = subst (λ (n : ℕ). Rose (disk_on side start).faults n) (sym own.faults) going.now;
  }
  going_put (Some r) None (Some t) b is block own told ready going = absurd own
  going_put (Some r) (Some s) None b is block own told ready going = record {
    moments = λ few. on tells (SideMoment side (Some r) new start) start p q before time (going.moments few)
        (kept_put r s b is block own.moments (told few) ready going.now);
    now = omega (arith, own.faults, going.now.faults);
  }
  going_put (Some r) (Some s) (Some t) b is block own told ready going = record {
    moments = λ few. on tells (SideMoment side (Some r) new start) start p q before time (going.moments few)
        (kept_put r s b is block own.moments (told few) ready going.now);
    now = record {
      header = own.header ∙ going.now.header;
      next = omega (arith, own.next, going.now.next, length-append done (b ∷ []));
      faults = omega (arith, own.faults, going.now.faults);
      keeps = λ tells_bytes.
          let put : HasPut r.header b (disk_on side p).held (disk_on side q).held =
          subst (λ (x : Block). HasPut r.header x (disk_on side p).held (disk_on side q).held) (same_block r s b block ready going.now)
          (subst (λ (h : Header). HasPut h (next_block s session bytes) (disk_on side p).held (disk_on side q).held) going.now.header (own.put tells_bytes)) in
          all_on r.header (disk_on side start).held (disk_on side p).held (disk_on side q).held
          (recovered_run r.header (disk_on side start).held) done (b ∷ []) (going.now.keeps tells_bytes)
          (record { kept = put.kept; run = put.run; next = put.next });
      exact = λ tells_bytes.
          let put : AddsExactly r.header (b ∷ []) (disk_on side p).held (disk_on side q).held =
          subst (λ (x : Block). AddsExactly r.header (x ∷ []) (disk_on side p).held (disk_on side q).held) (same_block r s b block ready going.now)
          (subst (λ (h : Header). AddsExactly h (next_block s session bytes ∷ []) (disk_on side p).held (disk_on side q).held) going.now.header
          (own.exact tells_bytes)) in
          exact_on r.header done (b ∷ []) (disk_on side start).held (disk_on side p).held (disk_on side q).held (going.now.exact tells_bytes) put;
      ring = own.ring;
    };
  }

  -- while a number is announced, no greater than the one that the blocks end at
  pub going_told : (first : Option Ring) (s : Ring) (count : ℕ) (more : List Block) → new ≡ done ++ more → PairAnnounces tells side count p q
      → (start.greatest ≤ number → p.greatest ≤ number + length done)
      → count ≤ number + length done → IsReadyFor tells side first number session bytes start
      → GoesOn tells side first number new done start (Some s) p → GoesOn tells side first number new done start (Some s) q
  going_told None s count more is tell greatest le ready going = absurd going.now
  going_told (Some r) s count more is tell greatest le ready going = record {
    moments = λ few. on tells (SideMoment side (Some r) new start) start p q before time (going.moments few)
        (λ stops m since.
        let tells_bytes = (sound.sides side).stops_need_bytes stops in
        let at = tell.moments stops m since in
        inr (subst (λ (l : List Block). RecoversPrefix r.header (disk_on side start).held (recovered_run r.header (disk_on side start).held) l m.announced
        (image_on side m)) (sym is)
        (stands r.header (disk_on side start).held (disk_on side p).held (image_on side m) done more m.announced
        (going.now.ring.settled stops (image_on side m) at.image) (going.now.keeps tells_bytes)
        (let most = greatest few in
        omega (arith, at.announced, most, le, ends_at tells side r s number session bytes done start p ready going.now tells_bytes)))));
    now = record {
      header = going.now.header;
      next = going.now.next;
      faults = omega (arith, going.now.faults, tell.own.faults);
      keeps = λ told. subst (λ (l : List ℕ). RecoversAll r.header (disk_on side start).held (recovered_run r.header (disk_on side start).held) done l)
          (sym tell.own.held) (going.now.keeps told);
      exact = λ told. subst (λ (l : List ℕ). AddsExactly r.header done (disk_on side start).held l) (sym tell.own.held) (going.now.exact told);
      ring = ring_left tells side s p q tell.own going.now.ring;
    };
  }

-- before the first block
pub going_none : (tells : Tells) (side : Side) (number session : ℕ) (bytes : List ℕ) (new : List Block) (start : Pair) (first : Option Ring)
    → IsSoundPair tells start
    → IsReadyFor tells side first number session bytes start → GoesOn tells side first number new [] start first start
going_none tells side number session bytes new start None sound ready = record { moments = λ few stops m since. inl since; now = refl }
going_none tells side number session bytes new start (Some r) sound ready = record {
  moments = λ few stops m since.
      let tells_bytes = (sound.sides side).stops_need_bytes stops in
      let here = LeavesSide-here side start in
      inr (stands r.header (disk_on side start).held (disk_on side start).held (image_on side m) [] new m.announced
      (ready.ring.settled stops (image_on side m) (other_left tells side start start sound here stops m since)) (keeps_none r.header (disk_on side start).held)
      (omega (arith, now_told tells side start sound stops m since, few, ready.ring.sure.ring.next tells_bytes, ready.next)));
  now = record {
    header = refl;
    next = omega arith;
    faults = omega arith;
    keeps = λ told. keeps_none r.header (disk_on side start).held;
    exact = λ told. exact_none r.header (disk_on side start).held;
    ring = ready.ring;
  };
}
