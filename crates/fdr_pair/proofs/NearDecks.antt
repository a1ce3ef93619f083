-- A block that is put on a disk is at most one ahead of what is announced.
use Rattle.std.proofs.Common.{◌≡◌, ⊎_elim, ℕ, ◌+◌, ◌≤◌, List, refl, subst, arith, Some}
use Rattle.std.specs.Prelude.{IsTrue, max}
use Rattle.fdr_deck.specs.State.{Moment, State, Tells}
use Rattle.fdr_deck.specs.Disk.{IsSettled}
use Rattle.fdr_deck.specs.Moments.{Elapses, IsSoundDeck}
use Rattle.fdr_deck.specs.Calls.{IsDiskWork, Succeeds}
use Rattle.fdr_deck.proofs.Moments.{EachMoment-then, KeepsAnnounced-least}
use Rattle.fdr_slot.specs.declared.image.Header.{Header}
use Rattle.fdr_recover.specs.Blocks.{Block}
use Rattle.fdr_recover.specs.Images.{next_of}
use Rattle.fdr_ring.specs.Gates.{waiting_block}
use Rattle.fdr_ring.specs.Runs.{HasAdded, HasSame}
use Rattle.fdr_ring.specs.Rings.{IsCommitting, IsPreparing, IsRing, OfSettled}
use Rattle.fdr_recorder.specs.Recording.{IsClose}
use Rattle.fdr_pair.specs.Ahead.{IsNearNow, StaysNear}

module _ (tells : Tells) (h : Header) (P : List ℕ → Type 0) (d0 d1 : State) (sound : IsSoundDeck tells d0) (sound1 : IsSoundDeck tells d1)
    (work : IsDiskWork tells P d0 d1) where
  -- an image that a stop may leave after calls is that of one of their moments
  left_image : IsTrue tells.stops → (image : List ℕ) → d1.may_leave image → P image
  left_image stops image leaves =
      let shown : Moment = record { image = image; announced = d1.announced; taken = d1.taken; pulled_before = d1.pulled_before } in
      (work.moments stops shown (sound1.falls stops d0.clock d1.clock shown work.passes.time.later (omega arith)
      (sound1.counts_now stops shown leaves refl (record { taken = refl; pulled_before = refl })))).image

  -- calls of the disk, of whose images this is known
  near_work : ((mark : ℕ) → IsTrue tells.stops → IsNearNow h mark d0 → (image : List ℕ) → P image → next_of h image ≤ max mark d0.least + 1)
      → StaysNear tells h d0 d1
  near_work holds = record {
    moments = λ mark near stops m since.
        let at = work.moments stops m since in
        let few = holds mark stops near m.image at.image in
        omega (arith, few, at.least);
    now = λ stops mark near image leaves.
        let few = holds mark stops near image (left_image stops image leaves) in
        let low = KeepsAnnounced-least tells d0 d1 sound work.passes.announced in
        omega (arith, few, low);
  }

-- calls, and then others
near_then : (tells : Tells) (h : Header) (d0 d1 d2 : State) → Elapses tells d0 d1 → Elapses tells d1 d2 → StaysNear tells h d0 d1 → StaysNear tells h d1 d2
    → StaysNear tells h d0 d2
near_then tells h d0 d1 d2 time time2 one two = record {
  moments = λ mark near stops m since.
      EachMoment-then tells d0 d1 d2 (IsClose h mark) time time2 (one.moments mark near) (two.moments mark (one.now stops mark near)) stops m since;
  now = λ stops mark near. two.now stops mark (one.now stops mark near);
}

-- a block is prepared, which changes no number
pub near_prepared : (tells : Tells) (h : Header) (next size : ℕ) (d0 d1 : State) → IsSoundDeck tells d0 → IsSoundDeck tells d1
    → (IsTrue tells.stops → IsSettled d0) → IsDiskWork tells (OfSettled d0 (IsPreparing h next size)) d0 d1 → StaysNear tells h d0 d1
near_prepared tells h next size d0 d1 sound sound1 settled work = near_work tells h (OfSettled d0 (IsPreparing h next size)) d0 d1 sound sound1 work
    (λ mark stops near image left.
    let at = near d0.held (sound.held stops) in
    let same = (left (settled stops)).run.next in
    omega (arith, at, same))

-- it is committed once the number before it is the only one that is told
pub near_put : (tells : Tells) (h k : Header) (next number size : ℕ) (b : Block) (d0 d1 d2 : State) → IsSoundDeck tells d0 → IsSoundDeck tells d1
    → IsSoundDeck tells d2 → (IsTrue tells.stops → IsSettled d0) → IsRing tells h next d0 → d0.announced ≡ next
    → IsDiskWork tells (OfSettled d0 (IsPreparing h next size)) d0 d1 → (IsTrue tells.bytes → IsPreparing h next size d0.held d1.held)
    → (IsTrue tells.bytes → waiting_block h d1.held next ≡ Some b) → (IsTrue tells.stops → IsSettled d1) → Succeeds d0 d1 → k ≡ h → number ≡ next
    → IsDiskWork tells (OfSettled d1 (IsCommitting k number)) d1 d2 → StaysNear tells h d0 d2
near_put tells h k next number size b d0 d1 d2 sound sound1 sound2 settled ring told work keeps waits settled1 succeeds header is work2 =
    near_then tells h d0 d1 d2 work.passes.time work2.passes.time (near_prepared tells h next size d0 d1 sound sound1 settled work)
    (near_work tells h (OfSettled d1 (IsCommitting k number)) d1 d2 sound1 sound2 work2
    (λ mark stops near image left.
    let bytes = sound.stops_need_bytes stops in
    let begins = ring.next bytes in
    let same = (keeps bytes).run.next in
    let at = work.passes.announced.announced in
    let one = succeeds.fresh.least in
    let may : IsCommitting h next d1.held image =
    subst (λ (n : ℕ). IsCommitting h n d1.held image) is (subst (λ (x : Header). IsCommitting x number d1.held image) header (left (settled1 stops))) in
    ⊎_elim {C = next_of h image ≤ max mark d1.least + 1}
    (λ (kept : HasSame h d1.held image). let k = kept.next in omega (arith, k, same, begins, told, at, one))
    (λ (added : HasAdded h b d1.held image). let k = added.next in omega (arith, k, same, begins, told, at, one))
    (may.run b (waits bytes))))
