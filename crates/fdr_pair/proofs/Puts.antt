-- A block that is prepared and committed.
use Rattle.std.proofs.Common.{◌≡◌, ◌≤◌, ◌++◌, ap, inl, inr, ⊎_elim, ℕ, ◌-◌, List, [], ◌∷◌, sym, ◌∙◌, subst, arith}
use Rattle.std.proofs.Common.{Some}
use Rattle.std.specs.Prelude.{IsTrue}
use Rattle.fdr_deck.specs.State.{State, Tells}
use Rattle.fdr_deck.specs.Disk.{IsSettled}
use Rattle.fdr_deck.specs.Moments.{IsSoundDeck}
use Rattle.fdr_deck.specs.Calls.{IsDiskWork}
use Rattle.fdr_deck.proofs.Quiet.{IsDiskWork-weaken, IsDiskWork-then}
use Rattle.fdr_slot.specs.declared.image.Header.{Header}
use Rattle.fdr_recover.specs.Blocks.{Block}
use Rattle.fdr_recover.specs.Images.{recovered_run}
use Rattle.fdr_ring.specs.Gates.{waiting_block}
use Rattle.fdr_ring.specs.Runs.{IsTail, KeepsRun, HasSame, HasAdded, last_blocks}
use Rattle.fdr_ring.specs.Rings.{IsPreparing, IsCommitting, OfSettled}
use Rattle.fdr_ring.proofs.Turning.{KeepsHeader-then}
use Rattle.fdr_recorder.proofs.Steps.{last_one_more, tail_on, tail_same}
use Rattle.fdr_pair.specs.Putting.{AddsExactly, HasPut, MayPut}

-- the block is added to the run that a prepared block left
pub has_put : (h : Header) (b : Block) (entry middle image : List ℕ) → KeepsRun h (h.slots - 2) entry middle → HasAdded h b middle image
    → HasPut h b entry image
has_put h b entry middle image keeps added = record {
  kept = KeepsHeader-then entry middle image keeps.kept added.kept;
  run = tail_on (h.slots - 2) (recovered_run h entry) (recovered_run h middle) (b ∷ []) (recovered_run h image) keeps.run
      (subst (λ (l : List Block). IsTail (h.slots - 2) l (recovered_run h image)) added.run (tail_same (h.slots - 2) (recovered_run h image)));
  next = omega (arith, keeps.next, added.next);
}

keeps_same : (h : Header) (entry middle image : List ℕ) → KeepsRun h (h.slots - 2) entry middle → HasSame h middle image
    → KeepsRun h (h.slots - 2) entry image
keeps_same h entry middle image keeps same = record {
  kept = KeepsHeader-then entry middle image keeps.kept same.kept;
  run = subst (λ (l : List Block). IsTail (h.slots - 2) (recovered_run h entry) l) (sym same.run) keeps.run;
  next = same.next ∙ keeps.next;
}

-- while it is prepared
pub quiet_prepared : (tells : Tells) (h : Header) (next size : ℕ) (b : Block) (d0 d1 : State)
    → IsDiskWork tells (OfSettled d0 (IsPreparing h next size)) d0 d1 → IsDiskWork tells (OfSettled d0 (MayPut h b)) d0 d1
quiet_prepared tells h next size b d0 d1 quiet =
    IsDiskWork-weaken tells (OfSettled d0 (IsPreparing h next size)) (OfSettled d0 (MayPut h b)) d0 d1 quiet (λ stops image p settled. inl (p settled).run)

-- while it is prepared and committed
pub quiet_put : (tells : Tells) (h : Header) (next size : ℕ) (b : Block) (d0 d1 d2 : State) → IsSoundDeck tells d0
    → IsDiskWork tells (OfSettled d0 (IsPreparing h next size)) d0 d1 → (IsTrue tells.bytes → IsPreparing h next size d0.held d1.held)
    → (IsTrue tells.bytes → waiting_block h d1.held next ≡ Some b) → (IsTrue tells.stops → IsSettled d1)
    → IsDiskWork tells (OfSettled d1 (IsCommitting h next)) d1 d2 → IsDiskWork tells (OfSettled d0 (MayPut h b)) d0 d2
quiet_put tells h next size b d0 d1 d2 sound one keeps waits settled two =
    IsDiskWork-then tells (OfSettled d0 (IsPreparing h next size)) (OfSettled d1 (IsCommitting h next)) (OfSettled d0 (MayPut h b)) d0 d1 d2 sound one two
    (λ stops image p before. inl (p before).run)
    (λ stops image q before.
    let bytes = sound.stops_need_bytes stops in
    ⊎_elim
    (λ same. inl (keeps_same h d0.held d1.held image (keeps bytes).run same))
    (λ added. inr (has_put h b d0.held d1.held image (keeps bytes).run added))
    ((q (settled stops)).run b (waits bytes)))

-- the same, where the prepared block has its own header and number, which are those of the ring
pub quiet_put_by : (tells : Tells) (h k : Header) (next number size : ℕ) (b : Block) (d0 d1 d2 : State) → IsSoundDeck tells d0
    → IsDiskWork tells (OfSettled d0 (IsPreparing h next size)) d0 d1 → (IsTrue tells.bytes → IsPreparing h next size d0.held d1.held)
    → (IsTrue tells.bytes → waiting_block h d1.held next ≡ Some b) → (IsTrue tells.stops → IsSettled d1) → k ≡ h → number ≡ next
    → IsDiskWork tells (OfSettled d1 (IsCommitting k number)) d1 d2 → IsDiskWork tells (OfSettled d0 (MayPut h b)) d0 d2
quiet_put_by tells h k next number size b d0 d1 d2 sound one keeps waits settled header is two =
    quiet_put tells h next size b d0 d1 d2 sound one keeps waits settled
    (subst (λ (n : ℕ). IsDiskWork tells (OfSettled d1 (IsCommitting h n)) d1 d2) is
    (subst (λ (x : Header). IsDiskWork tells (OfSettled d1 (IsCommitting x number)) d1 d2) header two))

pub put_by : (h k : Header) (next number : ℕ) (b : Block) (entry middle image : List ℕ) → KeepsRun h (h.slots - 2) entry middle
    → waiting_block h middle next ≡ Some b → k ≡ h → number ≡ next
    → ((a : Block) → waiting_block k middle number ≡ Some a → HasAdded k a middle image) → HasPut h b entry image
put_by h k next number b entry middle image keeps waits header is added =
    let waits_by : waiting_block k middle number ≡ Some b = subst (λ (n : ℕ). waiting_block k middle n ≡ Some b) (sym is)
    (subst (λ (x : Header). waiting_block x middle next ≡ Some b) (sym header) waits) in
    has_put h b entry middle image keeps (subst (λ (x : Header). HasAdded x b middle image) header (added b waits_by))

-- the run is the last N - 1 blocks again
pub exact_by : (h k : Header) (next number : ℕ) (b : Block) (entry middle image : List ℕ)
    → recovered_run h middle ≡ last_blocks (h.slots - 2) (recovered_run h entry)
    → waiting_block h middle next ≡ Some b → k ≡ h → number ≡ next
    → ((a : Block) → waiting_block k middle number ≡ Some a → HasAdded k a middle image) → 4 ≤ h.slots → AddsExactly h (b ∷ []) entry image
exact_by h k next number b entry middle image run waits header is added four whole begins =
    let waits_by : waiting_block k middle number ≡ Some b = subst (λ (n : ℕ). waiting_block k middle n ≡ Some b) (sym is)
    (subst (λ (x : Header). waiting_block x middle next ≡ Some b) (sym header) waits) in
    let has : HasAdded h b middle image = subst (λ (x : Header). HasAdded x b middle image) header (added b waits_by) in
    has.run ∙ ap (λ (l : List Block). l ++ b ∷ []) run ∙ last_one_more h.slots whole (recovered_run h entry) b (omega (arith, four)) begins
