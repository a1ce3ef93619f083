-- The ring after a block that has come.
use Rattle.std.proofs.Common.{◌≡◌, ℕ, ◌+◌, ◌%◌, ◌≤◌, List, length}
use Rattle.std.proofs.Common.{Some, sym, ap, ◌∙◌, subst, arith}
use Rattle.std.specs.Prelude.{IsTrue, slice_index}
use Rattle.fdr_deck.specs.State.{State, Tells}
use Rattle.fdr_deck.specs.Disk.{Torn, IsSettled}
use Rattle.fdr_deck.specs.Moments.{IsSoundDeck}
use Rattle.fdr_deck.specs.Calls.{IsDiskWork}
use Rattle.fdr_deck.proofs.Quiet.{IsDiskWork-weaken}
use Rattle.fdr_slot.specs.declared.image.Header.{Header}
use Rattle.fdr_slot.specs.Limits.{IsInLimits}
use Rattle.fdr_slot.specs.Places.{slot_size, image_size, gate_at}
use Rattle.fdr_recover.specs.Blocks.{Block}
use Rattle.fdr_recover.specs.Images.{next_of}
use Rattle.fdr_ring.specs.Gates.{IsClosed, image_with_open_gate, waiting_block}
use Rattle.fdr_ring.specs.Runs.{HasAdded}
use Rattle.fdr_ring.specs.Rings.{IsSureRing, IsPrepared, IsCommitting, OfSettled}
use Rattle.fdr_ring.proofs.Bytes.{patched_byte}
use Rattle.fdr_ring.proofs.Turning.{gate_within, commit_image, opened_torn, opened_image, next_slot, other_gate}
use Rattle.fdr_lists.proofs.Options.{some_is}

-- the waiting block has come after the run
pub committed : (h : Header) (number : ℕ) (b : Block) (old new : List ℕ) → IsInLimits h → number ≡ next_of h old
    → IsClosed h old number → image_size h ≤ length old → waiting_block h old number ≡ Some b → new ≡ image_with_open_gate h old number
    → HasAdded h b old new
committed h number b old new limits next closed whole waits is =
    let within : gate_at h number + slot_size h ≤ length old = gate_within h number old limits whole in
    opened_image h number b old new limits next closed whole waits
    (subst (Torn (gate_at h number) 1 old) (sym is) (opened_torn h number old (omega (arith, within))))
    (ap (λ (l : List ℕ). slice_index l (gate_at h number)) is
    ∙ patched_byte (gate_at h number) 0x5a old (omega (arith, within)))

-- what the ring knows then
pub committed_ring : (tells : Tells) (h : Header) (number : ℕ) (old new : State) → IsInLimits h → IsSoundDeck tells old
    → IsPrepared tells h number old → new.extent ≡ old.extent
    → (IsTrue tells.bytes → new.held ≡ image_with_open_gate h old.held number)
    → (IsTrue tells.stops → IsSettled new) → IsSureRing tells h (number + 1) new
committed_ring tells h number old new limits sound prepared extent held settled = record {
  ring = record {
    extent = omega (arith, prepared.ring.extent, extent);
    next = λ told. let b = some_is (waiting_block h old.held number) (prepared.waits told) in
        let added = committed h number b.0 old.held new.held limits (prepared.ring.next told)
        (prepared.ring.closed told) (whole told) b.1 (held told) in
        ap (λ k. k + 1) (prepared.ring.next told) ∙ sym added.next;
    closed = closed;
  };
  stops = λ told image leaves. subst (λ (l : List ℕ). IsClosed h l (number + 1)) (sym (settled told image leaves))
      (closed (sound.stops_need_bytes told));
}
  where
    whole : IsTrue tells.bytes → image_size h ≤ length old.held
    whole told = omega (arith, prepared.ring.extent, sound.size told)

    closed : IsTrue tells.bytes → IsClosed h new.held (number + 1)
    closed told open_gate =
        let within = gate_within h number old.held limits (whole told) in
        prepared.following told
        (sym (other_gate h ((number + 1) % h.slots) (number % h.slots) old.held new.held
        (λ same. next_slot h number limits (sym same))
        (subst (Torn (gate_at h number) 1 old.held) (sym (held told))
        (opened_torn h number old.held (omega (arith, within)))))
        ∙ open_gate)

-- the gate of a waiting block is torn
committing_image : (h : Header) (number at : ℕ) (old new : List ℕ) → IsInLimits h → number ≡ next_of h old
    → IsClosed h old number → image_size h ≤ length old
    → at ≡ gate_at h number → Torn at 1 old new → IsCommitting h number old new
committing_image h number at old new limits next closed whole here torn =
    let gate : Torn (gate_at h number) 1 old new = subst (λ k. Torn k 1 old new) here torn in
    record { run = λ b waits. commit_image h number b old new limits next closed whole waits gate; bytes = gate }

pub committing_deck : (tells : Tells) (h : Header) (number at : ℕ) (old : State) (image : List ℕ) → IsInLimits h
    → IsSoundDeck tells old → IsPrepared tells h number old
    → at ≡ gate_at h number → IsTrue tells.bytes → Torn at 1 old.held image → IsCommitting h number old.held image
committing_deck tells h number at old image limits sound prepared here told =
    committing_image h number at old.held image limits (prepared.ring.next told) (prepared.ring.closed told)
    (omega (arith, prepared.ring.extent, sound.size told)) here

-- the same at each moment
pub committing_quiet : (tells : Tells) (h : Header) (number at : ℕ) (old new : State) → IsInLimits h → IsSoundDeck tells old
    → IsPrepared tells h number old
    → at ≡ gate_at h number → IsDiskWork tells (λ image. IsSettled old → Torn at 1 old.held image) old new
    → IsDiskWork tells (OfSettled old (IsCommitting h number)) old new
committing_quiet tells h number at old new limits sound prepared here quiet =
    IsDiskWork-weaken tells (λ image. IsSettled old → Torn at 1 old.held image)
    (OfSettled old (IsCommitting h number)) old new quiet
    (λ told image torn settled. committing_deck tells h number at old image limits sound prepared here
    (sound.stops_need_bytes told) (torn settled))
