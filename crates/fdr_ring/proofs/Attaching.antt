-- Images that are opened again.
use Rattle.std.proofs.Common.{◌≡◌, ℕ, ◌-◌, ◌<◌, ◌≤◌, List, length, refl, sym, ap, ◌∙◌, subst, arith, add-zero}
use Rattle.std.specs.Prelude.{IsTrue}
use Rattle.fdr_deck.specs.State.{State, Tells}
use Rattle.fdr_deck.specs.Disk.{IsSettled, KeepsDisk}
use Rattle.fdr_deck.specs.Moments.{IsSoundDeck}
use Rattle.fdr_deck.specs.Calls.{IsDiskWork}
use Rattle.fdr_deck.proofs.Quiet.{IsDiskWork-then}
use Rattle.fdr_slot.specs.declared.image.Header.{Header}
use Rattle.fdr_slot.specs.Limits.{IsInLimits}
use Rattle.fdr_slot.specs.Places.{image_size, gate_at}
use Rattle.fdr_recover.specs.Images.{next_of, recovered_run}
use Rattle.fdr_ring.specs.Gates.{IsClosed}
use Rattle.fdr_ring.specs.Closing.{IsTurned, Closing, image_with_closed_gate}
use Rattle.fdr_ring.specs.Runs.{last_blocks}
use Rattle.fdr_ring.specs.Rings.{IsSureRing, IsAttaching, OfSettled}
use Rattle.fdr_ring.proofs.Bytes.{IsTurned-here, Closing-settled, shut_turned, shut_gate}
use Rattle.fdr_ring.proofs.Turning.{gate_within, close_image, exact_run}

-- an image that has room for its slots, and its next number
pub record IsFound (h : Header) (number : ℕ) (image : List ℕ) : Type 0 where
  pub limits : IsInLimits h
  pub whole : image_size h ≤ length image
  pub next : number ≡ next_of h image

pub IsFound-deck : (tells : Tells) (h : Header) (number : ℕ) (d : State) → IsInLimits h → IsSoundDeck tells d
    → image_size h ≤ d.extent
    → (IsTrue tells.bytes → number ≡ next_of h d.held) → IsTrue tells.bytes → IsFound h number d.held
IsFound-deck tells h number d limits sound whole next told =
    record { limits = limits; whole = omega (arith, whole, sound.size told); next = next told }

-- the gate of the next number is turned
pub attaching_image : (h : Header) (number at : ℕ) (old new : List ℕ) → IsFound h number old → at ≡ gate_at h number
    → IsTurned at old new → IsAttaching h old new
attaching_image h number at old new found here turned = record {
  run = close_image h 0 number old new found.limits (omega arith) found.whole found.next
      (subst (λ k. IsTurned (gate_at h k) old new) (sym (add-zero number))
      (subst (λ k. IsTurned k old new) here turned));
  bytes = subst (λ k. IsTurned k old new) (here ∙ ap (gate_at h) found.next) turned;
}

-- what was looked at is as it was
pub looking_image : (h : Header) (number : ℕ) (old new : List ℕ) → IsFound h number old → new ≡ old
    → IsAttaching h old new
looking_image h number old new found same =
    attaching_image h number (gate_at h number) old new found refl (IsTurned-here (gate_at h number) old new same)

-- a look at the image, and then the close of the gate
pub attaching_quiet : (tells : Tells) (h : Header) (number at : ℕ) (old mid new : State) → IsSoundDeck tells old
    → (IsTrue tells.bytes → IsFound h number old.held)
    → at ≡ gate_at h number → KeepsDisk old mid → IsDiskWork tells old.may_leave old mid
    → IsDiskWork tells (Closing at mid) mid new
    → IsDiskWork tells (OfSettled old (IsAttaching h)) old new
attaching_quiet tells h number at old mid new sound found here looks first second =
    IsDiskWork-then tells old.may_leave (Closing at mid) (OfSettled old (IsAttaching h)) old mid new sound first second
    (λ told image leaves settled. looking_image h number old.held image (found (sound.stops_need_bytes told))
    (settled image leaves))
    (λ told image closing settled.
    let still : IsSettled mid = λ i left. settled i (looks.no_more i left) ∙ sym looks.held in
    let turned : IsTurned at mid.held image = Closing-settled at mid image still closing in
    attaching_image h number at old.held image (found (sound.stops_need_bytes told)) here
    (subst (λ l. IsTurned at l image) looks.held turned))

-- the gate of the next number is closed
attached_gate : (h : Header) (number : ℕ) (old : List ℕ) → IsFound h number old → gate_at h number < length old
attached_gate h number old found = omega (arith, gate_within h number old found.limits found.whole)

attached_closed : (h : Header) (number : ℕ) (old new : List ℕ) → IsFound h number old
    → new ≡ image_with_closed_gate (gate_at h number) old → IsClosed h new number
attached_closed h number old new found is =
    subst (λ l. IsClosed h l number) (sym is) (shut_gate (gate_at h number) old (attached_gate h number old found))

attached_image : (h : Header) (number : ℕ) (old new : List ℕ) → IsFound h number old → new ≡ image_with_closed_gate (gate_at h number) old
    → IsAttaching h old new
attached_image h number old new found is =
    attaching_image h number (gate_at h number) old new found refl
    (subst (IsTurned (gate_at h number) old) (sym is)
    (shut_turned (gate_at h number) old (attached_gate h number old found)))

pub attached_run : (h : Header) (number : ℕ) (old new : List ℕ) → IsFound h number old
    → new ≡ image_with_closed_gate (gate_at h number) old
    → recovered_run h new ≡ last_blocks (h.slots - 1) (recovered_run h old)
attached_run h number old new found is =
    exact_run h 0 number old new found.limits (omega arith) found.next (attached_image h number old new found is).run
    (subst (IsClosed h new) (sym (add-zero number)) (attached_closed h number old new found is))

-- what the ring knows then
pub attached_ring : (tells : Tells) (h : Header) (number : ℕ) (old new : State) → IsSoundDeck tells old
    → image_size h ≤ new.extent
    → (IsTrue tells.bytes → IsFound h number old.held)
    → (IsTrue tells.bytes → new.held ≡ image_with_closed_gate (gate_at h number) old.held)
    → (IsTrue tells.stops → IsSettled new) → IsSureRing tells h number new
attached_ring tells h number old new sound extent found held settled = record {
  ring = record {
    extent = extent;
    next = λ told. (found told).next ∙ sym (attached_image h number old.held new.held (found told)
        (held told)).run.next;
    closed = closed;
  };
  stops = λ told image leaves. subst (λ l. IsClosed h l number) (sym (settled told image leaves))
      (closed (sound.stops_need_bytes told));
}
  where
    closed : IsTrue tells.bytes → IsClosed h new.held number
    closed told = attached_closed h number old.held new.held (found told) (held told)
