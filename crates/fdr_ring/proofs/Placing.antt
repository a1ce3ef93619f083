-- A block that is placed after the closed gate of its slot.
use Rattle.std.proofs.Common.{◌≡◌, ℕ, ◌+◌, ◌-◌, ◌<◌, ◌≤◌, ◌^◌, List, ◌++◌}
use Rattle.std.proofs.Common.{length, take, drop, Some}
use Rattle.std.proofs.Common.{refl, sym, ap, ◌∙◌, subst, arith, length-append}
use Rattle.std.specs.Prelude.{IsTrue, IsSome, slice_index}
use Rattle.std.proofs.lemmas.List.{take_at}
use Rattle.fdr_deck.specs.State.{State, Tells}
use Rattle.fdr_deck.specs.Disk.{Torn, IsSettled, patched}
use Rattle.fdr_deck.specs.Moments.{IsSoundDeck}
use Rattle.fdr_deck.specs.Calls.{IsDiskWork}
use Rattle.fdr_deck.proofs.Moments.{IsDiskWork-now}
use Rattle.fdr_deck.proofs.Quiet.{IsDiskWork-weaken, IsDiskWork-then}
use Rattle.fdr_deck.proofs.Torn.{Torn-patched, length-patched}
use Rattle.fdr_slot.specs.declared.image.Header.{Header}
use Rattle.fdr_slot.specs.Limits.{IsInLimits}
use Rattle.fdr_slot.specs.Places.{slot_size, image_size, gate_at}
use Rattle.fdr_slot.specs.Heads.{head_bytes}
use Rattle.fdr_recover.specs.Images.{next_of, recovered_run}
use Rattle.fdr_ring.specs.Gates.{IsClosed, waiting_block}
use Rattle.fdr_ring.specs.Closing.{IsTurned, Closing, image_with_closed_gate}
use Rattle.fdr_ring.specs.Bodies.{body_bytes, image_with_body, image_to_commit}
use Rattle.fdr_ring.specs.Runs.{last_blocks}
use Rattle.fdr_ring.specs.Rings.{IsRing, IsPrepared, IsPreparing, OfSettled}
use Rattle.fdr_ring.proofs.Bytes.{Torn-within, IsTurned-here, patched_append, shut_turned, shut_gate}
use Rattle.fdr_ring.proofs.Turning.{gate_within, far_gate, close_after_body, still_closed, exact_run}
use Rattle.fdr_ring.proofs.Turning.{waiting_written, tail_length}

head_tail : (len session number : ℕ) → take 15 (drop 1 (head_bytes len session number)) ≡ drop 1 (head_bytes len session number)
unfolding head_bytes
head_tail len session number = refl

pub body_length : (number session : ℕ) (bytes : List ℕ) → length (body_bytes number session bytes) ≡ 15 + length bytes
unfolding body_bytes
body_length number session bytes =
    length-append (drop 1 (head_bytes (length bytes) session number)) bytes
    ∙ ap (λ n. n + length bytes) (tail_length (length bytes) session number)

-- the front of an array, in which a head and the payload after it were put
pub body_front : (number session : ℕ) (bytes head zeros first room : List ℕ) → head ≡ head_bytes (length bytes) session number
    → first ≡ patched 0 (take 15 (drop 1 head)) zeros → room ≡ patched 15 bytes first
    → take (15 + length bytes) room ≡ body_bytes number session bytes
unfolding body_bytes
body_front number session bytes head zeros first room is put_head put_bytes =
    let tail : List ℕ = drop 1 (head_bytes (length bytes) session number) in
    let long : length tail ≡ 15 = tail_length (length bytes) session number in
    let here : first ≡ patched 0 tail zeros =
    put_head ∙ ap (λ (l : List ℕ). patched 0 (take 15 (drop 1 l)) zeros) is
    ∙ ap (λ (l : List ℕ). patched 0 l zeros) (head_tail (length bytes) session number) in
    let place : 15 ≡ 0 + length tail = omega (arith, long) in
    let both : room ≡ patched 0 (tail ++ bytes) zeros =
    put_bytes ∙ ap (patched 15 bytes) here ∙ ap (λ n. patched n bytes (patched 0 tail zeros)) place
    ∙ sym (patched_append 0 tail bytes zeros (omega arith)) in
    ap (take (15 + length bytes)) both
    ∙ take_at (tail ++ bytes) (drop (0 + length (tail ++ bytes)) zeros) (15 + length bytes)
    (length-append tail bytes ∙ ap (λ n. n + length bytes) long)

-- a ring that has room for a block
pub record IsReady (h : Header) (number size : ℕ) (image : List ℕ) : Type 0 where
  pub limits : IsInLimits h
  pub fits : size ≤ h.payload
  pub whole : image_size h ≤ length image
  pub next : number ≡ next_of h image
  pub closed : IsClosed h image number

pub IsReady-deck : (tells : Tells) (h : Header) (number size : ℕ) (d : State) → IsInLimits h → size ≤ h.payload
    → IsSoundDeck tells d
    → IsRing tells h number d → IsTrue tells.bytes → IsReady h number size d.held
IsReady-deck tells h number size d limits fits sound ring told = record {
  limits = limits;
  fits = fits;
  whole = omega (arith, ring.extent, sound.size told);
  next = ring.next told;
  closed = ring.closed told;
}

-- its body is torn, and then the gate of the following slot is turned
pub placing_image : (h : Header) (number size at : ℕ) (old mid new : List ℕ) → IsReady h number size old
    → Torn (gate_at h number + 1) (15 + size) old mid → at ≡ gate_at h (number + 1) → IsTurned at mid new
    → IsPreparing h number size old new
placing_image h number size at old mid new ready body there turned =
    let following : IsTurned (gate_at h (number + 1)) mid new = subst (λ k. IsTurned k mid new) there turned in
    let whole_body : Torn (gate_at h number + 1) (15 + h.payload) old mid =
    Torn-within (gate_at h number + 1) (15 + h.payload) (gate_at h number + 1) (15 + size) old mid (omega arith)
    (omega (arith, ready.fits)) body in
    record {
      run = close_after_body h number old mid new ready.limits ready.whole ready.next ready.closed whole_body following;
      bytes = record { placing = mid; body = body; following = following };
    }

-- its body alone is torn
pub body_image : (h : Header) (number size : ℕ) (old new : List ℕ) → IsReady h number size old
    → Torn (gate_at h number + 1) (15 + size) old new → IsPreparing h number size old new
body_image h number size old new ready body =
    placing_image h number size (gate_at h (number + 1)) old new new ready body refl
    (IsTurned-here (gate_at h (number + 1)) new new refl)

-- the same at each moment
pub body_quiet : (tells : Tells) (h : Header) (number size : ℕ) (old new : State) → IsSoundDeck tells old
    → (IsTrue tells.bytes → IsReady h number size old.held)
    → IsDiskWork tells (λ image. IsSettled old → Torn (gate_at h number + 1) (15 + size) old.held image) old new
    → IsDiskWork tells (OfSettled old (IsPreparing h number size)) old new
body_quiet tells h number size old new sound ready quiet =
    IsDiskWork-weaken tells (λ image. IsSettled old → Torn (gate_at h number + 1) (15 + size) old.held image)
    (OfSettled old (IsPreparing h number size)) old new quiet
    (λ told image torn settled. body_image h number size old.held image (ready (sound.stops_need_bytes told))
    (torn settled))

-- the body may be torn, and with it the gate of the following slot
pub placing_quiet : (tells : Tells) (h : Header) (number size at : ℕ) (old mid new : State) → IsSoundDeck tells old
    → IsSoundDeck tells mid
    → (IsTrue tells.bytes → IsReady h number size old.held) → at ≡ gate_at h (number + 1)
    → (IsTrue tells.bytes → Torn (gate_at h number + 1) (15 + size) old.held mid.held)
    → IsDiskWork tells (λ image. IsSettled old → Torn (gate_at h number + 1) (15 + size) old.held image) old mid
    → IsDiskWork tells (Closing at mid) mid new
    → IsDiskWork tells (OfSettled old (IsPreparing h number size)) old new
placing_quiet tells h number size at old mid new sound sound_mid ready there held first second =
    IsDiskWork-then tells Body (Closing at mid) (OfSettled old (IsPreparing h number size)) old mid new sound first second
    (λ told image torn settled. body_image h number size old.held image (ready (sound.stops_need_bytes told))
    (torn settled))
    (λ told image closing settled.
    let bytes = sound.stops_need_bytes told in
    let body : Torn (gate_at h number + 1) (15 + size) old.held closing.from =
    IsDiskWork-now tells Body old mid sound_mid first told closing.from closing.left settled in
    placing_image h number size at old.held closing.from image (ready bytes) body there
    (record {
      torn = closing.torn;
      same = λ closed. closing.same
          (λ open_gate. closed (same_gate bytes closing.from body ∙ open_gate));
    }))
  where
    Body : List ℕ → Type 0
    Body image = IsSettled old → Torn (gate_at h number + 1) (15 + size) old.held image

    -- the gate reads as the disk held it, whatever the body is
    same_gate : IsTrue tells.bytes → (from : List ℕ) → Torn (gate_at h number + 1) (15 + size) old.held from
        → slice_index from at ≡ slice_index mid.held at
    same_gate bytes from body =
        subst (λ k. slice_index from k ≡ slice_index mid.held k) (sym there)
        (far_gate h number size old.held from (ready bytes).limits (ready bytes).fits body
        ∙ sym (far_gate h number size old.held mid.held (ready bytes).limits (ready bytes).fits (held bytes)))

-- the body is placed, the following gate is shut, and a sync changes no byte
pub prepared_held : (h : Header) (number session at : ℕ) (payload old mid closed new : List ℕ) → at ≡ gate_at h (number + 1)
    → mid ≡ image_with_body h number session payload old
    → closed ≡ image_with_closed_gate at mid → new ≡ closed → new ≡ image_to_commit h number session payload old
prepared_held h number session at payload old mid closed new there body shuts same =
    same ∙ shuts ∙ ap (image_with_closed_gate at) body ∙ ap (λ k. image_with_closed_gate k (image_with_body h number session payload old)) there

-- the gate of the following slot, in an image in which the body is placed
following_within : (h : Header) (number session : ℕ) (payload old : List ℕ) → IsReady h number (length payload) old
    → gate_at h (number + 1) < length (image_with_body h number session payload old)
following_within h number session payload old ready =
    let room : gate_at h number + slot_size h ≤ length old = gate_within h number old ready.limits ready.whole in
    let next_room : gate_at h (number + 1) + slot_size h ≤ length old =
    gate_within h (number + 1) old ready.limits ready.whole in
    let long : length (image_with_body h number session payload old) ≡ length old =
    length-patched (gate_at h number + 1) (body_bytes number session payload) old
    (omega (arith, body_length number session payload, room, ready.fits)) in
    omega (arith, long, next_room)

placed_torn : (h : Header) (number session : ℕ) (payload old : List ℕ) → IsReady h number (length payload) old
    → Torn (gate_at h number + 1) (15 + length payload) old (image_with_body h number session payload old)
placed_torn h number session payload old ready =
    let room : gate_at h number + slot_size h ≤ length old = gate_within h number old ready.limits ready.whole in
    subst (λ n. Torn (gate_at h number + 1) n old (image_with_body h number session payload old)) (body_length number session payload)
    (Torn-patched (gate_at h number + 1) (body_bytes number session payload) old
    (omega (arith, body_length number session payload, room, ready.fits)))

following_turned : (h : Header) (number session : ℕ) (payload old new : List ℕ) → IsReady h number (length payload) old
    → new ≡ image_to_commit h number session payload old
    → IsTurned (gate_at h (number + 1)) (image_with_body h number session payload old) new
following_turned h number session payload old new ready is =
    subst (IsTurned (gate_at h (number + 1)) (image_with_body h number session payload old)) (sym is)
    (shut_turned (gate_at h (number + 1)) (image_with_body h number session payload old) (following_within h number session payload old ready))

following_closed : (h : Header) (number session : ℕ) (payload old new : List ℕ) → IsReady h number (length payload) old
    → new ≡ image_to_commit h number session payload old
    → IsClosed h new (number + 1)
following_closed h number session payload old new ready is =
    subst (λ l. IsClosed h l (number + 1)) (sym is)
    (shut_gate (gate_at h (number + 1)) (image_with_body h number session payload old) (following_within h number session payload old ready))

prepared_image : (h : Header) (number session : ℕ) (payload old new : List ℕ) → IsReady h number (length payload) old
    → new ≡ image_to_commit h number session payload old
    → IsPreparing h number (length payload) old new
prepared_image h number session payload old new ready is =
    placing_image h number (length payload) (gate_at h (number + 1)) old (image_with_body h number session payload old) new ready
    (placed_torn h number session payload old ready) refl (following_turned h number session payload old new ready is)

pub prepared_block : (h : Header) (number session : ℕ) (payload old new : List ℕ) → IsReady h number (length payload) old
    → number < 2 ^ 48 → session < 2 ^ 32 → (h.version ≡ 1 → session ≡ 0) → 0 < length payload
    → new ≡ image_to_commit h number session payload old → waiting_block h new number ≡ Some (record { number = number; session = session; payload = payload })
prepared_block h number session payload old new ready small short none some is =
    waiting_written h number session old
    (image_with_body h number session payload old) new payload ready.limits small short none some ready.fits ready.whole refl
    (following_turned h number session payload old new ready is)

pub prepared_run : (h : Header) (number session : ℕ) (payload old new : List ℕ) → IsReady h number (length payload) old
    → new ≡ image_to_commit h number session payload old
    → recovered_run h new ≡ last_blocks (h.slots - 2) (recovered_run h old)
prepared_run h number session payload old new ready is =
    exact_run h 1 number old new ready.limits (omega arith) ready.next
    (prepared_image h number session payload old new ready is).run
    (following_closed h number session payload old new ready is)

-- what the ring knows then
pub prepared_ring : (tells : Tells) (h : Header) (number session : ℕ) (payload : List ℕ) (old new : State)
    → (IsTrue tells.bytes → IsReady h number (length payload) old.held) → number < 2 ^ 48 → session < 2 ^ 32
    → (h.version ≡ 1 → session ≡ 0) → 0 < length payload
    → image_size h ≤ new.extent
    → (IsTrue tells.bytes → new.held ≡ image_to_commit h number session payload old.held) → IsPrepared tells h number new
prepared_ring tells h number session payload old new ready small short none some extent held = record {
  ring = record {
    extent = extent;
    next = λ told. (ready told).next ∙ sym (prepared_image h number session payload old.held new.held (ready told)
        (held told)).run.next;
    closed = λ told. still_closed h number old.held (image_with_body h number session payload old.held) new.held (ready told).limits
        (ready told).closed
        (Torn-within (gate_at h number + 1) (15 + h.payload) (gate_at h number + 1) (15 + length payload) old.held
        (image_with_body h number session payload old.held)
        (omega arith) (omega (arith, (ready told).fits)) (placed_torn h number session payload old.held (ready told)))
        (following_turned h number session payload old.held new.held (ready told) (held told));
  };
  waits = λ told. subst (λ o. IsSome o) (sym (prepared_block h number session payload old.held new.held (ready told) small short none some
      (held told))) refl;
  following = λ told. following_closed h number session payload old.held new.held (ready told) (held told);
}
