-- Images that are made.
use Rattle.std.proofs.Common.{◌≡◌, ◌≢◌, ◌⊎◌, inl, inr, ⊎_elim, ℕ, zero, suc, ◌+◌, ◌-◌, ◌*◌, ◌%◌, ◌<◌, ◌≤◌, List, [], ◌∷◌, ◌++◌}
use Rattle.std.proofs.Common.{length, take, drop, get_or, None, refl, sym, ap, ◌∙◌, subst, arith, length-append}
use Rattle.std.specs.Prelude.{slice_index, replicate, IsTrue}
use Rattle.std.proofs.Math.Nat.{mul-le-mul_right, mod-lt}
use Rattle.std.proofs.lemmas.Bool.{cases_eq, cases_lt}
use Rattle.std.proofs.lemmas.List.{get_or-take, get_or-replicate, get_or-append_right, take_at, drop_at, drop-replicate, length-replicate}
use Rattle.std.proofs.lemmas.List.{length-take-le}
use Rattle.fdr_deck.specs.State.{State, Tells}
use Rattle.fdr_deck.specs.Disk.{Torn, Tears, IsSettled, IsZeros, KeepsDisk, patched}
use Rattle.fdr_deck.specs.Moments.{IsSoundDeck, EachMoment, Within, WithinProvide}
use Rattle.fdr_deck.specs.Calls.{Passes, IsDiskWork}
use Rattle.fdr_deck.proofs.Moments.{IsDiskWork-here, IsDiskWork-write}
use Rattle.fdr_deck.proofs.Quiet.{IsDiskWork-look, IsDiskWork-then, IsDiskWork-provide}
use Rattle.fdr_slot.specs.declared.image.Header.{Header}
use Rattle.fdr_slot.specs.Limits.{IsInLimits}
use Rattle.fdr_slot.specs.Places.{slot_at, slot_size, image_size, gate_at}
use Rattle.fdr_slot.specs.Headers.{header_of, header_bytes, image_fault}
use Rattle.fdr_slot.proofs.HeaderLemmas.{image_fault_closed}
use Rattle.fdr_slot.proofs.HeaderLemmas.{header_of-header_bytes, image_fault-header_bytes}
use Rattle.fdr_recover.proofs.ImageFaults.{small_fault}
use Rattle.fdr_recover.specs.Blocks.{Slots, number_after, next_among, run_below}
use Rattle.fdr_recover.specs.Images.{block_in, next_of, blocks_below, recovered_run}
use Rattle.fdr_ring.specs.Formatting.{IsEmpty, IsFormatted, FormattingStop, Making, fresh_image}
use Rattle.fdr_ring.specs.Rings.{IsSureRing}
use Rattle.fdr_ring.proofs.Bytes.{Torn-then, Torn-within, Torn-of-same, byte_front, torn_byte}
use Rattle.fdr_ring.proofs.Places.{block_in-closed}

-- an image that is too small, or closed
pub small_stop : (h : Header) (image : List ℕ) → length image < 64 → FormattingStop h image
small_stop h image small = inl (small_fault (take 64 image) (length image) small)

pub closed_stop : (h : Header) (image : List ℕ) → slice_index image 0 ≢ 0x5a → FormattingStop h image
closed_stop h image closed = ⊎_elim
    (λ small. small_stop h image small)
    (λ whole. inr (inl (image_fault_closed (take 64 image) (length image) whole
    (λ is. closed (sym (get_or-take 64 image 0 0 (omega arith)) ∙ is)))))
    (cases_lt (length image) 64)

zeros_first : (n : ℕ) → slice_index (replicate n 0) 0 ≡ 0
zeros_first zero = refl
zeros_first (suc n) = refl

pub zeros_stop : (h : Header) (most : ℕ) (image : List ℕ) → IsZeros most image → FormattingStop h image
zeros_stop h most image is =
    let first : slice_index image 0 ≡ 0 = ap (λ (l : List ℕ). slice_index l 0) is.zeros ∙ zeros_first (length image) in
    closed_stop h image (λ open_gate. omega (arith, first, open_gate))

-- zeros whose bytes after the first are torn
pub torn_stop : (h : Header) (n few : ℕ) (image : List ℕ) → Torn 1 few (replicate n 0) image → FormattingStop h image
torn_stop h n few image torn =
    let first : slice_index image 0 ≡ 0 = byte_front 1 few 0 (replicate n 0) image (omega arith) torn ∙ zeros_first n in
    closed_stop h image (λ open_gate. omega (arith, first, open_gate))

-- the bytes of a header after its gate
header_tail : (h : Header) → header_bytes h ≡ 0x5a ∷ take 63 (drop 1 (header_bytes h))
unfolding header_bytes
header_tail h = refl

length-header_tail : (h : Header) → length (take 63 (drop 1 (header_bytes h))) ≡ 63
unfolding header_bytes
length-header_tail h = refl

length-header_bytes : (h : Header) → length (header_bytes h) ≡ 64
length-header_bytes h = ap length (header_tail h) ∙ omega (arith, length-header_tail h)

-- the gate is opened over its bytes
pub opened_fresh : (h : Header)
    → patched 0 (0x5a ∷ []) (patched 1 (take 63 (drop 1 (header_bytes h))) (replicate (image_size h) 0)) ≡ fresh_image h
opened_fresh h =
    let tail : List ℕ = take 63 (drop 1 (header_bytes h)) in
    let zeros : List ℕ = replicate (image_size h) 0 in
    let long : length tail ≡ 63 = length-header_tail h in
    let front : length (take 1 zeros) ≡ 1 = length-take-le 1 zeros (omega (arith, length-replicate {A = ℕ} (image_size h) 0)) in
    let behind : drop 1 (patched 1 tail zeros) ≡ tail ++ drop (1 + length tail) zeros =
    drop_at (take 1 zeros) (tail ++ drop (1 + length tail) zeros) 1 front in
    let rest : drop (1 + length tail) zeros ≡ replicate (h.slots * slot_size h) 0 =
    drop-replicate (1 + length tail) (image_size h) 0 ∙ ap (λ k. replicate k 0)
    (let count : image_size h - (1 + length tail) ≡ h.slots * slot_size h = omega (arith, long) in count) in
    ap (λ l. 0x5a ∷ l) (behind ∙ ap (λ l. tail ++ l) rest) ∙ ap (λ l. l ++ replicate (h.slots * slot_size h) 0) (sym (header_tail h))

-- the gates of a fresh image
pub fresh_gate : (h : Header) (i : ℕ) → i < h.slots → slice_index (fresh_image h) (slot_at h i) ≡ 0
fresh_gate h i below =
    let whole : (i + 1) * (16 + h.payload) ≤ h.slots * (16 + h.payload) = mul-le-mul_right (16 + h.payload) (omega arith) in
    let place : 64 + i * (16 + h.payload) - 64 ≡ i * (16 + h.payload) = omega arith in
    get_or-append_right (header_bytes h) (replicate (h.slots * slot_size h) 0) 64 (slot_at h i) 0 (length-header_bytes h) (omega arith)
    ∙ ap (λ k. get_or (replicate (h.slots * slot_size h) 0) k 0) place
    ∙ get_or-replicate (h.slots * slot_size h) (i * slot_size h) 0 0 (omega (arith, whole))

pub fresh_empty : (h : Header) → IsEmpty h (fresh_image h)
fresh_empty h i below = block_in-closed h (fresh_image h) i (λ open_gate. omega (arith, fresh_gate h i below, open_gate))

pub length-fresh : (h : Header) → length (fresh_image h) ≡ image_size h
length-fresh h = length-append (header_bytes h) (replicate (h.slots * slot_size h) 0)
    ∙ omega (arith, length-header_bytes h, length-replicate {A = ℕ} (h.slots * slot_size h) 0)

pub fresh_formatted : (h : Header) → IsInLimits h → IsFormatted h (fresh_image h)
fresh_formatted h limits =
    let first : take 64 (fresh_image h) ≡ header_bytes h =
    take_at (header_bytes h) (replicate (h.slots * slot_size h) 0) 64 (length-header_bytes h) in
    record {
      no_fault = ap (λ bytes. image_fault bytes (length (fresh_image h))) first
          ∙ image_fault-header_bytes h (length (fresh_image h)) limits (omega (arith, length-fresh h));
      header = ap header_of first ∙ header_of-header_bytes h limits;
      empty = fresh_empty h;
    }

next_among-none : (slots : Slots) (i : ℕ) → ((j : ℕ) → j < i → slots j ≡ None) → next_among i slots ≡ 0
next_among-none slots zero none = refl
next_among-none slots (suc i) none =
    let before = next_among-none slots i (λ j less. none j (omega arith)) in
    let last : number_after (slots i) ≡ 0 = ap number_after (none i (omega arith)) in
    omega (arith, before, last)

pub empty_next : (h : Header) (image : List ℕ) → IsEmpty h image → next_of h image ≡ 0
unfolding next_of
empty_next h image empty = next_among-none (block_in h image) h.slots empty

pub empty_run : (h : Header) (image : List ℕ) → IsEmpty h image → recovered_run h image ≡ []
unfolding blocks_below
empty_run h image empty = ap (run_below h.slots (block_in h image)) (empty_next h image empty)

-- the gate is torn over the bytes of the header
pub gate_stop : (h : Header) (held image : List ℕ) → IsInLimits h
    → held ≡ patched 1 (take 63 (drop 1 (header_bytes h))) (replicate (image_size h) 0) → 0 < length held → Torn 0 1 held image
    → FormattingStop h image
gate_stop h held image limits is some torn = ⊎_elim
    (λ open_gate. inr (inr (subst (IsFormatted h) (sym
    (torn_byte 0 held image 0x5a some torn open_gate ∙ ap (patched 0 (0x5a ∷ [])) is ∙ opened_fresh h)) (fresh_formatted h limits))))
    (λ closed. closed_stop h image closed)
    (cases_eq (slice_index image 0) 0x5a)

-- the write of the header after its gate
pub lays_tail : (tells : Tells) (size n : ℕ) (old new : State) → IsSoundDeck tells old → (IsTrue tells.bytes → old.held ≡ replicate size 0)
    → (IsTrue tells.stops → IsSettled old) → n ≤ 63
    → Passes tells old new → EachMoment tells old new (Within old new) → Tears tells 1 n old new
    → IsDiskWork tells (Torn 1 63 (replicate size 0)) old new
lays_tail tells size n old new sound zeros settled few passes moments tears =
    IsDiskWork-write tells (Torn 1 63 (replicate size 0)) old old new 1 n sound sound
    (IsDiskWork-here tells (Torn 1 63 (replicate size 0)) old sound
    (λ told image leaves. Torn-of-same 1 63 (replicate size 0) image (settled told image leaves ∙ zeros (sound.stops_need_bytes told))))
    passes moments tears
    (λ told from image leaves has torn. Torn-then 1 63 (replicate size 0) from image has
    (Torn-within 1 63 1 n from image (omega arith) (omega arith) torn))

-- the ring of a fresh image
pub fresh_ring : (tells : Tells) (h : Header) (d : State) → IsInLimits h → d.extent ≡ image_size h
    → (IsTrue tells.stops → IsTrue tells.bytes) → (IsTrue tells.bytes → d.held ≡ fresh_image h) → (IsTrue tells.stops → IsSettled d)
    → IsSureRing tells h 0 d
fresh_ring tells h d limits extent needs held settled = record {
  ring = record {
    extent = omega (arith, extent);
    next = λ told. sym (ap (next_of h) (held told) ∙ empty_next h (fresh_image h) (fresh_empty h));
    closed = λ told open_gate. closed d.held (held told) open_gate;
  };
  stops = λ told image leaves open_gate. closed image (settled told image leaves ∙ held (needs told)) open_gate;
}
  where
    closed : (image : List ℕ) → image ≡ fresh_image h → slice_index image (gate_at h 0) ≡ 0x5a → ⊥
    closed image is open_gate =
        let gate = fresh_gate h (0 % h.slots) (mod-lt 0 (omega arith)) in
        let here : slice_index image (gate_at h 0) ≡ 0 = ap (λ (l : List ℕ). slice_index l (gate_at h 0)) is ∙ gate in
        absurd (omega (arith, here, open_gate))

-- a settled disk without a byte
pub empty_stop : (tells : Tells) (h : Header) (d : State) (image : List ℕ) → IsSoundDeck tells d → IsTrue tells.stops → d.extent ≡ 0
    → IsSettled d → d.may_leave image → FormattingStop h image
empty_stop tells h d image sound told none settled leaves =
    let long : length image ≡ 0 = ap length (settled image leaves) ∙ sound.size (sound.stops_need_bytes told) ∙ none in
    small_stop h image (omega (arith, long))

-- an image that could be left before anything was made
kept_image : (tells : Tells) (h : Header) (d : State) (image : List ℕ) → IsSoundDeck tells d → IsTrue tells.stops → d.may_leave image
    → Making h d image
kept_image tells h d image sound told leaves = record {
  made = λ none settled. empty_stop tells h d image sound told none settled leaves;
  kept = λ some. leaves;
}

-- the length is asked for
pub asks_length : (tells : Tells) (h : Header) (old new : State) → IsSoundDeck tells old → KeepsDisk old new → Passes tells old new
    → EachMoment tells old new (Within old new) → IsDiskWork tells (Making h old) old new
asks_length tells h old new sound disk passes moments =
    IsDiskWork-look tells (Making h old) old new sound disk passes moments
    (λ told image leaves. kept_image tells h old image sound told leaves)

-- then the disk is provided
pub provides_zeros : (tells : Tells) (h : Header) (size : ℕ) (old mid new : State) → IsSoundDeck tells old → IsSoundDeck tells mid
    → (IsTrue tells.stops → old.extent ≡ 0) → KeepsDisk old mid → IsDiskWork tells (Making h old) old mid
    → Passes tells mid new → EachMoment tells mid new (WithinProvide size mid new) → IsDiskWork tells (Making h old) old new
provides_zeros tells h size old mid new sound sound_mid none disk first passes moments =
    IsDiskWork-then tells (Making h old) (λ image. mid.may_leave image ⊎ IsZeros size image) (Making h old) old mid new sound first
    (IsDiskWork-provide tells size mid new sound_mid passes moments)
    (λ told image has. has)
    (λ told image. ⊎_elim
    (λ leaves. kept_image tells h old image sound told (disk.no_more image leaves))
    (λ zeros. record { made = λ empty settled. zeros_stop h size image zeros; kept = λ some. absurd (omega (arith, some, none told)) }))

-- and then the header is laid
pub lays_header : (tells : Tells) (h : Header) (old mid new : State) → IsSoundDeck tells old → (IsTrue tells.stops → old.extent ≡ 0)
    → IsDiskWork tells (Making h old) old mid → IsDiskWork tells (FormattingStop h) mid new → IsDiskWork tells (Making h old) old new
lays_header tells h old mid new sound none first second =
    IsDiskWork-then tells (Making h old) (FormattingStop h) (Making h old) old mid new sound first second
    (λ told image has. has)
    (λ told image has. record { made = λ empty settled. has; kept = λ some. absurd (omega (arith, some, none told)) })
