-- Images of a ring while a block comes.
use Rattle.std.proofs.Common.{◌≡◌, ◌≢◌, ◌⊎◌, inl, inr, ⊎_elim, ℕ, suc, ◌+◌, ◌-◌, ◌%◌, ◌<◌, ◌≤◌, ◌^◌, true, List, [], ◌∷◌, ◌++◌, length}
use Rattle.std.proofs.Common.{take, drop, get_or, Some, refl, sym, ap, ◌∙◌, subst, arith}
use Rattle.std.specs.Prelude.{slice_index, slice_range}
use Rattle.std.proofs.Math.Nat.{mod-lt, add-mod_right}
use Rattle.std.proofs.lemmas.Bool.{cases_eq}
use Rattle.std.proofs.lemmas.Bool.Decides.{nat_tests}
use Rattle.std.proofs.lemmas.List.{take_at, drop_at, get_or-drop, length-take-le}
use Rattle.fdr_deck.specs.Disk.{Torn, patched}
use Rattle.fdr_deck.proofs.Torn.{Torn-patched, length-patched}
use Rattle.fdr_slot.specs.declared.image.Header.{Header}
use Rattle.fdr_slot.specs.declared.head.SlotHead.{SlotHead}
use Rattle.fdr_slot.specs.Limits.{IsInLimits}
use Rattle.fdr_slot.specs.Places.{slot_at, slot_size, image_size, gate_at}
use Rattle.fdr_slot.specs.Heads.{head_of, head_bytes, is_valid, session_in}
use Rattle.fdr_slot.proofs.HeadLemmas.{head_of-head_bytes, session_in-written}
use Rattle.fdr_recover.specs.Blocks.{Block, if_numbered}
use Rattle.fdr_recover.specs.Images.{head_at, bytes_in, block_of, block_in, block_numbered, next_of, blocks_below, recovered_run}
use Rattle.fdr_recover.proofs.Placing.{slot_within}
use Rattle.fdr_recover.proofs.Standing.{numbered-is, numbered_same}
use Rattle.fdr_recover.proofs.BlockLemmas.{block_in-valid}
use Rattle.fdr_ring.specs.Gates.{IsClosed, image_with_open_gate, waiting_block, KeepsHeader}
use Rattle.fdr_ring.specs.Closing.{IsTurned}
use Rattle.fdr_ring.specs.Bodies.{body_bytes, image_with_body}
use Rattle.fdr_ring.specs.Runs.{IsTail, KeepsRun, HasAdded, MayAdd, last_blocks}
use Rattle.fdr_ring.proofs.Bytes.{range_outside, range_front, byte_front, torn_byte, take_front, patched_append}
use Rattle.fdr_ring.proofs.Slots.{IsEmptied, turn_apart, run_below-bound, IsTail-exact}
use Rattle.fdr_ring.proofs.Places.{slots_apart, block_in-closed, body_torn, gate_torn, turned_slots, same_slots, same_image, emptied_image}
use Rattle.fdr_ring.proofs.Places.{added_image}

-- the image is as long, and has its header, where it is torn after it
pub torn_header : (at n : ℕ) (old new : List ℕ) → 64 ≤ at → Torn at n old new → KeepsHeader old new
torn_header at n old new behind torn = record { size = torn.size; header = take_front at n 64 old new behind torn }

pub KeepsHeader-then : (old mid new : List ℕ) → KeepsHeader old mid → KeepsHeader mid new → KeepsHeader old new
KeepsHeader-then old mid new first second = record { size = second.size ∙ first.size; header = second.header ∙ first.header }

KeepsRun-then : (h : Header) (least : ℕ) (old mid new : List ℕ) → KeepsHeader old mid → recovered_run h mid ≡ recovered_run h old
    → next_of h mid ≡ next_of h old → KeepsRun h least mid new → KeepsRun h least old new
KeepsRun-then h least old mid new kept run next then = record {
  kept = KeepsHeader-then old mid new kept then.kept;
  run = subst (λ r. IsTail least r (recovered_run h new)) run then.run;
  next = then.next ∙ next;
}

-- the body of the next block is torn after its closed gate
body_same : (h : Header) (number : ℕ) (old new : List ℕ) → IsInLimits h → IsClosed h old number
    → Torn (gate_at h number + 1) (15 + h.payload) old new → (recovered_run h new ≡ recovered_run h old) × (next_of h new ≡ next_of h old)
body_same h number old new limits closed torn = same_slots h old new limits
    (λ j below. body_torn h (number % h.slots) j old new closed torn)

pub gate_within : (h : Header) (number : ℕ) (image : List ℕ) → IsInLimits h → image_size h ≤ length image
    → gate_at h number + slot_size h ≤ length image
gate_within h number image limits whole = omega (arith, slot_within h (number % h.slots) (mod-lt number (omega arith)), whole)

-- a gate so far ahead of the next number is closed where it is open
pub close_image : (h : Header) (ahead number : ℕ) (old new : List ℕ) → IsInLimits h → ahead ≤ 1 → image_size h ≤ length old
    → number ≡ next_of h old → IsTurned (gate_at h (number + ahead)) old new → KeepsRun h (h.slots - (1 + ahead)) old new
close_image h ahead number old new limits few whole next turned =
    let within : slot_at h ((number + ahead) % h.slots) < length old = omega (arith, gate_within h (number + ahead) old limits whole) in
    let kept = torn_header (gate_at h (number + ahead)) 1 old new (omega arith) turned.torn in
    ⊎_elim
    (λ same. same_image h (h.slots - (1 + ahead)) old new kept (ap (recovered_run h) same) (ap (next_of h) same))
    (λ emptied. emptied_image h ahead old new limits few kept
    (subst (λ k. IsEmptied h.slots ((k + ahead) % h.slots) (block_in h old) (block_in h new)) next emptied))
    (turned_slots h ((number + ahead) % h.slots) old new within turned)

-- the same after a torn body
pub close_after_body : (h : Header) (number : ℕ) (old mid new : List ℕ) → IsInLimits h → image_size h ≤ length old → number ≡ next_of h old
    → IsClosed h old number → Torn (gate_at h number + 1) (15 + h.payload) old mid → IsTurned (gate_at h (number + 1)) mid new
    → KeepsRun h (h.slots - 2) old new
close_after_body h number old mid new limits whole next closed torn turned =
    let same = body_same h number old mid limits closed torn in
    KeepsRun-then h (h.slots - 2) old mid new (torn_header (gate_at h number + 1) (15 + h.payload) old mid (omega arith) torn) same.0 same.1
    (close_image h 1 number mid new limits (omega arith) (omega (arith, whole, torn.size)) (next ∙ sym same.1) turned)

-- a byte after the tear
byte_behind : (at n s : ℕ) (old new : List ℕ) → at + n ≤ s → Torn at n old new → slice_index new s ≡ slice_index old s
byte_behind at n s old new after torn =
    let whole : at + n + (s - (at + n)) ≡ s = omega arith in
    let later : (xs : List ℕ) → get_or xs s 0 ≡ get_or (drop (at + n) xs) (s - (at + n)) 0 = λ xs. ap (λ k. get_or xs k 0) (sym whole)
    ∙ sym (get_or-drop (at + n) xs (s - (at + n)) 0) in
    later new ∙ ap (λ (l : List ℕ). get_or l (s - (at + n)) 0) torn.behind ∙ sym (later old)

-- the slots of a number and of the one after it
pub next_slot : (h : Header) (number : ℕ) → IsInLimits h → number % h.slots ≢ (number + 1) % h.slots
next_slot h number limits same = absurd (omega (arith, turn_apart h.slots number (number + 1) same (omega arith)))

-- another slot's gate stays where one is torn
pub other_gate : (h : Header) (i j : ℕ) (old new : List ℕ) → i ≢ j → Torn (slot_at h j) 1 old new
    → slice_index new (slot_at h i) ≡ slice_index old (slot_at h i)
other_gate h i j old new other torn = ⊎_elim
    (λ front. byte_front (slot_at h j) 1 (slot_at h i) old new (omega (arith, front)) torn)
    (λ behind. byte_behind (slot_at h j) 1 (slot_at h i) old new (omega (arith, behind)) torn)
    (slots_apart h i j other)

-- the gate of the slot after a torn body stays
pub far_gate : (h : Header) (number size : ℕ) (old new : List ℕ) → IsInLimits h → size ≤ h.payload
    → Torn (gate_at h number + 1) (15 + size) old new
    → slice_index new (gate_at h (number + 1)) ≡ slice_index old (gate_at h (number + 1))
far_gate h number size old new limits fits torn = ⊎_elim
    (λ behind. byte_behind (gate_at h number + 1) (15 + size) (gate_at h (number + 1)) old new (omega (arith, behind, fits)) torn)
    (λ front. byte_front (gate_at h number + 1) (15 + size) (gate_at h (number + 1)) old new (omega (arith, front)) torn)
    (slots_apart h (number % h.slots) ((number + 1) % h.slots) (next_slot h number limits))

-- the gate of the next number is closed still
pub still_closed : (h : Header) (number : ℕ) (old mid new : List ℕ) → IsInLimits h → IsClosed h old number
    → Torn (gate_at h number + 1) (15 + h.payload) old mid → IsTurned (gate_at h (number + 1)) mid new → IsClosed h new number
still_closed h number old mid new limits closed torn turned open_gate =
    closed (sym (other_gate h (number % h.slots) ((number + 1) % h.slots) mid new (next_slot h number limits) turned.torn
    ∙ byte_front (gate_at h number + 1) (15 + h.payload) (gate_at h number) old mid (omega arith) torn) ∙ open_gate)

-- the run of an image whose slot so far ahead is closed is no longer than is promised
pub run_bound : (h : Header) (ahead : ℕ) (image : List ℕ) → IsInLimits h → ahead ≤ 1 → IsClosed h image (next_of h image + ahead)
    → length (recovered_run h image) ≤ h.slots - (1 + ahead)
unfolding blocks_below
run_bound h ahead image limits few closed =
    run_below-bound h.slots ahead (block_in h image) (next_of h image) (omega arith)
    (block_in-closed h image ((next_of h image + ahead) % h.slots) closed)
    (λ m whole. sym (add-mod_right m h.slots) ∙ ap (λ k. k % h.slots) whole)

pub exact_run : (h : Header) (ahead number : ℕ) (old new : List ℕ) → IsInLimits h → ahead ≤ 1 → number ≡ next_of h old
    → KeepsRun h (h.slots - (1 + ahead)) old new → IsClosed h new (number + ahead)
    → recovered_run h new ≡ last_blocks (h.slots - (1 + ahead)) (recovered_run h old)
exact_run h ahead number old new limits few next keeps closed =
    IsTail-exact (h.slots - (1 + ahead)) (recovered_run h old) (recovered_run h new) keeps.run
    (run_bound h ahead new limits few (subst (λ k. IsClosed h new (k + ahead)) (next ∙ sym keeps.next) closed))

-- what was written is there
range_patched : (at : ℕ) (bytes old : List ℕ) → at ≤ length old → slice_range (patched at bytes old) at (at + length bytes) ≡ bytes
range_patched at bytes old within =
    let rest : List ℕ = drop (at + length bytes) old in
    let count : at + length bytes - at ≡ length bytes = omega arith in
    ap (take (at + length bytes - at)) (drop_at (take at old) (bytes ++ rest) at (length-take-le at old within))
    ∙ ap (λ k. take k (bytes ++ rest)) count ∙ take_at bytes rest (length bytes) refl

-- the head after an opened gate
abbrev opened_as : SlotHead → SlotHead
opened_as head = record { gate = true; len = head.len; session = head.session; seq = head.seq }

opened_tail : (tail : List ℕ) → head_of (0x5a ∷ tail) ≡ opened_as (head_of (0 ∷ tail))
unfolding head_of
opened_tail tail = refl

closed_tail : (len session seq : ℕ) → 0 ∷ drop 1 (head_bytes len session seq) ≡ head_bytes len session seq
unfolding head_bytes
closed_tail len session seq = refl

opened_head : (len session seq : ℕ) → len < 2 ^ 16 → session < 2 ^ 32 → seq < 2 ^ 64
    → head_of (0x5a ∷ drop 1 (head_bytes len session seq)) ≡ record { gate = true; len = len; session = session; seq = seq }
opened_head len session seq short small fits =
    opened_tail (drop 1 (head_bytes len session seq)) ∙ ap (λ l. opened_as (head_of l)) (closed_tail len session seq)
    ∙ ap opened_as (head_of-head_bytes len session seq short small fits)

take_one_more : (n x : ℕ) (xs : List ℕ) → take (1 + n) (x ∷ xs) ≡ x ∷ take n xs
take_one_more n x xs = let more : 1 + n ≡ suc n = omega arith in rw more refl

-- the first bytes of a slot whose gate is opened
opened_range : (at n : ℕ) (image : List ℕ) → at < length image
    → slice_range (patched at (0x5a ∷ []) image) at (at + (1 + n)) ≡ 0x5a ∷ slice_range image (at + 1) (at + 1 + n)
opened_range at n image within =
    let front : length (take at image) ≡ at = length-take-le at image (omega arith) in
    let count : at + (1 + n) - at ≡ 1 + n = omega arith in
    let rest : at + 1 + n - (at + 1) ≡ n = omega arith in
    ap (take (at + (1 + n) - at)) (drop_at (take at image) (0x5a ∷ drop (at + 1) image) at front)
    ∙ ap (λ k. take k (0x5a ∷ drop (at + 1) image)) count
    ∙ take_one_more n 0x5a (drop (at + 1) image)
    ∙ ap (λ k. 0x5a ∷ take k (drop (at + 1) image)) (sym rest)

pub opened_torn : (h : Header) (number : ℕ) (image : List ℕ) → gate_at h number < length image
    → Torn (gate_at h number) 1 image (image_with_open_gate h image number)
opened_torn h number image within = Torn-patched (gate_at h number) (0x5a ∷ []) image (omega arith)

-- the block after a closed gate, by its bytes
pub waiting_is : (h : Header) (number session : ℕ) (image bytes : List ℕ) → IsInLimits h → number < 2 ^ 48 → session < 2 ^ 32
    → (h.version ≡ 1 → session ≡ 0) → 0 < length bytes
    → length bytes ≤ h.payload → gate_at h number < length image
    → slice_range image (gate_at h number + 1) (gate_at h number + 1 + 15) ≡ drop 1 (head_bytes (length bytes) session number)
    → slice_range image (gate_at h number + 16) (gate_at h number + 16 + length bytes) ≡ bytes
    → waiting_block h image number ≡ Some (record { number = number; session = session; payload = bytes })
unfolding waiting_block block_numbered head_at bytes_in
waiting_is h number session image bytes limits small short old some fits within head payload =
    let i : ℕ = number % h.slots in
    let open_image : List ℕ = image_with_open_gate h image number in
    let written : SlotHead = record { gate = true; len = length bytes; session = session; seq = number } in
    let head_is : head_at h open_image i ≡ written =
    ap head_of (opened_range (gate_at h number) 15 image within ∙ ap (λ l. 0x5a ∷ l) head)
    ∙ opened_head (length bytes) session number (omega arith) short (omega arith) in
    let bytes_are : bytes_in h open_image i (length bytes) ≡ bytes =
    range_outside (gate_at h number) 1 (gate_at h number + 16) (length bytes) image open_image (inr (omega arith))
    (opened_torn h number image within) ∙ payload in
    let valid : is_valid h i (record { gate = true; len = length bytes; session = session; seq = number }) ≡ true = grind (arith, nat_tests) in
    ap (if_numbered number) (block_in-valid h open_image i (ap (is_valid h i) head_is ∙ valid)
    ∙ ap (λ x. Some (block_of h open_image i x)) head_is
    ∙ ap (λ (p : List ℕ). Some (record { number = number; session = session_in h written; payload = p })) bytes_are
    ∙ ap (λ (s : ℕ). Some (record { number = number; session = s; payload = bytes })) (session_in-written h written limits old))
    ∙ numbered_same number (record { number = number; session = session; payload = bytes }) refl

pub tail_length : (len session seq : ℕ) → length (drop 1 (head_bytes len session seq)) ≡ 15
unfolding head_bytes
tail_length len session seq = refl

-- what was written after the gate of the next number, and then another gate was torn
pub waiting_written : (h : Header) (number session : ℕ) (old mid new bytes : List ℕ) → IsInLimits h → number < 2 ^ 48
    → session < 2 ^ 32 → (h.version ≡ 1 → session ≡ 0) → 0 < length bytes → length bytes ≤ h.payload
    → image_size h ≤ length old → mid ≡ image_with_body h number session bytes old → IsTurned (gate_at h (number + 1)) mid new
    → waiting_block h new number ≡ Some (record { number = number; session = session; payload = bytes })
unfolding body_bytes
waiting_written h number session old mid new bytes limits small short none some fits whole written turned =
    let at : ℕ = gate_at h number in
    let tail : List ℕ = drop 1 (head_bytes (length bytes) session number) in
    let first : List ℕ = patched (at + 1) tail old in
    let tail_long : length tail ≡ 15 = tail_length (length bytes) session number in
    let place : at + 1 + length tail ≡ at + 16 = omega (arith, tail_long) in
    let room : at + slot_size h ≤ length old = gate_within h number old limits whole in
    let split : mid ≡ patched (at + 16) bytes first =
    written ∙ patched_append (at + 1) tail bytes old (omega (arith, room)) ∙ ap (λ k. patched k bytes first) place in
    let long : length first ≡ length old = length-patched (at + 1) tail old (omega (arith, tail_long, room)) in
    let long_mid : length mid ≡ length old = ap length split ∙ length-patched (at + 16) bytes first (omega (arith, long, room)) ∙ long in
    let apart : (at + slot_size h ≤ gate_at h (number + 1)) ⊎ (gate_at h (number + 1) + slot_size h ≤ at) =
    slots_apart h (number % h.slots) ((number + 1) % h.slots) (next_slot h number limits) in
    let head : slice_range new (at + 1) (at + 1 + 15) ≡ tail =
    range_outside (gate_at h (number + 1)) 1 (at + 1) 15 mid new
    (⊎_elim (λ front. inl (omega (arith, front))) (λ behind. inr (omega (arith, behind))) apart) turned.torn
    ∙ ap (λ (l : List ℕ). slice_range l (at + 1) (at + 1 + 15)) split
    ∙ range_front (at + 16) (length bytes) (at + 1) 15 first (patched (at + 16) bytes first) (omega arith)
    (Torn-patched (at + 16) bytes first (omega (arith, long, room)))
    ∙ ap (λ k. slice_range first (at + 1) (at + 1 + k)) (sym tail_long)
    ∙ range_patched (at + 1) tail old (omega (arith, room)) in
    let payload : slice_range new (at + 16) (at + 16 + length bytes) ≡ bytes =
    range_outside (gate_at h (number + 1)) 1 (at + 16) (length bytes) mid new
    (⊎_elim (λ front. inl (omega (arith, front))) (λ behind. inr (omega (arith, behind))) apart) turned.torn
    ∙ ap (λ (l : List ℕ). slice_range l (at + 16) (at + 16 + length bytes)) split
    ∙ range_patched (at + 16) bytes first (omega (arith, long, room)) in
    waiting_is h number session new bytes limits small short none some fits (omega (arith, turned.torn.size, long_mid, room)) head payload

-- the gate of the next number is open
pub opened_image : (h : Header) (number : ℕ) (b : Block) (old new : List ℕ) → IsInLimits h → number ≡ next_of h old → IsClosed h old number
    → image_size h ≤ length old → waiting_block h old number ≡ Some b → Torn (gate_at h number) 1 old new
    → slice_index new (gate_at h number) ≡ 0x5a → HasAdded h b old new
unfolding waiting_block block_numbered
opened_image h number b old new limits next closed whole waits torn is =
    let within : gate_at h number < length old = omega (arith, gate_within h number old limits whole) in
    let same : new ≡ image_with_open_gate h old number = torn_byte (gate_at h number) old new 0x5a within torn is in
    let found = numbered-is number (block_in h (image_with_open_gate h old number) (number % h.slots)) b waits in
    let slot : b.number % h.slots ≡ number % h.slots = ap (λ k. k % h.slots) found.0 in
    added_image h b old new limits (torn_header (gate_at h number) 1 old new (omega arith) torn) (found.0 ∙ next)
    (record {
      others = λ j below other. gate_torn h (number % h.slots) j old new (λ here. other (here ∙ sym slot)) torn;
      pulled_before = ap (block_in h old) slot ∙ block_in-closed h old (number % h.slots) closed;
      here = ap (block_in h new) slot ∙ ap (λ (l : List ℕ). block_in h l (number % h.slots)) same ∙ found.1;
    })

-- the gate of the next number is torn
pub commit_image : (h : Header) (number : ℕ) (b : Block) (old new : List ℕ) → IsInLimits h → number ≡ next_of h old → IsClosed h old number
    → image_size h ≤ length old → waiting_block h old number ≡ Some b → Torn (gate_at h number) 1 old new
    → MayAdd h b old new
commit_image h number b old new limits next closed whole waits torn = ⊎_elim
    (λ is. inr (opened_image h number b old new limits next closed whole waits torn is))
    (λ gone. let same = same_slots h old new limits (λ j below. ⊎_elim
    (λ here. ap (block_in h new) here ∙ block_in-closed h new (number % h.slots) gone
    ∙ sym (ap (block_in h old) here ∙ block_in-closed h old (number % h.slots) closed))
    (λ other. gate_torn h (number % h.slots) j old new other torn)
    (cases_eq j (number % h.slots))) in
    inl (record { kept = torn_header (gate_at h number) 1 old new (omega arith) torn; run = same.0; next = same.1 }))
    (cases_eq (slice_index new (gate_at h number)) 0x5a)
