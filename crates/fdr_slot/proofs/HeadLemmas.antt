-- What is read of the bytes of a head.
use Rattle.std.proofs.Common.{◌≡◌, ◌<◌, ◌^◌, ℕ, ◌++◌, [], ⊎_elim, refl, ap, sym, ◌∙◌, arith}
use Rattle.std.proofs.lemmas.Bool.{cases_eq}
use Rattle.byteorder.specs.Endian.{big_number, big_bytes}
use Rattle.fdr_slot.proofs.NumberLemmas.{big_number-big_bytes_2, big_number-big_bytes_4, big_number-big_bytes_8}
use Rattle.fdr_slot.specs.Heads.{head_of, head_bytes, closed_head, session_in}
use Rattle.fdr_slot.specs.Limits.{IsInLimits}
use Rattle.fdr_slot.specs.declared.image.Header.{Header}
use Rattle.fdr_slot.specs.declared.head.SlotHead.{SlotHead}

-- a head is read as it was written
pub head_of-head_bytes : (len session seq : ℕ) → len < 2 ^ 16 → session < 2 ^ 32 → seq < 2 ^ 64
    → head_of (head_bytes len session seq) ≡ closed_head len session seq
unfolding head_of head_bytes
head_of-head_bytes len session seq short small fits =
    let last = big_bytes 8 seq in
    let middle = big_bytes 4 session ++ last in
    ap (λ x. closed_head x (big_number 4 middle) (big_number 8 last)) (big_number-big_bytes_2 len middle short)
    ∙ ap (λ x. closed_head len x (big_number 8 last)) (big_number-big_bytes_4 session last small)
    ∙ ap (λ x. closed_head len session x) (big_number-big_bytes_8 seq [] fits)

-- in version 1 no block has a session
pub session_in-first : (h : Header) (head : SlotHead) → h.version ≡ 1 → session_in h head ≡ 0
session_in-first h head first = rw first refl

-- the session that was written, which in version 1 is 0
pub session_in-written : (h : Header) (head : SlotHead) → IsInLimits h → (h.version ≡ 1 → head.session ≡ 0) → session_in h head ≡ head.session
session_in-written h head limits none = ⊎_elim
    (λ second. rw second refl)
    (λ other. let first : h.version ≡ 1 = omega (arith, limits.least_version, limits.most_version, other) in
    session_in-first h head first ∙ sym (none first))
    (cases_eq h.version 2)
