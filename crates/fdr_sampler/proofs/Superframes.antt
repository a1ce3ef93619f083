-- The slots of a superframe, and what they have.
use Rattle.std.proofs.Common.{◌≡◌, ℕ, ◌+◌, ◌*◌, ◌/◌, ◌%◌, ◌<◌, ◌≤◌, ◌==◌, ◌&&◌, sym, ap, ◌∙◌, arith}
use Rattle.std.specs.Prelude.{if◌then◌else◌}
use Rattle.std.proofs.lemmas.Nat.{div-mul-add, mod-mul-add, mod_below}
use Rattle.std.proofs.Math.Nat.{div-add-mod, mod-add-mod, mod-eq_of_lt, mul-le-mul_left}
use Rattle.fdr_frame.specs.declared.SlotKind.TheVariants.{Sync, Counter, Plain}
use Rattle.fdr_frame.specs.Slots.{frame_of, kind_of}
use Rattle.fdr_sampler.specs.SlotWord.{slot_within}

pub quotient : (w m r : ℕ) → r < w → (w * m + r) / w ≡ m
quotient w m r low =
    let turned : w * m + r ≡ m * w + r = omega arith in
    ap (λ x. x / w) turned ∙ div-mul-add m w r low

pub remainder : (w m r : ℕ) → r < w → (w * m + r) % w ≡ r
remainder w m r low =
    let turned : w * m + r ≡ m * w + r = omega arith in
    ap (λ x. x % w) turned ∙ mod-mul-add m w r low

-- a slot and that of its superframe are of one kind
pub kind_of-superframe : (w cword csub q x : ℕ) → 0 < w → kind_of w cword csub (64 * w * q + x) ≡ kind_of w cword csub x
kind_of-superframe w cword csub q x some =
    let k = 64 * w * q + x in
    let low : x % w < w = mod_below x w some in
    let at : k ≡ w * (64 * q + x / w) + x % w = omega (arith, div-add-mod x w) in
    let word : k % w ≡ x % w = ap (λ y. y % w) at ∙ remainder w (64 * q + x / w) (x % w) low in
    let row : k / w ≡ 64 * q + x / w = ap (λ y. y / w) at ∙ quotient w (64 * q + x / w) (x % w) low in
    let subframe : k / w % 4 ≡ x / w % 4 = ap (λ y. y % 4) row ∙ omega arith in
    ap (λ y. if (y + 1) == 1 then Sync else (if (k / w % 4 + 1 == csub) && (y + 1 == cword) then Counter else Plain)) word
    ∙ ap (λ y. if (x % w + 1) == 1 then Sync else (if (y + 1 == csub) && (x % w + 1 == cword) then Counter else Plain)) subframe

pub kind_within : (w cword csub k : ℕ) → 0 < w → kind_of w cword csub (slot_within w k) ≡ kind_of w cword csub k
kind_within w cword csub k some =
    sym (kind_of-superframe w cword csub (k / (64 * w)) (slot_within w k) some) ∙ ap (kind_of w cword csub) (div-add-mod k (64 * w))

-- further slots of the same superframe
pub within_more : (w n j : ℕ) → slot_within w n + j < 64 * w → slot_within w (n + j) ≡ slot_within w n + j
within_more w n j l = sym (mod-add-mod n (64 * w) j) ∙ mod-eq_of_lt l

-- a slot of the superframe by its frame and its place there
pub within_by_frame : (w k cycle place : ℕ) → 0 < w → cycle ≡ frame_of w k % 16 → place ≡ k % (4 * w) → 4 * w * cycle + place ≡ slot_within w k
within_by_frame w k cycle place some cycle_is place_is =
    let i = k / (4 * w) in
    let r = k % (4 * w) in
    let low : r < 4 * w = mod_below k (4 * w) (omega arith) in
    let whole : 4 * w * i + r ≡ k = div-add-mod k (4 * w) in
    let frames : 4 * w * (16 * (i / 16) + i % 16) ≡ 4 * w * i = ap (λ n. 4 * w * n) (div-add-mod i 16) in
    let split : 64 * w * (i / 16) + (4 * w * (i % 16) + r) ≡ k = omega (arith, whole, frames) in
    let last : i % 16 ≤ 15 = omega arith in
    let below : 4 * w * (i % 16) + r < 64 * w = omega (arith, low, mul-le-mul_left (4 * w) last) in
    ap (λ n. 4 * w * n + place) cycle_is ∙ ap (λ n. 4 * w * (i % 16) + n) place_is
    ∙ sym (ap (λ n. n % (64 * w)) (sym split) ∙ remainder (64 * w) (i / 16) (4 * w * (i % 16) + r) below)
