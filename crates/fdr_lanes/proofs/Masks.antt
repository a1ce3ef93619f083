-- What a mask of 32 bytes says of the bytes, and its bits from a later byte on.
use Rattle.std.proofs.Common.{◌≡◌, ℕ, ◌+◌, ◌-◌, ◌*◌, ◌/◌, ◌%◌, ◌^◌, ◌<◌, ◌≤◌, List, map, length, get_or, replicate, sym, ap, ◌∙◌, subst, ⊎_elim, arith}
use Rattle.std.proofs.Common.{true, false, not, cond, eqb, w8, w64}
use Rattle.std.specs.Int.{bit_at, trailing_zeros}
use Rattle.std.proofs.lemmas.Bool.{cases_lt}
use Rattle.std.proofs.lemmas.List.{get_or-map, length-map}
use Rattle.std.proofs.lemmas.Nat.{shr-shr}
use Rattle.std.proofs.lemmas.Nat.Bits.{bit_at_above, bit_at-trailing_zeros}
use Rattle.std.proofs.lemmas.Simd.{bitmask_splat, bit_mask_l, mask_l-lt}
use lib.Lanes.{zip2, mask_l, top}
use Rattle.fdr_bits.proofs.WordLemmas.{AreBytes, three_bytes, word_at_by_bytes}
use Rattle.fdr_lanes.specs.Syncs.{IsSyncPosition, HasNoSyncInBytes}

-- the mask of the lanes that aren't zero
abbrev pub mask_of : List ℕ → ℕ
mask_of v = mask_l (map (top 7) (zip2 (λ a b. cond (not (eqb a b)) 255 0) v (replicate 32 0))) % 2 ^ 64

is_mask : (v : List ℕ) → length v ≡ 32 → mask_of v ≡ mask_l (map (λ x. not (eqb x 0)) v)
is_mask v long = bitmask_splat w8 (λ a b. not (eqb a b)) v 32 0 long (omega arith)

pub mask_few : (v : List ℕ) → length v ≡ 32 → mask_of v < 2 ^ 32
mask_few v long =
    let n : length (map (λ x. not (eqb x 0)) v) ≡ 32 = length-map v (λ x. not (eqb x 0)) ∙ long in
    let few = mask_l-lt (map (λ (x : ℕ). not (eqb x 0)) v) in
    let all : mask_l (map (λ x. not (eqb x 0)) v) < 2 ^ 32 = subst (λ k. mask_l (map (λ x. not (eqb x 0)) v) < 2 ^ k) n few in
    omega (arith, is_mask v long, all)

not_zero : (x : ℕ) → 0 < x → not (eqb x 0) ≡ true
not_zero x h = grind arith

pub mask_bit : (v : List ℕ) → length v ≡ 32 → (k : ℕ) → k < 32 → 0 < get_or v k 0 → bit_at (mask_of v) k ≡ 1
mask_bit v long k lane some =
    ap (λ m. bit_at m k) (is_mask v long) ∙ bit_mask_l (map (λ x. not (eqb x 0)) v) k
    ∙ ap (λ t. cond t 1 0) (get_or-map (λ x. not (eqb x 0)) v k 0 false (omega (arith, long)) ∙ not_zero (get_or v k 0) some)

-- ---- a mask m of the 32 bytes from byte `block` on

abbrev pub MarksEach : List ℕ → ℕ → ℕ → Type 0
MarksEach b block m = (q : ℕ) → 8 * block ≤ q → q < 8 * (block + 32) → IsSyncPosition b q → bit_at m (q / 8 - block) ≡ 1

-- The mask of lanes that aren't zero where the sync word begins at a bit of the three bytes of a lane.
pub marks_each : (b : List ℕ) (at : ℕ) (v first second third : List ℕ) → AreBytes b → ((k : ℕ) → k < 32 → get_or first k 0 ≡ get_or b (at + k) 0)
    → ((k : ℕ) → k < 32 → get_or second k 0 ≡ get_or b (at + 1 + k) 0) → ((k : ℕ) → k < 32 → get_or third k 0 ≡ get_or b (at + 2 + k) 0)
    → length v ≡ 32
    → ((k r : ℕ) → k < 32 → r < 8 → ((get_or third k 0 * 256 + get_or second k 0) * 256 + get_or first k 0) / 2 ^ r % 2 ^ 12 ≡ 583 → 0 < get_or v k 0)
    → MarksEach b at (mask_of v)
marks_each b at v first second third bytes one two three long set q low high sync =
    let k = q / 8 - at in
    let lane : k < 32 = omega arith in
    let place : at + k ≡ q / 8 = omega arith in
    let next : at + 1 + k ≡ q / 8 + 1 = omega arith in
    let last : at + 2 + k ≡ q / 8 + 2 = omega arith in
    let three_are : (get_or third k 0 * 256 + get_or second k 0) * 256 + get_or first k 0 ≡ three_bytes b (q / 8) =
    rw (one k lane, two k lane, three k lane, place, next, last) in
    mask_bit v long k lane
    (set k (q % 8) lane (omega arith) (ap (λ n. n / 2 ^ (q % 8) % 2 ^ 12) three_are ∙ sym (word_at_by_bytes b q bytes) ∙ sync.1))

-- where the next n bits are clear, the sync word begins in none of the next n bytes
pub none_marked : (b : List ℕ) (at next block m n : ℕ) → HasNoSyncInBytes b at next → MarksEach b block m → block ≤ next → next + n ≤ block + 32
    → ((i : ℕ) → i < n → bit_at (m / 2 ^ (next - block)) i ≡ 0) → HasNoSyncInBytes b at (next + n)
none_marked b at next block m n before marks behind room clear q low high sync =
    ⊎_elim (λ h. before q low h sync) (λ h.
    let i = q / 8 - next in
    let place : next - block + i ≡ q / 8 - block = omega arith in
    let bit : bit_at (m / 2 ^ (next - block)) i ≡ bit_at m (q / 8 - block) =
    ap (λ x. x % 2) (shr-shr m (next - block) i ∙ ap (λ k. m / 2 ^ k) place) in
    absurd (omega (arith, bit, clear i (omega arith), marks q (omega arith) (omega arith) sync)))
    (cases_lt q (8 * next))

-- a lowest bit that is set is within the block
pub lowest_within : (m d : ℕ) → m < 2 ^ 32 → 0 < m / 2 ^ d → m / 2 ^ d < 2 ^ 64 → d + trailing_zeros w64 (m / 2 ^ d) < 32
lowest_within m d few some fits =
    let z = trailing_zeros w64 (m / 2 ^ d) in
    let set : bit_at m (d + z) ≡ 1 = sym (ap (λ x. x % 2) (shr-shr m d z)) ∙ (bit_at-trailing_zeros w64 (m / 2 ^ d) some fits).1 in
    ⊎_elim (λ h. h) (λ h. absurd (omega (arith, set, bit_at_above m 32 (d + z) few h))) (cases_lt (d + z) 32)
