use Rattle.std.proofs.Common.{◌≡◌, ℕ, ◌+◌, ◌-◌, ◌/◌, ◌^◌, ◌<◌, ap, subst, ◌∙◌, arith, w64}
use Rattle.std.specs.Int.{bit_at, trailing_zeros}
use Rattle.std.proofs.lemmas.Nat.Bits.{bit_at-trailing_zeros, bit_at-zero}
use Rattle.std.proofs.Math.Nat.{div-le_self}
use Rattle.fdr_lanes.specs.Syncs.{HasNoSyncInBytes}
use Rattle.fdr_lanes.proofs.Masks.{none_marked, lowest_within}
use Rattle.fdr_lanes.proofs.search.next_candidate.Goals as goal

pub returns-then-found-ne0-clause-within : goal.returns-then-found-ne0-clause-within
returns-then-found-ne0-clause-within c =
    let m = c.candidates.result in
    let d = c.loop-next.next - c.min-block.result in
    let low : d + trailing_zeros w64 (m / 2 ^ d) < 32 =
    lowest_within m d c.candidates.ensures.within_lanes (omega arith) (omega (arith, div-le_self m (2 ^ d), c.candidates.ensures.within_lanes)) in
    omega arith

pub returns-then-found-ne0-clause-none : goal.returns-then-found-ne0-clause-none
returns-then-found-ne0-clause-none c =
    let m = c.candidates.result in
    let d = c.loop-next.next - c.min-block.result in
    let some : 0 < m / 2 ^ d = omega arith in
    let fits : m / 2 ^ d < 2 ^ 64 = omega (arith, div-le_self m (2 ^ d), c.candidates.ensures.within_lanes) in
    let low : d + trailing_zeros w64 (m / 2 ^ d) < 32 = lowest_within m d c.candidates.ensures.within_lanes some fits in
    none_marked c.args.bytes.now c.args.at c.loop-next.next c.min-block.result m (trailing_zeros w64 (m / 2 ^ d)) c.loop-next.invariant.2
    c.candidates.ensures.each (omega arith) (omega arith) (bit_at-trailing_zeros w64 (m / 2 ^ d) some fits).2

pub loop-next-preserved : goal.loop-next-preserved
loop-next-preserved c =
    let m = c.candidates.result in
    let next = c.loop-next.next in
    let block = c.min-block.result in
    let left = block + 32 - next in
    let end : next + left ≡ block + 32 = omega arith in
    let clear : (i : ℕ) → i < left → bit_at (m / 2 ^ (next - block)) i ≡ 0 = λ i h. ap (λ x. bit_at x i) c.if-found-ne0.false ∙ bit_at-zero i in
    let none : HasNoSyncInBytes c.args.bytes.now c.args.at (next + left) =
    none_marked c.args.bytes.now c.args.at next block m left c.loop-next.invariant.2 c.candidates.ensures.each (omega arith) (omega arith) clear in
    (omega arith, omega arith, subst (HasNoSyncInBytes c.args.bytes.now c.args.at) end none)
