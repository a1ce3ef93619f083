use Rattle.std.proofs.Common.{ℕ, ◌≡◌, ◌+◌, ◌*◌, ◌<◌, get_or}
use Rattle.fdr_bits.specs.Bits.{word_at}
use Rattle.fdr_lanes.proofs.words.unpack_blocks.Given as goal

abbrev pub invariant-loop-i : goal.invariant-loop-i
invariant-loop-i l = (k : ℕ) → k < 8 * l.i → get_or l.out k 0 ≡ word_at l.bytes (l.from + 12 * k)
