use Rattle.std.proofs.Common.{◌≡◌, ◌++◌, ◌-◌, map}
use Rattle.fdr_bits.specs.Bits.{bits_in}
use Rattle.fdr_sync.specs.Events.{gaps, gaps_from}
use Rattle.fdr_sync.proofs.frames.gaps.Given as goal

-- the gaps so far, followed by those from here on, are all
abbrev pub invariant-loop-at : goal.invariant-loop-at
invariant-loop-at l = map (λ g. (g.at, g.bits)) l.gaps.items ++ gaps_from l.bytes l.words l.free ≡ gaps l.bytes l.words

abbrev pub decreases-loop-at : goal.decreases-loop-at
decreases-loop-at l = bits_in l.bytes - l.free
