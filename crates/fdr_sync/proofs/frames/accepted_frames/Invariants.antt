use Rattle.std.proofs.Common.{◌≡◌, ◌++◌, ◌-◌}
use Rattle.fdr_bits.specs.Bits.{bits_in}
use Rattle.fdr_sync.specs.Accepted.{accepted_from, accepted_frames}
use Rattle.fdr_sync.proofs.frames.accepted_frames.Given as goal

-- the frames so far, followed by those from here on, are all
abbrev pub invariant-loop-at : goal.invariant-loop-at
invariant-loop-at l = l.frames.items ++ accepted_from l.bytes l.words l.free ≡ accepted_frames l.bytes l.words

abbrev pub decreases-loop-at : goal.decreases-loop-at
decreases-loop-at l = bits_in l.bytes - l.free
