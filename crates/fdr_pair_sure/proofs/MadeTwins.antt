-- A twin in memory as it is made.
use Rattle.std.proofs.Common.{◌≡◌, arith}
use Rattle.fdr_deck.specs.Disk.{IsSettled}
use Rattle.fdr_deck.specs.Announced.{greatest_announced}
use Rattle.fdr_deck.specs.Memory.{memory_state}
use Rattle.fdr_twin.specs.declared.side.Side.TheVariants.{First, Second}
use Rattle.fdr_twin.specs.TwinMemory.{TwinMemory, memory_on, twin_pair}
use Rattle.fdr_pair.specs.PairMoments.{MayRecordPair}

-- where both disks are settled and nothing was announced, what the promises on stops ask holds
pub made_pair_may : (d : TwinMemory) → IsSettled (memory_state (memory_on First d)) → IsSettled (memory_state (memory_on Second d))
    → greatest_announced d.span.announced ≡ 0 → MayRecordPair (twin_pair d)
made_pair_may d first second none = record { first = first; second = second; greatest = omega (arith, none) }
