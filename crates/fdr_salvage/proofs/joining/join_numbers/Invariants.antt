use Rattle.std.proofs.Common.{◌≡◌, List, take, map}
use Rattle.std.specs.Prelude.{All, sum_by}
use Rattle.fdr_recover.specs.Blocks.{Block}
use Rattle.fdr_recover.specs.Stretches.{stretches}
use Rattle.fdr_salvage.specs.Runs.{goes_on_with, run_numbers, run_length, HasBlockNumbers}
use Rattle.fdr_salvage.proofs.joining.join_numbers.Given as goal

abbrev pub invariant-loop-number : goal.invariant-loop-number
invariant-loop-number l = record {
  joined : (blocks : List Block) → map (λ (b : Block). b.number) blocks ≡ take l.number-index l.numbers
      → l.runs.items ≡ map run_numbers (stretches goes_on_with blocks);
  within : All HasBlockNumbers l.runs.items;
  few : sum_by run_length l.runs.items ≡ l.number-index;
}
