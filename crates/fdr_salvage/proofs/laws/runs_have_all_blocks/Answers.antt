use Rattle.std.proofs.Common.{◌%◌, arith, mod-lt}
use Rattle.std.proofs.lemmas.List.Elements.{All-contains}
use Rattle.fdr_recover.specs.Blocks.{StandsInSlot}
use Rattle.fdr_recover.specs.Images.{block_in}
use Rattle.fdr_recover.proofs.Stretching.{stretches-are}
use Rattle.fdr_salvage.specs.Runs.{valid_blocks, runs_of, goes_on_with}
use Rattle.fdr_salvage.proofs.Numbers.{slot-stands, valid-contains, valid-rising, valid-stand}
use Rattle.fdr_salvage.proofs.InOne.{in_one_run, runs-numbered}
use Rattle.fdr_salvage.proofs.LastRun.{runs-last}
use Rattle.fdr_salvage.proofs.laws.runs_have_all_blocks.Goals as goal

pub returns : goal.returns
unfolding runs_of
returns c = record {
  held = λ h image b limits. (
    λ among. (
      b.number % h.slots,
      mod-lt b.number (omega (arith, limits.least_slots)),
      All-contains (StandsInSlot h.slots (block_in h image)) (valid_blocks h image) b (valid-stand h image) among,
    ),
    λ held. valid-contains h image b limits (slot-stands h image held.0 b held.2),
  );
  rising = λ h image limits. valid-rising h image;
  maximal = λ h image. stretches-are goes_on_with (valid_blocks h image);
  in_one = in_one_run;
  numbered = λ h image limits. runs-numbered h image;
  last = runs-last;
}
