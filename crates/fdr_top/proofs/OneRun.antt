-- Each image without a fault has one recovered run.
use Rattle.std.proofs.Common.{◌≡◌, ℕ, List, None}
use Rattle.fdr_recover.specs.ImageHeader.{header_in, image_fault_of}
use Rattle.fdr_recover.proofs.BlockLemmas.{recovered_run-is_recovered, recovered_run-one}
use Rattle.fdr_top.specs.Recover.{HasOneRun}
use Rattle.fdr_top.proofs.RecordLines.{limits_in}

pub one_run : (image : List ℕ) → image_fault_of image ≡ None → HasOneRun image
one_run image none = record {
  recovered = recovered_run-is_recovered (header_in image) image (limits_in image none);
  only = λ run is. recovered_run-one (header_in image) image run (limits_in image none) is;
}
