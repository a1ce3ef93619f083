-- What `recover` promises: what it means.
use Rattle.std.specs.Prelude.{◌≡◌, ℕ, List, IsTrue}
use Rattle.fdr_words.specs.Forms.{recover_image}
use Rattle.fdr_top.specs.Doing.{Refines}
use Rattle.fdr_top.specs.Meaning.{Given, meaning}
use Rattle.fdr_top.specs.Recover.{OnlyLooks}
use Rattle.fdr_top.specs.Refusals.{RefusesHeader}
use Rattle.fdr_top.specs.Runs.{WorkRun}

-- What `recover` promises: the disk was only looked at; which refusal of its header is answered; and where the disk tells what it
-- holds, it did what it means by that.
pub record RecoversImage (path : List ℕ) (r : WorkRun) : Type 0 where
  pub looks : OnlyLooks r.tells r.old r.new
  pub header : RefusesHeader r.tells r.old r.new r.answer
  pub means : IsTrue r.tells.bytes → (g : Given) → g.image ≡ r.old.held → Refines (recover_image path) (meaning (recover_image path) g) r
