-- An empty file that is filled with zeros by calls that come short.
use Rattle.std.proofs.Common.{◌≡◌, ℕ, ◌≤◌, replicate}
use Rattle.std.specs.Prelude.{IsTrue}
use Rattle.fdr_storage.specs.Disk.{Told, StoredFile}
use Rattle.fdr_storage.specs.Calls.{Goes}
use Rattle.fdr_storage_deck.specs.Causes.{NoneFailed}
use Rattle.fdr_storage_deck.specs.Runs.{FillsPart}

-- The file was given the first `done` of these zeros.
pub record Given (told : Told) (done size : ℕ) (old new : StoredFile) : Type 0 where
  pub within : done ≤ size
  pub held : IsTrue told.bytes → new.held ≡ replicate done 0
  pub part : FillsPart told size old new
  pub goes : Goes told old new
  pub no_fault : NoneFailed told old new
