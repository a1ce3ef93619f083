-- What is done with a file by its name.
use Rattle.std.specs.Prelude.{◌≡◌, Bool, false, IsTrue, ⊤}
use Rattle.fdr_io.specs.Faults.{Rose}
use Rattle.fdr_storage.specs.Disk.{Told, StoredFile}
use Rattle.fdr_storage.specs.Calls.{Keeps, KeepsMarks, Goes, HasSameCounts}
use Rattle.fdr_storage.specs.declared.named.Absence.{Absence}
use Rattle.fdr_storage.specs.declared.named.Absence.TheVariants.{NotFound, Failed}

-- A call left the storage as it was. Time went on.
pub record Idles (told : Told) (old new : StoredFile) : Type 0 where
  pub keeps : Keeps old new
  pub marks : KeepsMarks old new
  pub goes : Goes told old new
  pub counts : HasSameCounts old new

-- A call failed, was counted for that where the storage tells its bytes, and left the storage as it was.
pub record Fails (told : Told) (old new : StoredFile) : Type 0 where
  pub keeps : Keeps old new
  pub marks : KeepsMarks old new
  pub goes : Goes told old new
  pub cause : IsTrue told.bytes → Rose old.faults new.faults × (new.interruptions ≡ old.interruptions)

-- A call by name found nothing, which is no failure, or it failed.
abbrev pub Misses : Told → Absence → StoredFile → StoredFile → Type 0
Misses told NotFound old new = Idles told old new
Misses told Failed old new = Fails told old new

-- Where a call by name found nothing, there is nothing. Of one that failed this says nothing.
abbrev pub IsAbsent : Told → Absence → Bool → Type 0
IsAbsent told NotFound there = IsTrue told.bytes → there ≡ false
IsAbsent told Failed there = ⊤
