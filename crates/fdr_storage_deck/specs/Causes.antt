-- Why what stands above a storage gives up.
use Rattle.std.specs.Prelude.{◌≡◌, ◌⊎◌, ◌-◌, ◌^◌, ◌≤◌, IsTrue}
use Rattle.fdr_io.specs.Faults.{Rose}
use Rattle.fdr_storage.specs.Disk.{Told, StoredFile}

-- A call of the storage failed, or calls were interrupted 2^64 - 1 times, where the storage tells its bytes.
abbrev pub GaveUp : Told → StoredFile → StoredFile → Type 0
GaveUp told old new = IsTrue told.bytes → Rose old.faults new.faults ⊎ (2 ^ 64 - 1 ≤ new.interruptions)

-- No call of the storage failed, where it tells its bytes.
abbrev pub NoneFailed : Told → StoredFile → StoredFile → Type 0
NoneFailed told old new = IsTrue told.bytes → new.faults ≡ old.faults
