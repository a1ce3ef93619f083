-- Results and answers that differ, and counts over two stretches of calls.
use Rattle.std.proofs.Common.{◌≡◌, ◌∙◌, ℕ, ◌+◌, ◌≤◌, Result, Ok, Err, arith, sym}
use Rattle.fdr_io.specs.Faults.{Rose}
use Rattle.fdr_io.specs.declared.Input.TheVariants as input
use Rattle.fdr_recover.specs.declared.walk.BlocksFault.{BlocksFault}
use Rattle.fdr_recover.specs.declared.walk.BlocksFault.TheVariants as blocks
use Rattle.fdr_top.specs.declared.outcome.Outcome.TheVariants as outcome

-- ---- results

pub ok_not_err : {T E : Type 0} (v : T) (e : E) → ◌≡◌ {A = Result T E} (Ok v) (Err e) → ⊥
ok_not_err v e same = cc

pub err_same : {T E : Type 0} (d e : E) → ◌≡◌ {A = Result T E} (Err d) (Err e) → d ≡ e
err_same d e same = cc

-- the taker failed, and not the disk
pub taker_not_disk : (f : BlocksFault) → f ≡ blocks.Taker → ◌≡◌ {A = Result (Unit {0}) BlocksFault} (Err f) (Err blocks.Disk) → ⊥
taker_not_disk f taker e = let same : blocks.Taker ≡ blocks.Disk = sym taker ∙ err_same f blocks.Disk e in cc

pub disk_not_taker : (f : BlocksFault) → f ≡ blocks.Disk → ◌≡◌ {A = Result (Unit {0}) BlocksFault} (Err f) (Err blocks.Taker) → ⊥
disk_not_taker f disk e = let same : blocks.Disk ≡ blocks.Taker = sym disk ∙ err_same f blocks.Taker e in cc

-- ---- answers

pub memory_not_disk : outcome.NoMemory ≡ outcome.DiskFault → ⊥
memory_not_disk e = cc

pub memory_not_write : outcome.NoMemory ≡ outcome.WriteFault → ⊥
memory_not_write e = cc

pub memory_not_input : outcome.NoMemory ≡ outcome.ReadFault input.Line → ⊥
memory_not_input e = cc

pub disk_not_write : outcome.DiskFault ≡ outcome.WriteFault → ⊥
disk_not_write e = cc

pub disk_not_memory : outcome.DiskFault ≡ outcome.NoMemory → ⊥
disk_not_memory e = cc

pub disk_not_done : outcome.DiskFault ≡ outcome.Done → ⊥
disk_not_done e = cc

pub done_not_disk : outcome.Done ≡ outcome.DiskFault → ⊥
done_not_disk e = cc

pub done_not_write : outcome.Done ≡ outcome.WriteFault → ⊥
done_not_write e = cc

pub write_not_done : outcome.WriteFault ≡ outcome.Done → ⊥
write_not_done e = cc

pub write_not_disk : outcome.WriteFault ≡ outcome.DiskFault → ⊥
write_not_disk e = cc

pub done_not_memory : outcome.Done ≡ outcome.NoMemory → ⊥
done_not_memory e = cc

pub write_not_input : outcome.WriteFault ≡ outcome.ReadFault input.Line → ⊥
write_not_input e = cc

pub write_not_memory : outcome.WriteFault ≡ outcome.NoMemory → ⊥
write_not_memory e = cc

pub memory_not_done : outcome.NoMemory ≡ outcome.Done → ⊥
memory_not_done e = cc

-- ---- counts

-- a count that rose after it was kept
pub rose_after : (old mid new : ℕ) → mid ≡ old → Rose mid new → Rose old new
rose_after old mid new kept rose = rw kept at rose

-- a count that rose after it grew
pub rose_later : (old mid new : ℕ) → old ≤ mid → Rose mid new → Rose old new
rose_later old mid new grew rose = omega (arith, grew, rose)

-- a count that is kept is bounded
pub kept_bounded : (old new a b : ℕ) → new ≡ old → new ≤ old + a + b
kept_bounded old new a b kept = omega (arith, kept)

-- a count that is kept, bounded and kept
pub bounded_between : (old mid then new a b : ℕ) → mid ≡ old → then ≤ mid + a + b → new ≡ then → new ≤ old + a + b
bounded_between old mid then new a b before bounded after = omega (arith, before, bounded, after)
