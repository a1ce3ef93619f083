-- Answers that are refusals, by why a call below was refused.
use Rattle.std.proofs.Common.{◌≡◌, ◌≤◌, ℕ, Result, Err, refl, arith}
use Rattle.fdr_slot.specs.declared.image.Header.{Header}
use Rattle.fdr_slot.specs.declared.image.ImageFault.{ImageFault}
use Rattle.fdr_slot.specs.Places.{image_size}
use Rattle.fdr_recover.specs.HeaderFaults.{header_fault}
use Rattle.fdr_recover.specs.declared.error.RingFault.{RingFault}
use Rattle.fdr_recover.specs.declared.error.RingFault.TheVariants as ring
use Rattle.fdr_recover.specs.declared.error.HeaderFault.{HeaderFault}
use Rattle.fdr_recover.specs.declared.error.HeaderFault.TheVariants as header

-- a call below was refused with this fault
abbrev pub Below : Type 0 → RingFault → RingFault → Type 0
Below T e fault = ◌≡◌ {A = Result T RingFault} (Err e) (Err fault)

-- its fault stands for this one
abbrev pub Above : Type 0 → RingFault → HeaderFault → Type 0
Above T e fault = ◌≡◌ {A = Result T HeaderFault} (Err (header_fault e)) (Err fault)

pub image_below : (T : Type 0) (e : RingFault) (why : ImageFault) → Above T e (header.Image why) → Below T e (ring.Image why)
image_below T ring.NotEmpty why is = absurd (cc)
image_below T (ring.Image found) why is = cc
image_below T ring.DiskFault why is = absurd (cc)
image_below T ring.SeqEnd why is = absurd (cc)

pub words_not_below : (T : Type 0) (e : RingFault) (i t : ℕ) → Above T e (header.WordsDiffer i t) → ⊥
words_not_below T ring.NotEmpty i t is = cc
words_not_below T (ring.Image found) i t is = cc
words_not_below T ring.DiskFault i t is = cc
words_not_below T ring.SeqEnd i t is = cc

pub disk_below : (T : Type 0) (e : RingFault) → (Below T e ring.NotEmpty → ⊥) × (Below T e ring.SeqEnd → ⊥) → Above T e header.DiskFault
    → Below T e ring.DiskFault
disk_below T ring.NotEmpty only is = absurd (only.0 refl)
disk_below T (ring.Image found) only is = absurd (cc)
disk_below T ring.DiskFault only is = refl
disk_below T ring.SeqEnd only is = absurd (only.1 refl)

pub disk_above : (T : Type 0) (e : RingFault) → Below T e ring.DiskFault → Above T e header.DiskFault
disk_above T ring.NotEmpty is = absurd (cc)
disk_above T (ring.Image found) is = absurd (cc)
disk_above T ring.DiskFault is = refl
disk_above T ring.SeqEnd is = absurd (cc)

-- a disk that has an image is long enough for a header
pub has_header : (h : Header) (size : ℕ) → image_size h ≤ size → 64 ≤ size
has_header h size whole = omega arith
