-- Answers that are refusals, by why a call below was refused.
use Rattle.std.proofs.Common.{◌≡◌, ◌⊎◌, ◌↔◌, ◌==◌, ◌<◌, ◌≤◌, ℕ, inl, inr, Result, Ok, Err, ap, refl, arith}
use Rattle.std.specs.Prelude.{IsFalse}
use Rattle.std.proofs.lemmas.Bool.Decides.{nat_tests}
use Rattle.fdr_deck.proofs.Composing.{same_fault}
use Rattle.fdr_slot.specs.declared.image.ImageFault.{ImageFault}
use Rattle.fdr_slot.specs.declared.image.ImageFault.TheVariants as image_fault
use Rattle.fdr_slot.specs.declared.image.Header.{Header}
use Rattle.fdr_slot.specs.Places.{image_size}
use Rattle.fdr_recover.specs.declared.error.HeaderFault.{HeaderFault}
use Rattle.fdr_recover.specs.declared.error.HeaderFault.TheVariants as header
use Rattle.fdr_recover.specs.declared.error.RingFault.{RingFault}
use Rattle.fdr_recover.specs.declared.error.RingFault.TheVariants as ring
use Rattle.fdr_recorder.specs.declared.error.SessionFault.{SessionFault}
use Rattle.fdr_recorder.specs.declared.error.SessionFault.TheVariants as fault
use Rattle.fdr_recorder.specs.Faults.{session_header_fault}

pub ok_not_err : {T E : Type 0} (x : T) (e : E) → ◌≡◌ {A = Result T E} (Ok x) (Err e) → ⊥
ok_not_err x e same = cc

pub ring_apart : {T : Type 0} → ◌≡◌ {A = Result T RingFault} (Err ring.DiskFault) (Err ring.SeqEnd) → ⊥
ring_apart same = cc

pub neither : {A B : Type 0} → (A → ⊥) → (B → ⊥) → A ↔ B
neither a b = (λ x. absurd (a x), λ y. absurd (b y))

-- a number for each kind of fault
abbrev kind : SessionFault → ℕ
kind (fault.Image why) = 0
kind (fault.WordsDiffer image table) = 1
kind fault.OldVersion = 2
kind fault.DiskFault = 3
kind fault.SeqEnd = 4
kind fault.NoMemory = 5

-- a refusal is for one kind of fault
pub apart : {T : Type 0} (x y : SessionFault) → IsFalse (kind x == kind y) → ◌≡◌ {A = Result T SessionFault} (Err x) (Err y) → ⊥
apart x y other is = let same : kind x ≡ kind y = ap kind (same_fault is) in grind (arith, nat_tests)

-- the header's fault, where it stands for this one
pub header_image : {T U : Type 0} (e : HeaderFault) (why : ImageFault) → ◌≡◌ {A = Result T SessionFault} (Err (session_header_fault e)) (Err (fault.Image why))
    → ◌≡◌ {A = Result U HeaderFault} (Err e) (Err (header.Image why))
header_image (header.Image found) why is = cc
header_image (header.WordsDiffer i t) why is = absurd (cc)
header_image header.DiskFault why is = absurd (cc)

pub header_words : {T U : Type 0} (e : HeaderFault) (i t : ℕ)
    → ◌≡◌ {A = Result T SessionFault} (Err (session_header_fault e)) (Err (fault.WordsDiffer i t))
    → ◌≡◌ {A = Result U HeaderFault} (Err e) (Err (header.WordsDiffer i t))
header_words (header.Image found) i t is = absurd (cc)
header_words (header.WordsDiffer image table) i t is = cc
header_words header.DiskFault i t is = absurd (cc)

pub header_disk : {T U : Type 0} (e : HeaderFault) → ◌≡◌ {A = Result T SessionFault} (Err (session_header_fault e)) (Err fault.DiskFault)
    → ◌≡◌ {A = Result U HeaderFault} (Err e) (Err header.DiskFault)
header_disk (header.Image found) is = absurd (cc)
header_disk (header.WordsDiffer i t) is = absurd (cc)
header_disk header.DiskFault is = refl

pub disk_above : {T U : Type 0} (e : HeaderFault) → ◌≡◌ {A = Result U HeaderFault} (Err e) (Err header.DiskFault)
    → ◌≡◌ {A = Result T SessionFault} (Err (session_header_fault e)) (Err fault.DiskFault)
disk_above e is = ap (λ (f : HeaderFault). Err (session_header_fault f)) (same_fault is)

-- and it is one of these three kinds
pub header_not : {T : Type 0} (e : HeaderFault) → (◌≡◌ {A = Result T SessionFault} (Err (session_header_fault e)) (Err fault.SeqEnd) → ⊥)
    × (◌≡◌ {A = Result T SessionFault} (Err (session_header_fault e)) (Err fault.NoMemory) → ⊥)
    × (◌≡◌ {A = Result T SessionFault} (Err (session_header_fault e)) (Err fault.OldVersion) → ⊥)
header_not (header.Image found) = (λ is. cc, λ is. cc, λ is. cc)
header_not (header.WordsDiffer i t) = (λ is. cc, λ is. cc, λ is. cc)
header_not header.DiskFault = (λ is. cc, λ is. cc, λ is. cc)

-- no header was found of a disk that is too short for one
pub header_short : {T U : Type 0} (e : HeaderFault) (size : ℕ)
    → ((why : ImageFault) → ◌≡◌ {A = Result U HeaderFault} (Err e) (Err (header.Image why)) → (why ≡ image_fault.Small) ↔ (size < 64))
    → ((i t : ℕ) → ◌≡◌ {A = Result U HeaderFault} (Err e) (Err (header.WordsDiffer i t)) → 64 ≤ size) → size < 64
    → ◌≡◌ {A = Result T SessionFault} (Err (session_header_fault e)) (Err (fault.Image image_fault.Small))
    ⊎ ◌≡◌ {A = Result T SessionFault} (Err (session_header_fault e)) (Err fault.DiskFault)
header_short (header.Image why) size small differ short = inl (ap (λ (w : ImageFault). Err (fault.Image w)) ((small why refl).1 short))
header_short (header.WordsDiffer i t) size small differ short = let enough = differ i t refl in absurd (omega arith)
header_short header.DiskFault size small differ short = inr refl

-- a disk that has an image is long enough for a header
pub too_short_for : (h : Header) (size : ℕ) → image_size h ≤ size → size < 64 → ⊥
too_short_for h size whole short = omega arith

pub version_2 : (version : ℕ) → 1 ≤ version → version ≤ 2 → (version ≡ 1 → ⊥) → version ≡ 2
version_2 version least most other = omega arith

pub not_current : (n : ℕ) → n ≡ 2 → n ≡ 1 → ⊥
not_current n current old = omega arith
