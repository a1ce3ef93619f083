-- Why a call of the ring was refused, by why the session's call was.
use Rattle.std.proofs.Common.{◌≡◌, ◌⊎◌, inl, inr, Result, Err, refl, ap}
use Rattle.fdr_recover.specs.declared.error.RingFault.{RingFault}
use Rattle.fdr_recover.specs.declared.error.RingFault.TheVariants as ring
use Rattle.fdr_recorder.specs.declared.error.SessionFault.{SessionFault}
use Rattle.fdr_recorder.specs.declared.error.SessionFault.TheVariants as fault
use Rattle.fdr_recorder.specs.Faults.{session_fault}

-- the call of the ring was refused for one of two causes
abbrev pub IsOneOfTwo : Type 0 → RingFault → Type 0
IsOneOfTwo T e = ◌≡◌ {A = Result T RingFault} (Err e) (Err ring.SeqEnd) ⊎ ◌≡◌ {A = Result T RingFault} (Err e) (Err ring.DiskFault)

pub end_below : {T U : Type 0} (e : RingFault) → ◌≡◌ {A = Result T SessionFault} (Err (session_fault e)) (Err fault.SeqEnd)
    → ◌≡◌ {A = Result U RingFault} (Err e) (Err ring.SeqEnd)
end_below ring.NotEmpty is = absurd (cc)
end_below (ring.Image why) is = absurd (cc)
end_below ring.DiskFault is = absurd (cc)
end_below ring.SeqEnd is = refl

pub disk_below : {T U : Type 0} (e : RingFault) → IsOneOfTwo U e → ◌≡◌ {A = Result T SessionFault} (Err (session_fault e)) (Err fault.DiskFault)
    → ◌≡◌ {A = Result U RingFault} (Err e) (Err ring.DiskFault)
disk_below e (inl ends) is = let same : e ≡ ring.SeqEnd = cc in absurd (cc (ap session_fault same))
disk_below e (inr fails) is = fails

-- and so was the session's
pub two_above : {T U : Type 0} (e : RingFault) → IsOneOfTwo U e → (◌≡◌ {A = Result T SessionFault} (Err (session_fault e)) (Err fault.DiskFault))
    ⊎ (◌≡◌ {A = Result T SessionFault} (Err (session_fault e)) (Err fault.SeqEnd))
two_above e (inl ends) = let same : e ≡ ring.SeqEnd = cc in inr (ap (λ (f : RingFault). Err (session_fault f)) same)
two_above e (inr fails) = let same : e ≡ ring.DiskFault = cc in inl (ap (λ (f : RingFault). Err (session_fault f)) same)
