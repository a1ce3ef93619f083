-- The storage in memory is sound, whatever calls it has seen.
use Rattle.std.specs.Prelude.{◌≡◌, ℕ, ◌-◌, ◌^◌, ◌<◌, ◌≤◌, List, [], ◌∷◌, length, replicate, Bool}
use Rattle.std.proofs.Common.{inl, inr, refl, sym, ap, subst, arith}
use Rattle.std.proofs.lemmas.List.{length-replicate}
use Rattle.fdr_deck.specs.State.{Moment}
use Rattle.fdr_deck.specs.Disk.{IsZeros}
use Rattle.fdr_storage.specs.Disk.{IsSoundDisk}
use Rattle.fdr_storage.specs.Memory.{memory_told, memory_disk, bytes_by, leavings_by, bytes_after, leavings_after, past_calls}
use Rattle.fdr_storage.specs.declared.numbers.Numbers.{Numbers}
use Rattle.fdr_storage.specs.declared.entries.Step.{Step}
use Rattle.fdr_storage.specs.declared.entries.Step.TheVariants.{Begin, Write, Tear, Grow, Pad, Sync}
use Rattle.fdr_storage.specs.declared.entries.Entry.{Entry}

-- this many zeros
pub zeros : (most : ℕ) → IsZeros most (replicate most 0)
zeros most =
    let n : length (replicate most 0) ≡ most = length-replicate most 0 in
    record { within = omega (arith, n); zeros = ap (λ (k : ℕ). replicate k 0) (sym n) }

holds_by : (step : Step) (held : List ℕ) (leaves : List ℕ → Type 0) → leaves held → leavings_by step held leaves (bytes_by step held)
holds_by Begin held leaves has = has
holds_by (Write at bytes) held leaves has = inl refl
holds_by (Tear at count) held leaves has = (held, (has, record { size = refl; front = refl; behind = refl }))
holds_by (Grow most) held leaves has = inr (zeros most)
holds_by (Pad most) held leaves has = inl has
holds_by Sync held leaves has = refl

-- After all these calls a stop may leave what is held, if it could before them.
pub may_leave_bytes : (es : List Entry) (held : List ℕ) (leaves : List ℕ → Type 0) → leaves held → leavings_after es held leaves (bytes_after es held)
unfolding bytes_after leavings_after
may_leave_bytes [] held leaves has = has
may_leave_bytes (e ∷ es) held leaves has = may_leave_bytes es (bytes_by e.step held) (leavings_by e.step held leaves) (holds_by e.step held leaves has)

-- No moment of the storage in memory is past since now, or a later time.
pub over : (es : List Entry) (held : List ℕ) (leaves : List ℕ → Type 0) (t : ℕ) (m : Moment) → length es ≤ t → past_calls es held leaves t m → ⊥
unfolding past_calls
over [] held leaves t m late past = past
over (e ∷ es) held leaves t m late (inl here) = omega (arith, here.0, late)
over (e ∷ es) held leaves t m late (inr past) = over es (bytes_by e.step held) (leavings_by e.step held leaves) (t - 1) m (omega (arith, late)) past

-- A past moment of the storage in memory since a time is one since each earlier time.
pub falls : (es : List Entry) (held : List ℕ) (leaves : List ℕ → Type 0) (earlier t : ℕ) (m : Moment) → earlier ≤ t
    → past_calls es held leaves t m → past_calls es held leaves earlier m
unfolding past_calls
falls [] held leaves earlier t m le past = past
falls (e ∷ es) held leaves earlier t m le (inl here) = inl (omega (arith, le, here.0), here.1)
falls (e ∷ es) held leaves earlier t m le (inr past) = inr (falls es (bytes_by e.step held) (leavings_by e.step held leaves) (earlier - 1) (t - 1) m
    (omega (arith, le)) past)

-- The storage in memory is sound, where what it holds is kept beside its calls.
pub storage_is_sound : (first : List ℕ) (entries : List Entry) (begun : Numbers) (faults interruptions : ℕ) (whole flushed : Bool) (held : List ℕ)
    → bytes_after entries first ≡ held → length held < 2 ^ 64 → IsSoundDisk memory_told (memory_disk first entries begun faults interruptions whole flushed)
storage_is_sound first entries begun faults interruptions whole flushed held same fits = record {
  stops_need_bytes = λ told. refl;
  fits = λ told. subst (λ (h : List ℕ). length h < 2 ^ 64) (sym same) fits;
  held = λ told. may_leave_bytes entries first (λ image. image ≡ first) refl;
  over = λ told m past. over entries first (λ image. image ≡ first) (length entries) m (omega arith) past;
  falls = λ told earlier t m le now past. falls entries first (λ image. image ≡ first) earlier t m le past;
}
