-- A buffer that is filled by calls that come short.
use Rattle.std.proofs.Common.{◌≡◌, ◌⊎◌, inl, inr, ⊎_elim, ℕ, ◌+◌, ◌-◌, ◌^◌, ◌<◌, ◌≤◌, List}
use Rattle.std.proofs.Common.{[], ◌++◌, length, take, drop, refl, sym, ap, ◌∙◌, subst, arith, length-drop}
use Rattle.std.specs.Prelude.{IsTrue, slice_range}
use Rattle.std.proofs.lemmas.List.{take-append-le, length-take-le, drop-drop}
use Rattle.std.proofs.Math.Seq.{take-length, take-append-add}
use Rattle.fdr_io.specs.Faults.{Rose}
use Rattle.fdr_io.proofs.Telling.{take-append-take}
use Rattle.fdr_storage.specs.Disk.{Told, StoredFile, IsSoundDisk}
use Rattle.fdr_storage.specs.Calls.{Keeps, KeepsMarks, Goes, ReadsFile}
use Rattle.fdr_storage.proofs.Steps.{Keeps-here, Keeps-then, Goes-here, Goes-keep}
use Rattle.fdr_storage_deck.specs.Causes.{GaveUp, NoneFailed}
use borrow.Rule.Slice.PartMut.{put_mid, post_of}

-- The first `done` bytes of the buffer are those from the place `at` on.
pub record Filled (told : Told) (at done : ℕ) (buffer : List ℕ) (old new : StoredFile) : Type 0 where
  pub within : done ≤ length buffer
  pub front : IsTrue told.bytes → take done buffer ≡ take done (drop at old.held)
  pub keeps : Keeps old new
  pub marks : KeepsMarks old new
  pub goes : Goes told old new
  pub no_fault : NoneFailed told old new

pub Filled-here : (told : Told) (at : ℕ) (buffer : List ℕ) (d : StoredFile) → IsSoundDisk told d → Filled told at 0 buffer d d
Filled-here told at buffer d sound = record {
  within = omega arith;
  front = λ is. refl;
  keeps = Keeps-here d;
  marks = record { whole = refl; flushed = refl };
  goes = Goes-here told d sound;
  no_fault = λ is. refl;
}

module _ (told : Told) (at done : ℕ) (buffer : List ℕ) (old mid new : StoredFile) (sound : IsSoundDisk told new) (so_far : Filled told at done buffer old mid)
    (keeps : Keeps mid new) (goes : Goes told mid new) where
  pub Filled-keeps : Keeps old new
  Filled-keeps = Keeps-then old mid new so_far.keeps keeps

  pub Filled-goes : Goes told old new
  Filled-goes = Goes-keep told old mid new sound so_far.keeps so_far.goes goes

  pub Filled-gave_up : GaveUp told mid new → GaveUp told old new
  Filled-gave_up gave is = subst (λ (n : ℕ). Rose n new.faults ⊎ (2 ^ 64 - 1 ≤ new.interruptions)) (so_far.no_fault is) (gave is)

  pub Filled-more : (count : ℕ) (part : List ℕ) → length part ≡ length buffer - done → count ≤ length part
      → (IsTrue told.bytes → ReadsFile (at + done) count mid.held part)
      → KeepsMarks mid new → NoneFailed told mid new → Filled told at (done + count) (put_mid done (length buffer - done) buffer part) old new
  Filled-more count part long bound reads marks no_fault = record {
    within = omega (arith, size, long, bound, so_far.within);
    front = λ is. begins ∙ ap (λ (l : List ℕ). l ++ take count part) (so_far.front is)
        ∙ ap (λ (l : List ℕ). take done (drop at old.held) ++ l) (next is)
        ∙ take-append-take done count (drop at old.held);
    keeps = Filled-keeps;
    marks = record { whole = marks.whole ∙ so_far.marks.whole; flushed = marks.flushed ∙ so_far.marks.flushed };
    goes = Filled-goes;
    no_fault = λ is. no_fault is ∙ so_far.no_fault is;
  }
    where
      head : length (take done buffer) ≡ done
      head = length-take-le done buffer so_far.within

      rest : List ℕ
      rest = post_of done (length buffer - done) buffer

      size : length (put_mid done (length buffer - done) buffer part) ≡ done + (length part + length rest)
      size = omega (arith, Rattle.std.proofs.Common.length-append (take done buffer) (part ++ rest), Rattle.std.proofs.Common.length-append part rest, head)

      begins : take (done + count) (put_mid done (length buffer - done) buffer part) ≡ take done buffer ++ take count part
      begins = ap (λ (k : ℕ). take (k + count) (put_mid done (length buffer - done) buffer part)) (sym head)
          ∙ take-append-add (take done buffer) (part ++ rest) count
          ∙ ap (λ (l : List ℕ). take done buffer ++ l) (take-append-le count part rest bound)

      next : IsTrue told.bytes → take count part ≡ take count (drop done (drop at old.held))
      next is = (reads is).front ∙ ap (λ (h : List ℕ). take count (drop (at + done) h)) so_far.keeps.held
          ∙ ap (take count) (sym (drop-drop done at old.held))

pub Filled-room : (told : Told) (at done : ℕ) (buffer : List ℕ) (old mid : StoredFile) → Filled told at done buffer old mid → done < length buffer
    → (IsTrue told.bytes → at + length buffer ≤ length old.held) → IsTrue told.bytes → at + done < length mid.held
Filled-room told at done buffer old mid so_far more room is =
    omega (arith, more, room is, ap (λ (h : List ℕ). length h) so_far.keeps.held)

-- the whole buffer was filled
pub Filled-whole : (told : Told) (at done : ℕ) (buffer : List ℕ) (old new : StoredFile) → length buffer ≤ done → Filled told at done buffer old new
    → IsTrue told.bytes → buffer ≡ slice_range old.held at (at + length buffer)
Filled-whole told at done buffer old new all so_far is =
    let count : done ≡ length buffer = omega (arith, all, so_far.within) in
    let range : length buffer ≡ (at + length buffer) - at = omega arith in
    sym (take-length buffer) ∙ ap (λ (k : ℕ). take k buffer) (sym count) ∙ so_far.front is
    ∙ ap (λ (k : ℕ). take k (drop at old.held)) (count ∙ range)

-- A read of nothing doesn't come about where there is more.
pub Filled-none : (told : Told) (at done count : ℕ) (buffer part : List ℕ) (old mid new : StoredFile) → Filled told at done buffer old mid → done < length
    buffer
    → (IsTrue told.bytes → at + length buffer ≤ length old.held) → length part ≡ length buffer - done → count ≡ 0
    → (IsTrue told.bytes → ReadsFile (at + done) count mid.held part) → GaveUp told old new
Filled-none told at done count buffer part old mid new so_far more room long none reads is =
    let some : 0 < count = (reads is).some (Filled-room told at done buffer old mid so_far more room is) (omega (arith, long, more)) in
    let never : ⊥ = omega (arith, some, none) in
    absurd never
