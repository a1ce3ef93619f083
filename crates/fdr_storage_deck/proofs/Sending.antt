-- A range that is written by calls that come short.
use Rattle.std.proofs.Common.{◌≡◌, ◌⊎◌, inr, ℕ, ◌+◌, ◌-◌, ◌^◌, ◌≤◌, List, ◌++◌, length, take, drop, refl, sym, ap, ◌∙◌, subst, arith, length-drop}
use Rattle.std.specs.Prelude.{IsTrue}
use Rattle.std.proofs.lemmas.List.{take-append-drop}
use Rattle.std.proofs.Math.Seq.{take-length}
use Rattle.fdr_io.specs.Faults.{Rose}
use Rattle.fdr_deck.specs.Disk.{Torn}
use Rattle.fdr_storage.specs.Disk.{Told, StoredFile, IsSoundDisk}
use Rattle.fdr_storage.specs.Calls.{Goes, WritesFile, TearsFile}
use Rattle.fdr_storage.proofs.Steps.{Goes-here, Goes-then}
use Rattle.fdr_storage.proofs.Parts.{TearsFile-here, TearsFile-then, TearsFile-inner, WritesFile-nil, WritesFile-then}
use Rattle.fdr_storage_deck.specs.Causes.{GaveUp, NoneFailed}

-- The first `sent` of these bytes were written at the place `at`.
pub record Sent (told : Told) (at sent : ℕ) (bytes : List ℕ) (old new : StoredFile) : Type 0 where
  pub within : sent ≤ length bytes
  pub writes : WritesFile told at (take sent bytes) old new
  pub tears : TearsFile told at (length bytes) old new
  pub whole : new.whole ≡ old.whole
  pub goes : Goes told old new
  pub no_fault : NoneFailed told old new

Torn-none : (at : ℕ) (from image : List ℕ) → Torn at 0 from image → image ≡ from
Torn-none at from image torn =
    let here : at + 0 ≡ at = omega arith in
    let behind : drop at image ≡ drop at from = subst (λ (k : ℕ). drop k image ≡ drop k from) here torn.behind in
    sym (take-append-drop at image) ∙ ap (λ (l : List ℕ). l ++ drop at image) torn.front ∙ ap (λ (l : List ℕ). take at from ++ l) behind
    ∙ take-append-drop at from

pub Sent-here : (told : Told) (at : ℕ) (bytes : List ℕ) (d : StoredFile) → IsSoundDisk told d → Sent told at 0 bytes d d
Sent-here told at bytes d sound = record {
  within = omega arith;
  writes = WritesFile-nil told at d (λ is from image torn. Torn-none at from image torn);
  tears = TearsFile-here told at (length bytes) d;
  whole = refl;
  goes = Goes-here told d sound;
  no_fault = λ is. refl;
}

-- one call more, of the bytes that were not yet written
module _ (told : Told) (at sent : ℕ) (bytes rest : List ℕ) (old mid new : StoredFile) (is_rest : rest ≡ drop sent bytes)
    (sound : IsSoundDisk told new) (so_far : Sent told at sent bytes old mid) (tears : TearsFile told (at + sent) (length rest) mid new) (goes : Goes told mid
    new) where
  long : length rest ≡ length bytes - sent
  long = ap (λ (l : List ℕ). length l) is_rest ∙ length-drop sent bytes

  inner : TearsFile told at (length bytes) mid new
  inner = TearsFile-inner told at sent (length rest) (length bytes) mid new (omega (arith, long, so_far.within)) tears

  pub Sent-tears : TearsFile told at (length bytes) old new
  Sent-tears = TearsFile-then told at (length bytes) old mid new so_far.tears inner

  pub Sent-goes : Goes told old new
  Sent-goes = Goes-then told old mid new sound so_far.goes goes (λ is image left. inr (tears.no_less is image left))

  pub Sent-more : (count : ℕ) → count ≤ length rest → (IsTrue told.bytes → at + length bytes ≤ length old.held)
      → WritesFile told (at + sent) (take count rest) mid new → new.whole ≡ mid.whole → NoneFailed told mid new → Sent told at (sent + count) bytes old new
  Sent-more count bound room writes whole no_fault = record {
    within = omega (arith, bound, long, so_far.within);
    writes = WritesFile-then told at sent count bytes old mid new (omega (arith, bound, long, so_far.within)) room so_far.writes
        (subst (λ (l : List ℕ). WritesFile told (at + sent) (take count l) mid new) is_rest writes);
    tears = Sent-tears;
    whole = whole ∙ so_far.whole;
    goes = Sent-goes;
    no_fault = λ is. no_fault is ∙ so_far.no_fault is;
  }

  pub Sent-gave_up : GaveUp told mid new → GaveUp told old new
  Sent-gave_up gave is = subst (λ (n : ℕ). Rose n new.faults ⊎ (2 ^ 64 - 1 ≤ new.interruptions)) (so_far.no_fault is) (gave is)

-- there is room for what was not yet written
pub Sent-room : (told : Told) (at sent : ℕ) (bytes rest : List ℕ) (old mid : StoredFile) → rest ≡ drop sent bytes → Sent told at sent bytes old mid
    → (IsTrue told.bytes → at + length bytes ≤ length old.held) → IsTrue told.bytes → (at + sent) + length rest ≤ length mid.held
Sent-room told at sent bytes rest old mid is_rest so_far room is =
    let long : length rest ≡ length bytes - sent = ap (λ (l : List ℕ). length l) is_rest ∙ length-drop sent bytes in
    omega (arith, long, so_far.within, room is, (so_far.tears.held is).size)

-- all of them were written
pub Sent-whole : (told : Told) (at sent : ℕ) (bytes : List ℕ) (old new : StoredFile) → length bytes ≤ sent → Sent told at sent bytes old new
    → WritesFile told at bytes old new
Sent-whole told at sent bytes old new all so_far =
    let count : sent ≡ length bytes = omega (arith, all, so_far.within) in
    let front : take sent bytes ≡ bytes = ap (λ (k : ℕ). take k bytes) count ∙ take-length bytes in
    subst (λ (l : List ℕ). WritesFile told at l old new) front so_far.writes
