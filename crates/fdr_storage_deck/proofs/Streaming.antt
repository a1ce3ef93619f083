-- Bytes that a stream or an outlet may tell, before a call and after it.
use Rattle.std.proofs.Common.{◌≡◌, ℕ, List, ◌++◌, drop, Some, refl, ap}
use Rattle.std.specs.Prelude.{Bool, true, false, IsTrue, IfSome, is_some}
use Rattle.fdr_io.specs.Told.{Gives, followed_by, without_first}
use Rattle.fdr_storage_deck.specs.Streams.{told_bytes}

pub given_of : (t : Bool) (left buffer : List ℕ) (n : ℕ) → (IsTrue t → Gives left buffer n) → IfSome (told_bytes t left) (λ left. Gives left buffer n)
given_of true left buffer n gives = gives refl
given_of false left buffer n gives = tt

pub left_of : (t : Bool) (old new : List ℕ) (n : ℕ) → (IsTrue t → new ≡ drop n old) → told_bytes t new ≡ without_first n (told_bytes t old)
unfolding without_first
left_of true old new n left = ap Some (left refl)
left_of false old new n left = refl

pub taken_of : (t : Bool) (old new bytes : List ℕ) → (IsTrue t → new ≡ old ++ bytes) → told_bytes t new ≡ followed_by (told_bytes t old) bytes
unfolding followed_by
taken_of true old new bytes taken = ap Some (taken refl)
taken_of false old new bytes taken = refl

pub kept_of : (t : Bool) (old new : List ℕ) → (IsTrue t → new ≡ old) → told_bytes t new ≡ told_bytes t old
kept_of true old new kept = ap Some (kept refl)
kept_of false old new kept = refl

pub tells_of : (t : Bool) (old new : List ℕ) → is_some (told_bytes t new) ≡ is_some (told_bytes t old)
tells_of true old new = refl
tells_of false old new = refl
