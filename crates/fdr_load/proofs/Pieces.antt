-- Bytes that are read piece by piece.
use Rattle.std.proofs.Common.{◌≡◌, ℕ, ◌+◌, ◌≤◌, List, [], ◌++◌, length, drop, take, Option, Some, None, ap, sym, refl, ◌∙◌, append_assoc, length-append, arith}
use Rattle.std.specs.Prelude.{IfSome}
use Rattle.std.proofs.lemmas.List.{length-take}
use Rattle.std.proofs.Math.Seq.{drop-nil}
use Rattle.fdr_io.specs.Told.{Gives, preceded_by, without_first}
use Rattle.fdr_io.proofs.Telling.{preceded_by-gives, preceded_by-nil}
use Rattle.fdr_load.specs.Limits.{TakesAtMost}

-- where none came, nothing is left
pub nothing_left : (told : Option (List ℕ)) (buffer : List ℕ) (n : ℕ) → IfSome told (λ left. Gives left buffer n) → n ≡ 0
    → IfSome (without_first n told) (λ left. left ≡ [])
unfolding without_first
nothing_left None buffer n given none = tt
nothing_left (Some left) buffer n given none = ap (drop n) (given.end.0 none) ∙ drop-nil n

-- one read
pub TakesAtMost-read : (most : ℕ) (told : Option (List ℕ)) (buffer : List ℕ) (n : ℕ) → n ≤ most
    → IfSome told (λ left. Gives left buffer n) → TakesAtMost most told (without_first n told)
TakesAtMost-read most told buffer n few given =
    (take n buffer, omega (arith, length-take n buffer), sym (preceded_by-nil told) ∙ preceded_by-gives [] buffer told n given)

preceded_by-preceded_by : (first second : List ℕ) (told : Option (List ℕ)) → preceded_by first (preceded_by second told) ≡ preceded_by (first ++ second) told
unfolding preceded_by
preceded_by-preceded_by first second None = refl
preceded_by-preceded_by first second (Some left) = ap Some (sym (append_assoc first second left))

-- these bytes, and then a few more
pub TakesAtMost-then : (m n : ℕ) (old mid new : Option (List ℕ)) (first : List ℕ) → length first ≤ m → old ≡ preceded_by first mid
    → TakesAtMost n mid new → TakesAtMost (m + n) old new
TakesAtMost-then m n old mid new first few whole rest =
    (first ++ rest.0, omega (arith, length-append first rest.0, rest.1), whole ∙ ap (preceded_by first) rest.2 ∙ preceded_by-preceded_by first rest.0 new)
