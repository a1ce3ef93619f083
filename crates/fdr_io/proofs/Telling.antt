-- Told bytes, one step after another.
use Rattle.std.proofs.Common.{◌≡◌, ℕ, ◌+◌, List, [], ◌++◌, length, take, drop, Option, Some, None, ap, sym, refl, ◌∙◌, append_assoc, arith}
use Rattle.std.specs.Prelude.{IfSome}
use Rattle.std.proofs.lemmas.List.{append-nil, take-append-drop, take-take, drop-take, drop-drop}
use Rattle.std.proofs.Math.Seq.{take-append-add}
use Rattle.fdr_io.specs.Told.{Gives, followed_by, preceded_by, without_first}

pub followed_by-some : (before bytes : List ℕ) → followed_by (Some before) bytes ≡ Some (before ++ bytes)
unfolding followed_by
followed_by-some before bytes = refl

pub followed_by-none : (bytes : List ℕ) → followed_by None bytes ≡ None
unfolding followed_by
followed_by-none bytes = refl

-- bytes, and then more bytes
pub followed_by-followed_by : (told : Option (List ℕ)) (xs ys : List ℕ) → followed_by (followed_by told xs) ys ≡ followed_by told (xs ++ ys)
unfolding followed_by
followed_by-followed_by None xs ys = refl
followed_by-followed_by (Some before) xs ys = ap Some (append_assoc before xs ys)

-- nothing more
pub followed_by-nil : (told : Option (List ℕ)) → followed_by told [] ≡ told
unfolding followed_by
followed_by-nil None = refl
followed_by-nil (Some before) = ap Some (append-nil before)

-- the first m elements, and then the next n
pub take-append-take : (m n : ℕ) (xs : List ℕ) → take m xs ++ take n (drop m xs) ≡ take (m + n) xs
take-append-take m n xs =
    let front : take m (take (m + n) xs) ≡ take m xs = take-take m (m + n) xs (omega arith) in
    let back : drop m (take (m + n) xs) ≡ take n (drop m xs) = drop-take m n xs in
    rw (← front, ← back) (take-append-drop m (take (m + n) xs))

-- the first m bytes, and then the next n
pub followed_by-take : (told : Option (List ℕ)) (bytes : List ℕ) (m n : ℕ)
    → followed_by (followed_by told (take m bytes)) (take n (drop m bytes)) ≡ followed_by told (take (m + n) bytes)
followed_by-take told bytes m n = followed_by-followed_by told (take m bytes) (take n (drop m bytes)) ∙ ap (followed_by told) (take-append-take m n bytes)

-- all of the first bytes, and then the first k of the next
pub followed_by-append-take : (told : Option (List ℕ)) (xs ys : List ℕ) (k : ℕ)
    → followed_by (followed_by told xs) (take k ys) ≡ followed_by told (take (length xs + k) (xs ++ ys))
followed_by-append-take told xs ys k = followed_by-followed_by told xs (take k ys) ∙ ap (followed_by told) (sym (take-append-add xs ys k))

pub without_first-some : (n : ℕ) (left : List ℕ) → without_first n (Some left) ≡ Some (drop n left)
unfolding without_first
without_first-some n left = refl

pub without_first-none : (n : ℕ) → without_first n None ≡ None
unfolding without_first
without_first-none n = refl

-- the first m bytes gone, and then the next n
pub without_first-without_first : (m n : ℕ) (told : Option (List ℕ)) → without_first n (without_first m told) ≡ without_first (m + n) told
unfolding without_first
without_first-without_first m n None = refl
without_first-without_first m n (Some left) = ap Some (drop-drop n m left)

pub preceded_by-some : (bytes left : List ℕ) → preceded_by bytes (Some left) ≡ Some (bytes ++ left)
unfolding preceded_by
preceded_by-some bytes left = refl

pub preceded_by-none : (bytes : List ℕ) → preceded_by bytes None ≡ None
unfolding preceded_by
preceded_by-none bytes = refl

-- nothing was taken yet
pub preceded_by-nil : (told : Option (List ℕ)) → preceded_by [] told ≡ told
unfolding preceded_by
preceded_by-nil None = refl
preceded_by-nil (Some left) = refl

-- what was taken and what is left are together the same after a read
pub preceded_by-gives : (bytes buffer : List ℕ) (told : Option (List ℕ)) (n : ℕ) → IfSome told (λ left. Gives left buffer n)
    → preceded_by bytes told ≡ preceded_by (bytes ++ take n buffer) (without_first n told)
unfolding preceded_by without_first
preceded_by-gives bytes buffer None n given = refl
preceded_by-gives bytes buffer (Some left) n given =
    ap Some (rw (given.front, append_assoc bytes (take n left) (drop n left), take-append-drop n left) refl)

-- where nothing is left, what was taken is all that there was
pub preceded_by-end : (all : Option (List ℕ)) (bytes : List ℕ) (told : Option (List ℕ)) → all ≡ preceded_by bytes told → IfSome told (λ left. left ≡ [])
    → IfSome all (λ whole. whole ≡ bytes)
unfolding preceded_by
preceded_by-end all bytes None whole end = rw whole tt
preceded_by-end all bytes (Some left) whole end = rw (whole, end) (append-nil bytes)

pub ruleset telling = (
  followed_by-some,
  followed_by-none,
  followed_by-followed_by,
  followed_by-nil,
  followed_by-take,
  without_first-some,
  without_first-none,
  without_first-without_first,
  preceded_by-some,
  preceded_by-none,
  preceded_by-nil,
  preceded_by-gives,
)
