-- Bytes of which a range is torn or written.
use Rattle.std.proofs.Common.{◌≡◌, ℕ, ◌+◌, ◌-◌, ◌≤◌, List, [], ◌++◌, length, take, drop, replicate, refl, sym, ap, subst, ◌∙◌, arith}
use Rattle.std.proofs.Common.{length-append, length-drop, append_assoc}
use Rattle.std.proofs.lemmas.List.{length-take, length-take-le, length-replicate, take_at, drop_at, drop-drop, take-append-drop}
use Rattle.fdr_deck.specs.Disk.{Torn, patched}

-- nothing torn
pub Torn-same : (at n : ℕ) (image : List ℕ) → Torn at n image image
Torn-same at n image = record { size = refl; front = refl; behind = refl }

pub length-patched : (at : ℕ) (bytes old : List ℕ) → at + length bytes ≤ length old → length (patched at bytes old) ≡ length old
length-patched at bytes old within =
    omega (
      arith,
      length-append (take at old) (bytes ++ drop (at + length bytes) old),
      length-append bytes (drop (at + length bytes) old),
      length-drop (at + length bytes) old,
      length-take-le at old (omega arith),
    )

-- what is written is one of the ways in which the range may be torn
pub Torn-patched : (at : ℕ) (bytes old : List ℕ) → at + length bytes ≤ length old → Torn at (length bytes) old (patched at bytes old)
Torn-patched at bytes old within =
    let front : length (take at old) ≡ at = length-take-le at old (omega arith) in
    let whole : patched at bytes old ≡ (take at old ++ bytes) ++ drop (at + length bytes) old =
    sym (append_assoc (take at old) bytes (drop (at + length bytes) old)) in
    let long : length (take at old ++ bytes) ≡ at + length bytes = omega (arith, front, length-append (take at old) bytes) in
    record {
      size = length-patched at bytes old within;
      front = take_at (take at old) (bytes ++ drop (at + length bytes) old) at front;
      behind = ap (drop (at + length bytes)) whole ∙ drop_at (take at old ++ bytes) (drop (at + length bytes) old) (at + length bytes) long;
    }

-- what is torn in a range is torn in each that is longer
pub Torn-longer : (at few n : ℕ) (old new : List ℕ) → few ≤ n → Torn at few old new → Torn at n old new
Torn-longer at few n old new less torn =
    let split : at + n ≡ (at + few) + (n - few) = omega (arith, less) in
    record {
      size = torn.size;
      front = torn.front;
      behind = ap (λ (k : ℕ). drop k new) split ∙ sym (drop-drop (n - few) (at + few) new) ∙ ap (drop (n - few)) torn.behind
          ∙ drop-drop (n - few) (at + few) old ∙ ap (λ (k : ℕ). drop k old) (sym split);
    }

-- nothing written
pub patched-nil : (at : ℕ) (old : List ℕ) → patched at [] old ≡ old
patched-nil at old = let here : at + 0 ≡ at = omega arith in ap (λ (k : ℕ). take at old ++ drop k old) here ∙ take-append-drop at old

-- only a front part of the bytes written
pub Torn-front : (at count : ℕ) (bytes old : List ℕ) → at + length bytes ≤ length old → Torn at (length bytes) old (patched at (take count bytes) old)
Torn-front at count bytes old within =
    let less : length (take count bytes) ≤ length bytes = omega (arith, length-take count bytes) in
    Torn-longer at (length (take count bytes)) (length bytes) old (patched at (take count bytes) old) less
    (Torn-patched at (take count bytes) old (omega (arith, within, less)))

-- one byte written throughout
pub Torn-filled : (at byte : ℕ) (bytes old : List ℕ) → at + length bytes ≤ length old
    → Torn at (length bytes) old (patched at (replicate (length bytes) byte) old)
Torn-filled at byte bytes old within =
    let same : length (replicate (length bytes) byte) ≡ length bytes = length-replicate (length bytes) byte in
    subst (λ (n : ℕ). Torn at n old (patched at (replicate (length bytes) byte) old)) same
    (Torn-patched at (replicate (length bytes) byte) old (omega (arith, within, same)))
