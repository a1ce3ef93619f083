-- A range that is written part by part.
use Rattle.std.proofs.Common.{◌≡◌, ℕ, ◌+◌, ◌≤◌, List, [], ◌++◌, length, take, drop, refl, sym, ap, ◌∙◌, subst, arith}
use Rattle.std.specs.Prelude.{IsTrue}
use Rattle.std.proofs.lemmas.List.{length-take-le}
use Rattle.fdr_io.proofs.Telling.{take-append-take}
use Rattle.fdr_deck.specs.Disk.{Torn, patched}
use Rattle.fdr_deck.proofs.Torn.{patched-nil, Torn-longer}
use Rattle.fdr_storage.specs.Disk.{Told, StoredFile}
use Rattle.fdr_storage.specs.Calls.{WritesFile, TearsFile}
use Rattle.fdr_storage.proofs.Ranges.{patched-then, Torn-here, Torn-then, Torn-inner, Torn-split}

pub TearsFile-here : (told : Told) (at n : ℕ) (d : StoredFile) → TearsFile told at n d d
TearsFile-here told at n d = record {
  held = λ is. Torn-here at n d.held;
  no_more = λ is image left. (image, (left, Torn-here at n image));
  no_less = λ is image was. was;
}

pub TearsFile-then : (told : Told) (at n : ℕ) (old mid new : StoredFile) → TearsFile told at n old mid → TearsFile told at n mid new → TearsFile told at n old
    new
TearsFile-then told at n old mid new first second = record {
  held = λ is. Torn-then at n old.held mid.held new.held (first.held is) (second.held is);
  no_more = λ is image left.
      let late = second.no_more is image left in
      let early = first.no_more is late.0 late.1.0 in
      (early.0, (early.1.0, Torn-then at n early.0 late.0 image early.1.1 late.1.1));
  no_less = λ is image was. second.no_less is image (first.no_less is image was);
}

pub TearsFile-inner : (told : Told) (at m few n : ℕ) (old new : StoredFile) → m + few ≤ n → TearsFile told (at + m) few old new → TearsFile told at n old new
TearsFile-inner told at m few n old new within tears = record {
  held = λ is. Torn-inner at m few n old.held new.held within (tears.held is);
  no_more = λ is image left. let was = tears.no_more is image left in (was.0, (was.1.0, Torn-inner at m few n was.0 image within was.1.1));
  no_less = tears.no_less;
}

-- nothing written
pub WritesFile-nil : (told : Told) (at : ℕ) (d : StoredFile) → (IsTrue told.stops → (from image : List ℕ) → Torn at 0 from image → image ≡ from) → WritesFile
    told at [] d d
WritesFile-nil told at d same = record {
  held = λ is. sym (patched-nil at d.held);
  pending = λ is from image was torn. subst d.may_leave (sym (same is from image torn)) was;
}

-- The first m bytes were written, and then the next n.
pub WritesFile-then : (told : Told) (at m n : ℕ) (bytes : List ℕ) (old mid new : StoredFile) → m + n ≤ length bytes
    → (IsTrue told.bytes → at + length bytes ≤ length old.held)
    → WritesFile told at (take m bytes) old mid → WritesFile told (at + m) (take n (drop m bytes)) mid new → WritesFile told at (take (m + n) bytes) old new
WritesFile-then told at m n bytes old mid new within room first second = record { held = holds; pending = pends }
  where
    few : length (take m bytes) ≡ m
    few = length-take-le m bytes (omega (arith, within))

    more : length (take n (drop m bytes)) ≡ n
    more = length-take-le n (drop m bytes) (omega (arith, within, Rattle.std.proofs.Common.length-drop m bytes))

    all : length (take (m + n) bytes) ≡ m + n
    all = length-take-le (m + n) bytes within

    holds : IsTrue told.bytes → new.held ≡ patched at (take (m + n) bytes) old.held
    holds is = second.held is
        ∙ ap (λ (l : List ℕ). patched (at + m) (take n (drop m bytes)) l) (first.held is)
        ∙ ap (λ (k : ℕ). patched (at + k) (take n (drop m bytes)) (patched at (take m bytes) old.held)) (sym few)
        ∙ patched-then at (take m bytes) (take n (drop m bytes)) old.held (omega (arith, few, within, room is))
        ∙ ap (λ (l : List ℕ). patched at l old.held) (take-append-take m n bytes)

    pends : IsTrue told.stops → (from image : List ℕ) → old.may_leave from → Torn at (length (take (m + n) bytes)) from image → new.may_leave image
    pends is from image was torn =
        let split = Torn-split at m n from image (subst (λ (k : ℕ). Torn at k from image) all torn) in
        second.pending is split.0 image
        (first.pending is from split.0 was (subst (λ (k : ℕ). Torn at k from split.0) (sym few) split.1.0))
        (subst (λ (k : ℕ). Torn (at + m) k split.0 image) (sym more) split.1.1)

pub TearsFile-longer : (told : Told) (at few n : ℕ) (old new : StoredFile) → few ≤ n → TearsFile told at few old new → TearsFile told at n old new
TearsFile-longer told at few n old new less tears = record {
  held = λ is. Torn-longer at few n old.held new.held less (tears.held is);
  no_more = λ is image left. let was = tears.no_more is image left in (was.0, (was.1.0, Torn-longer at few n was.0 image less was.1.1));
  no_less = tears.no_less;
}
