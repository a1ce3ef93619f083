-- Output, one step after another.
use Rattle.std.proofs.Common.{◌≡◌, ℕ, ◌+◌, List, [], ◌++◌, length, take, Option, Result, Ok, Err, ap, sym, ◌∙◌, append_assoc, arith, inl, inr}
use Rattle.std.proofs.lemmas.List.{append-nil, take_all, take-append-le}
use Rattle.std.specs.Prelude.{OnOk, OnErr}
use Rattle.std.proofs.lemmas.Bool.{cases_lt}
use Rattle.std.proofs.Math.Seq.{take-append_seam}
use Rattle.fdr_io.specs.Told.{followed_by}
use Rattle.fdr_io.proofs.Telling.{followed_by-nil, followed_by-followed_by, followed_by-append-take}
use Rattle.fdr_io.specs.Output.{Emits, EmitsPart}

pub Emits-nil : (written : Option (List ℕ)) (waiting : List ℕ) → Emits written written waiting waiting []
Emits-nil written waiting = record { gone = []; written = sym (followed_by-nil written); waits = sym (append-nil waiting) }

pub Emits-then : (a b c : Option (List ℕ)) (u v w s t : List ℕ) → Emits a b u v s → Emits b c v w t → Emits a c u w (s ++ t)
Emits-then a b c u v w s t first second = record {
  gone = first.gone ++ second.gone;
  written = second.written ∙ ap (λ told. followed_by told second.gone) first.written ∙ followed_by-followed_by a first.gone second.gone;
  waits = append_assoc first.gone second.gone w ∙ ap (λ (x : List ℕ). first.gone ++ x) second.waits
      ∙ sym (append_assoc first.gone v t) ∙ ap (λ (x : List ℕ). x ++ t) first.waits ∙ append_assoc u s t;
}

-- all of one step, and a part of the next
pub EmitsPart-then : (a b c : Option (List ℕ)) (u v s t : List ℕ) → Emits a b u v s → EmitsPart b c v t → EmitsPart a c u (s ++ t)
EmitsPart-then a b c u v s t first part = record {
  count = length first.gone + part.count;
  written = part.written ∙ ap (λ told. followed_by told (take part.count (v ++ t))) first.written
      ∙ followed_by-append-take a first.gone (v ++ t) part.count
      ∙ ap (λ (x : List ℕ). followed_by a (take (length first.gone + part.count) x))
      (sym (append_assoc first.gone v t) ∙ ap (λ (x : List ℕ). x ++ t) first.waits ∙ append_assoc u s t);
}

take_of_front : (k : ℕ) (xs ys : List ℕ) → (n : ℕ) × (take k xs ≡ take n (xs ++ ys))
take_of_front k xs ys = elim (cases_lt (length xs) k) [
  | inl past ↦ (length xs, take_all k xs (omega arith) ∙ sym (take-append_seam xs ys))
  | inr within ↦ (k, sym (take-append-le k xs ys within))
]

-- a part of a text is a part of a longer one
pub EmitsPart-longer : (a b : Option (List ℕ)) (u s t : List ℕ) → EmitsPart a b u s → EmitsPart a b u (s ++ t)
EmitsPart-longer a b u s t part =
    let front = take_of_front part.count (u ++ s) t in
    record {
      count = front.0;
      written = part.written ∙ ap (λ (x : List ℕ). followed_by a x) front.1 ∙ ap (λ (x : List ℕ). followed_by a (take front.0 x)) (append_assoc u s t);
    }

-- a part of what waited is a part of it and the text after it
pub EmitsPart-waiting : (a b : Option (List ℕ)) (w text : List ℕ) → (k : ℕ) × (b ≡ followed_by a (take k w)) → EmitsPart a b w text
EmitsPart-waiting a b w text sent =
    let front = take_of_front sent.0 w text in
    record { count = front.0; written = sent.1 ∙ ap (λ (x : List ℕ). followed_by a x) front.1 }

-- what holds anyway holds where a call failed
pub failed_or_not : {T E : Type 0} {P : Type 0} (r : Result T E) → P → OnErr r P
failed_or_not (Ok x) holds = tt
failed_or_not (Err e) holds = holds

-- all that waited went out
pub Emits-waiting : (a b : Option (List ℕ)) (w now : List ℕ) → b ≡ followed_by a w → now ≡ [] → Emits a b w now []
Emits-waiting a b w now sent empty = record { gone = w; written = sent; waits = ap (λ (x : List ℕ). w ++ x) empty }

-- room was made, and a text put there
pub Emits-put : (a b : Option (List ℕ)) (u v w text : List ℕ) → Emits a b u v [] → w ≡ v ++ text → Emits a b u w text
Emits-put a b u v w text first put = Emits-then a b b u v w [] text first (record { gone = []; written = sym (followed_by-nil b); waits = put })

-- what waited went out too
pub written_at_end : (a b c : Option (List ℕ)) (w text : List ℕ) → Emits a b [] w text → c ≡ followed_by b w → c ≡ followed_by a text
written_at_end a b c w text emits last =
    last ∙ ap (λ told. followed_by told w) emits.written ∙ followed_by-followed_by a emits.gone w ∙ ap (followed_by a) emits.waits

-- a part of what waited went out
pub part_at_end : (a b c : Option (List ℕ)) (w text : List ℕ) (k : ℕ) → Emits a b [] w text → c ≡ followed_by b (take k w)
    → (n : ℕ) × (c ≡ followed_by a (take n text))
part_at_end a b c w text k emits last = (
  length emits.gone + k,
  last ∙ ap (λ told. followed_by told (take k w)) emits.written
      ∙ followed_by-append-take a emits.gone w k ∙ ap (λ (x : List ℕ). followed_by a (take (length emits.gone + k) x)) emits.waits,
)

-- all of a text is a part of it
pub whole_is_part : (a b : Option (List ℕ)) (text : List ℕ) → b ≡ followed_by a text → (n : ℕ) × (b ≡ followed_by a (take n text))
whole_is_part a b text e = (length text, e ∙ ap (followed_by a) (sym (take_all (length text) text (omega arith))))

-- whether what waited went out or a part of it did
pub finished_part : {E : Type 0} (a b c : Option (List ℕ)) (w text : List ℕ) (r : Result (Unit {0}) E) → Emits a b [] w text
    → OnOk r (c ≡ followed_by b w) → OnErr r ((k : ℕ) × (c ≡ followed_by b (take k w))) → (n : ℕ) × (c ≡ followed_by a (take n text))
finished_part a b c w text (Ok x) emits all part = whole_is_part a c text (written_at_end a b c w text emits all)
finished_part a b c w text (Err e) emits all part = part_at_end a b c w text part.0 emits part.1
