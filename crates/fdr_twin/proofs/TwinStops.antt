-- The calls of a side, one by one.
use Rattle.std.proofs.Common.{◌≡◌, ℕ, zero, suc, ◌<◌, List, [], ◌∷◌, length, take, get_or, refl, sym, ap, ◌∙◌, ◌≤◌, arith}
use Rattle.std.proofs.lemmas.List.{take_all}
use Rattle.fdr_deck.specs.Memory.{left_after, held_after}
use Rattle.fdr_deck.proofs.MemoryStops.{IsLeft}
use Rattle.fdr_deck.specs.declared.calls.Entry.{Entry}
use Rattle.fdr_twin.specs.declared.side.Side.{Side}
use Rattle.fdr_twin.specs.declared.calls.TwinEntry.{TwinEntry}
use Rattle.fdr_twin.specs.TwinMemory.{entry_on, entries_on}
use Rattle.fdr_twin.specs.TwinFaces.{entries_long}

pub get_on : (side : Side) (i : ℕ) (es : List TwinEntry) (d : TwinEntry) → get_or (entries_on side es) i (entry_on side d) ≡ entry_on side (get_or es i d)
unfolding entries_on
get_on side i [] d = refl
get_on side zero (x ∷ es) d = refl
get_on side (suc i) (x ∷ es) d = get_on side i es d

pub take_on : (side : Side) (n : ℕ) (es : List TwinEntry) → entries_on side (take n es) ≡ take n (entries_on side es)
unfolding entries_on
take_on side zero es = refl
take_on side (suc n) [] = refl
take_on side (suc n) (x ∷ es) = ap (λ (l : List Entry). entry_on side x ∷ l) (take_on side n es)

pub entry_is : (side : Side) (i : ℕ) (es : List TwinEntry) (e : TwinEntry) → e ≡ get_or es i e
    → entry_on side e ≡ get_or (entries_on side es) i (entry_on side e)
entry_is side i es e is = ap (λ (x : TwinEntry). entry_on side x) is ∙ sym (get_on side i es e)

pub below_on : (side : Side) (i : ℕ) (es : List TwinEntry) → i < length es → i < length (entries_on side es)
below_on side i es h = omega (arith, h, entries_long side es)

-- all calls of a side
pub left_all : (es : List Entry) (first now image : List ℕ) (i : ℕ) → i ≡ length es → IsLeft es first i now image
    → left_after es first (λ c. c ≡ first) image × (length (held_after es first) ≤ length image)
left_all es first now image i all left =
    let whole : take i es ≡ es = ap (λ (k : ℕ). take k es) all ∙ take_all (length es) es (omega arith) in
    (rw whole at left.left, rw whole at left.long)
