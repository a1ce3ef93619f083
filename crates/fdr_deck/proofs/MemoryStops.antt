-- What stops leave of the calls of the deck in memory.
use Rattle.std.proofs.Common.{◌≡◌, inl, inr, ℕ, zero, suc, ◌+◌, ◌<◌, ◌≤◌, List, [], ◌∷◌, ◌++◌, length, take, get_or, refl, sym, ap, ◌∙◌, subst, length-append}
use Rattle.std.proofs.Common.{arith}
use Rattle.std.proofs.lemmas.List.{take_more, take_all}
use Rattle.fdr_deck.specs.Memory.{held_by, left_by, left_within, held_after, left_after, FitsDisk, FitsIn, AreInside, IsLeftWithin, IsStoppedAfter}
use Rattle.fdr_deck.specs.Stops.{image_after, image_within, image_at}
use Rattle.fdr_deck.specs.declared.calls.Call.{Call}
use Rattle.fdr_deck.specs.declared.calls.Call.TheVariants.{Pass, Write, FailedWrite, Sync, Provide, FailedProvide}
use Rattle.fdr_deck.specs.declared.calls.Entry.{Entry}
use Rattle.fdr_deck.specs.declared.stops.Tear.{Tear}
use Rattle.fdr_deck.proofs.MemoryCalls.{held_push, left_pushed}
use Rattle.fdr_deck.proofs.Torn.{length-patched}

pub AreInside-push : (es : List Entry) (e : Entry) (held : List ℕ) → AreInside es held → FitsDisk e.call (held_after es held) → AreInside (es ++ e ∷ []) held
unfolding held_after AreInside
AreInside-push [] e held all last = (last, tt)
AreInside-push (x ∷ es) e held all last = (all.0, AreInside-push es e (held_by x.call held) all.1 last)

pub AreInside-take : (n : ℕ) (es : List Entry) (held : List ℕ) → AreInside es held → AreInside (take n es) held
unfolding AreInside
AreInside-take zero es held all = tt
AreInside-take (suc n) [] held all = tt
AreInside-take (suc n) (x ∷ es) held all = (all.0, AreInside-take n es (held_by x.call held) all.1)

pub AreInside-at : (i : ℕ) (es : List Entry) (held : List ℕ) (d : Entry) → i < length es → AreInside es held
    → FitsDisk (get_or es i d).call (held_after (take i es) held)
unfolding held_after AreInside
AreInside-at i [] held d h all = absurd (omega (arith, h))
AreInside-at zero (x ∷ es) held d h all = all.0
AreInside-at (suc i) (x ∷ es) held d h all = AreInside-at i es (held_by x.call held) d (omega (arith, h)) all.1

-- a write into what is held fits into what is left, which is no shorter
pub FitsIn-from_inside : (call : Call) (held : List ℕ) (n : ℕ) → FitsDisk call held → length held ≤ n → FitsIn call n
FitsIn-from_inside Pass held n inside long = tt
FitsIn-from_inside (Write at bytes) held n inside long = omega (arith, inside, long)
FitsIn-from_inside (FailedWrite at bytes) held n inside long = omega (arith, inside, long)
FitsIn-from_inside Sync held n inside long = tt
FitsIn-from_inside (Provide size) held n inside long = tt
FitsIn-from_inside (FailedProvide size) held n inside long = tt

pub stopped_within : (call : Call) (held : List ℕ) (leaves : List ℕ → Type 0) (before image : List ℕ) → leaves before → IsLeftWithin call before image
    → left_within call held leaves image
stopped_within Pass held leaves before image left is = subst leaves (sym is) left
stopped_within (Write at bytes) held leaves before image left is = inr (inr (before, (left, is)))
stopped_within (FailedWrite at bytes) held leaves before image left is = inr (before, (left, is))
stopped_within Sync held leaves before image left is = inl (subst leaves (sym is) left)
stopped_within (Provide size) held leaves before image left is = inr is
stopped_within (FailedProvide size) held leaves before image left is = inr is

stopped_after : (call : Call) (held : List ℕ) (leaves : List ℕ → Type 0) (before image : List ℕ) → leaves before → IsStoppedAfter call held before image
    → left_by call held leaves image
stopped_after Pass held leaves before image left is = subst leaves (sym is) left
stopped_after (Write at bytes) held leaves before image left is = inr (before, (left, is))
stopped_after (FailedWrite at bytes) held leaves before image left is = (before, (left, is))
stopped_after Sync held leaves before image left is = is
stopped_after (Provide size) held leaves before image left is = is
stopped_after (FailedProvide size) held leaves before image left is = inr is

-- what is left stays no shorter than what is held
long_after : (call : Call) (held before image : List ℕ) → FitsDisk call held → length held ≤ length before → IsStoppedAfter call held before image
    → length (held_by call held) ≤ length image
long_after Pass held before image inside long is = omega (arith, long, ap (λ (l : List ℕ). length l) is)
long_after (Write at bytes) held before image inside long is = omega (arith, long, is.size, length-patched at bytes.items held inside)
long_after (FailedWrite at bytes) held before image inside long is = omega (arith, long, is.size)
long_after Sync held before image inside long is = omega (arith, ap (λ (l : List ℕ). length l) is)
long_after (Provide size) held before image inside long is = omega (arith, ap (λ (l : List ℕ). length l) is)
long_after (FailedProvide size) held before image inside long is = omega (arith, inside)

-- the image after the first i calls is one that a stop may leave, and no shorter than what is held
pub record IsLeft (es : List Entry) (first : List ℕ) (i : ℕ) (now image : List ℕ) : Type 0 where
  pub held : now ≡ held_after (take i es) first
  pub left : left_after (take i es) first (λ c. c ≡ first) image
  pub long : length (held_after (take i es) first) ≤ length image

pub IsLeft-start : (es : List Entry) (first held left : List ℕ) → held ≡ first → left ≡ first → IsLeft es first 0 held left
unfolding held_after left_after
IsLeft-start es first held left same is = record { held = same; left = is; long = omega (arith, ap (λ (l : List ℕ). length l) is) }

pub IsLeft-inside : (es : List Entry) (first : List ℕ) (i : ℕ) (now image : List ℕ) (e : Entry) → i < length es → e ≡ get_or es i e → AreInside es first
    → IsLeft es first i now image → FitsDisk e.call now
IsLeft-inside es first i now image e h is all so_far =
    let here : FitsDisk e.call (held_after (take i es) first) =
    subst (λ (x : Entry). FitsDisk x.call (held_after (take i es) first)) (sym is) (AreInside-at i es first e h all) in
    subst (λ (l : List ℕ). FitsDisk e.call l) (sym so_far.held) here

pub IsLeft-fits : (es : List Entry) (first : List ℕ) (i : ℕ) (now image : List ℕ) (e : Entry) → i < length es → e ≡ get_or es i e → AreInside es first
    → IsLeft es first i now image → FitsIn e.call (length image)
IsLeft-fits es first i now image e h is all so_far =
    FitsIn-from_inside e.call now (length image) (IsLeft-inside es first i now image e h is all so_far)
    (omega (arith, so_far.long, ap (λ (l : List ℕ). length l) so_far.held))

pub IsLeft-more : (es : List Entry) (first : List ℕ) (i : ℕ) (now image next_now next : List ℕ) (e : Entry) → i < length es → e ≡ get_or es i e
    → AreInside es first → IsLeft es first i now image
    → next_now ≡ held_by e.call now → IsStoppedAfter e.call now image next → IsLeft es first (i + 1) next_now next
IsLeft-more es first i now image next_now next e h is all so_far replayed stopped =
    let inside = IsLeft-inside es first i now image e h is all so_far in
    let more : take (i + 1) es ≡ take i es ++ e ∷ [] = take_more es i e h ∙ ap (λ (x : Entry). take i es ++ x ∷ []) (sym is) in
    let then_held : held_after (take (i + 1) es) first ≡ held_by e.call (held_after (take i es) first) =
    ap (λ (l : List Entry). held_after l first) more ∙ held_push (take i es) e first in
    let now_held : next_now ≡ held_after (take (i + 1) es) first = replayed ∙ ap (λ (l : List ℕ). held_by e.call l) so_far.held ∙ sym then_held in
    let stopped_then : IsStoppedAfter e.call (held_after (take i es) first) image next =
    subst (λ (l : List ℕ). IsStoppedAfter e.call l image next) so_far.held stopped in
    let long : length (held_by e.call now) ≤ length next =
    long_after e.call now image next inside (omega (arith, so_far.long, ap (λ (l : List ℕ). length l) so_far.held)) stopped in
    record {
      held = now_held;
      left = subst (λ (l : List Entry). left_after l first (λ c. c ≡ first) next) (sym more) (left_pushed (take i es) e first (λ c. c ≡ first) next
          (stopped_after e.call (held_after (take i es) first) (left_after (take i es) first (λ c. c ≡ first)) image next so_far.left stopped_then));
      long = omega (arith, long, ap (λ (l : List ℕ). length l) now_held, ap (λ (l : List ℕ). length l) replayed);
    }

-- after all calls
IsLeft-whole : (es : List Entry) (first : List ℕ) (i : ℕ) (now image : List ℕ) → i ≡ length es → IsLeft es first i now image
    → IsLeft es first (length es) now image
IsLeft-whole es first i now image all so_far = subst (λ (k : ℕ). IsLeft es first k now image) all so_far

pub IsLeft-left : (es : List Entry) (first : List ℕ) (i : ℕ) (now image : List ℕ) → i ≡ length es → IsLeft es first i now image
    → left_after es first (λ c. c ≡ first) image
IsLeft-left es first i now image all so_far =
    subst (λ (l : List Entry). left_after l first (λ c. c ≡ first) image) (take_all (length es) es (omega arith))
    (IsLeft-whole es first i now image all so_far).left

pub IsLeft-long : (es : List Entry) (first : List ℕ) (i : ℕ) (now image : List ℕ) → i ≡ length es → IsLeft es first i now image
    → length (held_after es first) ≤ length image
IsLeft-long es first i now image all so_far =
    subst (λ (l : List Entry). length (held_after l first) ≤ length image) (take_all (length es) es (omega arith))
    (IsLeft-whole es first i now image all so_far).long

-- one call more
image_at-push : (tear : Tear) (es : List Entry) (e : Entry) (held image : List ℕ)
    → image_at tear (es ++ e ∷ []) (suc (length es)) held image ≡ image_after tear e.call (held_after es held) (image_at tear es (length es) held image)
unfolding held_after image_at
image_at-push tear [] e held image = refl
image_at-push tear (x ∷ es) e held image = image_at-push tear es e (held_by x.call held)
    (image_after tear x.call held image)

-- a stop within a call, by what one before it leaves
pub image_at-within : (tear : Tear) (n : ℕ) (es : List Entry) (held image : List ℕ) (d : Entry) → n < length es
    → image_at tear es n held image ≡ image_within tear (get_or es n d).call (image_at tear (take n es) (length (take n es)) held image)
unfolding image_at
image_at-within tear n [] held image d h = absurd (omega (arith, h))
image_at-within tear zero (x ∷ es) held image d h = refl
image_at-within tear (suc n) (x ∷ es) held image d h = image_at-within tear n es (held_by x.call held)
    (image_after tear x.call held image) d (omega (arith, h))

-- what a stop after the first i calls leaves
pub image_before : Tear → List Entry → List ℕ → ℕ → List ℕ
image_before tear es first i = image_at tear (take i es) (length (take i es)) first first

pub image_before-start : (tear : Tear) (es : List Entry) (first left : List ℕ) → left ≡ first
    → left ≡ image_before tear es first 0
unfolding image_at image_before
image_before-start tear es first left is = is

pub image_before-more : (tear : Tear) (es : List Entry) (first : List ℕ) (i : ℕ) (now image next : List ℕ) (e : Entry)
    → i < length es → e ≡ get_or es i e → IsLeft es first i now image → image ≡ image_before tear es first i
    → next ≡ image_after tear e.call now image → next ≡ image_before tear es first (i + 1)
unfolding image_before
image_before-more tear es first i now image next e h is so_far was stopped =
    let more : take (i + 1) es ≡ take i es ++ e ∷ [] = take_more es i e h ∙ ap (λ (x : Entry). take i es ++ x ∷ []) (sym is) in
    let n : length (take (i + 1) es) ≡ suc (length (take i es)) =
    omega (arith, ap (λ (l : List Entry). length l) more, length-append (take i es) (e ∷ [])) in
    let here : image_after tear e.call now image ≡ image_after tear e.call (held_after (take i es) first) (image_before tear es first i) =
    ap (λ (l : List ℕ). image_after tear e.call l image) so_far.held
    ∙ ap (λ (l : List ℕ). image_after tear e.call (held_after (take i es) first) l) was in
    stopped ∙ here ∙ sym (image_at-push tear (take i es) e first first)
    ∙ sym (ap (λ (k : ℕ). image_at tear (take (i + 1) es) k first first) n
    ∙ ap (λ (l : List Entry). image_at tear l (suc (length (take i es))) first first) more)

pub image_before-all : (tear : Tear) (es : List Entry) (first image : List ℕ) (i : ℕ) → i ≡ length es
    → image ≡ image_before tear es first i → image ≡ image_at tear es (length es) first first
unfolding image_before
image_before-all tear es first image i all is =
    let whole : take i es ≡ es = ap (λ (k : ℕ). take k es) all ∙ take_all (length es) es (omega arith) in
    is ∙ ap (λ (l : List Entry). image_at tear l (length l) first first) whole
