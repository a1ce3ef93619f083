-- One call more of the storage in memory.
use Rattle.std.proofs.Common.{◌≡◌, ◌⊎◌, inl, inr, ⊎_elim, ℕ, suc, ◌+◌, ◌-◌, ◌≤◌, List, []}
use Rattle.std.proofs.Common.{◌∷◌, ◌++◌, length, replicate, Bool, Vec, refl, sym, ap, ◌∙◌, subst, arith, length-append}
use Rattle.std.specs.declared.alloc.Global.{Global}
use Rattle.fdr_deck.specs.State.{Moment}
use Rattle.fdr_deck.specs.Disk.{patched, Torn}
use Rattle.fdr_deck.proofs.Torn.{Torn-patched, Torn-same}
use Rattle.fdr_storage.specs.Disk.{IsIn, span_of, begun_of}
use Rattle.fdr_storage.specs.Calls.{Keeps, StartsCall, Goes, WritesFile, TearsFile, GrowsFile, IsFileSettled}
use Rattle.fdr_storage.specs.Memory.{memory_told, memory_disk, bytes_by, leavings_by, bytes_after, leavings_after, past_calls}
use Rattle.fdr_storage.specs.MemorySound.{may_leave_bytes, over}
use Rattle.fdr_storage.specs.declared.numbers.Numbers.{Numbers}
use Rattle.fdr_storage.specs.declared.entries.Step.{Step}
use Rattle.fdr_storage.specs.declared.entries.Step.TheVariants.{Begin, Write, Tear, Grow, Pad, Sync}
use Rattle.fdr_storage.specs.declared.entries.Entry.{Entry}
use Rattle.fdr_storage.proofs.Steps.{IsIn-widen}

pub held_push : (es : List Entry) (e : Entry) (held : List ℕ) → bytes_after (es ++ e ∷ []) held ≡ bytes_by e.step (bytes_after es held)
unfolding bytes_after
held_push [] e held = refl
held_push (x ∷ es) e held = held_push es e (bytes_by x.step held)

pub left_push : (es : List Entry) (e : Entry) (held : List ℕ) (leaves : List ℕ → Type 0) (image : List ℕ) → leavings_after (es ++ e ∷ []) held leaves image
    → leavings_by e.step (bytes_after es held) (leavings_after es held leaves) image
unfolding bytes_after leavings_after
left_push [] e held leaves image left = left
left_push (x ∷ es) e held leaves image left = left_push es e (bytes_by x.step held) (leavings_by x.step held leaves) image left

pub left_pushed : (es : List Entry) (e : Entry) (held : List ℕ) (leaves : List ℕ → Type 0) (image : List ℕ)
    → leavings_by e.step (bytes_after es held) (leavings_after es held leaves) image → leavings_after (es ++ e ∷ []) held leaves image
unfolding bytes_after leavings_after
left_pushed [] e held leaves image left = left
left_pushed (x ∷ es) e held leaves image left = left_pushed es e (bytes_by x.step held) (leavings_by x.step held leaves) image left

past_earlier : (es : List Entry) (e : Entry) (held : List ℕ) (leaves : List ℕ → Type 0) (t : ℕ) (m : Moment) → past_calls es held leaves t m
    → past_calls (es ++ e ∷ []) held leaves t m
unfolding past_calls
past_earlier [] e held leaves t m past = absurd past
past_earlier (x ∷ es) e held leaves t m (inl here) = inl here
past_earlier (x ∷ es) e held leaves t m (inr past) = inr (past_earlier es e (bytes_by x.step held) (leavings_by x.step held leaves) (t - 1) m past)

past_here : (es : List Entry) (e : Entry) (held : List ℕ) (leaves : List ℕ → Type 0) (t : ℕ) (m : Moment) → t ≤ length es
    → IsIn (λ image. leavings_after es held leaves image ⊎ leavings_by e.step (bytes_after es held) (leavings_after es held leaves) image) (span_of e.numbers) m
    → past_calls (es ++ e ∷ []) held leaves t m
unfolding past_calls bytes_after leavings_after
past_here [] e held leaves t m le is = inl (omega (arith, le), is)
past_here (x ∷ es) e held leaves t m le is = inr (past_here es e (bytes_by x.step held) (leavings_by x.step held leaves) (t - 1) m (omega (arith, le)) is)

past_no_more : (es rest : List Entry) (held : List ℕ) (leaves : List ℕ → Type 0) (t : ℕ) (m : Moment) → t ≤ length es
    → past_calls (es ++ rest) held leaves t m → past_calls es held leaves t m ⊎ past_calls (es ++ rest) held leaves (length es) m
unfolding past_calls
past_no_more [] rest held leaves t m le past =
    let first : t ≡ 0 = omega (arith, le) in inr (subst (λ (k : ℕ). past_calls rest held leaves k m) first past)
past_no_more (x ∷ es) rest held leaves t m le (inl here) = inl (inl here)
past_no_more (x ∷ es) rest held leaves t m le (inr past) =
    let n : suc (length es) - 1 ≡ length es = omega arith in
    ⊎_elim (λ was. inl (inr was)) (λ is. inr (inr (subst (λ (k : ℕ). past_calls (es ++ rest) (bytes_by x.step held) (leavings_by x.step held leaves) k m) (sym
    n) is)))
    (past_no_more es rest (bytes_by x.step held) (leavings_by x.step held leaves) (t - 1) m (omega (arith, le)) past)

past_last : (es : List Entry) (e : Entry) (held : List ℕ) (leaves : List ℕ → Type 0) (t : ℕ) (m : Moment) → length es ≤ t
    → past_calls (es ++ e ∷ []) held leaves t m
    → IsIn (λ image. leavings_after es held leaves image ⊎ leavings_by e.step (bytes_after es held) (leavings_after es held leaves) image) (span_of e.numbers) m
unfolding past_calls bytes_after leavings_after
past_last [] e held leaves t m late (inl here) = here.1
past_last [] e held leaves t m late (inr past) = absurd past
past_last (x ∷ es) e held leaves t m late (inl here) = absurd (omega (arith, here.0, late))
past_last (x ∷ es) e held leaves t m late (inr past) = past_last es e (bytes_by x.step held) (leavings_by x.step held leaves) (t - 1) m (omega (arith, late))
    past

-- no call more
module _ (first : List ℕ) (es : List Entry) (begun : Numbers) (f i f' i' : ℕ) (w x w' x' : Bool) where
  pub Goes-same : Goes memory_told (memory_disk first es begun f i w x) (memory_disk first es begun f' i' w' x')
  Goes-same = record {
    begun = λ told. refl;
    later = omega arith;
    earlier = λ told t m le past. past;
    kept = λ told t m le is. inr is;
    no_more = λ told t m le past. inl past;
    moments = λ told m past. absurd (over es first (λ image. image ≡ first) (length es) m (omega arith) past);
  }

-- one call more
module _ (first : List ℕ) (es all : List Entry) (step : Step) (numbers : Numbers) (f i f' i' : ℕ) (w x w' x' : Bool)
    (entered : all ≡ es ++ (record { step = step; numbers = numbers } ∷ [])) where
  e : Entry
  e = record { step = step; numbers = numbers }

  settled : List ℕ → Type 0
  settled image = image ≡ first

  pub held_entered : bytes_after all first ≡ bytes_by step (bytes_after es first)
  held_entered = rw entered (held_push es (record { step = step; numbers = numbers }) first)

  pub left_entered : (image : List ℕ) → leavings_after all first (λ image. image ≡ first) image
      → leavings_by step (bytes_after es first) (leavings_after es first (λ image. image ≡ first)) image
  left_entered = rw entered (left_push es (record { step = step; numbers = numbers }) first (λ image. image ≡ first))

  pub entered_left : (image : List ℕ) → leavings_by step (bytes_after es first) (leavings_after es first (λ image. image ≡ first)) image
      → leavings_after all first (λ image. image ≡ first) image
  entered_left = rw entered (left_pushed es (record { step = step; numbers = numbers }) first (λ image. image ≡ first))

  earlier : (t : ℕ) (m : Moment) → past_calls es first (λ image. image ≡ first) t m → past_calls all first (λ image. image ≡ first) t m
  earlier = rw entered (past_earlier es (record { step = step; numbers = numbers }) first (λ image. image ≡ first))

  here : (t : ℕ) (m : Moment) → t ≤ length es
      → IsIn (λ image. leavings_after es first (λ image. image ≡ first) image
      ⊎ leavings_by step (bytes_after es first) (leavings_after es first (λ image. image ≡ first)) image) (span_of numbers) m
      → past_calls all first (λ image. image ≡ first) t m
  here = rw entered (past_here es (record { step = step; numbers = numbers }) first (λ image. image ≡ first))

  no_more : (t : ℕ) (m : Moment) → t ≤ length es → past_calls all first (λ image. image ≡ first) t m
      → past_calls es first (λ image. image ≡ first) t m ⊎ past_calls all first (λ image. image ≡ first) (length es) m
  no_more = rw entered (past_no_more es (record { step = step; numbers = numbers } ∷ []) first (λ image. image ≡ first))

  last : (m : Moment) → past_calls all first (λ image. image ≡ first) (length es) m
      → IsIn (λ image. leavings_after es first (λ image. image ≡ first) image
      ⊎ leavings_by step (bytes_after es first) (leavings_after es first (λ image. image ≡ first)) image) (span_of numbers) m
  last = rw entered (λ m past. past_last es (record { step = step; numbers = numbers }) first (λ image. image ≡ first) (length es) m (omega arith) past)

  later : length es ≤ length all
  later = rw entered (omega (arith, length-append es (record { step = step; numbers = numbers } ∷ [])))

  pub Goes-entered : Goes memory_told (memory_disk first es numbers f i w x) (memory_disk first all numbers f' i' w' x')
  Goes-entered = record {
    begun = λ told. refl;
    later = later;
    earlier = λ told t m le past. earlier t m past;
    kept = λ told t m le is. inl (here t m le (IsIn-widen (leavings_after es first (λ image. image ≡ first))
        (λ image. leavings_after es first (λ image. image ≡ first) image
        ⊎ leavings_by step (bytes_after es first) (leavings_after es first (λ image. image ≡ first)) image)
        (span_of numbers) m (λ image left. inl left) is));
    no_more = λ told t m le past. no_more t m le past;
    moments = λ told m past. IsIn-widen (λ image. leavings_after es first (λ image. image ≡ first) image
        ⊎ leavings_by step (bytes_after es first) (leavings_after es first (λ image. image ≡ first)) image)
        (λ image. leavings_after es first (λ image. image ≡ first) image ⊎ leavings_after all first (λ image. image ≡ first) image)
        (span_of numbers) m (λ image left. ⊎_elim (λ was. inl was) (λ is. inr (entered_left image is)) left) (last m past);
  }

-- a call above that began
module _ (first : List ℕ) (es all : List Entry) (numbers before begun : Numbers) (f i f' i' : ℕ) (w x w' x' : Bool)
    (entered : all ≡ es ++ (record { step = Begin; numbers = numbers } ∷ [])) (is_begun : span_of begun ≡ begun_of numbers) where
  pub Keeps-begun : Keeps (memory_disk first es before f i w x) (memory_disk first all begun f' i' w' x')
  Keeps-begun = record {
    held = held_entered first es all Begin numbers f i f' i' w x w' x' entered;
    no_more = left_entered first es all Begin numbers f i f' i' w x w' x' entered;
    no_less = entered_left first es all Begin numbers f i f' i' w x w' x' entered;
  }

  pub StartsCall-begun : StartsCall memory_told numbers (memory_disk first es before f i w x) (memory_disk first all begun f' i' w' x')
  StartsCall-begun = record {
    begun = λ told. is_begun;
    later = later first es all Begin numbers f i f' i' w x w' x' entered;
    earlier = λ told t m le past. earlier first es all Begin numbers f i f' i' w x w' x' entered t m past;
    kept = λ told t m le is. here first es all Begin numbers f i f' i' w x w' x' entered t m le
        (IsIn-widen (leavings_after es first (λ image. image ≡ first))
        (λ image. leavings_after es first (λ image. image ≡ first) image
        ⊎ leavings_by Begin (bytes_after es first) (leavings_after es first (λ image. image ≡ first)) image)
        (span_of numbers) m (λ image left. inl left) is);
    no_more = λ told t m le past. no_more first es all Begin numbers f i f' i' w x w' x' entered t m le past;
    moments = λ told m past. IsIn-widen (λ image. leavings_after es first (λ image. image ≡ first) image
        ⊎ leavings_by Begin (bytes_after es first) (leavings_after es first (λ image. image ≡ first)) image)
        (leavings_after es first (λ image. image ≡ first))
        (span_of numbers) m (λ image left. ⊎_elim (λ was. was) (λ is. is) left) (last first es all Begin numbers f i f' i' w x w' x' entered m past);
  }

-- a write
module _ (first : List ℕ) (es all : List Entry) (at : ℕ) (bytes : List ℕ) (copy : Vec ℕ Global) (numbers : Numbers) (f i f' i' : ℕ) (w x w' x' : Bool)
    (same : copy.items ≡ bytes) (within : at + length bytes ≤ length (bytes_after es first))
    (entered : all ≡ es ++ (record { step = Write at copy; numbers = numbers } ∷ [])) where
  pub held_written : bytes_after all first ≡ patched at bytes (bytes_after es first)
  held_written = held_entered first es all (Write at copy) numbers f i f' i' w x w' x' entered ∙ ap (λ (l : List ℕ). patched at l (bytes_after es first)) same

  pub WritesFile-entered : WritesFile memory_told at bytes (memory_disk first es numbers f i w x) (memory_disk first all numbers f' i' w' x')
  WritesFile-entered = record {
    held = λ told. held_written;
    pending = λ told from image was torn. entered_left first es all (Write at copy) numbers f i f' i' w x w' x' entered image
        (inr (from, (was, subst (λ (l : List ℕ). Torn at (length l) from image) (sym same) torn)));
  }

  pub TearsFile-written : TearsFile memory_told at (length bytes) (memory_disk first es numbers f i w x) (memory_disk first all numbers f' i' w' x')
  TearsFile-written = record {
    held = λ told. rw held_written (Torn-patched at bytes (bytes_after es first) within);
    no_more = λ told image left. ⊎_elim
        (λ is. (
          bytes_after es first,
          (
            may_leave_bytes es first (λ image. image ≡ first) refl,
            subst (λ (l : List ℕ). Torn at (length bytes) (bytes_after es first) l) (ap (λ (l : List ℕ). patched at l (bytes_after es first)) (sym same) ∙ sym
                is)
                (Torn-patched at bytes (bytes_after es first) within),
          ),
        ))
        (λ torn. (torn.0, (torn.1.0, subst (λ (l : List ℕ). Torn at (length l) torn.0 image) same torn.1.1)))
        (left_entered first es all (Write at copy) numbers f i f' i' w x w' x' entered image left);
    no_less = λ told image was. entered_left first es all (Write at copy) numbers f i f' i' w x w' x' entered image
        (inr (image, (was, Torn-same at (length copy.items) image)));
  }

-- a write that failed
module _ (first : List ℕ) (es all : List Entry) (at count : ℕ) (numbers : Numbers) (f i f' i' : ℕ) (w x w' x' : Bool)
    (entered : all ≡ es ++ (record { step = Tear at count; numbers = numbers } ∷ [])) where
  pub TearsFile-torn : TearsFile memory_told at count (memory_disk first es numbers f i w x) (memory_disk first all numbers f' i' w' x')
  TearsFile-torn = record {
    held = λ told. rw (held_entered first es all (Tear at count) numbers f i f' i' w x w' x' entered) (Torn-same at count (bytes_after es first));
    no_more = λ told image left. left_entered first es all (Tear at count) numbers f i f' i' w x w' x' entered image left;
    no_less = λ told image was. entered_left first es all (Tear at count) numbers f i f' i' w x w' x' entered image (image, (was, Torn-same at count image));
  }

-- a sync
module _ (first : List ℕ) (es all : List Entry) (numbers : Numbers) (f i f' i' : ℕ) (w x w' x' : Bool)
    (entered : all ≡ es ++ (record { step = Sync; numbers = numbers } ∷ [])) where
  pub held_synced : bytes_after all first ≡ bytes_after es first
  held_synced = held_entered first es all Sync numbers f i f' i' w x w' x' entered

  pub IsFileSettled-synced : IsFileSettled (memory_disk first all numbers f' i' w' x')
  IsFileSettled-synced image left = left_entered first es all Sync numbers f i f' i' w x w' x' entered image left ∙ sym held_synced

  pub no_more_synced : (image : List ℕ) → leavings_after all first (λ image. image ≡ first) image → leavings_after es first (λ image. image ≡ first) image
  no_more_synced image left = subst (leavings_after es first (λ image. image ≡ first)) (sym (left_entered first es all Sync numbers f i f' i' w x w' x' entered
      image left))
      (may_leave_bytes es first (λ image. image ≡ first) refl)

-- zeros at the end
module _ (first : List ℕ) (es all : List Entry) (at count : ℕ) (numbers : Numbers) (f i f' i' : ℕ) (w x w' x' : Bool)
    (entered : all ≡ es ++ (record { step = Grow (at + count); numbers = numbers } ∷ [])) where
  pub held_grown : bytes_after all first ≡ replicate (at + count) 0
  held_grown = held_entered first es all (Grow (at + count)) numbers f i f' i' w x w' x' entered

  pub GrowsFile-grown : (most : ℕ) → count ≤ most → GrowsFile memory_told at most (memory_disk first es numbers f i w x) (memory_disk first all numbers f' i' w'
      x')
  GrowsFile-grown most less = record {
    held = λ told. (count, (less, held_grown));
    no_more = λ told image left. ⊎_elim
        (λ was. inl was)
        (λ zeros. inr (record { within = omega (arith, zeros.within, less); zeros = zeros.zeros }))
        (left_entered first es all (Grow (at + count)) numbers f i f' i' w x w' x' entered image left);
    no_less = λ told image was. entered_left first es all (Grow (at + count)) numbers f i f' i' w x w' x' entered image (inl was);
  }

module _ (first : List ℕ) (es all : List Entry) (at count : ℕ) (numbers : Numbers) (f i f' i' : ℕ) (w x w' x' : Bool)
    (zeros_held : bytes_after es first ≡ replicate at 0)
    (entered : all ≡ es ++ (record { step = Pad (at + count); numbers = numbers } ∷ [])) where
  pub GrowsFile-padded : GrowsFile memory_told at count (memory_disk first es numbers f i w x) (memory_disk first all numbers f' i' w' x')
  GrowsFile-padded = record {
    held = λ told. (
      0,
      (
        omega arith,
        held_entered first es all (Pad (at + count)) numbers f i f' i' w x w' x' entered ∙ zeros_held
            ∙ ap (λ (k : ℕ). replicate k 0) (same at),
      ),
    );
    no_more = λ told image left. left_entered first es all (Pad (at + count)) numbers f i f' i' w x w' x' entered image left;
    no_less = λ told image was. entered_left first es all (Pad (at + count)) numbers f i f' i' w x w' x' entered image (inl was);
  }
    where
      same : (k : ℕ) → k ≡ k + 0
      same k = omega arith
