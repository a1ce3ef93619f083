-- One call more of the deck in memory.
use Rattle.std.proofs.Common.{◌≡◌, ◌⊎◌, inl, inr, ⊎_elim, ℕ, suc, ◌-◌, ◌≤◌, List, [], ◌∷◌, ◌++◌, length, refl, sym, ◌∙◌, subst, arith, length-append}
use Rattle.fdr_deck.specs.State.{Moment}
use Rattle.fdr_deck.specs.Disk.{IsZeros}
use Rattle.fdr_deck.specs.Moments.{IsNow, IsInsideCall, Within, WithinProvide, Elapses, EachMoment}
use Rattle.fdr_deck.specs.Calls.{KeepsAnnounced, Passes}
use Rattle.fdr_deck.specs.Memory.{Memory, memory_state, memory_tells, held_in, left_in, held_by, left_by, left_within, held_after, left_after, IsBetween}
use Rattle.fdr_deck.specs.Memory.{IsAmid, moments_after, IsEntered, KeepsPulled}
use Rattle.fdr_deck.specs.MemorySound.{memory_is_sound}
use Rattle.fdr_deck.specs.declared.calls.Call.{Call}
use Rattle.fdr_deck.specs.declared.calls.Numbers.{Numbers}
use Rattle.fdr_deck.specs.declared.calls.Entry.{Entry}

pub held_push : (es : List Entry) (e : Entry) (held : List ℕ) → held_after (es ++ e ∷ []) held ≡ held_by e.call (held_after es held)
unfolding held_after
held_push [] e held = refl
held_push (x ∷ es) e held = held_push es e (held_by x.call held)

pub left_push : (es : List Entry) (e : Entry) (held : List ℕ) (leaves : List ℕ → Type 0) (image : List ℕ) → left_after (es ++ e ∷ []) held leaves image
    → left_by e.call (held_after es held) (left_after es held leaves) image
unfolding held_after left_after
left_push [] e held leaves image left = left
left_push (x ∷ es) e held leaves image left = left_push es e (held_by x.call held) (left_by x.call held leaves) image left

pub left_pushed : (es : List Entry) (e : Entry) (held : List ℕ) (leaves : List ℕ → Type 0) (image : List ℕ)
    → left_by e.call (held_after es held) (left_after es held leaves) image → left_after (es ++ e ∷ []) held leaves image
unfolding held_after left_after
left_pushed [] e held leaves image left = left
left_pushed (x ∷ es) e held leaves image left = left_pushed es e (held_by x.call held) (left_by x.call held leaves) image left

-- the moments from before stay
earlier : (es : List Entry) (e : Entry) (now : Numbers) (held : List ℕ) (leaves : List ℕ → Type 0) (t : ℕ) (m : Moment) → t ≤ length es
    → moments_after es e.numbers held leaves t m → moments_after (es ++ e ∷ []) now held leaves t m
unfolding moments_after
earlier [] e now held leaves t m le is = inl (omega arith, inl is)
earlier (x ∷ es) e now held leaves t m le (inl here) = inl here
earlier (x ∷ es) e now held leaves t m le (inr since) = inr (earlier es e now (held_by x.call held) (left_by x.call held leaves) (t - 1) m (omega arith) since)

-- a moment since a call of a front part is one of that part, whatever its numbers are now, or of what is after it
pub no_more : (es rest : List Entry) (any now : Numbers) (held : List ℕ) (leaves : List ℕ → Type 0) (t : ℕ) (m : Moment) → t ≤ length es
    → moments_after (es ++ rest) now held leaves t m
    → moments_after es any held leaves t m ⊎ moments_after (es ++ rest) now held leaves (length es) m
unfolding moments_after
no_more [] rest any now held leaves t m le since =
    let first : t ≡ 0 = omega (arith, le) in inr (subst (λ (k : ℕ). moments_after rest now held leaves k m) first since)
no_more (x ∷ es) rest any now held leaves t m le (inl here) = inl (inl here)
no_more (x ∷ es) rest any now held leaves t m le (inr since) =
    let n : suc (length es) - 1 ≡ length es = omega arith in
    ⊎_elim (λ was. inl (inr was)) (λ is. inr (inr (subst (λ (k : ℕ). moments_after (es ++ rest) now (held_by x.call held) (left_by x.call held leaves) k m)
    (sym n) is)))
    (no_more es rest any now (held_by x.call held) (left_by x.call held leaves) (t - 1) m (omega arith) since)

-- the moments of the last call
last_call : (es : List Entry) (e : Entry) (now : Numbers) (held : List ℕ) (leaves : List ℕ → Type 0) (t : ℕ) (m : Moment) → length es ≤ t
    → moments_after (es ++ e ∷ []) now held leaves t m
    → (IsBetween (left_after es held leaves) e.numbers m ⊎ IsAmid (left_within e.call (held_after es held) (left_after es held leaves)) e.numbers m)
    ⊎ IsBetween (left_after (es ++ e ∷ []) held leaves) now m
unfolding held_after left_after moments_after
last_call [] e now held leaves t m late (inl here) = inl here.1
last_call [] e now held leaves t m late (inr since) = inr since
last_call (x ∷ es) e now held leaves t m late (inl here) = absurd (omega (arith, here.0))
last_call (x ∷ es) e now held leaves t m late (inr since) = last_call es e now (held_by x.call held) (left_by x.call held leaves) (t - 1) m (omega arith) since

falls : (es : List Entry) (e : Entry) (now : Numbers) (first : List ℕ) (t : ℕ) (m : Moment) → t ≤ length es
    → moments_after (es ++ e ∷ []) now first (λ image. image ≡ first) (length es) m → moments_after (es ++ e ∷ []) now first (λ image. image ≡ first) t m
falls es e now first t m le since =
    let d : Memory = record { first = first; entries = es ++ e ∷ []; numbers = now; input = []; disk_faults = 0; input_faults = 0; failing = [] } in
    (memory_is_sound d).falls refl t (length es) m le (omega (arith, length-append es (e ∷ []))) since

module _ (call : Call) (old new : Memory) (entered : IsEntered call old new) where
  entry : Entry
  entry = record { call = call; numbers = old.numbers }

  pub held_entered : held_in new ≡ held_by call (held_in old)
  held_entered = rw (entered.entries, entered.first) (held_push old.entries (record { call = call; numbers = old.numbers }) old.first)

  pub left_entered : (image : List ℕ) → left_in new image → left_by call (held_in old) (left_in old) image
  left_entered = rw (entered.entries, entered.first)
      (left_push old.entries (record { call = call; numbers = old.numbers }) old.first (λ image. image ≡ old.first))

  pub entered_left : (image : List ℕ) → left_by call (held_in old) (left_in old) image → left_in new image
  entered_left = rw (entered.entries, entered.first)
      (left_pushed old.entries (record { call = call; numbers = old.numbers }) old.first (λ image. image ≡ old.first))

  pub time_entered : Elapses memory_tells (memory_state old) (memory_state new)
  time_entered = rw (entered.entries, entered.first) (record {
    later = omega (arith, length-append old.entries (record { call = call; numbers = old.numbers } ∷ []));
    earlier = λ told t m le since. earlier old.entries (record { call = call; numbers = old.numbers }) new.numbers old.first (λ image. image ≡ old.first)
        t m le since;
    added = λ told t m le since. falls old.entries (record { call = call; numbers = old.numbers }) new.numbers old.first t m le since;
    no_more = λ told t m le since. no_more old.entries (record { call = call; numbers = old.numbers } ∷ []) old.numbers new.numbers old.first
        (λ image. image ≡ old.first) t m le since;
  })

  pub last_entered : (m : Moment) → moments_after new.entries new.numbers new.first (λ image. image ≡ new.first) (length old.entries) m
      → (IsBetween (left_in old) old.numbers m ⊎ IsAmid (left_within call (held_in old) (left_in old)) old.numbers m) ⊎ IsBetween (left_in new) new.numbers m
  last_entered = rw (entered.entries, entered.first)
      (λ m since. last_call old.entries (record { call = call; numbers = old.numbers }) new.numbers old.first (λ image. image ≡ old.first) (length old.entries)
      m (omega arith) since)

  at_start : (m : Moment) → IsBetween (left_in old) old.numbers m → IsNow (memory_state old) m
  at_start m is = record { image = is.image; least = is.least; greatest = is.greatest; pulled = record { taken = is.taken; pulled_before = is.pulled_before } }

  at_end : (m : Moment) → IsBetween (left_in new) new.numbers m → IsInsideCall (memory_state old) (memory_state new) m
  at_end m is = record {
    image = inr is.image;
    announced = omega (arith, is.least, is.greatest, entered.least, entered.greatest);
    pulled = inr (record { taken = is.taken; pulled_before = is.pulled_before });
  }

  pub told_entered : KeepsAnnounced (memory_state old) (memory_state new)
  told_entered = record { announced = entered.announced; numbers = inl (entered.least ∙ sym entered.announced, entered.greatest ∙ sym entered.announced) }

  pub passes_entered : KeepsPulled old new → old.disk_faults ≤ new.disk_faults → Passes memory_tells (memory_state old) (memory_state new)
  passes_entered kept faults = record {
    input = record { input = kept.input; taken = kept.taken; pulled_before = kept.pulled_before };
    input_faults = kept.input_faults;
    announced = told_entered;
    disk_faults = faults;
    time = time_entered;
  }

  -- a call within which a stop leaves what one before it or after it may
  pub within_entered : ((image : List ℕ) → left_within call (held_in old) (left_in old) image
      → left_in old image ⊎ left_by call (held_in old) (left_in old) image)
      → EachMoment memory_tells (memory_state old) (memory_state new) (Within (memory_state old) (memory_state new))
  within_entered amid told m since = ⊎_elim
      (λ early. ⊎_elim
      (λ is. inl (at_start m is))
      (λ is. inr (record {
        image = ⊎_elim (λ was. inl was) (λ after. inr (entered_left m.image after)) (amid m.image is.image);
        announced = is.announced;
        pulled = inl (record { taken = is.taken; pulled_before = is.pulled_before });
      }))
      early)
      (λ is. inr (at_end m is))
      (last_entered m since)

  -- a call that provides the disk, or was to
  pub providing_entered : (size : ℕ) → KeepsPulled old new → length (held_in old) ≡ 0
      → ((image : List ℕ) → left_within call (held_in old) (left_in old) image → left_in old image ⊎ IsZeros size image)
      → ((image : List ℕ) → left_by call (held_in old) (left_in old) image → left_in old image ⊎ IsZeros size image)
      → EachMoment memory_tells (memory_state old) (memory_state new) (WithinProvide size (memory_state old) (memory_state new))
  providing_entered size kept empty amid after told m since = ⊎_elim
      (λ early. ⊎_elim
      (λ is. inl (at_start m is))
      (λ is. inr (record {
        image = ⊎_elim (λ was. inl was) (λ zeros. inr (empty, zeros)) (amid m.image is.image);
        announced = is.announced;
        pulled =
            record { taken = is.taken; pulled_before = is.pulled_before };
      }))
      early)
      (λ is. inr (record {
        image = ⊎_elim (λ was. inl was) (λ zeros. inr (empty, zeros)) (after m.image (left_entered m.image is.image));
        announced = (at_end m is).announced;
        pulled = record { taken = is.taken ∙ kept.taken; pulled_before = is.pulled_before ∙ kept.pulled_before };
      }))
      (last_entered m since)
