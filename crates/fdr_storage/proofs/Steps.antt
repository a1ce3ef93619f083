-- One call of a storage after another.
use Rattle.std.proofs.Common.{◌⊎◌, inl, inr, ⊎_elim, ℕ, ◌≤◌, List, refl, sym, ◌∙◌, subst, arith}
use Rattle.std.specs.Prelude.{IsTrue}
use Rattle.fdr_deck.specs.State.{Moment}
use Rattle.fdr_storage.specs.Disk.{Told, Span, StoredFile, IsIn, IsSoundDisk}
use Rattle.fdr_storage.specs.Calls.{Keeps, Goes}

pub Keeps-here : (d : StoredFile) → Keeps d d
Keeps-here d = record { held = cc; no_more = λ image left. left; no_less = λ image left. left }

pub Keeps-then : (old mid new : StoredFile) → Keeps old mid → Keeps mid new → Keeps old new
Keeps-then old mid new first second = record {
  held = second.held ∙ first.held;
  no_more = λ image left. first.no_more image (second.no_more image left);
  no_less = λ image left. second.no_less image (first.no_less image left);
}

-- other images
pub IsIn-widen : (P Q : List ℕ → Type 0) (span : Span) (m : Moment) → ((image : List ℕ) → P image → Q image) → IsIn P span m → IsIn Q span m
IsIn-widen P Q span m wider is = record {
  image = wider m.image is.image;
  least = is.least;
  greatest = is.greatest;
  taken = is.taken;
  pulled_before = is.pulled_before;
}

-- no call
pub Goes-here : (told : Told) (d : StoredFile) → IsSoundDisk told d → Goes told d d
Goes-here told d sound = record {
  begun = λ told. refl;
  later = omega arith;
  earlier = λ told t m le past. past;
  kept = λ told t m le is. inr is;
  no_more = λ told t m le past. inl past;
  moments = λ told m past. absurd (sound.over told m past);
}

-- One call and then another, where each image that a stop between them may leave is one from before them or after them.
pub Goes-then : (told : Told) (old mid new : StoredFile) → IsSoundDisk told new → Goes told old mid → Goes told mid new
    → (IsTrue told.stops → (image : List ℕ) → mid.may_leave image → old.may_leave image ⊎ new.may_leave image) → Goes told old new
Goes-then told old mid new sound first second between = record {
  begun = λ told. second.begun told ∙ first.begun told;
  later = omega (arith, first.later, second.later);
  earlier = λ told t m le past. second.earlier told t m (reach t le) (first.earlier told t m le past);
  kept = λ told t m le is. ⊎_elim
      (λ past. inl (second.earlier told t m (reach t le) past))
      (λ here. ⊎_elim
      (λ past. inl past)
      (λ now. inr (subst (λ (s : Span). IsIn new.may_leave s m) (first.begun told) now))
      (second.kept told t m (reach t le) (subst (λ (s : Span). IsIn mid.may_leave s m) (sym (first.begun told)) here)))
      (first.kept told t m le is);
  no_more = λ told t m le past. ⊎_elim
      (λ was. ⊎_elim (λ long. inl long) (λ mine. inr (second.earlier told old.clock m first.later mine)) (first.no_more told t m le was))
      (λ is. inr (sound.falls told old.clock mid.clock m first.later second.later is))
      (second.no_more told t m (reach t le) past);
  moments = λ told m past. ⊎_elim
      (λ was. IsIn-widen (λ image. old.may_leave image ⊎ mid.may_leave image) (λ image. old.may_leave image ⊎ new.may_leave image) old.begun m
      (λ image left. ⊎_elim (λ here. inl here) (between told image) left)
      (first.moments told m was))
      (λ is. IsIn-widen (λ image. mid.may_leave image ⊎ new.may_leave image) (λ image. old.may_leave image ⊎ new.may_leave image) old.begun m
      (λ image left. ⊎_elim (between told image) (λ after. inr after) left)
      (subst (λ (s : Span). IsIn (λ image. mid.may_leave image ⊎ new.may_leave image) s m) (first.begun told) (second.moments told m is)))
      (second.no_more told old.clock m first.later past);
}
  where
    reach : (t : ℕ) → t ≤ old.clock → t ≤ mid.clock
    reach t le = omega (arith, le, first.later)

-- after calls that left what the storage holds
pub Goes-keep : (told : Told) (old mid new : StoredFile) → IsSoundDisk told new → Keeps old mid → Goes told old mid → Goes told mid new → Goes told old new
Goes-keep told old mid new sound kept first second = Goes-then told old mid new sound first second (λ told image left. inl (kept.no_more image left))
