-- Quiet calls, one after another.
use Rattle.std.proofs.Common.{◌⊎◌, inl, inr, ⊎_elim, ℕ, ◌≤◌, List, arith}
use Rattle.std.specs.Prelude.{IsTrue}
use Rattle.fdr_deck.specs.State.{State, Tells, Moment}
use Rattle.fdr_deck.specs.Disk.{KeepsDisk, IsZeros}
use Rattle.fdr_deck.specs.Moments.{IsSoundDeck, EachMoment, Within, WithinProvide}
use Rattle.fdr_deck.specs.Calls.{Passes, IsDiskWork, IsDiskMoment}
use Rattle.fdr_deck.proofs.Moments.{KeepsAnnounced-least, KeepsAnnounced-greatest, Passes-then, EachMoment-then, HasSamePulls-before, IsDiskWork-here}
use Rattle.fdr_deck.proofs.Moments.{IsDiskWork-keep}

-- the property is weakened
pub IsDiskWork-weaken : (tells : Tells) (P Q : List ℕ → Type 0) (old new : State) → IsDiskWork tells P old new
    → (IsTrue tells.stops → (image : List ℕ) → P image → Q image) → IsDiskWork tells Q old new
IsDiskWork-weaken tells P Q old new quiet weaker = record {
  passes = quiet.passes;
  moments = λ told m since. let is = quiet.moments told m since in
      record { image = weaker told m.image is.image; least = is.least; greatest = is.greatest; pulled = is.pulled };
}

-- a stretch with one property, and then one with another
pub IsDiskWork-then : (tells : Tells) (P Q R : List ℕ → Type 0) (old mid new : State) → IsSoundDeck tells old → IsDiskWork tells P old mid
    → IsDiskWork tells Q mid new
    → (IsTrue tells.stops → (image : List ℕ) → P image → R image) → (IsTrue tells.stops → (image : List ℕ) → Q image → R image) → IsDiskWork tells R old new
IsDiskWork-then tells P Q R old mid new sound first second one two = record {
  passes = Passes-then tells old mid new first.passes second.passes;
  moments = EachMoment-then tells old mid new (IsDiskMoment R old) first.passes.time second.passes.time (IsDiskWork-weaken tells P R old mid first one).moments
      (λ told m since. widen told m (second.moments told m since));
}
  where
    least : old.least ≤ mid.least
    least = KeepsAnnounced-least tells old mid sound first.passes.announced

    greatest : mid.greatest ≤ old.greatest
    greatest = KeepsAnnounced-greatest tells old mid sound first.passes.announced

    widen : IsTrue tells.stops → (m : Moment) → IsDiskMoment Q mid m → IsDiskMoment R old m
    widen told m quiet = record {
      image = two told m.image quiet.image;
      least = omega (arith, least, quiet.least);
      greatest = omega (arith, greatest, quiet.greatest);
      pulled = HasSamePulls-before old mid m first.passes.input quiet.pulled;
    }

-- one call that leaves the disk
pub IsDiskWork-look : (tells : Tells) (P : List ℕ → Type 0) (old new : State) → IsSoundDeck tells old → KeepsDisk old new → Passes tells old new
    → EachMoment tells old new (Within old new)
    → (IsTrue tells.stops → (image : List ℕ) → old.may_leave image → P image) → IsDiskWork tells P old new
IsDiskWork-look tells P old new sound disk passes moments here =
    IsDiskWork-keep tells P old old new sound sound (IsDiskWork-here tells P old sound here) passes moments disk.no_more

-- a call that provides the disk
pub IsDiskWork-provide : (tells : Tells) (size : ℕ) (old new : State) → IsSoundDeck tells old → Passes tells old new
    → EachMoment tells old new (WithinProvide size old new)
    → IsDiskWork tells (λ image. old.may_leave image ⊎ IsZeros size image) old new
IsDiskWork-provide tells size old new sound passes moments = record {
  passes = passes;
  moments = λ told m since. ⊎_elim
      (λ now. record { image = inl now.image; least = now.least; greatest = now.greatest; pulled = now.pulled })
      (λ amid. record {
        image = ⊎_elim (λ was. inl was) (λ zeros. inr zeros.1) amid.image;
        least = omega (arith, amid.announced, sound.least);
        greatest = omega (arith, amid.announced, sound.greatest);
        pulled = amid.pulled;
      })
      (moments told m since);
}
