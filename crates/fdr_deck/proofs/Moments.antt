-- The moments of one call after another.
use Rattle.std.proofs.Common.{inl, inr, ⊎_elim, ℕ, ◌≤◌, List, sym, refl, ◌∙◌, arith}
use Rattle.std.specs.Prelude.{IsTrue}
use Rattle.fdr_deck.specs.State.{State, Tells, Moment}
use Rattle.fdr_deck.specs.Disk.{Torn, Tears}
use Rattle.fdr_deck.specs.Pull.{KeepsInput}
use Rattle.fdr_deck.specs.Moments.{HasSamePulls, IsNow, Elapses, EachMoment, IsInsideCall, Within, WithinProvide, IsSoundDeck}
use Rattle.fdr_deck.specs.Calls.{KeepsAnnounced, Passes, IsDiskMoment, IsDiskWork}

-- no time
pub Elapses-here : (tells : Tells) (d : State) → IsSoundDeck tells d → Elapses tells d d
Elapses-here tells d sound = record {
  later = omega arith;
  earlier = λ told t m le since. since;
  added = λ told t m le since. sound.falls told t d.clock m le (omega arith) since;
  no_more = λ told t m le since. inl since;
}

pub Elapses-then : (tells : Tells) (old mid new : State) → Elapses tells old mid → Elapses tells mid new → Elapses tells old new
Elapses-then tells old mid new first second =
    let step : (t : ℕ) → t ≤ old.clock → t ≤ mid.clock = λ t le. omega (arith, le, first.later) in
    let start : old.clock ≤ mid.clock = first.later in
    record {
      later = omega (arith, first.later, second.later);
      earlier = λ told t m le since. second.earlier told t m (step t le) (first.earlier told t m le since);
      added = λ told t m le since. ⊎_elim
          (λ was. second.earlier told t m (step t le) (first.added told t m le was))
          (λ is. second.added told t m (step t le) is)
          (second.no_more told old.clock m start since);
      no_more = λ told t m le since. ⊎_elim
          (λ was. ⊎_elim (λ long. inl long) (λ mine. inr (second.earlier told old.clock m start mine)) (first.no_more told t m le was))
          (λ is. inr (second.added told old.clock m start is))
          (second.no_more told t m (step t le) since);
    }

-- what holds of each moment of two stretches holds of each moment of both
pub EachMoment-then : (tells : Tells) (old mid new : State) (P : Moment → Type 0) → Elapses tells old mid → Elapses tells mid new → EachMoment tells old mid P
    → EachMoment tells mid new P → EachMoment tells old new P
EachMoment-then tells old mid new P first time moments more told m since =
    ⊎_elim (λ was. moments told m was) (λ is. more told m is) (time.no_more told old.clock m first.later since)

pub EachMoment-weaken : (tells : Tells) (old new : State) (P Q : Moment → Type 0) → ((m : Moment) → P m → Q m) → EachMoment tells old new P
    → EachMoment tells old new Q
EachMoment-weaken tells old new P Q weaker moments told m since = weaker m (moments told m since)

pub KeepsAnnounced-here : (d : State) → KeepsAnnounced d d
KeepsAnnounced-here d = record { announced = omega arith; numbers = inr (omega arith, omega arith) }

pub KeepsAnnounced-then : (old mid new : State) → KeepsAnnounced old mid → KeepsAnnounced mid new → KeepsAnnounced old new
KeepsAnnounced-then old mid new first second = record {
  announced = second.announced ∙ first.announced;
  numbers = ⊎_elim
      (λ fresh. inl fresh)
      (λ kept. ⊎_elim
      (λ fresh. inl (kept.0 ∙ fresh.0 ∙ sym second.announced, kept.1 ∙ fresh.1 ∙ sym second.announced))
      (λ long. inr (kept.0 ∙ long.0, kept.1 ∙ long.1))
      first.numbers)
      second.numbers;
}

-- while the announced number stays, the least since the last call falls no further, and the greatest rises no further
pub KeepsAnnounced-least : (tells : Tells) (old new : State) → IsSoundDeck tells old → KeepsAnnounced old new → old.least ≤ new.least
KeepsAnnounced-least tells old new sound keeps =
    ⊎_elim (λ fresh. omega (arith, fresh.0, keeps.announced, sound.least)) (λ kept. omega (arith, kept.0)) keeps.numbers

pub KeepsAnnounced-greatest : (tells : Tells) (old new : State) → IsSoundDeck tells old → KeepsAnnounced old new → new.greatest ≤ old.greatest
KeepsAnnounced-greatest tells old new sound keeps =
    ⊎_elim (λ fresh. omega (arith, fresh.1, keeps.announced, sound.greatest)) (λ kept. omega (arith, kept.1)) keeps.numbers

pub KeepsInput-then : (old mid new : State) → KeepsInput old mid → KeepsInput mid new → KeepsInput old new
KeepsInput-then old mid new first second = record {
  input = second.input ∙ first.input;
  taken = second.taken ∙ first.taken;
  pulled_before = second.pulled_before ∙ first.pulled_before;
}

pub Passes-here : (tells : Tells) (d : State) → IsSoundDeck tells d → Passes tells d d
Passes-here tells d sound = record {
  input = record { input = cc; taken = cc; pulled_before = cc };
  input_faults = cc;
  announced = KeepsAnnounced-here d;
  disk_faults = omega arith;
  time = Elapses-here tells d sound;
}

pub Passes-then : (tells : Tells) (old mid new : State) → Passes tells old mid → Passes tells mid new → Passes tells old new
Passes-then tells old mid new first second = record {
  input = KeepsInput-then old mid new first.input second.input;
  input_faults = second.input_faults ∙ first.input_faults;
  announced = KeepsAnnounced-then old mid new first.announced second.announced;
  disk_faults = omega (arith, first.disk_faults, second.disk_faults);
  time = Elapses-then tells old mid new first.time second.time;
}

-- No call yet: each image that a stop now may leave has the property.
pub IsDiskWork-here : (tells : Tells) (P : List ℕ → Type 0) (d : State) → IsSoundDeck tells d
    → (IsTrue tells.stops → (image : List ℕ) → d.may_leave image → P image) → IsDiskWork tells P d d
IsDiskWork-here tells P d sound here = record {
  passes = Passes-here tells d sound;
  moments = λ told m since.
      let now = sound.only_now told m since in
      record { image = here told m.image now.image; least = now.least; greatest = now.greatest; pulled = now.pulled };
}

-- After quiet calls each image that a stop now may leave has the property.
pub IsDiskWork-now : (tells : Tells) (P : List ℕ → Type 0) (old new : State) → IsSoundDeck tells new → IsDiskWork tells P old new → IsTrue tells.stops
    → (image : List ℕ) → new.may_leave image → P image
IsDiskWork-now tells P old new sound quiet told image leaves =
    let m : Moment = record { image = image; announced = new.announced; taken = new.taken; pulled_before = new.pulled_before } in
    let since : new.since new.clock m = sound.counts_now told m leaves refl (record { taken = refl; pulled_before = refl }) in
    (quiet.moments told m (quiet.passes.time.added told old.clock m (omega arith)
    (sound.falls told old.clock new.clock m quiet.passes.time.later (omega arith) since))).image

pub HasSamePulls-before : (old mid : State) (m : Moment) → KeepsInput old mid → HasSamePulls mid m → HasSamePulls old m
HasSamePulls-before old mid m input pulled = record { taken = pulled.taken ∙ input.taken; pulled_before = pulled.pulled_before ∙ input.pulled_before }

-- One call more, after which each image that a stop may leave has the property.
pub IsDiskWork-call : (tells : Tells) (P : List ℕ → Type 0) (old mid new : State) → IsSoundDeck tells old → IsSoundDeck tells mid → IsDiskWork tells P old mid
    → Passes tells mid new → EachMoment tells mid new (Within mid new)
    → (IsTrue tells.stops → (image : List ℕ) → new.may_leave image → P image) → IsDiskWork tells P old new
IsDiskWork-call tells P old mid new sound sound_mid quiet call moments after = record {
  passes = Passes-then tells old mid new quiet.passes call;
  moments = EachMoment-then tells old mid new (IsDiskMoment P old) quiet.passes.time call.time quiet.moments
      (λ told m since. ⊎_elim (λ now. at_start told m now) (λ inside. amid told m inside) (moments told m since));
}
  where
    least : old.least ≤ mid.least
    least = KeepsAnnounced-least tells old mid sound quiet.passes.announced

    greatest : mid.greatest ≤ old.greatest
    greatest = KeepsAnnounced-greatest tells old mid sound quiet.passes.announced

    before : IsTrue tells.stops → (image : List ℕ) → mid.may_leave image → P image
    before = IsDiskWork-now tells P old mid sound_mid quiet

    at_start : IsTrue tells.stops → (m : Moment) → IsNow mid m → IsDiskMoment P old m
    at_start told m now = record {
      image = before told m.image now.image;
      least = omega (arith, least, now.least);
      greatest = omega (arith, greatest, now.greatest);
      pulled = HasSamePulls-before old mid m quiet.passes.input now.pulled;
    }

    amid : IsTrue tells.stops → (m : Moment) → IsInsideCall mid new m → IsDiskMoment P old m
    amid told m inside = record {
      image = ⊎_elim (before told m.image) (after told m.image) inside.image;
      least = omega (arith, inside.announced, quiet.passes.announced.announced, sound.least);
      greatest = omega (arith, inside.announced, quiet.passes.announced.announced, sound.greatest);
      pulled = let then = HasSamePulls-before old mid m quiet.passes.input in
          ⊎_elim then (λ p. then (HasSamePulls-before mid new m call.input p)) inside.pulled;
    }

-- One call more, after which a stop leaves no image that it couldn't leave before: a size, a read or a sync.
pub IsDiskWork-keep : (tells : Tells) (P : List ℕ → Type 0) (old mid new : State) → IsSoundDeck tells old → IsSoundDeck tells mid → IsDiskWork tells P old mid
    → Passes tells mid new → EachMoment tells mid new (Within mid new)
    → ((image : List ℕ) → new.may_leave image → mid.may_leave image) → IsDiskWork tells P old new
IsDiskWork-keep tells P old mid new sound sound_mid quiet call moments no_more =
    IsDiskWork-call tells P old mid new sound sound_mid quiet call moments
    (λ told image leaves. IsDiskWork-now tells P old mid sound_mid quiet told image (no_more image leaves))

-- One write more, in a range whose bytes the property leaves open.
pub IsDiskWork-write : (tells : Tells) (P : List ℕ → Type 0) (old mid new : State) (at n : ℕ) → IsSoundDeck tells old → IsSoundDeck tells mid
    → IsDiskWork tells P old mid → Passes tells mid new → EachMoment tells mid new (Within mid new)
    → Tears tells at n mid new → (IsTrue tells.stops → (from image : List ℕ) → mid.may_leave from → P from → Torn at n from image → P image)
    → IsDiskWork tells P old new
IsDiskWork-write tells P old mid new at n sound sound_mid quiet call moments tears stays =
    IsDiskWork-call tells P old mid new sound sound_mid quiet call moments
    (λ told image leaves. let was = tears.no_more told image leaves in
    stays told was.0 image was.1.0 (IsDiskWork-now tells P old mid sound_mid quiet told was.0 was.1.0) was.1.1)

-- A moment of a call that provides nothing is one that a call which provides the disk may have.
pub Within-provide : (size : ℕ) (old new : State) (m : Moment) → ((image : List ℕ) → new.may_leave image → old.may_leave image) → KeepsInput old new
    → Within old new m → WithinProvide size old new m
Within-provide size old new m no_more input (inl now) = inl now
Within-provide size old new m no_more input (inr inside) = inr (record {
  image = inl (⊎_elim (λ was. was) (λ left. no_more m.image left) inside.image);
  announced = inside.announced;
  pulled = ⊎_elim (λ p. p) (HasSamePulls-before old new m input) inside.pulled;
})
