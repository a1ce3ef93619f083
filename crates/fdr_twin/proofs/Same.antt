-- A state and another that means the same.
use Rattle.std.proofs.Common.{inl, inr, ⊎_elim, ℕ, List, refl, sym, ◌∙◌, arith}
use Rattle.fdr_deck.specs.State.{State, Tells, Moment}
use Rattle.fdr_deck.specs.Disk.{IsSettled}
use Rattle.fdr_deck.specs.Pull.{KeepsInput}
use Rattle.fdr_deck.specs.Moments.{Elapses}
use Rattle.fdr_deck.specs.Calls.{KeepsAnnounced, Passes, IsDiskWork}
use Rattle.fdr_twin.specs.Same.{IsSameState}

pub IsSame-sym : (a b : State) → IsSameState a b → IsSameState b a
IsSame-sym a b same = record {
  extent = sym same.extent;
  held = sym same.held;
  leaves = same.left;
  left = same.leaves;
  clock = sym same.clock;
  moments = same.only;
  only = same.moments;
  announced = sym same.announced;
  least = sym same.least;
  greatest = sym same.greatest;
  input = sym same.input;
  taken = sym same.taken;
  pulled_before = sym same.pulled_before;
  disk_faults = sym same.disk_faults;
  input_faults = sym same.input_faults;
}

pub IsSame-then : (a b c : State) → IsSameState a b → IsSameState b c → IsSameState a c
IsSame-then a b c one two = record {
  extent = two.extent ∙ one.extent;
  held = two.held ∙ one.held;
  leaves = λ image is. two.leaves image (one.leaves image is);
  left = λ image is. one.left image (two.left image is);
  clock = two.clock ∙ one.clock;
  moments = λ t m is. two.moments t m (one.moments t m is);
  only = λ t m is. one.only t m (two.only t m is);
  announced = two.announced ∙ one.announced;
  least = two.least ∙ one.least;
  greatest = two.greatest ∙ one.greatest;
  input = two.input ∙ one.input;
  taken = two.taken ∙ one.taken;
  pulled_before = two.pulled_before ∙ one.pulled_before;
  disk_faults = two.disk_faults ∙ one.disk_faults;
  input_faults = two.input_faults ∙ one.input_faults;
}

-- what is settled stays so under another name
pub IsSettled-same : (a b : State) → IsSameState a b → IsSettled a → IsSettled b
IsSettled-same a b same settled image leaves = settled image (same.left image leaves) ∙ sym same.held

-- two states, and two that mean the same as these
module _ (tells : Tells) (old new old' new' : State) (a : IsSameState old old') (b : IsSameState new new') where
  pub KeepsInput-same : KeepsInput old new → KeepsInput old' new'
  KeepsInput-same keeps = record { input = cc; taken = cc; pulled_before = cc }

  pub KeepsAnnounced-same : KeepsAnnounced old new → KeepsAnnounced old' new'
  KeepsAnnounced-same keeps = record {
    announced = cc;
    numbers = ⊎_elim (λ fresh. inl (cc, cc)) (λ kept. inr (cc, cc)) keeps.numbers;
  }

  since_there : (t : ℕ) (m : Moment) → new'.since old'.clock m → new.since old.clock m
  since_there t m is = rw a.clock at (b.only old'.clock m is)

  since_here : (m : Moment) → new.since old.clock m → new'.since old'.clock m
  since_here m is = rw a.clock (b.moments old.clock m is)

  pub Elapses-same : Elapses tells old new → Elapses tells old' new'
  Elapses-same time = record {
    later = omega (arith, a.clock, b.clock, time.later);
    earlier = λ told t m le since. b.moments t m (time.earlier told t m (omega (arith, le, a.clock)) (a.only t m since));
    added = λ told t m le since. b.moments t m (time.added told t m (omega (arith, le, a.clock)) (since_there t m since));
    no_more = λ told t m le since. ⊎_elim
        (λ was. inl (a.moments t m was))
        (λ is. inr (since_here m is))
        (time.no_more told t m (omega (arith, le, a.clock)) (b.only t m since));
  }

  pub Passes-same : Passes tells old new → Passes tells old' new'
  Passes-same passes = record {
    input = KeepsInput-same passes.input;
    input_faults = cc;
    announced = KeepsAnnounced-same passes.announced;
    disk_faults = omega (arith, a.disk_faults, b.disk_faults, passes.disk_faults);
    time = Elapses-same passes.time;
  }

  pub IsDiskWork-same : (P : List ℕ → Type 0) → IsDiskWork tells P old new → IsDiskWork tells P old' new'
  IsDiskWork-same P quiet = record {
    passes = Passes-same quiet.passes;
    moments = λ told m since. let is = quiet.moments told m (since_there old.clock m since) in record {
      image = is.image;
      least = omega (arith, is.least, a.least);
      greatest = omega (arith, is.greatest, a.greatest);
      pulled = record { taken = cc; pulled_before = cc };
    };
  }

pub IsSame-here : (a : State) → IsSameState a a
IsSame-here a = record {
  extent = refl;
  held = refl;
  leaves = λ image is. is;
  left = λ image is. is;
  clock = refl;
  moments = λ t m is. is;
  only = λ t m is. is;
  announced = refl;
  least = refl;
  greatest = refl;
  input = refl;
  taken = refl;
  pulled_before = refl;
  disk_faults = refl;
  input_faults = refl;
}
