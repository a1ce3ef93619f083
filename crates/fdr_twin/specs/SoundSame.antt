-- What means the same as a sound deck is sound.
use Rattle.std.specs.Prelude.{ℕ, List, length}
use Rattle.std.proofs.Common.{sym, ◌∙◌, ap, arith, subst}
use Rattle.fdr_deck.specs.State.{State, Tells}
use Rattle.fdr_deck.specs.Moments.{IsSoundDeck}
use Rattle.fdr_twin.specs.Same.{IsSameState}

-- A deck that means the same as a sound one is sound.
pub IsSoundDeck-same : (tells : Tells) (a b : State) → IsSameState a b → IsSoundDeck tells a → IsSoundDeck tells b
IsSoundDeck-same tells a b same sound = record {
  stops_need_bytes = sound.stops_need_bytes;
  size = λ told. ap (λ (l : List ℕ). length l) same.held ∙ sound.size told ∙ sym same.extent;
  held = λ told. subst (λ (l : List ℕ). b.may_leave l) (sym same.held) (same.leaves a.held (sound.held told));
  least = omega (arith, same.least, same.announced, sound.least);
  greatest = omega (arith, same.greatest, same.announced, sound.greatest);
  only_now = λ told m since.
      let is = sound.only_now told m (subst (λ (k : ℕ). a.since k m) same.clock (same.only b.clock m since)) in
      record {
        image = same.leaves m.image is.image;
        least = omega (arith, is.least, same.least);
        greatest = omega (arith, is.greatest, same.greatest);
        pulled = record { taken = is.pulled.taken ∙ sym same.taken; pulled_before = is.pulled.pulled_before ∙ sym same.pulled_before };
      };
  counts_now = λ told m leaves is pulled.
      let was : a.since a.clock m = sound.counts_now told m (same.left m.image leaves) (is ∙ same.announced)
      (record { taken = pulled.taken ∙ same.taken; pulled_before = pulled.pulled_before ∙ same.pulled_before }) in
      subst (λ (k : ℕ). b.since k m) (sym same.clock) (same.moments a.clock m was);
  falls = λ told earlier t m le now since. same.moments earlier m (sound.falls told earlier t m le (omega (arith, now, same.clock)) (same.only t m since));
}
