-- The moments of the deck in memory are sound, whatever calls it has seen.
use Rattle.std.specs.Prelude.{◌≡◌, ℕ, zero, suc, pred, ◌-◌, ◌≤◌, List, [], ◌∷◌, length}
use Rattle.std.proofs.Common.{inl, inr, refl, sym, ap, subst, ◌∙◌}
use Rattle.std.proofs.Math.Nat.{le_refl, min-le_right, le-max_right, not-suc-le-zero, le-pred_of_lt, pred-le-pred, sub-suc, sub-zero}
use Rattle.std.proofs.Math.Arith.{le-zero}
use Rattle.fdr_deck.specs.State.{Moment}
use Rattle.fdr_deck.specs.Moments.{IsSoundDeck}
use Rattle.fdr_deck.specs.Memory.{Memory, memory_state, memory_tells, held_by, left_by, held_after, left_after, IsBetween, moments_after}
use Rattle.fdr_deck.specs.Announced.{least_announced, greatest_announced}
use Rattle.fdr_deck.specs.declared.calls.Call.{Call}
use Rattle.fdr_deck.specs.declared.calls.Call.TheVariants.{Pass, Write, FailedWrite, Sync, Provide, FailedProvide}
use Rattle.fdr_deck.specs.declared.calls.Numbers.{Numbers}
use Rattle.fdr_deck.specs.declared.calls.Entry.{Entry}

holds_by : (call : Call) (held : List ℕ) (leaves : List ℕ → Type 0) → leaves held → left_by call held leaves (held_by call held)
holds_by Pass held leaves has = has
holds_by (Write at bytes) held leaves has = inl refl
holds_by (FailedWrite at bytes) held leaves has = (held, (has, record { size = refl; front = refl; behind = refl }))
holds_by Sync held leaves has = refl
holds_by (Provide size) held leaves has = refl
holds_by (FailedProvide size) held leaves has = inl has

-- After all these calls a stop may leave what is held, if it could before them.
pub holds_after : (es : List Entry) (held : List ℕ) (leaves : List ℕ → Type 0) → leaves held → left_after es held leaves (held_after es held)
unfolding held_after left_after
holds_after [] held leaves has = has
holds_after (e ∷ es) held leaves has = holds_after es (held_by e.call held) (left_by e.call held leaves) (holds_by e.call held leaves has)

one_less : (n : ℕ) → n - 1 ≡ pred n
one_less n = sub-suc n zero ∙ ap pred (sub-zero n)

only_now : (es : List Entry) (now : Numbers) (held : List ℕ) (leaves : List ℕ → Type 0) (t : ℕ) (m : Moment) → length es ≤ t
    → moments_after es now held leaves t m → IsBetween (left_after es held leaves) now m
unfolding left_after moments_after
only_now [] now held leaves t m late since = since
only_now (e ∷ es) now held leaves t m late (inl early) = absurd (not-suc-le-zero (subst (λ (k : ℕ). suc (length es) ≤ k) early.0 late))
only_now (e ∷ es) now held leaves t m late (inr since) = only_now es now (held_by e.call held) (left_by e.call held leaves) (t - 1) m
    (subst (λ (k : ℕ). length es ≤ k) (sym (one_less t)) (le-pred_of_lt late)) since

counts_now : (es : List Entry) (now : Numbers) (held : List ℕ) (leaves : List ℕ → Type 0) (t : ℕ) (m : Moment) → IsBetween (left_after es held leaves) now m
    → moments_after es now held leaves t m
unfolding left_after moments_after
counts_now [] now held leaves t m is = is
counts_now (e ∷ es) now held leaves t m is = inr (counts_now es now (held_by e.call held) (left_by e.call held leaves) (t - 1) m is)

falls : (es : List Entry) (now : Numbers) (held : List ℕ) (leaves : List ℕ → Type 0) (earlier t : ℕ) (m : Moment) → earlier ≤ t
    → moments_after es now held leaves t m → moments_after es now held leaves earlier m
unfolding moments_after
falls [] now held leaves earlier t m le since = since
falls (e ∷ es) now held leaves earlier t m le (inl here) = inl (le-zero (subst (λ (k : ℕ). earlier ≤ k) here.0 le), here.1)
falls (e ∷ es) now held leaves earlier t m le (inr since) =
    inr (falls es now (held_by e.call held) (left_by e.call held leaves) (earlier - 1) (t - 1) m
    (subst (λ (k : ℕ). k ≤ t - 1) (sym (one_less earlier)) (subst (λ (k : ℕ). pred earlier ≤ k) (sym (one_less t)) (pred-le-pred le))) since)

-- The deck in memory is sound, whatever calls it has seen.
pub memory_is_sound : (d : Memory) → IsSoundDeck memory_tells (memory_state d)
memory_is_sound d = record {
  stops_need_bytes = λ told. refl;
  size = λ told. refl;
  held = λ told. holds_after d.entries d.first (λ image. image ≡ d.first) refl;
  least = min-le_right d.numbers.announced.least d.numbers.announced.number;
  greatest = le-max_right d.numbers.announced.greatest d.numbers.announced.number;
  only_now = λ told m since.
      let is = only_now d.entries d.numbers d.first (λ image. image ≡ d.first) (length d.entries) m (le_refl (length d.entries)) since in
      record { image = is.image; least = is.least; greatest = is.greatest; pulled = record { taken = is.taken; pulled_before = is.pulled_before } };
  counts_now = λ told m leaves same pulled.
      counts_now d.entries d.numbers d.first (λ image. image ≡ d.first) (length d.entries) m
      (record {
        image = leaves;
        least = subst (λ (k : ℕ). least_announced d.numbers.announced ≤ k) (sym same) (min-le_right d.numbers.announced.least d.numbers.announced.number);
        greatest = subst (λ (k : ℕ). k ≤ greatest_announced d.numbers.announced) (sym same)
            (le-max_right d.numbers.announced.greatest d.numbers.announced.number);
        taken = pulled.taken;
        pulled_before = pulled.pulled_before;
      });
  falls = λ told earlier t m le now since. falls d.entries d.numbers d.first (λ image. image ≡ d.first) earlier t m le since;
}
