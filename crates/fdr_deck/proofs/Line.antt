-- The input over more than one call.
use Rattle.std.proofs.Common.{ℕ, List, [], ◌++◌, sym, ◌∙◌, ap, append_assoc, length-append, arith}
use Rattle.fdr_deck.specs.State.{State, Tells}
use Rattle.fdr_deck.specs.Pull.{KeepsInput, TakesInput}

-- a call that leaves the input took nothing
pub TakesInput-from_keeps : (tells : Tells) (old new : State) → KeepsInput old new → TakesInput tells old new []
TakesInput-from_keeps tells old new keeps = record {
  taken = omega (arith, keeps.taken);
  input = λ told. sym keeps.input;
}

-- calls that took bytes, and then calls that took more
pub TakesInput-then : (tells : Tells) (old middle new : State) (xs ys : List ℕ) → TakesInput tells old middle xs → TakesInput tells middle new ys
    → TakesInput tells old new (xs ++ ys)
TakesInput-then tells old middle new xs ys first second = record {
  taken = omega (arith, length-append xs ys, first.taken, second.taken);
  input = λ told. first.input told ∙ ap (λ rest. xs ++ rest) (second.input told) ∙ sym (append_assoc xs ys new.input);
}
