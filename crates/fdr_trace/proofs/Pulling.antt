-- What was pulled of a trace, one pull after another.
use Rattle.std.proofs.Common.{◌≡◌, ℕ, ◌+◌, ◌-◌, ◌<◌, ◌≤◌, ⊎_elim, List, [], ◌++◌, length, take, refl, ◌∙◌, append_assoc, length-append, arith}
use Rattle.std.proofs.lemmas.Bool.{cases_lt}
use Rattle.std.proofs.lemmas.List.{append-nil, nil_from_length}
use Rattle.std.proofs.Math.Seq.{take-append-add}
use Rattle.fdr_bus.specs.Records.{IsDecided}
use Rattle.fdr_deck.specs.State.{State, Tells}
use Rattle.fdr_deck.specs.Calls.{LeavesDisk}
use Rattle.fdr_deck.specs.Pull.{KeepsInput, IsLastPull}
use Rattle.fdr_deck.proofs.Composing.{KeepsDisk-then}
use Rattle.fdr_deck.proofs.Line.{TakesInput-from_keeps, TakesInput-then}
use Rattle.fdr_trace.specs.Pulls.{PullsUntilDecided}

pub LeavesDisk-here : (s : State) → LeavesDisk s s
LeavesDisk-here s = record {
  disk = record { held = refl; no_more = λ image may. may; no_less = λ image may. may };
  extent = refl;
  disk_faults = refl;
}

pub LeavesDisk-then : (a b c : State) → LeavesDisk a b → LeavesDisk b c → LeavesDisk a c
LeavesDisk-then a b c first second = record {
  disk = KeepsDisk-then _ _ _ first.disk second.disk;
  extent = second.extent ∙ first.extent;
  disk_faults = second.disk_faults ∙ first.disk_faults;
}

-- nothing was pulled yet
pub PullsUntilDecided-none : (tells : Tells) (s : State) (bytes : List ℕ) → PullsUntilDecided tells s s bytes []
PullsUntilDecided-none tells s bytes = record {
  takes = TakesInput-from_keeps tells s s (record { input = refl; taken = refl; pulled_before = refl });
  none = λ e. refl;
  last = λ some. absurd (omega (arith, some));
  undecided = λ some. absurd (omega (arith, some));
  faults = omega arith;
}

-- one stretch of pulls after another
pub PullsUntilDecided-then : (tells : Tells) (a b c : State) (bytes more later : List ℕ) → PullsUntilDecided tells a b bytes more
    → PullsUntilDecided tells b c (bytes ++ more) later
    → PullsUntilDecided tells a c bytes (more ++ later)
PullsUntilDecided-then tells a b c bytes more later first second = record {
  takes = TakesInput-then tells a b c more later first.takes second.takes;
  none = λ e. second.none (omega (arith, length-append more later)) ∙ first.none (omega (arith, length-append more later));
  last = λ some. (last_pull some).0;
  undecided = λ some. (last_pull some).1;
  faults = omega (arith, first.faults, second.faults);
}
  where
    last_pull : 0 < length (more ++ later)
        → IsLastPull a.taken c.pulled_before c.taken × (IsDecided (bytes ++ take (c.pulled_before - a.taken) (more ++ later)) → ⊥)
    last_pull some = ⊎_elim
        (λ here.
        let pull = second.last here in
        let from : c.pulled_before - a.taken ≡ length more + (c.pulled_before - b.taken) = omega (arith, pull.begins, first.takes.taken) in (
          record {
            begins = omega (arith, pull.begins, first.takes.taken);
            gave_bytes = pull.gave_bytes;
            within_piece = pull.within_piece;
          },
          rw (from, take-append-add more later (c.pulled_before - b.taken), ← append_assoc bytes more (take (c.pulled_before - b.taken) later))
              (second.undecided here),
        ))
        (λ none.
        let short : length later ≡ 0 = omega (arith, none) in
        let taken : c.taken ≡ b.taken = omega (arith, second.takes.taken, none) in
        let fewer : 0 < length more = omega (arith, length-append more later, none, some) in
        rw (nil_from_length later short, append-nil more, second.none short, taken) (first.last fewer, first.undecided fewer))
        (cases_lt 0 (length later))

-- a pull that failed
pub PullsUntilDecided-kept : (tells : Tells) (a b c : State) (bytes more : List ℕ) → PullsUntilDecided tells a b bytes more
    → KeepsInput b c → b.input_faults ≤ c.input_faults → PullsUntilDecided tells a c bytes more
PullsUntilDecided-kept tells a b c bytes more first kept faults = record {
  takes = record { taken = kept.taken ∙ first.takes.taken; input = λ told. rw kept.input (first.takes.input told) };
  none = λ e. kept.pulled_before ∙ first.none e;
  last = rw (kept.pulled_before, kept.taken) first.last;
  undecided = rw kept.pulled_before first.undecided;
  faults = omega (arith, first.faults, faults);
}
