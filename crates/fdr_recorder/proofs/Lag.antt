-- What is announced lags behind what was pulled, over one record after another.
use Rattle.std.proofs.Common.{◌≡◌, inl, inr, ⊎_elim, ℕ, ◌+◌, ◌-◌, ◌<◌, ◌≤◌, List, ◌++◌, length, take, ap, sym, ◌∙◌, length-append, arith, rules}
use Rattle.std.proofs.lemmas.Bool.{cases_lt}
use Rattle.std.proofs.lemmas.List.{take-append-le}
use Rattle.std.proofs.Math.Seq.{take-append-add}
use Rattle.fdr_bus.specs.declared.BusRecord.{BusRecord}
use Rattle.fdr_bus.specs.Records.{good_prefix}
use Rattle.fdr_deck.specs.State.{State, Tells, Moment}
use Rattle.fdr_deck.specs.Calls.{KeepsAnnounced, HasOneAnnounced}
use Rattle.fdr_deck.specs.Moments.{IsSoundDeck}
use Rattle.fdr_deck.proofs.Moments.{KeepsAnnounced-least}
use Rattle.fdr_recorder.specs.Lag.{IsInTime, IsLagMoment, KeepsUp}
use Rattle.fdr_trace.specs.Moments.{IsNeededPull, IsTraceMoment, PullsForRecord}
use Rattle.fdr_trace.specs.Pulls.{PullsUntilDecided}

pub IsInTime-more : (owed : List BusRecord → ℕ) (start : ℕ) (bytes more : List ℕ) (told told' before taken : ℕ)
    → told ≤ told' → IsInTime owed start bytes told before taken
    → IsInTime owed start (bytes ++ more) told' before taken
IsInTime-more owed start bytes more told told' before taken le is =
    let inside : before - start ≤ length bytes = omega (arith, is.pull.begins, is.pull.gave_bytes, is.within) in
    let front : take (before - start) (bytes ++ more) ≡ take (before - start) bytes = take-append-le (before - start)
    bytes more inside in
    let same = ap (λ (x : List ℕ). owed (good_prefix x)) front in
    record {
      pull = is.pull;
      within = omega (arith, is.within, length-append bytes more);
      announced = omega (arith, le, is.announced, same);
    }

-- more was announced
pub IsInTime-up : (owed : List BusRecord → ℕ) (start : ℕ) (bytes : List ℕ) (told told' before taken : ℕ) → told ≤ told'
    → IsInTime owed start bytes told before taken → IsInTime owed start bytes told' before taken
IsInTime-up owed start bytes told told' before taken le is = search (rules, arith, le, is)

-- a pull made while the next record was read
pub IsInTime-pull : (owed : List BusRecord → ℕ) (start at : ℕ) (bytes more : List ℕ) (records : List BusRecord)
    (told before taken : ℕ)
    → at ≡ start + length bytes → owed records ≤ told → IsNeededPull at bytes more records before taken
    → IsInTime owed start (bytes ++ more) told before taken
IsInTime-pull owed start at bytes more records told before taken is enough last =
    let n : length bytes + (before - at) ≡ before - start = omega (arith, is, last.pull.begins) in
    let front : take (before - start) (bytes ++ more) ≡ bytes ++ take (before - at) more = ap
    (λ k. take k (bytes ++ more)) (sym n) ∙ take-append-add bytes more (before - at) in
    let same : owed (good_prefix (take (before - start) (bytes ++ more))) ≡ owed records = ap
    (λ (x : List ℕ). owed (good_prefix x)) front ∙ ap owed last.read in
    record {
      pull = record {
        begins = omega (arith, last.pull.begins, is);
        gave_bytes = last.pull.gave_bytes;
        within_piece = last.pull.within_piece;
      };
      within = omega (arith, last.within, is, length-append bytes more);
      announced = omega (arith, same, enough);
    }

module _ (owed : List BusRecord → ℕ) (tells : Tells) (first old new : State)
    (bytes more : List ℕ) (records : List BusRecord) (sound : IsSoundDeck tells old)
    (up : KeepsUp owed tells first old bytes records)
    (pulls : PullsUntilDecided tells old new bytes more) (reads : PullsForRecord tells old new bytes more records)
    (told : KeepsAnnounced old new) (fresh : old.taken < new.taken → HasOneAnnounced new) where
  pub at_moment : (m : Moment) → IsTraceMoment old bytes more records m → IsLagMoment owed first (bytes ++ more) m
  at_moment m is = record {
    pulled = ⊎_elim
        (λ here. ⊎_elim
        (λ some. inr (rw (here.pulled_before, here.taken) (IsInTime-more owed first.taken bytes more old.least m.announced old.pulled_before old.taken
        is.least (up.least some))))
        (λ none. inl (record {
          taken = omega (arith, here.taken, up.pulls.takes.taken, none);
          pulled_before = here.pulled_before
              ∙ up.pulls.none (omega (arith, none));
        }))
        (cases_lt 0 (length bytes)))
        (λ pulling. inr (IsInTime-pull owed first.taken old.taken bytes more records m.announced m.pulled_before m.taken
        up.pulls.takes.taken (omega (arith, up.announced, pulling.announced)) pulling.last))
        is.pulled;
  }

  -- after the next record, before it is fed
  pub least_up : 0 < length (bytes ++ more) → IsInTime owed first.taken (bytes ++ more) new.least new.pulled_before new.taken
  least_up some = ⊎_elim
      (λ here.
      let anew = fresh (omega (arith, pulls.takes.taken, here)) in
      IsInTime-pull owed first.taken old.taken bytes more records new.least new.pulled_before new.taken up.pulls.takes.taken
      (omega (arith, anew.least, told.announced, up.announced)) (reads.last here))
      (λ none.
      let was = up.least (omega (arith, length-append bytes more, none, some)) in
      let taken : new.taken ≡ old.taken = omega (arith, pulls.takes.taken, none) in
      rw (pulls.none (omega (arith, none)), taken) (IsInTime-more owed first.taken bytes more old.least new.least old.pulled_before old.taken
      (KeepsAnnounced-least tells old new sound told) was))
      (cases_lt 0 (length more))
