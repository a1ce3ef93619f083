-- Pulling until a record waits.
use Rattle.std.proofs.Common.{◌≡◌, ℕ, ◌<◌, ◌≤◌, List, ◌++◌, length, [], ◌∙◌, ap, append_assoc, length-append, arith}
use Rattle.std.specs.Prelude.{IsTrue}
use Rattle.fdr_io.specs.Faults.{Rose}
use Rattle.fdr_bus.specs.declared.BusRecord.{BusRecord}
use Rattle.fdr_bus.specs.declared.TraceFault.TheVariants as fault
use Rattle.fdr_bus.specs.Records.{most_records}
use Rattle.fdr_deck.specs.State.{State, Tells}
use Rattle.fdr_deck.specs.Calls.{LeavesDisk}
use Rattle.fdr_deck.specs.Moments.{Within, Elapses, EachMoment, IsSoundDeck}
use Rattle.fdr_deck.specs.Pull.{KeepsInput}
use Rattle.fdr_deck.proofs.Line.{TakesInput-then}
use Rattle.fdr_trace.specs.Kept.{TraceKept}
use Rattle.fdr_trace.specs.Moments.{PullsForRecord}
use Rattle.fdr_trace.specs.Pulls.{PullsPiece, PullsUntilDecided}
use Rattle.fdr_trace.specs.Reading.{RepresentsTrace, IsTraceRefused, IsCutOff}
use Rattle.fdr_trace.proofs.Pulling.{PullsUntilDecided-kept}
use Rattle.fdr_trace.proofs.Records.{Reads-pull, Reads-good, Reads-undecided, Reads-truncated}
use Rattle.fdr_trace.proofs.PullMoments.{KeepsDeck, IsNeededPull-more, PullsForRecord-then, last_pulled}

-- what was pulled after these bytes, of which these records were read
abbrev pub HasPulled : Tells → State → State → TraceKept → List ℕ → List BusRecord → Type 0
HasPulled tells old new k bytes records = (more : List ℕ) × PullsUntilDecided tells old new bytes more × RepresentsTrace k (bytes ++ more) records
    × PullsForRecord tells old new bytes more records

-- a piece more
pub HasPulled-piece : (tells : Tells) (a b c : State) (k k' : TraceKept) (bytes piece : List ℕ) (records : List BusRecord)
    → IsSoundDeck tells a → KeepsDeck tells a b → HasPulled tells a b k bytes records → length k.waiting < 16 → length records < most_records
    → PullsPiece tells b c piece → LeavesDisk b c → Elapses tells b c → EachMoment tells b c (Within b c)
    → k'.waiting ≡ k.waiting ++ piece → k'.time ≡ k.time → k'.count ≡ k.count → HasPulled tells a c k' bytes records
HasPulled-piece tells a b c k k' bytes piece records sound deck was waits few pull disk time moments waiting same_time same_count =
    let last = last_pulled tells a b c k bytes was.0 piece records was.1.takes.taken was.3 was.2 waits few pull in
    let pulls : PullsUntilDecided tells a c bytes (was.0 ++ piece) = record {
      takes = TakesInput-then tells a b c was.0 piece was.1.takes pull.takes;
      none = λ e. pull.none (omega (arith, length-append was.0 piece)) ∙ was.1.none (omega (arith, length-append was.0 piece));
      last = λ some. (last some).pull;
      undecided = λ some. (last some).undecided;
      faults = omega (arith, was.1.faults, pull.faults);
    } in (
      was.0 ++ piece,
      pulls,
      rw (← append_assoc bytes was.0 piece) (Reads-pull k (bytes ++ was.0) records was.2 k' piece waiting same_time same_count),
      PullsForRecord-then tells a b c bytes was.0 (was.0 ++ piece) records sound deck was.1 was.3 disk time moments pulls
          (IsNeededPull-more a.taken bytes was.0 piece records) last,
    )

-- the input is at its end before a whole record
pub IsRefused-end : (tells : Tells) (now : State) (k k' : TraceKept) (bytes piece : List ℕ) (records : List BusRecord)
    → RepresentsTrace k' bytes records → length k.waiting < 16 → length records < most_records → k'.waiting ≡ k.waiting ++ piece → length piece ≡ 0
    → (IsTrue tells.input → now.input ≡ []) → IsTraceRefused tells now bytes records k'.count fault.Truncated
IsRefused-end tells now k k' bytes piece records reads waits few waiting nothing end =
    let still : length k'.waiting < 16 = omega (arith, ap length waiting, length-append k.waiting piece, nothing, waits) in
    record {
      good = Reads-good k' bytes records reads still;
      first = Reads-truncated k' bytes records reads still few;
      end = λ truncated. end;
    }

-- the input can't be read
pub IsCutOff-failed : (tells : Tells) (a b c : State) (k : TraceKept) (bytes : List ℕ) (records : List BusRecord)
    → IsSoundDeck tells a → KeepsDeck tells a b → HasPulled tells a b k bytes records → length k.waiting < 16 → length records < most_records
    → KeepsInput b c → b.input_faults ≤ c.input_faults → Rose b.input_faults c.input_faults → LeavesDisk b c → Elapses tells b c
    → EachMoment tells b c (Within b c)
    → (more : List ℕ) × PullsUntilDecided tells a c bytes more × IsCutOff a c (bytes ++ more) records × PullsForRecord tells a c bytes more records
IsCutOff-failed tells a b c k bytes records sound deck was waits few line faults rose disk time moments =
    let pulls = PullsUntilDecided-kept tells a b c bytes was.0 was.1 line faults in (
      was.0,
      pulls,
      record {
        good = Reads-good k (bytes ++ was.0) records was.2 waits;
        undecided = Reads-undecided k (bytes ++ was.0) records was.2 waits few;
        cause = omega (arith, was.1.faults, rose);
      },
      PullsForRecord-then tells a b c bytes was.0 was.0 records sound deck was.1 was.3 disk time moments pulls (λ before taken is. is)
          (rw (line.pulled_before, line.taken) was.3.last),
    )
