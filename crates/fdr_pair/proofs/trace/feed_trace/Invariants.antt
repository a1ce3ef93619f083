use Rattle.std.proofs.Common.{◌≡◌, ℕ, List, []}
use Rattle.fdr_bus.specs.declared.BusRecord.{BusRecord}
use Rattle.fdr_trace.specs.Reading.{RepresentsTrace}
use Rattle.fdr_recorder.specs.Past.{RecordingPast}
use Rattle.fdr_recorder.specs.Supplied.{past_fed}
use Rattle.fdr_recorder.specs.Supply.{most_to_read}
use Rattle.fdr_pair.specs.PairPast.{RepresentsPair}
use Rattle.fdr_pair.specs.Traces.{HasFedPair, IsPairBegun}
use Rattle.fdr_pair.proofs.trace.feed_trace.Given as goal

abbrev pub invariant-loop-next : goal.invariant-loop-next
invariant-loop-next g l =
    let start = g.T.Twin.pair l.fn.twin in
    let now = g.T.Twin.pair l.twin in
    record {
      has : (past : RecordingPast) → RepresentsTrace l.fn.trace [] [] → IsPairBegun g.T.Deck.tells l.fn.session past start →
          (bytes : List ℕ) × (records : List BusRecord) × RepresentsTrace l.trace bytes records × RepresentsPair l.session (past_fed past records)
          × HasFedPair g.T.Deck.tells (past_fed past records) l.fn.session.rings l.session bytes start now;
      no_fault : now.input_faults ≡ start.input_faults;
    }

abbrev pub decreases-loop-next : goal.decreases-loop-next
decreases-loop-next g l = most_to_read l.trace
