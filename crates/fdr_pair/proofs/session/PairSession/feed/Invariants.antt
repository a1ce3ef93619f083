use Rattle.std.proofs.Common.{◌≡◌, ◌-◌, ◌^◌, ℕ, length, Option}
use Rattle.fdr_bus.specs.declared.BusRecord.{BusRecord}
use Rattle.fdr_recorder.specs.Past.{RecordingPast, MayFeedRecording}
use Rattle.fdr_pair.specs.PairPast.{RepresentsPair}
use Rattle.fdr_pair.specs.PairRecording.{AreSettled}
use Rattle.fdr_pair.proofs.PairFeeding.{IsFeedingPair}
use Rattle.fdr_pair.proofs.session.PairSession.feed.Given as goal

abbrev pub invariant-loop-rings : goal.invariant-loop-rings
invariant-loop-rings g l =
    let t = g.T.Deck.tells in
    let first = g.T.Twin.pair l.fn.twin in
    let now = g.T.Twin.pair l.twin in
    record {
      feeding : (past : RecordingPast) → RepresentsPair l.fn.self past → MayFeedRecording past l.r →
          (begun : Option BusRecord) × (blocks : ℕ) × IsFeedingPair t l.fn.self.rings past l.r l.stream.value l.rings first now begun blocks;
      header : l.rings.header ≡ l.fn.self.rings.header;
      settled : AreSettled t l.rings now;
      room : length l.block.value ≡ length l.fn.self.block.value;
    }

-- the numbers that are left
abbrev pub decreases-loop-rings : goal.decreases-loop-rings
decreases-loop-rings g l = 2 ^ 48 - l.rings.next
