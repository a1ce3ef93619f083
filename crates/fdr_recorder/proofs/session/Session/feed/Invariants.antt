use Rattle.std.proofs.Common.{◌≡◌, ◌-◌, ◌^◌, ℕ, length, Option}
use Rattle.fdr_bus.specs.declared.BusRecord.{BusRecord}
use Rattle.fdr_ring.specs.Rings.{IsRing}
use Rattle.fdr_recorder.specs.Past.{RecordingPast, MayFeedRecording, RepresentsRecording}
use Rattle.fdr_recorder.proofs.Feeding.{IsFeeding}
use Rattle.fdr_recorder.proofs.session.Session.feed.Given as goal

abbrev pub invariant-loop-ring : goal.invariant-loop-ring
invariant-loop-ring g l =
    let t = g.D.Deck.tells in
    let first = g.D.Deck.state l.fn.deck in
    let now = g.D.Deck.state l.deck in
    record {
      feeding : (past : RecordingPast) → RepresentsRecording l.fn.self past → MayFeedRecording past l.r →
          (begun : Option BusRecord) ×
          (blocks : ℕ) × IsFeeding t l.fn.self.ring.header l.fn.self.ring.next past l.r l.stream.value l.ring.next first now begun blocks;
      header : l.ring.header ≡ l.fn.self.ring.header;
      fact : IsRing t l.ring.header l.ring.next now;
      room : length l.block.value ≡ length l.fn.self.block.value;
      rest : g.D.Deck.same_rest l.fn.deck l.deck;
    }

-- the numbers that are left
abbrev pub decreases-loop-ring : goal.decreases-loop-ring
decreases-loop-ring g l = 2 ^ 48 - l.ring.next
