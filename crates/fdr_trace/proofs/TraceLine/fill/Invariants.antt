use Rattle.std.proofs.Common.{◌≡◌, ◌-◌, ◌<◌, ℕ, List, length}
use Rattle.fdr_bus.specs.declared.BusRecord.{BusRecord}
use Rattle.fdr_bus.specs.Records.{most_records}
use Rattle.fdr_trace.specs.Reading.{RepresentsTrace}
use Rattle.fdr_trace.proofs.Filling.{HasPulled}
use Rattle.fdr_trace.proofs.PullMoments.{KeepsDeck}
use Rattle.fdr_trace.proofs.TraceLine.fill.Given as goal

abbrev pub invariant-loop-self : goal.invariant-loop-self
invariant-loop-self g l = record {
  filled : (bytes : List ℕ) (records : List BusRecord) → RepresentsTrace l.fn.self bytes records → length records < most_records
      → HasPulled g.D.Deck.tells (g.D.Deck.state l.fn.deck) (g.D.Deck.state l.deck) l.self bytes records;
  no_fault : (g.D.Deck.state l.deck).input_faults ≡ (g.D.Deck.state l.fn.deck).input_faults;
  deck : KeepsDeck g.D.Deck.tells (g.D.Deck.state l.fn.deck) (g.D.Deck.state l.deck);
  rest : g.D.Deck.same_rest l.fn.deck l.deck;
}

abbrev pub decreases-loop-self : goal.decreases-loop-self
decreases-loop-self g l = 17 - length l.self.waiting
