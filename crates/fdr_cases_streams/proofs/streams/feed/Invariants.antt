use Rattle.std.proofs.Common.{◌≡◌, ℕ, None, Option}
use Rattle.fdr_bus.specs.declared.BusRecord.{BusRecord}
use Rattle.fdr_stream.specs.Past.{StreamPast, MayFeedStream, RepresentsStream}
use Rattle.fdr_cases_streams.proofs.streams.feed.Given as goal

abbrev pub invariant-loop-blocks : goal.invariant-loop-blocks
invariant-loop-blocks g l =
    (past : StreamPast) → RepresentsStream l.initial.stream past → MayFeedStream past l.next → past.begun ≡ None
    → (given : ℕ) × (begun : Option BusRecord) × RepresentsStream l.stream (record past { begun = begun; blocks = given })
    × MayFeedStream (record past { begun = begun; blocks = given }) l.next
