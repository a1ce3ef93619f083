use Rattle.std.proofs.Common.{◌≡◌}
use Rattle.fdr_storage_deck.proofs.tries.open_stream.Given as goal

abbrev pub invariant-loop-attempt : goal.invariant-loop-attempt
invariant-loop-attempt g l = g.I.Stream.rest l.stream ≡ g.I.Stream.rest l.initial.stream
