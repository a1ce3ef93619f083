use Rattle.std.proofs.Common.{◌≡◌}
use Rattle.fdr_resync.specs.Past.{bytes_pushed, bits_left}
use Rattle.fdr_cases_values.proofs.pieces.take_all.Given as goal

abbrev pub invariant-loop-event : goal.invariant-loop-event
invariant-loop-event g l = record {
  pushed : bytes_pushed l.scanner ≡ bytes_pushed l.initial.scanner;
  ended : l.scanner.ended ≡ l.initial.scanner.ended;
  words : l.scanner.words ≡ l.initial.scanner.words;
}

abbrev pub decreases-loop-event : goal.decreases-loop-event
decreases-loop-event g l = bits_left l.scanner
