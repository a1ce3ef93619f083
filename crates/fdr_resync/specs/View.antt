-- What a value of the program keeps.
use Rattle.fdr_resync.specs.declared.scanner.Scanner.TheInside.{Inside}
use Rattle.fdr_resync.specs.Past.{ScannerKept}

-- what the program's scanner keeps
abbrev pub scanner_kept : Inside → ScannerKept
scanner_kept s =
    record { words = s.words; before = s.before; window = s.window.items; free = s.free; from = s.from; ended = s.ended; frame = s.frame }
