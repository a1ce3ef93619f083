-- What a value of the program keeps.
use Rattle.fdr_stream.specs.declared.drawing.Drawing.TheInside.{Inside as DrawingInside}
use Rattle.fdr_stream.specs.declared.stream.Stream.TheInside.{Inside}
use Rattle.fdr_stream.specs.Kept.{StreamKept, with_late_slots}

-- what the program's stream keeps as it draws, without the empty word slots that weren't drawn yet
abbrev pub drawing_kept : DrawingInside → StreamKept
drawing_kept d = record { sampler = d.sampler; payload = d.payload; odd = d.waiting.odd; bytes = d.waiting.items }

-- what the program's stream keeps, with the empty word slots that weren't drawn yet
abbrev pub stream_kept : Inside → StreamKept
stream_kept s = with_late_slots s.drawing s.counted_to
