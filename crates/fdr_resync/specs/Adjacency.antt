-- Frames that follow one another.
use Rattle.std.specs.Prelude.{Bool, false, List, fold, is_some}
use Rattle.fdr_sync.specs.Events.{Event, frame_of_event}

-- whether the last of the events is a frame
abbrev pub ends_with_frame : List Event → Bool
ends_with_frame es = fold (λ was e. is_some (frame_of_event e)) false es
