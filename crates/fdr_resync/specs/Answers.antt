-- The events that a scanner's answers name.
use Rattle.std.specs.Prelude.{ℕ, Option, Some, None, List, [], ◌∷◌}
use Rattle.fdr_resync.specs.declared.Event.{Event as Answer}
use Rattle.fdr_resync.specs.declared.Event.TheVariants.{Frame as FrameAnswer, Gap as GapAnswer}
use Rattle.fdr_sync.specs.Events.{Event, Frame, Gap}

-- the event that an answer of a scanner names
abbrev pub answered_event : Answer → Event
answered_event (FrameAnswer at) = Frame at
answered_event (GapAnswer at bits) = Gap at bits

-- the event that an answer of a scanner names, as a list: of one event, or empty where it names none
abbrev pub answered_events : Option Answer → List Event
answered_events None = []
answered_events (Some e) = answered_event e ∷ []

-- where the frame begins that an answer of a scanner names, if it names one
abbrev pub answered_frame : Option Answer → Option ℕ
answered_frame None = None
answered_frame (Some (FrameAnswer at)) = Some at
answered_frame (Some (GapAnswer at bits)) = None
