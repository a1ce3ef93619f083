-- What a value of the program keeps.
use Rattle.fdr_trace.specs.declared.TraceLine.TheInside.{Inside}
use Rattle.fdr_trace.specs.Kept.{TraceKept}

-- what the program's reader of a trace keeps
abbrev pub trace_kept : Inside → TraceKept
trace_kept t = record { waiting = t.waiting.items; time = t.time; count = t.count }
