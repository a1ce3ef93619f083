-- How a recording of all that a source gives ended.
use Rattle.std.specs.Prelude.{Result, Ok, Err}
use Rattle.fdr_recorder.specs.declared.error.SessionFault.{SessionFault}
use Rattle.fdr_recorder.specs.declared.error.SessionFault.TheVariants as fault
use Rattle.fdr_recorder.specs.declared.source.SourceEnd.{SourceEnd}

-- how a recording ended: as its source did, all of which is recorded then, or with the fault by which it was refused or cut short
abbrev pub RecordingEnd : Type 0
RecordingEnd = Result SourceEnd SessionFault

-- All that the source gave is recorded.
abbrev pub HasRecordedSource : RecordingEnd → Type 0
HasRecordedSource (Ok end) = Unit {0}
HasRecordedSource (Err why) = ⊥

-- The fault is one at which a recording ends before the disk is written.
abbrev pub IsRefusedAtStart : SessionFault → Type 0
IsRefusedAtStart (fault.Image why) = Unit {0}
IsRefusedAtStart (fault.WordsDiffer image table) = Unit {0}
IsRefusedAtStart fault.OldVersion = Unit {0}
IsRefusedAtStart fault.DiskFault = ⊥
IsRefusedAtStart fault.SeqEnd = ⊥
IsRefusedAtStart fault.NoMemory = Unit {0}

-- The fault is one that cuts a recording short: the disk failed, or the numbers ended.
abbrev pub CutsSession : SessionFault → Type 0
CutsSession (fault.Image why) = ⊥
CutsSession (fault.WordsDiffer image table) = ⊥
CutsSession fault.OldVersion = ⊥
CutsSession fault.DiskFault = Unit {0}
CutsSession fault.SeqEnd = Unit {0}
CutsSession fault.NoMemory = ⊥
