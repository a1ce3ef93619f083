-- Why a session is refused, where a call of the ring is, or no header is answered.
use Rattle.fdr_recover.specs.declared.error.RingFault.{RingFault}
use Rattle.fdr_recover.specs.declared.error.RingFault.TheVariants as ring
use Rattle.fdr_recover.specs.declared.error.HeaderFault.{HeaderFault}
use Rattle.fdr_recover.specs.declared.error.HeaderFault.TheVariants as header
use Rattle.fdr_recorder.specs.declared.error.SessionFault.{SessionFault}
use Rattle.fdr_recorder.specs.declared.error.SessionFault.TheVariants as fault

-- why a session is refused, where a call of the ring is: a fault of the image, the end of the numbers, or one of the disk
abbrev pub session_fault : RingFault → SessionFault
session_fault ring.NotEmpty = fault.DiskFault
session_fault (ring.Image why) = fault.Image why
session_fault ring.DiskFault = fault.DiskFault
session_fault ring.SeqEnd = fault.SeqEnd

-- why a session is refused, where no header is answered: a fault of the image, other words than the table's, or one of the disk
abbrev pub session_header_fault : HeaderFault → SessionFault
session_header_fault (header.Image why) = fault.Image why
session_header_fault (header.WordsDiffer image table) = fault.WordsDiffer image table
session_header_fault header.DiskFault = fault.DiskFault
