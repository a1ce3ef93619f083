-- Why no header is answered, where reading it is refused.
use Rattle.fdr_recover.specs.declared.error.RingFault.{RingFault}
use Rattle.fdr_recover.specs.declared.error.RingFault.TheVariants as ring
use Rattle.fdr_recover.specs.declared.error.HeaderFault.{HeaderFault}
use Rattle.fdr_recover.specs.declared.error.HeaderFault.TheVariants as fault

-- why no header is answered, where reading it is refused: a fault of the image, or one of the disk, and there is no other
abbrev pub header_fault : RingFault → HeaderFault
header_fault ring.NotEmpty = fault.DiskFault
header_fault (ring.Image why) = fault.Image why
header_fault ring.DiskFault = fault.DiskFault
header_fault ring.SeqEnd = fault.DiskFault
