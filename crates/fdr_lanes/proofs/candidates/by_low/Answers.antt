use Rattle.std.proofs.Common.{rules}
use Rattle.fdr_lanes.proofs.LookUps.{lower_ok, looked_up_lower}
use Rattle.fdr_lanes.proofs.candidates.by_low.Goals as goal

pub swizzle : goal.swizzle
swizzle c = lower_ok c.args.bytes c.fits-bytes

pub returns : goal.returns
returns c = looked_up_lower c.args.table c.args.bytes (search rules) c.fits-bytes
