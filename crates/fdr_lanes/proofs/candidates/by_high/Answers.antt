use Rattle.std.proofs.Common.{rules}
use Rattle.fdr_lanes.proofs.LookUps.{upper_ok, looked_up_upper}
use Rattle.fdr_lanes.proofs.candidates.by_high.Goals as goal

pub swizzle : goal.swizzle
swizzle c = upper_ok c.args.bytes c.fits-bytes

pub returns : goal.returns
returns c = looked_up_upper c.args.table c.args.bytes (search rules) c.fits-bytes
