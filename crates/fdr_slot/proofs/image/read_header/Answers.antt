use Rattle.std.proofs.Common.{arith, rules}
use Rattle.fdr_slot.proofs.image.read_header.Goals as goal

pub returns-then-bytes-ne-OPEN-clause-read : goal.returns-then-bytes-ne-OPEN-clause-read
returns-then-bytes-ne-OPEN-clause-read _ = tt

pub returns-then-bytes-ne-OPEN-clause-limits : goal.returns-then-bytes-ne-OPEN-clause-limits
returns-then-bytes-ne-OPEN-clause-limits _ = tt

pub returns-then-bytes-ne-OPEN-clause-whole : goal.returns-then-bytes-ne-OPEN-clause-whole
returns-then-bytes-ne-OPEN-clause-whole _ = tt

pub returns-then-bytes-ne-OPEN-clause-closed : goal.returns-then-bytes-ne-OPEN-clause-closed
returns-then-bytes-ne-OPEN-clause-closed c = search rules

pub returns-then-bytes-ne-OPEN-clause-magic : goal.returns-then-bytes-ne-OPEN-clause-magic
returns-then-bytes-ne-OPEN-clause-magic c = search rules

pub returns-then-bytes-ne-OPEN-clause-geometry : goal.returns-then-bytes-ne-OPEN-clause-geometry
returns-then-bytes-ne-OPEN-clause-geometry c = search rules

pub returns-then-bytes-ne-OPEN-clause-short : goal.returns-then-bytes-ne-OPEN-clause-short
returns-then-bytes-ne-OPEN-clause-short c = search rules

pub returns-then-not-is_named-clause-closed : goal.returns-then-not-is_named-clause-closed
returns-then-not-is_named-clause-closed c = search rules

pub returns-then-not-is_named-clause-magic : goal.returns-then-not-is_named-clause-magic
returns-then-not-is_named-clause-magic c = search rules

pub returns-clause-whole : goal.returns-clause-whole
returns-clause-whole c = omega arith

pub returns-clause-short : goal.returns-clause-short
returns-clause-short c = search rules
